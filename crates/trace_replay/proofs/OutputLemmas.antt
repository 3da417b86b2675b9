-- What waits to be written, after one write more.
use Rattle.std.proofs.Common.{◌≡◌, ◌∙◌, ℕ, List, [], ◌++◌, take, drop, take-append-drop, refl, ap, sym, subst, append_assoc, append-nil}
use Rattle.std.specs.Prelude.{Option, Result, Ok, Err, OnOk, OnErr}
use Rattle.std.specs.Io.KnownBytes.{Appends, Keeps}
use Rattle.std.proofs.KnownBytes.{Appends-nil, Appends-trans, Appends-kept}
use Rattle.trace_replay.specs.Outputs.{Passes, HasBegun}

pub passes_none : (held : Option (List ℕ)) (text : List ℕ) → Passes held held text text
passes_none held text = ([], refl, Appends-nil held)

pub passes_more : (held mid new : Option (List ℕ)) (text rest : List ℕ) (n : ℕ) → Passes held mid text rest → Appends mid new (take n rest) → Passes held new text (drop n rest)
passes_more held mid new text rest n (done, split, wrote) more = (
  done ++ take n rest,
  split ∙ (ap (λ l. done ++ l) (sym (take-append-drop n rest)) ∙ sym (append_assoc done (take n rest) (drop n rest))),
  Appends-trans held mid new done (take n rest) wrote more,
)

pub passes_whole : (held mid new : Option (List ℕ)) (text rest : List ℕ) → Passes held mid text rest → rest ≡ [] → Keeps mid new → Appends held new text
passes_whole held mid new text rest (done, split, wrote) empty kept =
    subst (Appends held new) (sym (split ∙ (ap (λ l. done ++ l) empty ∙ append-nil done))) (Appends-kept held mid new done wrote kept)

pub begun_kept : (held mid new : Option (List ℕ)) (text rest : List ℕ) → Passes held mid text rest → Keeps mid new → HasBegun held new text
begun_kept held mid new text rest (done, split, wrote) kept = (rest, (done, split, Appends-kept held mid new done wrote kept))

pub begun_none : (held : Option (List ℕ)) (text : List ℕ) → HasBegun held held text
begun_none held text = (text, passes_none held text)

pub begun_whole : (held new : Option (List ℕ)) (text : List ℕ) → Appends held new text → HasBegun held new text
begun_whole held new text wrote = ([], (text, sym (append-nil text), wrote))

pub begun_longer : (held new : Option (List ℕ)) (text later : List ℕ) → HasBegun held new text → HasBegun held new (text ++ later)
begun_longer held new text later (left, passed) =
    (left ++ later, (passed.0, ap (λ l. l ++ later) passed.1 ∙ append_assoc passed.0 left later, passed.2))

pub begun_some : (held new : Option (List ℕ)) (text left : List ℕ) → Passes held new text left → HasBegun held new text
begun_some held new text left passed = (left, passed)

pub passes_all : (held new : Option (List ℕ)) (text left : List ℕ) → Appends held new text → left ≡ [] → Passes held new text left
passes_all held new text left wrote none = (text, sym (ap (λ l. text ++ l) none ∙ append-nil text), wrote)

pub on_err : {T E : Type 0} (r : Result T E) {P : Type 0} → P → OnErr r P
on_err (Ok x) p = tt
on_err (Err e) p = p

pub on_ok : {T E : Type 0} (r : Result T E) {P : Type 0} → P → OnOk r P
on_ok (Ok x) p = p
on_ok (Err e) p = tt

pub on_err_weaker : {T E : Type 0} (r : Result T E) {P Q : Type 0} → (P → Q) → OnErr r P → OnErr r Q
on_err_weaker (Ok x) f h = tt
on_err_weaker (Err e) f h = f h

pub not_err : {T E : Type 0} (r : Result T E) {P : Type 0} → ((e : E) → r ≡ Err e → ⊥) → OnOk r P → P
not_err (Ok x) other h = h
not_err (Err e) other h = absurd (other e refl)

-- what is so without an error, and what follows from it
pub on_ok_then : {T E : Type 0} (r : Result T E) {P Q : Type 0} → (P → Q) → OnOk r P → OnOk r Q
on_ok_then (Ok v) f p = f p
on_ok_then (Err e) f p = tt
