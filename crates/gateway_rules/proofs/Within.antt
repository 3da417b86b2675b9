-- What a call wrote into a room that was made for it.
use Rattle.std.proofs.Common.{◌≡◌, ◌≢◌, ℕ, ◌<◌, ◌≤◌, inl, inr, List, ◌++◌, length, take, drop, refl, ap, append_assoc, ◌∙◌, Option, Some, None, Result, Ok, Err, arith}
use Rattle.std.proofs.lemmas.Bool.Decides.{nat_tests}
use Rattle.std.proofs.lemmas.Grind.{common_steps}
use Rattle.rules_ffi_arguments.specs.Given.{Fails}
use Rattle.rules_ffi_arguments.specs.declared.bad.Bad.{Bad}
use Rattle.rules_ffi_arguments.specs.declared.bad.Bad.TheVariants.{Memory, Call}
use Rattle.rules_ffi_results.specs.Telling.{Writes}
use Rattle.gateway_rules.specs.Rooms.{told_by, Wants}

-- what is asked of a struct: its status, what room would do, and how many bytes its text has
pub record Kind (S : Type 0) : Type 0 where
  pub blank : ℕ → ℕ → S
  pub status : S → ℕ
  pub needed : S → ℕ
  pub len : S → ℕ
  pub blank_status : (s n : ℕ) → status (blank s n) ≡ s
  pub blank_needed : (s n : ℕ) → needed (blank s n) ≡ n

-- what is told has a status above 63, and says how long its text is
pub record IsTold {S : Type 0} (k : Kind S) (text : List ℕ) (s : S) : Type 0 where
  pub status : 63 < k.status s
  pub long : k.len s ≡ length text

abbrev pub AllTold : {S : Type 0} → Kind S → Option (List ℕ × S) → Type 0
AllTold {S} k given = (text : List ℕ) (s : S) → given ≡ Some (text, s) → IsTold k text s

-- what was taken out of the room, or why there is nothing
abbrev pub GivesText : {S : Type 0} → Result (List ℕ) Bad → S → Option (List ℕ × S) → Type 0
GivesText (Ok text) s given = given ≡ Some (text, s)
GivesText (Err e) s given = Fails e given

pub told_without_memory : {X : Type 0} (status : ℕ) (x : X) → status ≡ 13 → told_by status x ≡ Err Memory
told_without_memory status x e = rw e refl

pub told_of_a_bad_call : {X : Type 0} (status : ℕ) (x : X) → status ≡ 20 → told_by status x ≡ Err Call
told_of_a_bad_call status x e = rw e refl

pub told_where_done : {X : Type 0} (status : ℕ) (x : X) → 63 < status → told_by status x ≡ Ok x
told_where_done status x h = grind (arith, nat_tests)

-- without room the text is longer than the room
pub wants : {S : Type 0} (k : Kind S) (given : Option (List ℕ × S)) (size : ℕ) (old new : List ℕ) (out : S)
    → AllTold k given → size ≤ length old → Writes k.blank given old new out → k.status out ≡ 23 → Wants given size (k.needed out)
wants k given size old new out all within (inl h) un = absurd (let e = ap k.status h.1 ∙ k.blank_status 13 0 in omega (arith, e, un))
wants k None size old new out all within (inr h) un = absurd (let e = ap k.status h.1 ∙ k.blank_status 20 0 in omega (arith, e, un))
wants k (Some told) size old new out all within (inr (inl h)) un =
    absurd (let t = all told.0 told.1 refl in let e = ap k.status h.1 in omega (arith, t.status, e, un))
wants k (Some told) size old new out all within (inr (inr h)) un =
    let e : k.needed out ≡ length told.0 = ap k.needed h.2 ∙ k.blank_needed 23 (length told.0) in
    (told, refl, e, omega (arith, h.0, within, e))

pub taken : (text rest : List ℕ) (size : ℕ) → length text ≤ size → take (length text) (take size (text ++ rest)) ≡ text
taken text rest size h = grind (arith, common_steps)

-- a text at the front of a room, taken out of it
told_at : {S : Type 0} (text : List ℕ) (s : S) (new more : List ℕ) (out : S) (n size : ℕ) (rest : List ℕ)
    → out ≡ s → n ≡ length text → new ≡ text ++ rest → length text ≤ size → ◌≡◌ {A = Option (List ℕ × S)} (Some (text, s)) (Some (take n (take size (new ++ more)), out))
told_at text s new more out n size rest same long front h =
    let e : take n (take size (new ++ more)) ≡ text = rw (long, front, append_assoc) (taken text (rest ++ more) size h) in
    rw (same, e) refl

-- else all of it was told
pub gives : {S : Type 0} (k : Kind S) (given : Option (List ℕ × S)) (old new : List ℕ) (out : S) (size : ℕ) (r : Result (List ℕ) Bad)
    → AllTold k given → Writes k.blank given old new out → length old ≤ size → k.status out ≢ 23
    → r ≡ told_by (k.status out) (take (k.len out) (take size (new ++ drop (length new) old))) → GivesText r out given
gives k given old new out size r all (inl h) within un e =
    rw (e ∙ told_without_memory (k.status out) (take (k.len out) (take size (new ++ drop (length new) old))) (ap k.status h.1 ∙ k.blank_status 13 0)) tt
gives k None old new out size r all (inr h) within un e =
    rw (e ∙ told_of_a_bad_call (k.status out) (take (k.len out) (take size (new ++ drop (length new) old))) (ap k.status h.1 ∙ k.blank_status 20 0)) refl
gives k (Some told) old new out size r all (inr (inl h)) within un e =
    let t = all told.0 told.1 refl in
    let long : k.len out ≡ length told.0 = ap k.len h.1 ∙ t.long in
    let done : 63 < k.status out = (let same = ap k.status h.1 in omega (arith, t.status, same)) in
    let fits : length told.0 ≤ size = (let l = h.0.0 in omega (arith, l, within)) in
    rw (e ∙ told_where_done (k.status out) (take (k.len out) (take size (new ++ drop (length new) old))) done)
    (told_at told.0 told.1 new (drop (length new) old) out (k.len out) size (drop (length told.0) old) h.1 long h.0.1 fits)
gives k (Some told) old new out size r all (inr (inr h)) within un e = absurd (un (ap k.status h.2 ∙ k.blank_status 23 (length told.0)))
