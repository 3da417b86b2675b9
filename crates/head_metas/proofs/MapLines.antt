-- A map is what its values, added one by one, give.
use Rattle.std.proofs.Common.{◌≡◌, ℕ, suc, ◌<◌, true, false, List, [], ◌∷◌, ◌++◌, length, get_or, refl, sym, ap, ◌∙◌, append_assoc, append-nil, arith, inl, inr}
use Rattle.std.specs.Prelude.{bytes_eq, All}
use Rattle.std.proofs.lemmas.Bool.{cases_Bool}
use Rattle.std.proofs.lemmas.List.{get_or_default}
use Rattle.std.proofs.lemmas.Slice.Eq.{bytes_eq-Decides}
use Rattle.http_header.specs.FieldValue.{FieldValue}
use Rattle.http_header.specs.HeaderMap.{Entry, Entries, append, append_all, entry_pairs, pairs, entry_at, IsUnique, IsHeaderMap}

-- no entry has the name
abbrev pub IsNew : Entries FieldValue → List ℕ → Type 0
IsNew [] name = Unit {0}
IsNew (e ∷ m) name = (bytes_eq e.0 name ≡ false) × IsNew m name

-- each name is there once, with at least one value
abbrev AreApart : Entries FieldValue → Type 0
AreApart [] = Unit {0}
AreApart (e ∷ m) = (0 < length e.1) × ((k : ℕ) (d : Entry FieldValue) → k < length m → bytes_eq e.0 (get_or m k d).0 ≡ false) × AreApart m

append-new : (m : Entries FieldValue) (name : List ℕ) (value : FieldValue) → IsNew m name → append m name value ≡ m ++ (name, value ∷ []) ∷ []
append-new [] name value new = refl
append-new (e ∷ m) name value new = rw new.0 (ap (λ (n : Entries FieldValue). e ∷ n) (append-new m name value new.1))

same_bytes : (bytes : List ℕ) → bytes_eq bytes bytes ≡ true
same_bytes bytes = (bytes_eq-Decides bytes bytes).1 refl

append-last : (m : Entries FieldValue) (name : List ℕ) (values : List FieldValue) (value : FieldValue) → IsNew m name
    → append (m ++ (name, values) ∷ []) name value ≡ m ++ (name, values ++ value ∷ []) ∷ []
append-last [] name values value new = rw (same_bytes name) refl
append-last (e ∷ m) name values value new = rw new.0 (ap (λ (n : Entries FieldValue). e ∷ n) (append-last m name values value new.1))

append_all-append : (a b : List (List ℕ × FieldValue)) (m : Entries FieldValue) → append_all m (a ++ b) ≡ append_all (append_all m a) b
append_all-append [] b m = refl
append_all-append (x ∷ a) b m = append_all-append a b (append m x.0 x.1)

-- further values of the last name
append_all-last : (m : Entries FieldValue) (name : List ℕ) (before values : List FieldValue) → IsNew m name
    → append_all (m ++ (name, before) ∷ []) (entry_pairs (name, values)) ≡ m ++ (name, before ++ values) ∷ []
append_all-last m name before [] new = rw (append-nil before) refl
append_all-last m name before (value ∷ values) new =
    ap (λ (n : Entries FieldValue). append_all n (entry_pairs (name, values))) (append-last m name before value new)
    ∙ append_all-last m name (before ++ value ∷ []) values new
    ∙ ap (λ (vs : List FieldValue). m ++ (name, vs) ∷ []) (append_assoc before (value ∷ []) values)

append_all-entry : (m : Entries FieldValue) (name : List ℕ) (values : List FieldValue) → 0 < length values → IsNew m name
    → append_all m (entry_pairs (name, values)) ≡ m ++ (name, values) ∷ []
append_all-entry m name [] some new = absurd (omega arith)
append_all-entry m name (value ∷ values) some new =
    ap (λ (n : Entries FieldValue). append_all n (entry_pairs (name, values))) (append-new m name value new)
    ∙ append_all-last m name (value ∷ []) values new

IsNew-more : (m : Entries FieldValue) (e : Entry FieldValue) (name : List ℕ) → IsNew m name → bytes_eq e.0 name ≡ false → IsNew (m ++ e ∷ []) name
IsNew-more [] e name new other = (other, tt)
IsNew-more (d ∷ m) e name new other = (new.0, IsNew-more m e name new.1 other)

append_all-rest : (done rest : Entries FieldValue) → AreApart rest → ((k : ℕ) (d : Entry FieldValue) → k < length rest → IsNew done (get_or rest k d).0)
    → append_all done (pairs rest) ≡ done ++ rest
append_all-rest done [] apart new = sym (append-nil done)
append_all-rest done (e ∷ rest) apart new =
    append_all-append (entry_pairs e) (pairs rest) done
    ∙ ap (λ (m : Entries FieldValue). append_all m (pairs rest)) (append_all-entry done e.0 e.1 apart.0 (new 0 e (omega arith)))
    ∙ append_all-rest (done ++ e ∷ []) rest apart.2 (λ k d lt. IsNew-more done e (get_or rest k d).0 (new (suc k) d (omega arith)) (apart.1 k d lt))
    ∙ append_assoc done (e ∷ []) rest

differ : (a b : List ℕ) → (a ≡ b → ⊥) → bytes_eq a b ≡ false
differ a b n = elim (cases_Bool (bytes_eq a b)) [ inl t ↦ absurd (n ((bytes_eq-Decides a b).0 t)) | inr f ↦ f ]

apart : (m : Entries FieldValue) → IsUnique m → All (λ e. 0 < length e.1) m → AreApart m
apart [] unique filled = tt
apart (e ∷ m) unique filled = (
  filled 0 e (omega arith),
  λ k d lt. differ e.0 (get_or m k d).0 (λ same.
      let first : entry_at (e ∷ m) (suc k) ≡ get_or m k d = get_or_default m k ([], []) d lt in
      let equal : 0 ≡ suc k = unique 0 (suc k) (omega arith) (omega arith) (same ∙ ap (λ (x : Entry FieldValue). x.0) (sym first)) in
      omega (arith, equal)),
  apart m
      (λ i j li lj same. let s : suc i ≡ suc j = unique (suc i) (suc j) (omega arith) (omega arith) same in omega (arith, s))
      (λ k d lt. filled (suc k) d (omega arith)),
)

pub append_all-apart : (m : Entries FieldValue) → IsUnique m → All (λ e. 0 < length e.1) m → append_all [] (pairs m) ≡ m
append_all-apart m unique filled = append_all-rest [] m (apart m unique filled) (λ k d lt. tt)

pub append_all-pairs : (m : Entries FieldValue) → IsHeaderMap m → append_all [] (pairs m) ≡ m
append_all-pairs m is = append_all-apart m is.unique is.filled
