-- The number of each key once a key has got the next one.
use Rattle.std.proofs.Common.{◌≡◌, ℕ, Bool, true, false, cond, List, Option, Some, None, refl, ap, sym, ◌∙◌, subst, Vec, Global}
use Rattle.std.specs.HashMap.{HashMap, UpdatesBy}
use Rattle.std.specs.Map.{KeepsOthers}
use Rattle.seeded_hashing.specs.declared.seeded_state.SeededState.{SeededState}
use Rattle.cache_entries.specs.Keys.{same_bytes}
use Rattle.cache_entries.specs.SameEntry.{same_bytes-tells, same-sym}
use Rattle.curve_keys.specs.Keys.{number_of, IsNumbered}

abbrev pub same_vec : Vec ℕ Global → Vec ℕ Global → Bool
same_vec a b = same_bytes a.items b.items

pub apart-bytes : (a b c : List ℕ) → same_bytes a b ≡ false → same_bytes a c ≡ true → same_bytes b c ≡ false
apart-bytes a b c f t = subst (λ (x : List ℕ). same_bytes b x ≡ false) (same_bytes-tells.equal a c t) (same-sym same_bytes same_bytes-tells b a ∙ f)

-- the table with one key more, or with another value for it
pub inserted : (old new : HashMap (Vec ℕ Global) ℕ SeededState) (owned : Vec ℕ Global) (key : List ℕ) (value : ℕ) → owned.items ≡ key → UpdatesBy same_vec (same_vec owned) old new (Some value)
    → (other : List ℕ) → number_of new other ≡ cond (same_bytes key other) (Some value) (number_of old other)
unfolding KeepsOthers
inserted old new owned key value e u other = by_test (same_bytes key other) refl
  where
    by_test : (t : Bool) → same_bytes key other ≡ t → number_of new other ≡ cond t (Some value) (number_of old other)
    by_test true t =
        ap (λ (x : List ℕ). number_of new x) (sym (e ∙ same_bytes-tells.equal key other t)) ∙ u.1
    by_test false t =
        u.3 (λ k. same_bytes other k.items)
        (λ x y h. ap (λ (b : List ℕ). same_bytes b y.items) (same_bytes-tells.equal other x.items h))
        (λ k h. apart-bytes key other k.items t (ap (λ (b : List ℕ). same_bytes b k.items) (sym e) ∙ h))

pub numbered-next : (old new : HashMap (Vec ℕ Global) ℕ SeededState) (owned : Vec ℕ Global) (key : List ℕ) (next : ℕ) → owned.items ≡ key → number_of old key ≡ None
    → UpdatesBy same_vec (same_vec owned) old new (Some next) → IsNumbered (number_of old) (number_of new) key next next
numbered-next old new owned key next e n u = rw n (refl, λ other. inserted old new owned key next e u other)

pub numbered-known : (number : List ℕ → Option ℕ) (key : List ℕ) (next n : ℕ) → number key ≡ Some n → IsNumbered number number key next n
numbered-known number key next n s = rw s (refl, λ other. refl)
