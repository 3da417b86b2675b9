-- What was read of a trace, one line after another.
use Rattle.std.proofs.Common.{◌≡◌, ℕ, Bool, true, false, cond, List, ◌∷◌, Option, Some, refl, ap, ◌∙◌, Vec, Global}
use Rattle.std.specs.Prelude.{unwrap_or}
use Rattle.std.specs.HashMap.{UpdatesBy}
use Rattle.cache_entries.specs.Keys.{same_bytes}
use Rattle.curve_keys.specs.declared.told.Lifetimes.{Lifetimes}
use Rattle.curve_keys.specs.declared.reading.Reading.{Reading}
use Rattle.curve_keys.specs.Keys.{number_of}
use Rattle.curve_keys.specs.Pasts.{Line, Past, IsRead, IsTold, lifetime_told, told_in, with_lifetime, when_of}
use Rattle.curve_keys.proofs.Numbering.{same_vec, inserted}

-- a key was told a lifetime
pub told-more : (old new : Lifetimes) (key : List ℕ) (lifetime : ℕ) (told : List (List ℕ × ℕ)) → ((other : List ℕ) → told_in old other ≡ lifetime_told other told) → IsTold old new key lifetime
    → (other : List ℕ) → told_in new other ≡ lifetime_told other ((key, lifetime) ∷ told)
told-more old new key lifetime told h is other =
    is other ∙ ap (λ (n : ℕ). cond (same_bytes key other) lifetime n) (h other)

-- the moment and lifetime by the table are those by the past
pub when-same : (r : Reading) (past : Past) (l : Line) → IsRead r past → with_lifetime (told_in r.told l.key) l.when ≡ when_of past l
when-same r past l h = ap (λ (n : ℕ). with_lifetime n l.when) (h.told l.key)

given-by : (t : Bool) (value : ℕ) (o : Option ℕ) → unwrap_or (cond t (Some value) o) 0 ≡ cond t value (unwrap_or o 0)
given-by true value o = refl
given-by false value o = refl

-- a lifetime was put into the table
pub told-inserted : (old new : Lifetimes) (owned : Vec ℕ Global) (key : List ℕ) (lifetime : ℕ) → owned.items ≡ key → UpdatesBy same_vec (same_vec owned) old.table new.table (Some lifetime) → IsTold old new key lifetime
told-inserted old new owned key lifetime e u = λ other.
    ap (λ (o : Option ℕ). unwrap_or o 0) (inserted old.table new.table owned key lifetime e u other) ∙ given-by (same_bytes key other) lifetime (number_of old.table other)
