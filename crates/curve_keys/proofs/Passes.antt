-- A list of which one place after another is written.
use Rattle.std.proofs.Common.{◌≡◌, ℕ, zero, suc, ◌≤◌, ◌<◌, List, [], ◌∷◌, refl, ap, sym, subst, arith, length, drop, get_or, set}
use Rattle.std.specs.List.{AllZip, AllByRecursion}

-- R holds of the first i of both lists, side by side, and the others are the same
abbrev pub Reached : {X : Type 0} → (X → X → Type 0) → ℕ → List X → List X → Type 0
Reached R zero old new = new ≡ old
Reached R (suc i) [] [] = Unit {0}
Reached R (suc i) [] (n ∷ new) = ⊥
Reached R (suc i) (o ∷ old) [] = ⊥
Reached R (suc i) (o ∷ old) (n ∷ new) = R o n × Reached R i old new

pub reached-length : {X : Type 0} (R : X → X → Type 0) (i : ℕ) (old new : List X) → Reached R i old new → length new ≡ length old
reached-length R zero old new h = ap (λ l. length l) h
reached-length R (suc i) [] [] h = refl
reached-length R (suc i) [] (n ∷ new) h = absurd h
reached-length R (suc i) (o ∷ old) [] h = absurd h
reached-length R (suc i) (o ∷ old) (n ∷ new) h = let e = reached-length R i old new h.1 in omega (arith, e)

-- what stands at the next place is as before
pub reached-next : {X : Type 0} (R : X → X → Type 0) (P : X → Type 0) (i : ℕ) (old new : List X) (d : X) → Reached R i old new → i < length new → AllByRecursion P old → P (get_or new i d)
reached-next R P zero [] [] d h l a = absurd (omega (arith, l))
reached-next R P zero [] (n ∷ new) d h l a = let e = ap (λ l. length l) h in absurd (omega (arith, e))
reached-next R P zero (o ∷ old) [] d h l a = absurd (omega (arith, l))
reached-next R P zero (o ∷ old) (n ∷ new) d h l a = subst (λ l. P (get_or l 0 d)) (sym h) a.0
reached-next R P (suc i) [] [] d h l a = absurd (omega (arith, l))
reached-next R P (suc i) [] (n ∷ new) d h l a = absurd h
reached-next R P (suc i) (o ∷ old) [] d h l a = absurd h
reached-next R P (suc i) (o ∷ old) (n ∷ new) d h l a = reached-next R P i old new d h.1 (omega (arith, l)) a.1

-- R of each entry and itself changed, where the next place is written by what R allows
pub reached-more : {X : Type 0} (R : X → X → Type 0) (i : ℕ) (old new : List X) (d x : X) → Reached R i old new → i < length new → R (get_or new i d) x → Reached R (suc i) old (set new i x)
reached-more R zero [] [] d x h l r = absurd (omega (arith, l))
reached-more R zero [] (n ∷ new) d x h l r = let e = ap (λ l. length l) h in absurd (omega (arith, e))
reached-more R zero (o ∷ old) [] d x h l r = absurd (omega (arith, l))
reached-more R zero (o ∷ old) (n ∷ new) d x h l r = (subst (λ l. R (get_or l 0 d) x) h r, ap (λ l. drop 1 l) h)
reached-more R (suc i) [] [] d x h l r = absurd (omega (arith, l))
reached-more R (suc i) [] (n ∷ new) d x h l r = absurd h
reached-more R (suc i) (o ∷ old) [] d x h l r = absurd h
reached-more R (suc i) (o ∷ old) (n ∷ new) d x h l r = (h.0, reached-more R i old new d x h.1 (omega (arith, l)) r)

pub reached-all : {X : Type 0} (R : X → X → Type 0) (i : ℕ) (old new : List X) → length old ≤ i → Reached R i old new → AllZip R old new
reached-all R zero [] [] l h = tt
reached-all R zero [] (n ∷ new) l h = let e = ap (λ l. length l) h in absurd (omega (arith, e))
reached-all R zero (o ∷ old) new l h = absurd (omega (arith, l))
reached-all R (suc i) [] [] l h = tt
reached-all R (suc i) [] (n ∷ new) l h = absurd h
reached-all R (suc i) (o ∷ old) [] l h = absurd h
reached-all R (suc i) (o ∷ old) (n ∷ new) l h = (h.0, reached-all R i old new (omega (arith, l)) h.1)

-- what holds of each entry holds of one that was written
pub written-one : {X : Type 0} (P : X → Type 0) (i : ℕ) (xs : List X) (x : X) → i < length xs → AllByRecursion P (set xs i x) → P x
written-one P zero [] x l a = absurd (omega (arith, l))
written-one P zero (y ∷ xs) x l a = a.0
written-one P (suc i) [] x l a = absurd (omega (arith, l))
written-one P (suc i) (y ∷ xs) x l a = written-one P i xs x (omega (arith, l)) a.1
