-- What is left of counts, and the first of two facts of a fault.
use Rattle.std.proofs.Common.{◌≡◌, ℕ, ◌+◌, arith, Ok, Err}
use Rattle.std.specs.Prelude.{Result, IfErr}

pub first-err : {T E : Type 0} (P Q : E → Type 0) (r : Result T E) → IfErr r (λ e. P e × Q e) → IfErr r P
first-err P Q (Ok x) h = tt
first-err P Q (Err e) h = h.0

pub none-left : (n a b : ℕ) → n ≡ 0 → n + a ≡ b → a ≡ b
none-left n a b e h = omega (arith, e, h)
