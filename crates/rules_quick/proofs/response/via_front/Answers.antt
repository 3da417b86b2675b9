use Rattle.std.proofs.Common.{◌≡◌, ℕ, ◌++◌, List, decimal, codes, sym, ap, arith}
use Rattle.std.proofs.lemmas.Fmt.{decimal_digit}
use Rattle.rules_quick.proofs.response.via_front.Goals as goal

zero : (minor : ℕ) → minor ≡ 0 → codes "Via: 1.0 " ≡ codes "Via: 1." ++ (decimal minor ++ codes " ")
zero minor e = rw e (ap (λ (d : List ℕ). codes "Via: 1." ++ (d ++ codes " ")) (sym (decimal_digit 0 (omega arith))))

one : (minor : ℕ) → minor ≡ 1 → codes "Via: 1.1 " ≡ codes "Via: 1." ++ (decimal minor ++ codes " ")
one minor e = rw e (ap (λ (d : List ℕ). codes "Via: 1." ++ (d ++ codes " ")) (sym (decimal_digit 1 (omega arith))))

pub returns-then-minor-eq0 : goal.returns-then-minor-eq0
returns-then-minor-eq0 c = zero c.args.minor (omega (arith, c.if-minor-eq0.true))

pub returns-else-minor-eq0 : goal.returns-else-minor-eq0
returns-else-minor-eq0 c = one c.args.minor (omega (arith, c.if-minor-eq0.false, c.requires))
