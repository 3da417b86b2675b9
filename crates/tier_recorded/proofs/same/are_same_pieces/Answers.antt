use Rattle.std.proofs.lemmas.Bool.{eqb-true, eq-eqb}
use Rattle.std.specs.Cmp.Lexicographic.{pointwise_decides}
use Rattle.tier_recorded.proofs.same.are_same_pieces.Goals as goal

pub returns : goal.returns
returns c = rw (c.eq.ensures, c.as_slice.ensures, c.as_slice-2.ensures) (pointwise_decides (pointwise_decides (λ x y. (eqb-true x y, eq-eqb x y))) c.args.a.now c.args.b.now)
