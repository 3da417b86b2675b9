use Rattle.std.proofs.Common.{refl}
use Rattle.std.proofs.lemmas.List.{length-replicate}
use Rattle.request_predictor.proofs.predictor.Predictor.with_hasher.Goals as goal

pub invariant_of-result : goal.invariant_of-result
invariant_of-result g c = rw c.in_ok-lists.ensures (c.requires, length-replicate g.row.N _)

pub returns : goal.returns
returns g c = rw (c.in_ok-lists.ensures, c.at_least_one-most.ensures) refl
