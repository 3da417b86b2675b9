use Rattle.std.proofs.Common.{◌≡◌, arith, refl}
use Rattle.request_predictor.proofs.predictor.Predictor.empty_lists.Goals as goal

pub returns : goal.returns
returns g c = let e : c.lists.counter ≡ c.args.number = omega arith in rw (c.lists.invariant, e) refl
