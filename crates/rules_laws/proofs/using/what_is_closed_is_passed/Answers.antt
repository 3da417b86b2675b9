use Rattle.std.proofs.Common.{refl}
use Rattle.rules_laws.proofs.using.what_is_closed_is_passed.Goals as goal

pub returns : goal.returns
returns c = λ request kept now o h. rw h refl
