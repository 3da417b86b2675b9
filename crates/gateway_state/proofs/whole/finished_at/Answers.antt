use Rattle.std.proofs.Common.{◌∙◌}
use Rattle.gateway_state.proofs.Finished.{finished-of}
use Rattle.gateway_state.proofs.whole.finished_at.Goals as goal

pub returns : goal.returns
returns c = λ s same. c.finished.ensures ∙ finished-of c.args.key.now c.args.store.now s same
