use Rattle.std.proofs.Common.{refl}
use Rattle.trace_lines.specs.Texts.{outcome_text}
use Rattle.trace_replay.proofs.OutputLemmas.{on_ok_then}
use Rattle.trace_replay.proofs.replay.add_reply.Goals as goal

pub returns-clause-answered : goal.returns-clause-answered
returns-clause-answered g c =
    let outcome = c.step-outcome.result in
    on_ok_then c.add_outcome_line.result (λ added. (outcome_text outcome, added, (outcome, c.step-outcome.ensures, refl))) c.add_outcome_line.ensures.ok
