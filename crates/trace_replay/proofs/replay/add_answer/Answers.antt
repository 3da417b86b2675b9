use Rattle.std.proofs.Common.{◌≡◌, ◌∙◌, refl, sym, subst}
use Rattle.trace_lines.specs.Lines.{line_of}
use Rattle.trace_lines.specs.Texts.{refusal_text}
use Rattle.trace_lines.specs.declared.line.Line.TheVariants.{Refused}
use Rattle.trace_replay.specs.Replays.{ended}
use Rattle.trace_replay.specs.Steps.{Place, Replies}
use Rattle.trace_replay.proofs.replay.add_answer.Goals as goal

pub returns-in_ok-add_refusal_line-in-Refused-clause-answered :
    goal.returns-in_ok-add_refusal_line-in-Refused-clause-answered
returns-in_ok-add_refusal_line-in-Refused-clause-answered g c =
    let text = refusal_text c.in-Refused.refusal in
    let place : Place = record { state = c.args.tier.now; words = g.G.Rng.stream c.args.rng.now } in
    let is : Refused c.in-Refused.refusal ≡ line_of c.args.line.now = sym c.in-Refused.is ∙ c.in_ok-refusal.ensures in
    (ended text, c.in_ok-add_refusal_line-in-Refused.ensures.ok, (text, subst (λ l. Replies place place l text) is (refl, refl, refl), refl))
