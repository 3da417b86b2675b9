use Rattle.std.proofs.Common.{◌∙◌, sym}
use Rattle.gateway_rules.specs.Requests.{ended_lines}
use Rattle.gateway_rules.proofs.Ending.{push_line}
use Rattle.gateway_rules.proofs.requests.ended_lines.Goals as goal

pub loop-left-preserved-in_ok-push : goal.loop-left-preserved-in_ok-push
loop-left-preserved-in_ok-push c =
    push_line (λ k. k.items) c.loop-left.lines.items c.push.new.self.items c.in_ok-from_slice.field-0 c.first_line.result.0.now c.first_line.result.1 c.in-Some.text.now
    (ended_lines c.args.text.now) c.first_line.ensures.first (sym c.is_some.ensures ∙ c.if-is_some.true) c.in_ok-from_slice.ensures.items c.in_ok-push.ensures.items
    (rw c.in-Some.is at c.loop-left.invariant)
