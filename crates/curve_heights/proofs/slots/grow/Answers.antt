use Rattle.std.proofs.Common.{◌<◌, rules, length}
use Rattle.curve_heights.proofs.KeptLaws.{kept-grown}
use Rattle.curve_heights.proofs.slots.grow.Goals as goal

pub loop-slots-preserved : goal.loop-slots-preserved
loop-slots-preserved c = λ owners weights gaps next k.
    let few : length c.loop-slots.slots.items < 4294967295 = search rules in
    rw c.in_ok-push.ensures.items (kept-grown owners weights gaps c.loop-slots.slots.items next (c.loop-slots.invariant owners weights gaps next k) few)

pub returns-in_err-push : goal.returns-in_err-push
returns-in_err-push c = λ owners weights gaps next k.
    rw c.in_err-push.ensures.items (c.loop-slots.invariant owners weights gaps next k)
