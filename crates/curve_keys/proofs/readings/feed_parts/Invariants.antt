use Rattle.curve_keys.specs.Shares.{AddsTo}
use Rattle.curve_keys.proofs.Passes.{Reached}
use Rattle.curve_keys.proofs.readings.feed_parts.Given as goal

abbrev pub invariant-loop-i : goal.invariant-loop-i
invariant-loop-i l = Reached (AddsTo (record { key = l.key; said = l.said; when = l.when; times = l.times })) l.i l.fn.parts.items l.parts.items
