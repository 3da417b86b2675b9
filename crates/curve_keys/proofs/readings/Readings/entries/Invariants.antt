use Rattle.std.proofs.Common.{◌≡◌, ◌-◌, ◌^◌, take}
use Rattle.std.specs.Prelude.{min}
use Rattle.curve_keys.specs.Shares.{entries_of}
use Rattle.curve_keys.proofs.readings.Readings.entries.Given as goal

abbrev pub invariant-loop-part : goal.invariant-loop-part
invariant-loop-part l = l.all ≡ min (entries_of (take l.part-index l.self.parts.items)) (2 ^ 64 - 1)
