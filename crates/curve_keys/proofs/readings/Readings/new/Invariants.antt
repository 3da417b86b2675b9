use Rattle.std.proofs.Common.{take}
use Rattle.std.specs.List.{AllZip}
use Rattle.curve_keys.specs.Shares.{IsNew}
use Rattle.curve_keys.proofs.readings.Readings.new.Given as goal

abbrev pub invariant-loop-part : goal.invariant-loop-part
invariant-loop-part l = AllZip (IsNew l.limits l.watermark l.is_timed l.every) (take l.part-index l.parts) l.all.items
