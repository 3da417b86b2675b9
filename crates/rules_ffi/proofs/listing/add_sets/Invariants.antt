use Rattle.std.proofs.Common.{◌≡◌, ◌++◌, drop, map}
use Rattle.std.specs.List.{flat_map}
use Rattle.rules_ffi.specs.Sets.{set_text}
use Rattle.rules_ffi.specs.SetViews.{set_of}
use Rattle.rules_ffi.proofs.listing.add_sets.Given as goal

abbrev pub invariant-loop-set : goal.invariant-loop-set
invariant-loop-set l = l.text.items ++ flat_map set_text (map set_of (drop l.set-index l.sets)) ≡ l.fn.text.items ++ flat_map set_text (map set_of l.sets)
