use Rattle.std.proofs.Common.{◌≡◌, ◌+◌, drop, map}
use Rattle.std.specs.Prelude.{bytes_eq}
use Rattle.std.specs.List.{position_or_len}
use Rattle.rules_ffi.specs.Sets.{ended}
use Rattle.rules_ffi.specs.SetViews.{set_of}
use Rattle.rules_ffi.proofs.sets.place_of.Given as goal

abbrev pub invariant-loop-i : goal.invariant-loop-i
invariant-loop-i l =
    l.i + position_or_len (λ s. bytes_eq (ended s.names) l.wanted) (map set_of (drop l.i l.sets)) ≡ position_or_len (λ s. bytes_eq (ended s.names) l.wanted) (map set_of l.sets)
