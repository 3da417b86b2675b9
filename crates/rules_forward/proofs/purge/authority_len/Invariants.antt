use Rattle.std.proofs.Common.{◌≡◌, ◌+◌, ◌∷◌, ◌++◌, ◌==◌, [], drop, take, map, length, reverse, false}
use Rattle.std.specs.List.{position_or_len}
use Rattle.rules_forward.specs.Purge.{ends_authority}
use Rattle.rules_forward.proofs.purge.authority_len.Given as goal

abbrev pub invariant-loop-i : goal.invariant-loop-i
invariant-loop-i l = l.i + position_or_len ends_authority (drop l.i l.text) ≡ position_or_len ends_authority l.text
