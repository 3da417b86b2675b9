use Rattle.std.proofs.Common.{◌≡◌, ◌+◌, drop}
use Rattle.std.specs.List.{position_or_len}
use Rattle.http1_message_parts.specs.Target.{ends_authority}
use Rattle.http1_message_parts.proofs.target.authority_len.Given as goal

abbrev pub invariant-loop-i : goal.invariant-loop-i
invariant-loop-i l = l.i + position_or_len ends_authority (drop l.i l.text) ≡ position_or_len ends_authority l.text
