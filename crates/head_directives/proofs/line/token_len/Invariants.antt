use Rattle.std.proofs.Common.{◌≡◌, ◌+◌, drop}
use Rattle.std.specs.List.{prefix_len}
use Rattle.head_directives.specs.Kinds.{is_token}
use Rattle.head_directives.proofs.line.token_len.Given as goal

abbrev pub invariant-loop-i : goal.invariant-loop-i
invariant-loop-i l = l.i + prefix_len is_token (drop l.i l.bytes) ≡ prefix_len is_token l.bytes
