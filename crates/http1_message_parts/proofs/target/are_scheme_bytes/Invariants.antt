use Rattle.std.proofs.Common.{◌≡◌, drop}
use Rattle.std.specs.List.{list_all}
use Rattle.http1_message_parts.specs.Target.{is_scheme_byte}
use Rattle.http1_message_parts.proofs.target.are_scheme_bytes.Given as goal

abbrev pub invariant-loop-b : goal.invariant-loop-b
invariant-loop-b l = list_all is_scheme_byte (drop l.b-index l.text) ≡ list_all is_scheme_byte l.text
