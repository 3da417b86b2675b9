use Rattle.std.proofs.Common.{◌≡◌, drop}
use Rattle.std.specs.List.{list_all}
use Rattle.http1_message_parts.specs.Host.{is_address_byte}
use Rattle.http1_message_parts.proofs.host.are_address_bytes.Given as goal

abbrev pub invariant-loop-b : goal.invariant-loop-b
invariant-loop-b l = list_all is_address_byte (drop l.b-index l.text) ≡ list_all is_address_byte l.text
