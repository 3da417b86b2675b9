use Rattle.std.proofs.Common.{◌≡◌, ◌==◌, drop}
use Rattle.std.specs.Prelude.{if◌then◌else◌}
use Rattle.std.specs.List.{list_all}
use Rattle.std.specs.Char.{is_ascii_digit}
use Rattle.http1_message.proofs.encodings.are_places.Given as goal

abbrev pub invariant-loop-b : goal.invariant-loop-b
invariant-loop-b l = list_all (λ b. if l.first == 48 then is_ascii_digit b else b == 48) (drop l.b-index l.digits) ≡ list_all (λ b. if l.first == 48 then is_ascii_digit b else b == 48) l.digits
