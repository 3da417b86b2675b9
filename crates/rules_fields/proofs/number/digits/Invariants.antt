use Rattle.std.proofs.Common.{◌≡◌, ◌<◌, ◌-◌, ◌^◌, true, drop, take}
use Rattle.std.specs.Prelude.{min}
use Rattle.std.specs.Char.{is_ascii_digit}
use Rattle.std.specs.List.{list_all}
use Rattle.rules_fields.specs.Numbers.{number_from}
use Rattle.rules_fields.proofs.number.digits.Given as goal

abbrev pub invariant-loop-b : goal.invariant-loop-b
invariant-loop-b l = record {
  value : min (2 ^ 64 - 1) (number_from l.n (drop l.b-index l.text)) ≡ min (2 ^ 64 - 1) (number_from 0 l.text);
  small : l.n < 2 ^ 64;
  digits : list_all is_ascii_digit (take l.b-index l.text) ≡ true;
}
