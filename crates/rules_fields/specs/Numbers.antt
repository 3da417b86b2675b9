-- Numbers in decimal digits (RFC 9111, 1.2.2 for seconds).
use Rattle.std.specs.Prelude.{ℕ, ◌+◌, ◌-◌, ◌*◌, ◌^◌, min, ◌&&◌, if◌then◌else◌, List, [], ◌∷◌, Option, Some, None, option_map}
use Rattle.std.specs.List.{list_all}
use Rattle.std.specs.Char.{is_ascii_digit}
use Rattle.rules_fields.specs.Texts.{is_filled}

-- the number that digits say after n
abbrev pub number_from : ℕ → List ℕ → ℕ
number_from n [] = n
number_from n (b ∷ text) = number_from (10 * n + (b - 48)) text

-- the number that one or more digits say, from 2^64 - 1 on that
abbrev pub digits : List ℕ → Option ℕ
digits text = if is_filled text && list_all is_ascii_digit text then Some (min (2 ^ 64 - 1) (number_from 0 text)) else None

-- delta-seconds, from 2^31 on that
abbrev pub seconds : List ℕ → Option ℕ
seconds text = option_map (λ n. min n (2 ^ 31)) (digits text)
