-- Hex digits as they are read.
use Rattle.std.specs.Prelude.{◌≡◌, ℕ, ◌+◌, ◌<◌, List, Option, Some, None, Result}
use Rattle.std.specs.Result.{result_ok}
use Rattle.hex.specs.declared.error.FromHexError.{FromHexError}

-- a digit's value with a mark, or a number below the mark for what is no digit
abbrev pub IsMarked : Option ℕ → ℕ → Type 0
IsMarked (Some value) n = (n ≡ 240 + value) × (value < 16)
IsMarked None n = n < 240

abbrev pub result_bytes : Result (List ℕ) FromHexError → Option (List ℕ)
result_bytes r = result_ok r
