-- Times as people write them.
use Rattle.std.specs.Prelude.{ℕ, ◌^◌, ◌==◌, nat_lt, Bool, true, ◌||◌, ◌&&◌, not, if◌then◌else◌, List, [], ◌∷◌, length, take, drop, Option, Some, None}
use Rattle.std.specs.List.{prefix_len}
use Rattle.curve_words.specs.Words.{is_digit, number_from}

-- nothing, or a dot and digits
abbrev pub is_fraction : List ℕ → Bool
is_fraction [] = true
is_fraction (x ∷ xs) = (x == 46) && (prefix_len is_digit xs == length xs)

abbrev pub seconds_in : List ℕ → Option ℕ
seconds_in word =
    let count = prefix_len is_digit word in
    if (count == 0) || not (is_fraction (drop count word)) then None else number_from 0 (take count word)

abbrev pub below : ℕ → Option ℕ → Option ℕ
below most None = None
below most (Some n) = if nat_lt n most then Some n else None

-- the moment that a time says: whole seconds; a fraction is cut off
abbrev pub moment_in : List ℕ → Option ℕ
moment_in word = below (2 ^ 63) (seconds_in word)
