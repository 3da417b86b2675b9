-- Words between blanks, and the numbers that they say.
use Rattle.std.specs.Prelude.{ℕ, ◌+◌, ◌-◌, ◌*◌, ◌^◌, ◌==◌, nat_lt, nat_le, Bool, true, false, ◌||◌, ◌&&◌, not, if◌then◌else◌, List, [], ◌∷◌, take, drop, Option, Some, None}
use Rattle.std.specs.Cmp.Lexicographic.{pointwise}
use Rattle.std.specs.List.{prefix_len}

-- a space, a tab, or the carriage return before a line feed
abbrev pub is_blank : ℕ → Bool
is_blank x = (x == 32) || (x == 9) || (x == 13)

abbrev pub is_dark : ℕ → Bool
is_dark x = not (is_blank x)

abbrev pub after_blanks : List ℕ → List ℕ
after_blanks text = drop (prefix_len is_blank text) text

abbrev pub word_of : List ℕ → List ℕ
word_of text = take (prefix_len is_dark text) text

abbrev pub after_word : List ℕ → List ℕ
after_word text = after_blanks (drop (prefix_len is_dark text) text)

abbrev pub is_empty : List ℕ → Bool
is_empty [] = true
is_empty (x ∷ xs) = false

abbrev pub is_digit : ℕ → Bool
is_digit x = nat_le 48 x && nat_le x 57

-- the number that digits give after others that give n, below 2^64
abbrev pub number_from : ℕ → List ℕ → Option ℕ
number_from n [] = Some n
number_from n (d ∷ ds) = if is_digit d && nat_lt (n * 10 + (d - 48)) (2 ^ 64) then number_from (n * 10 + (d - 48)) ds else None

abbrev pub same_word : List ℕ → List ℕ → Bool
same_word a b = pointwise ◌==◌ a b

-- the number of one digit or more
abbrev pub digits_in : List ℕ → Option ℕ
digits_in text = if is_empty text then None else number_from 0 text
