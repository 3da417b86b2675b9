-- Sizes as people write them, and the limits of caches.
use Rattle.std.specs.Prelude.{◌≡◌, ℕ, ◌-◌, ◌*◌, ◌^◌, ◌==◌, nat_lt, if◌then◌else◌, List, length, take, slice_index, Option, Some, None}
use Rattle.curve_words.specs.Words.{is_empty, digits_in}

-- so many of a unit, below 2^64
abbrev pub times : ℕ → Option ℕ → Option ℕ
times each None = None
times each (Some n) = if nat_lt (n * each) (2 ^ 64) then Some (n * each) else None

-- digits, and after them perhaps K, M, G or T: thousands, millions, thousands of millions, millions of millions
abbrev pub size_by_end : ℕ → List ℕ → List ℕ → Option ℕ
size_by_end end front text =
    if end == 75 then times 1000 (digits_in front)
    else if end == 77 then times 1000000 (digits_in front)
    else if end == 71 then times 1000000000 (digits_in front)
    else if end == 84 then times 1000000000000 (digits_in front)
    else digits_in text

abbrev pub size_of_text : List ℕ → Option ℕ
size_of_text text = if is_empty text then None else size_by_end (slice_index text (length text - 1)) (take (length text - 1) text) text

-- so many limits between two ends
pub record IsBetween (from to count : ℕ) (limits : List ℕ) : Type 0 where
  pub long : length limits ≡ count
  pub first : slice_index limits 0 ≡ from
  pub last : slice_index limits (count - 1) ≡ to
