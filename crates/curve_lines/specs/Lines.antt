-- Lines of requests: a time, a key and a size, apart by blanks.
use Rattle.std.specs.Prelude.{ℕ, ◌+◌, ◌^◌, nat_lt, nat_le, max, ◌||◌, not, if◌then◌else◌, List, [], ◌∷◌, length, Option, Some, None, option_map}
use Rattle.curve_sizes.specs.declared.when.When.{When}
use Rattle.curve_words.specs.Words.{after_blanks, word_of, after_word, is_empty, same_word, number_from}
use Rattle.curve_words.specs.Times.{moment_in}
use Rattle.curve_keys.specs.declared.said.Said.{Said}
use Rattle.curve_keys.specs.declared.said.Said.TheVariants.{Removal, Weight, Known, Wrong}
use Rattle.curve_keys.specs.Pasts.{Line, line_for}

-- the three words of a line: the time, the key and the size
abbrev pub words_in : List ℕ → Option (List ℕ × List ℕ × List ℕ)
words_in line =
    let first = after_blanks line in
    let second = after_word first in
    let third = after_word second in
    if is_empty third || not (is_empty (after_word third)) then None else Some (word_of first, word_of second, word_of third)

-- what an entry of so many bytes weighs: with what each entry takes beside its body, and at least 1
abbrev pub weighed : ℕ → Option ℕ → Said
weighed overhead None = Wrong
weighed overhead (Some bytes) = if nat_lt (overhead + bytes) (2 ^ 64) then Weight (max 1 (overhead + bytes)) else Wrong

-- a dash is a removal, a question mark a size that isn't told
abbrev pub said_in : ℕ → List ℕ → Said
said_in overhead word = if same_word word (45 ∷ []) then Removal else if same_word word (63 ∷ []) then Known else weighed overhead (number_from 0 word)

-- where bodies have no lifetime no time counts
abbrev pub when_at : Option ℕ → ℕ → When
when_at None moment = record { moment = 0; lifetime = 0 }
when_at (Some lifetime) moment = record { moment = moment; lifetime = lifetime }

abbrev pub when_in : Option ℕ → List ℕ → Option When
when_in None time = Some (when_at None 0)
when_in (Some lifetime) time = option_map (λ moment. when_at (Some lifetime) moment) (moment_in time)

abbrev pub line_at : ℕ → List ℕ × List ℕ × List ℕ → Option When → Option Line
line_at overhead words None = None
line_at overhead words (Some when) = line_for words.1 (said_in overhead words.2) when 1

abbrev pub line_by : ℕ → Option ℕ → Option (List ℕ × List ℕ × List ℕ) → Option Line
line_by overhead lifetime None = None
line_by overhead lifetime (Some words) = line_at overhead words (when_in lifetime words.0)

-- a longer line has no request
abbrev pub longest : ℕ
longest = 65535

-- what a line of three words says, where it is one
abbrev pub line_in : ℕ → Option ℕ → List ℕ → Option Line
line_in overhead lifetime line = if nat_le (length line) longest then line_by overhead lifetime (words_in line) else None
