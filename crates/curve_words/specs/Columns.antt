-- Columns of a line, and what is made of several of them.
use Rattle.std.specs.Prelude.{ℕ, zero, suc, ◌+◌, ◌^◌, ◌==◌, nat_lt, Bool, true, false, ◌||◌, not, if◌then◌else◌, List, [], ◌∷◌, ◌++◌, length, take, drop, Option, Some, None, unwrap_or, Vec}
use Rattle.std.specs.List.{prefix_len}
use Rattle.std.specs.Io.BufRead.{strip_last}
use Rattle.std.specs.declared.alloc.Global.{Global}
use Rattle.curve_words.specs.Words.{is_empty, after_blanks, word_of, after_word, same_word, digits_in}
use Rattle.curve_words.specs.declared.listed.Total.{Total}
use Rattle.curve_words.specs.declared.listed.Total.TheVariants.{Number, Untold, Nothing}

-- a byte that isn't the delimiter
abbrev pub is_within : ℕ → ℕ → Bool
is_within d x = not (x == d)

-- column n of a text: what stands before the first delimiter, or column n - 1 of what comes after it
abbrev pub part_at : ℕ → ℕ → List ℕ → Option (List ℕ)
part_at d zero text = Some (take (prefix_len (is_within d) text) text)
part_at d (suc n) text = if prefix_len (is_within d) text == length text then None else part_at d n (drop (prefix_len (is_within d) text + 1) text)

-- word n of a text that doesn't begin with a blank
abbrev pub word_at : ℕ → List ℕ → Option (List ℕ)
word_at zero text = if is_empty text then None else Some (word_of text)
word_at (suc n) text = if is_empty text then None else word_at n (after_word text)

-- column n of a line, from 0 on; one carriage return at its end doesn't count
abbrev pub column : Option ℕ → ℕ → List ℕ → Option (List ℕ)
column None n line = word_at n (after_blanks line)
column (Some d) n line = part_at d n (strip_last 13 line)

-- ---- several columns

-- what stands between two columns of a key
abbrev pub glue : Option ℕ → ℕ
glue delimiter = unwrap_or delimiter 32

abbrev pub glued : ℕ → List ℕ → Option (List ℕ) → Option (List ℕ)
glued d key None = None
glued d key (Some word) = Some (key ++ d ∷ word)

-- the columns that are left, behind a key so far
abbrev pub key_after : Option ℕ → List ℕ → Option (List ℕ) → List ℕ → Option (List ℕ)
key_after delimiter line None ns = None
key_after delimiter line (Some key) [] = Some key
key_after delimiter line (Some key) (n ∷ ns) = key_after delimiter line (glued (glue delimiter) key (column delimiter n line)) ns

-- the key of a line: a column, and these joined to it
abbrev pub key_of : Option ℕ → List ℕ → ℕ → List ℕ → Option (List ℕ)
key_of delimiter line n ns = key_after delimiter line (column delimiter n line) ns

abbrev pub sum_of : ℕ → Option ℕ → Total
sum_of sum None = Nothing
sum_of sum (Some n) = if nat_lt (sum + n) (2 ^ 64) then Number (sum + n) else Nothing

-- a sum with one column more; a question mark is a length that isn't told
abbrev pub added : Total → Option (List ℕ) → Total
added (Number sum) (Some word) = if same_word word (63 ∷ []) then Untold else sum_of sum (digits_in word)
added (Number sum) None = Nothing
added Untold (Some word) = Untold
added Untold None = Nothing
added Nothing word = Nothing

abbrev pub sum_after : Option ℕ → List ℕ → Total → List ℕ → Total
sum_after delimiter line sum [] = sum
sum_after delimiter line sum (n ∷ ns) = sum_after delimiter line (added sum (column delimiter n line)) ns

-- what these columns add up to, and a last one that says this
abbrev pub sum_in : Option ℕ → List ℕ → List ℕ → List ℕ → Total
sum_in delimiter line ns last = added (sum_after delimiter line (Number 0) ns) (Some last)

-- the word is one of these
abbrev pub is_listed : List ℕ → List (Vec ℕ Global) → Bool
is_listed word [] = false
is_listed word (w ∷ words) = same_word word w.items || is_listed word words
