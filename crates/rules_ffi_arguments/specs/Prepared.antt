-- Words prepared. Bytes are numbers: 10 is a LF.
use Rattle.std.specs.Prelude.{ℕ, false, List, [], ◌∷◌, ◌++◌, Option, option_map}
use Rattle.http1_message_parts.specs.Lines.{lines_of}
use Rattle.rules_ffi_arguments.specs.Words.{Given, letter_of, all_said}

-- a word: its letter, its value, and the end of a line
abbrev pub prepared_line : Given → List ℕ
prepared_line s = (letter_of s.0 ∷ s.1) ++ (10 ∷ [])

abbrev pub prepared_lines : List Given → List ℕ
prepared_lines [] = []
prepared_lines (s ∷ ss) = prepared_line s ++ prepared_lines ss

-- right words as the calls read them fastest: a 0, and their lines
abbrev pub prepared : List ℕ → Option (List ℕ)
prepared words = option_map (λ ss. 0 ∷ prepared_lines ss) (all_said false (lines_of words))
