-- The options that an operator chose, as the calls of HTTP's rules take them.
use Rattle.std.specs.Prelude.{ℕ, List, ◌++◌, codes, Option, option_map}
use Rattle.hex.specs.Hex.{encode_lower}
use Rattle.rules_ffi_arguments.specs.Given.{◌>>=◌}
use Rattle.rules_ffi_arguments.specs.Prepared.{prepared}
use Rattle.rules_ffi_arguments.specs.declared.shapes.OptionNumbers.{OptionNumbers}
use Rattle.rules_ffi_results.specs.Heads.{line_end}
use Rattle.gateway_rules.specs.declared.Rules.{Rules}

-- numbers; words, prepared; and the words of what is in flight, which have no secret but the operator's
pub record Options : Type 0 where
  pub numbers : OptionNumbers
  pub words : List ℕ
  pub one_words : List ℕ

abbrev pub options_of : Rules → Options
options_of r = record { numbers = r.numbers; words = r.words.items; one_words = r.one_words.items }

-- the secret as a word's line, and the operator's lines
abbrev pub with_secret : List ℕ → List ℕ → List ℕ
with_secret words secret = codes "secret: " ++ (encode_lower secret ++ (line_end ++ words))

abbrev pub options_in : OptionNumbers → List ℕ → List ℕ → Option Options
options_in n words secret = do
  all ← prepared (with_secret words secret)
  one ← prepared words
  Option.Some (record { numbers = n; words = all; one_words = one })

-- the numbers of what is in flight: of several ranges none is sent
abbrev pub one_range : OptionNumbers → OptionNumbers
one_range n = record n { most_ranges = 1 }
