-- What the words of a command line give.
use Rattle.std.specs.Prelude.{◌≡◌, ◌≢◌, ℕ, Bool, true, false, ◌<◌, ◌^◌, bytes_eq, if◌then◌else◌, List, codes, Option, Some, None, option_map, String, string_bytes, Result, Ok, Err, ⊤, [], ◌∷◌, ◌++◌}
use Rattle.std.specs.List.{AllByRecursion}
use Rattle.std.specs.declared.alloc.Global.{Global}
use Rattle.std.specs.Str.Parse.{IsNumeral, digits_value, without_leading_plus}
use Rattle.clap.specs.Values.{kind_of}
use Rattle.clap.specs.declared.error.kind.ErrorKind.TheVariants.{InvalidValue, ValueValidation}
use Rattle.clap.specs.Walk.{Text, Rule, first_of}
use Rattle.clap.specs.Simple.{App, new_rule, new_app, on_top, with_rule, matches_of}
use Rattle.clap.specs.Faults.{fault_of}
use Rattle.clap.specs.Kinds.{IsAmong}
use Rattle.trace_replay.specs.declared.options.OptionName.{OptionName}
use Rattle.trace_replay.specs.declared.options.OptionName.TheVariants.{Limit, Watermark, Shards, Seed, Age, Wait, Recency}
use Rattle.trace_replay.specs.declared.options.ShardCount.{ShardCount}
use Rattle.trace_replay.specs.declared.options.ShardCount.TheVariants.{One, Four, Sixteen}
use Rattle.trace_replay.specs.declared.options.OptionsError.{OptionsError}
use Rattle.trace_replay.specs.declared.options.OptionsError.TheVariants.{CommandLine, NoLimit, WrongValue, NotUtf8, Memory}

-- an option `--name VALUE`, which has to be given or may be left out
abbrev pub option_rule : Text → Bool → Rule
option_rule name required = record (new_rule name) { long = Some name; value_names = 1; required = required }

-- the command before it has options: it has a version
abbrev pub named_app : App
named_app = on_top (λ shape. record shape { has_version = true }) (new_app (codes "tier-replay"))

-- the command `tier-replay --limit BYTES [--watermark ENTRIES]`
abbrev pub limited_app : App
limited_app = with_rule (with_rule named_app (option_rule (codes "limit") true)) (option_rule (codes "watermark") false)

-- the same with `[--shards COUNT] [--seed SEED]`
abbrev pub drawn_app : App
drawn_app = with_rule (with_rule limited_app (option_rule (codes "shards") false)) (option_rule (codes "seed") false)

-- the same with `[--age SECONDS] [--wait SECONDS] [--recency DIR]`
unfoldable pub app : App
app = with_rule (with_rule (with_rule drawn_app (option_rule (codes "age") false)) (option_rule (codes "wait") false)) (option_rule (codes "recency") false)

-- the text that the words give an option
abbrev pub value_of : Text → List Text → Option Text
value_of name words = first_of name (matches_of app words)

-- the text is this number, below 2^64, in decimal digits with a plus before them or none
abbrev pub IsNumber : Text → ℕ → Type 0
IsNumber text n =
    IsNumeral 10 (without_leading_plus text) × (digits_value 10 (without_leading_plus text) < 2 ^ 64)
    × (n ≡ digits_value 10 (without_leading_plus text))

-- no text is given, or the number that it is
abbrev pub IsGiven : Option Text → Option ℕ → Type 0
IsGiven value None = value ≡ None
IsGiven value (Some n) = (text : Text) × (value ≡ Some text) × IsNumber text n

-- an option's name
abbrev pub name_of : OptionName → Text
name_of Limit = codes "limit"
name_of Watermark = codes "watermark"
name_of Shards = codes "shards"
name_of Seed = codes "seed"
name_of Age = codes "age"
name_of Wait = codes "wait"
name_of Recency = codes "recency"

-- a text is given, and is no number
abbrev pub IsWrong : Option Text → Type 0
IsWrong value = (text : Text) × (value ≡ Some text) × ((n : ℕ) → ¬ IsNumber text n)

-- how many shards a text says
abbrev pub shards_named : Text → Option ShardCount
shards_named text = if bytes_eq text (codes "1") then Some One else (if bytes_eq text (codes "4") then Some Four else (if bytes_eq text (codes "16") then Some Sixteen else None))

-- the same of a text that may be given; without one it is one
abbrev pub shards_in : Option Text → Option ShardCount
shards_in None = Some One
shards_in (Some text) = shards_named text

-- the value of an option is wrong; an empty text is no directory
abbrev pub IsWrongValueOf : OptionName → Option Text → Type 0
IsWrongValueOf Shards value = shards_in value ≡ None
IsWrongValueOf Recency value = value ≡ Some []
IsWrongValueOf name value = IsWrong value

-- the value of an option is right; the limit has to be given
abbrev pub IsRightValueOf : OptionName → Option Text → Type 0
IsRightValueOf Limit value = (n : ℕ) × IsGiven value (Some n)
IsRightValueOf Shards value = (count : ShardCount) × (shards_in value ≡ Some count)
IsRightValueOf Recency value = value ≢ Some []
IsRightValueOf name value = (n : Option ℕ) × IsGiven value n

-- the options in the order in which their values are read
abbrev pub in_order : List OptionName
in_order = Limit ∷ Watermark ∷ Shards ∷ Seed ∷ Age ∷ Wait ∷ Recency ∷ []

-- the option is the first in that order whose value is wrong
pub record IsFirstWrong (words : List Text) (name : OptionName) : Type 0 where
  pub before : List OptionName
  pub after : List OptionName
  pub place : in_order ≡ before ++ name ∷ after
  pub right : AllByRecursion (λ option. IsRightValueOf option (value_of (name_of option) words)) before
  pub wrong : IsWrongValueOf name (value_of (name_of name) words)

-- why the words give no options; memory may have run out instead
abbrev pub IsFault : List Text → OptionsError → Type 0
IsFault words (CommandLine error) = IsAmong (kind_of error) (fault_of app words)
IsFault words NoLimit = (fault_of app words ≡ []) × (value_of (codes "limit") words ≡ None)
IsFault words (WrongValue name error) = (fault_of app words ≡ []) × IsFirstWrong words name × (kind_of error ≡ ValueValidation)
IsFault words (NotUtf8 error) = ⊥
IsFault words Memory = ⊤

-- the error of a wrong value of that option, or out of memory
abbrev pub IsWrongValue : OptionName → OptionsError → Type 0
IsWrongValue name (WrongValue shown error) = (shown ≡ name) × (kind_of error ≡ ValueValidation)
IsWrongValue name Memory = Unit {0}
IsWrongValue name _ = ⊥

-- the error of a word that is not UTF-8, or out of memory
abbrev pub IsUnreadable : OptionsError → Type 0
IsUnreadable (NotUtf8 error) = kind_of error ≡ InvalidValue
IsUnreadable Memory = Unit {0}
IsUnreadable _ = ⊥

-- what the value of an option was read as
abbrev pub IsReadNumber : OptionName → Option Text → Result (Option ℕ) OptionsError → Type 0
IsReadNumber name value (Ok number) = IsGiven value number
IsReadNumber name value (Err Memory) = Unit {0}
IsReadNumber name value (Err (WrongValue shown error)) = (shown ≡ name) × (kind_of error ≡ ValueValidation) × IsWrong value
IsReadNumber name value (Err _) = ⊥

-- what the number of shards was read as
abbrev pub IsReadShards : Option Text → Result ShardCount OptionsError → Type 0
IsReadShards value (Ok count) = shards_in value ≡ Some count
IsReadShards value (Err Memory) = Unit {0}
IsReadShards value (Err (WrongValue shown error)) = (shown ≡ Shards) × (kind_of error ≡ ValueValidation) × (shards_in value ≡ None)
IsReadShards value (Err _) = ⊥

-- what the directory was read as: its text, which isn't empty
abbrev pub IsReadDirectory : Option Text → Result (Option (String Global)) OptionsError → Type 0
IsReadDirectory value (Ok text) = (option_map string_bytes text ≡ value) × (value ≢ Some [])
IsReadDirectory value (Err Memory) = Unit {0}
IsReadDirectory value (Err (WrongValue shown error)) = (shown ≡ Recency) × (kind_of error ≡ ValueValidation) × (value ≡ Some [])
IsReadDirectory value (Err _) = ⊥

-- how many shards that is
abbrev pub count_of : ShardCount → ℕ
count_of One = 1
count_of Four = 4
count_of Sixteen = 16
