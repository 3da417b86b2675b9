-- What the matches of a command line hold is what its words give.
use Rattle.std.proofs.Common.{◌≡◌, ◌∙◌, ℕ, List, [], true, refl, ap, sym, subst}
use Rattle.std.specs.Prelude.{Option, Some, None, Err}
use Rattle.clap.specs.Matches.{found_of, first_value}
use Rattle.clap.specs.Simple.{HasMatchesOf, is_simple}
use Rattle.clap.specs.Faults.{is_simple_and_free, fault_of}
use Rattle.clap.specs.Walk.{Text, first_of}
use Rattle.clap.specs.declared.parser.matches.ArgMatches.{ArgMatches}
use Rattle.clap.proofs.OnLiterals.{clap_on_literals}
use Rattle.clap.proofs.WalkLemmas.{first_value-rows}
use Rattle.trace_replay.specs.CommandLine.{app, name_of, value_of, IsGiven, IsWrong, IsFirstWrong, IsFault, IsReadNumber, IsReadShards, IsReadDirectory, shards_in}
use Rattle.trace_replay.specs.declared.options.ShardCount.{ShardCount}
use Rattle.std.specs.Prelude.{codes}
use Rattle.trace_replay.specs.declared.options.OptionName.{OptionName}
use Rattle.trace_replay.specs.declared.options.OptionName.TheVariants.{Shards, Recency}
use Rattle.trace_replay.specs.declared.options.OptionsError.{OptionsError}
use Rattle.trace_replay.specs.declared.options.OptionsError.TheVariants.{CommandLine, NoLimit, WrongValue, NotUtf8, Memory}

app_is_simple : is_simple app ≡ true
unfolding clap_on_literals app
app_is_simple = refl

pub first_value-words : (id : Text) (m : ArgMatches) (words : List Text) → HasMatchesOf app words m → first_value (found_of m) id ≡ value_of id words
first_value-words id m words h = first_value-rows (found_of m) id ∙ ap (first_of id) (h app_is_simple).0

pub given_by_words : (id : Text) (m : ArgMatches) (words : List Text) (number : Option ℕ) → HasMatchesOf app words m
    → IsGiven (first_value (found_of m) id) number → IsGiven (value_of id words) number
given_by_words id m words number h given = subst (λ v. IsGiven v number) (first_value-words id m words h) given

-- the error of an option whose value is wrong, where it is the first
pub fault_by_words : (name : OptionName) (m : ArgMatches) (words : List Text) (error : OptionsError) → fault_of app words ≡ [] → HasMatchesOf app words m
    → (IsWrong (value_of (name_of name) words) → IsFirstWrong words name) → IsReadNumber name (first_value (found_of m) (name_of name)) (Err error) → IsFault words error
fault_by_words name m words (CommandLine error) free h first none = absurd none
fault_by_words name m words NoLimit free h first none = absurd none
fault_by_words name m words (NotUtf8 error) free h first none = absurd none
fault_by_words name m words (WrongValue shown error) free h first found =
    (free, subst (IsFirstWrong words) (sym found.0) (first (subst IsWrong (first_value-words (name_of name) m words h) found.2)), found.1)
fault_by_words name m words Memory free h first none = tt

pub app_is_free : is_simple_and_free app ≡ true
unfolding clap_on_literals app
app_is_free = refl

pub none_by_words : (id : Text) (m : ArgMatches) (words : List Text) (number : Option ℕ) → HasMatchesOf app words m
    → IsGiven (first_value (found_of m) id) number → ((n : ℕ) → number ≡ Some n → ⊥) → value_of id words ≡ None
none_by_words id m words None h given other = given_by_words id m words None h given
none_by_words id m words (Some n) h given other = absurd (other n refl)

-- the number of shards
pub shards_by_words : (m : ArgMatches) (words : List Text) (count : ShardCount) → HasMatchesOf app words m → shards_in (first_value (found_of m) (codes "shards")) ≡ Some count → shards_in (value_of (codes "shards") words) ≡ Some count
shards_by_words m words count h given = subst (λ v. shards_in v ≡ Some count) (first_value-words (codes "shards") m words h) given

pub shards_fault_by_words : (m : ArgMatches) (words : List Text) (error : OptionsError) → fault_of app words ≡ [] → HasMatchesOf app words m
    → (shards_in (value_of (codes "shards") words) ≡ None → IsFirstWrong words Shards) → IsReadShards (first_value (found_of m) (codes "shards")) (Err error) → IsFault words error
shards_fault_by_words m words (CommandLine error) free h first none = absurd none
shards_fault_by_words m words NoLimit free h first none = absurd none
shards_fault_by_words m words (NotUtf8 error) free h first none = absurd none
shards_fault_by_words m words (WrongValue shown error) free h first found =
    (free, subst (IsFirstWrong words) (sym found.0) (first (subst (λ v. shards_in v ≡ None) (first_value-words (codes "shards") m words h) found.2)), found.1)
shards_fault_by_words m words Memory free h first none = tt

-- the directory
pub directory_fault_by_words : (m : ArgMatches) (words : List Text) (error : OptionsError) → fault_of app words ≡ [] → HasMatchesOf app words m
    → (value_of (codes "recency") words ≡ Some [] → IsFirstWrong words Recency) → IsReadDirectory (first_value (found_of m) (codes "recency")) (Err error) → IsFault words error
directory_fault_by_words m words (CommandLine error) free h first none = absurd none
directory_fault_by_words m words NoLimit free h first none = absurd none
directory_fault_by_words m words (NotUtf8 error) free h first none = absurd none
directory_fault_by_words m words (WrongValue shown error) free h first found =
    (free, subst (IsFirstWrong words) (sym found.0) (first (sym (first_value-words (codes "recency") m words h) ∙ found.2)), found.1)
directory_fault_by_words m words Memory free h first none = tt

pub named_by_words : (m : ArgMatches) (words : List Text) → HasMatchesOf app words m → (first_value (found_of m) (codes "recency") ≡ Some [] → ⊥) → value_of (codes "recency") words ≡ Some [] → ⊥
named_by_words m words h named e = named (first_value-words (codes "recency") m words h ∙ e)
