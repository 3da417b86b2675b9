-- The options: their numbers, and what their words say.
use Rattle.std.specs.Prelude.{ℕ, ◌/◌, ◌%◌, Bool, false, not, ◌&&◌, ◌==◌, nat_lt, if◌then◌else◌, List, [], ◌∷◌, map, filter, codes, Option, option_map, is_some}
use Rattle.std.specs.Option.{option_map_or}
use Rattle.rules_fields.specs.Texts.{is_filled}
use Rattle.rules_fields.specs.Fields.{elements_of}
use Rattle.rules_fields.specs.Types.{Chosen, by_odd_requests}
use Rattle.rules_fields.specs.declared.types.StatusLifetime.{StatusLifetime}
use Rattle.rules_ffi_arguments.specs.Given.{only_if}
use Rattle.rules_ffi_arguments.specs.Values.{lifetime_in, status_in, is_yes}
use Rattle.rules_ffi_arguments.specs.Words.{Given, valued, first_of, words_in}
use Rattle.rules_ffi_arguments.specs.declared.words.Word.{Word}
use Rattle.rules_ffi_arguments.specs.declared.words.Word.TheVariants.{Name, Secret, Targeted, Drop, Host, Refuse, Lifetime, NeverStore, OriginHost, OriginPrefix, QueryDrop, QuerySort, Encodings, CookieKeep, ResponseDrop, ForceLifetime, ForcePrivate}
use Rattle.rules_ffi_arguments.specs.declared.options.Names.{Names}
use Rattle.rules_ffi_arguments.specs.declared.options.Names.TheVariants.{Usual, Own}
use Rattle.rules_ffi_arguments.specs.declared.options.Statuses.{Statuses}
use Rattle.rules_ffi_arguments.specs.declared.options.Statuses.TheVariants as statuses
use Rattle.rules_ffi_arguments.specs.declared.options.OptionLists.{OptionLists}
use Rattle.rules_ffi_arguments.specs.declared.shapes.OptionNumbers.{OptionNumbers}

-- a mark, which is a power of two, is set
abbrev pub has_mark : ℕ → ℕ → Bool
has_mark marks mark = marks / mark % 2 == 1

-- what the words say
pub record Lists : Type 0 where
  pub name : List ℕ
  pub secret : List ℕ
  pub targeted : List (List ℕ)
  pub drops : List (List ℕ)
  pub hosts : List (List ℕ)
  pub refuses : List (List ℕ)
  pub lifetimes : List StatusLifetime
  pub never_stored : List ℕ
  pub origin_host : List ℕ
  pub origin_prefix : List ℕ
  pub query_drops : List (List ℕ)
  pub query_sorts : Bool
  pub encodings : List (List ℕ)
  pub cookie_keeps : Option (List (List ℕ))
  pub response_drops : List (List ℕ)
  pub forced_lifetimes : List StatusLifetime
  pub forces_private : Bool

abbrev pub names_view : Names → List (List ℕ)
names_view (Usual names) = map (λ t. t.now) names.now
names_view (Own names) = map (λ t. t.now) names.items

-- statuses: the usual ones are those that an odd request causes
abbrev pub statuses_view : Statuses → List ℕ
statuses_view statuses.Usual = by_odd_requests
statuses_view (statuses.Own own) = own.items

abbrev pub lists_view : OptionLists → Lists
lists_view l = record {
  name = l.name.now;
  secret = l.secret.now;
  targeted = names_view l.targeted;
  drops = names_view l.drops;
  hosts = names_view l.hosts;
  refuses = names_view l.refuses;
  lifetimes = l.lifetimes.items;
  never_stored = statuses_view l.never_stored;
  origin_host = l.origin_host.now;
  origin_prefix = l.origin_prefix.now;
  query_drops = names_view l.query_drops;
  query_sorts = l.query_sorts;
  encodings = map (λ t. t.now) l.encodings.items;
  cookie_keeps = option_map (λ ns. map (λ t. t.now) ns.items) l.cookie_keeps;
  response_drops = names_view l.response_drops;
  forced_lifetimes = l.forced_lifetimes.items;
  forces_private = l.forces_private;
}

abbrev pub listed_or : List Given → Word → List (List ℕ) → List (List ℕ)
listed_or ss word usual = if is_some (first_of word ss) then filter is_filled (valued word ss) else usual

abbrev pub rows_said : List (List ℕ) → List StatusLifetime
rows_said [] = []
rows_said (text ∷ texts) = option_map_or (λ row. row ∷ rows_said texts) (lifetime_in text) (rows_said texts)

-- a status and seconds a line
abbrev pub lifetimes_in : Word → List Given → List StatusLifetime
lifetimes_in word ss = rows_said (valued word ss)

abbrev pub statuses_said : List (List ℕ) → List ℕ
statuses_said [] = []
statuses_said (text ∷ texts) = option_map_or (λ status. status ∷ statuses_said texts) (status_in text) (statuses_said texts)

abbrev pub statuses_in : List Given → List ℕ
statuses_in ss = statuses_said (valued NeverStore ss)

-- a status a line, once empty for none; without a line the usual ones
abbrev pub never_stored : List Given → List ℕ
never_stored ss = if is_some (first_of NeverStore ss) then statuses_in ss else by_odd_requests

abbrev pub text_or : List Given → Word → List ℕ → List ℕ
text_or ss word usual = option_map_or (λ t. t) (first_of word ss) usual

-- the elements of the first line
abbrev pub elements_in : List Given → Word → List (List ℕ)
elements_in ss word = option_map_or elements_of (first_of word ss) []

-- a name a line, once empty for none; nothing where no line says it
abbrev pub chosen_names : List Given → Word → Option (List (List ℕ))
chosen_names ss word = option_map (λ t. filter is_filled (valued word ss)) (first_of word ss)

-- the first line says yes
abbrev pub says_yes : List Given → Word → Bool
says_yes ss word = option_map_or is_yes (first_of word ss) false

-- what the lines of each word say
abbrev pub lists_from : List Given → Lists
lists_from ss = record {
  name = text_or ss Name (codes "cache-tier");
  secret = text_or ss Secret [];
  targeted = listed_or ss Targeted (codes "cdn-cache-control" ∷ []);
  drops = listed_or ss Drop [];
  hosts = listed_or ss Host [];
  refuses = listed_or ss Refuse (codes "CONNECT" ∷ codes "TRACE" ∷ []);
  lifetimes = lifetimes_in Lifetime ss;
  never_stored = never_stored ss;
  origin_host = text_or ss OriginHost [];
  origin_prefix = text_or ss OriginPrefix [];
  query_drops = listed_or ss QueryDrop [];
  query_sorts = says_yes ss QuerySort;
  encodings = elements_in ss Encodings;
  cookie_keeps = chosen_names ss CookieKeep;
  response_drops = listed_or ss ResponseDrop [];
  forced_lifetimes = lifetimes_in ForceLifetime ss;
  forces_private = says_yes ss ForcePrivate;
}

abbrev pub lists_in : List ℕ → Option Lists
lists_in words = option_map lists_from (words_in words)

abbrev pub are_zero : List ℕ → Bool
are_zero (a ∷ b ∷ c ∷ []) = a == 0 && b == 0 && c == 0
are_zero _ = 0 == 1

-- reserved words are 0
abbrev pub are_unused : List ℕ → Bool
are_unused (a ∷ b ∷ []) = a == 0 && b == 0
are_unused _ = 0 == 1

abbrev pub are_numbers : OptionNumbers → Bool
are_numbers n = nat_lt n.flags 4096 && not (n.most_ranges == 0) && not (nat_lt 16 n.most_ranges) && are_unused n.reserved

abbrev pub scheme_by : ℕ → List ℕ
scheme_by flags = if has_mark flags 1024 then codes "https" else codes "http"

-- the options that numbers and words make
abbrev pub chosen_from : OptionNumbers → Lists → Chosen
chosen_from n l = record {
  name = l.name;
  scheme = scheme_by n.flags;
  most_head = n.most_head;
  most_target = n.most_target;
  most_lines = n.most_lines;
  most_line = n.most_line;
  heeds_requests = has_mark n.flags 1;
  authorized_reads = has_mark n.flags 2;
  stores_cookies = has_mark n.flags 4;
  fills_ranges = has_mark n.flags 8;
  fills_heads = has_mark n.flags 16;
  fills_conditions = has_mark n.flags 32;
  folds_percent = has_mark n.flags 64;
  targeted = l.targeted;
  heuristic_tenth = has_mark n.flags 128;
  most_heuristic = n.most_heuristic;
  lifetimes = l.lifetimes;
  never_stored = l.never_stored;
  stale_while_revalidate = n.stale_while_revalidate;
  stale_if_error = n.stale_if_error;
  stale_if_down = n.stale_if_down;
  s_maxage_lets_stale = has_mark n.flags 256;
  most_ranges = n.most_ranges;
  drops = l.drops;
  hosts = l.hosts;
  refuses = l.refuses;
  forwards_for = has_mark n.flags 512;
  secret = l.secret;
  origin_host = l.origin_host;
  origin_prefix = l.origin_prefix;
  trusts_date = has_mark n.flags 2048;
  query_drops = l.query_drops;
  query_sorts = l.query_sorts;
  encodings = l.encodings;
  cookie_keeps = l.cookie_keeps;
  response_drops = l.response_drops;
  forced_lifetimes = l.forced_lifetimes;
  forces_private = l.forces_private;
}

abbrev pub chosen_by : OptionNumbers → Lists → Option Chosen
chosen_by n l = only_if (are_numbers n) (chosen_from n l)
