-- What the arguments of calls stand for.
use Rattle.std.specs.Prelude.{◌≡◌, ◌⊎◌, ◌^◌, ◌==◌, ◌&&◌, not, ℕ, pos, Bool, List, [], ◌∷◌, length, take, drop, nat_lt, if◌then◌else◌, Option, Some, None, option_map, IsUtf8}
use Rattle.cache_words.specs.Blake.{blake2b_128}
use Rattle.cache_words.specs.Key.{CacheKeyValue}
use Rattle.cache_words.specs.Time.{MomentValue, second}
use Rattle.cache_heads.specs.declared.given.GivenMeta.{GivenMeta}
use Rattle.tier_calls.specs.declared.arguments.Digests.{Digests}
use Rattle.tier_calls.specs.declared.structs.MetaWords.{MetaWords}
use Rattle.tier_calls.specs.declared.structs.MomentWords.{MomentWords}

-- a number that says yes or no: 0 is no
abbrev pub is_set : ℕ → Bool
is_set n = not (n == 0)

-- the moment of these numbers, if there is one
abbrev pub moment_at : ℕ → ℕ → Option MomentValue
moment_at seconds nanoseconds =
    if nat_lt seconds (2 ^ 63) && nat_lt nanoseconds second
    then Some (record { seconds = pos seconds; nanoseconds = nanoseconds })
    else None

-- ---- keys

-- a key that is named by digests
abbrev pub by_digests : List ℕ → Option (List ℕ) → List ℕ → CacheKeyValue
by_digests primary variance tag = record { primary = []; primary_bin_override = Some primary; variance = variance; user_tag = tag }

-- the digests of a key: that of the bytes of a name; or the bytes are one, or one and that of a variance
abbrev pub one : List ℕ → Digests
one primary = record { primary = primary; variance = None }

abbrev pub digests_in : ℕ → List ℕ → Option Digests
digests_in digested key =
    if digested == 0 then Some (one (blake2b_128 key))
    else if (digested == 1) && (length key == 16) then Some (one key)
    else if (digested == 1) && (length key == 32) then Some (record { primary = take 16 key; variance = Some (drop 16 key) })
    else None

-- the key of these arguments
abbrev pub IsKeyIn : ℕ → List ℕ → List ℕ → CacheKeyValue → Type 0
IsKeyIn digested key tag k = IsUtf8 tag × ((d : Digests) × (digests_in digested key ≡ Some d) × (k ≡ by_digests d.primary d.variance tag))

-- there is none: the digests are none, or the tag is no text
abbrev pub IsNoKey : ℕ → List ℕ → List ℕ → Type 0
IsNoKey digested key tag = (digests_in digested key ≡ None) ⊎ ¬ (IsUtf8 tag)

-- ---- what is given of a response

-- so many seconds, if a window may have them
abbrev pub window_in : ℕ → Option ℕ
window_in seconds = if nat_lt seconds (2 ^ 32) then Some seconds else None

abbrev pub moment_in : MomentWords → Option MomentValue
moment_in words = moment_at words.seconds words.nanoseconds

-- with moments and windows that were found to be some
abbrev pub meta_with : Option MomentValue → Option MomentValue → Option MomentValue → Option MomentValue → Option ℕ → Option ℕ → ℕ → Option GivenMeta
meta_with (Some until) (Some created) (Some updated) (Some provenance) (Some while) (Some error) external = Some (record {
  fresh_until = until;
  created = created;
  updated = updated;
  provenance = provenance;
  stale_while_revalidate_sec = while;
  stale_if_error_sec = error;
  external = external;
})
meta_with _ _ _ _ _ _ external = None

-- what is given, if its moments, windows and numbers are in their ranges
abbrev pub meta_in : MetaWords → Option GivenMeta
meta_in m =
    if nat_lt m.external (2 ^ 62) && (m.reserved == 0)
    then meta_with (moment_in m.fresh_until) (moment_in m.created) (moment_in m.updated) (moment_in m.provenance)
    (window_in m.stale_while_revalidate) (window_in m.stale_if_error) m.external
    else None

-- what may be given: of 0 nothing is, of 1 it is this
abbrev pub given_in : ℕ → MetaWords → Option (Option GivenMeta)
given_in given m = if given == 0 then Some None else if given == 1 then option_map (λ meta. Some meta) (meta_in m) else None
