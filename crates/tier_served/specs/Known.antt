-- What is seen of responses, and what a table knows of the stored keys of requests. It serves the proof of `uniform` alone.
use Rattle.std.specs.Prelude.{◌≡◌, ℕ, ◌==◌, Bool, true, false, ◌&&◌, List, [], ◌∷◌, map, if◌then◌else◌, Option, Some, None}
use Rattle.std.specs.Cmp.Lexicographic.{pointwise}
use Rattle.std.specs.HashMap.{HashMap, get}
use Rattle.cache_heads.specs.declared.meta.CacheMeta.{CacheMeta}
use Rattle.cache_entries.specs.Entry.{same_entry}
use Rattle.cache_entries.specs.Keys.{same_bytes}
use Rattle.cache_changes.specs.Changes.{stored_key}
use Rattle.tier_model.specs.declared.whole.PutVerdict.{PutVerdict}
use Rattle.tier_model.specs.declared.whole.PutVerdict.TheVariants.{Stored}
use Rattle.tier_model.specs.Keys.{alone}
use Rattle.tier_model.specs.Response.{Judged, kept}
use Rattle.tier_model.specs.Rows.{weight_for}
use Rattle.tier_loads.specs.Requests.{PlainRequest, asks, purges, entry_of}
use Rattle.tier_loads.specs.Uniform as plain
use Rattle.tier_served.specs.declared.seen.Seen.{Seen}
use Rattle.tier_served.specs.Uniform.{IsUniform}

-- the meta with which a response is kept
abbrev pub kept_meta : Judged → Option CacheMeta
kept_meta (kept meta) = Some meta
kept_meta _ = None

-- what the body weighs that is stored, where one is
abbrev pub stored_weight : PutVerdict → Option ℕ
stored_weight (Stored body) = Some (weight_for body)
stored_weight _ = None

-- what the body weighs that is asked for
abbrev pub weight_of : PlainRequest → Option ℕ
weight_of (asks b) = Some (weight_for b.body)
weight_of (purges k) = None

-- ---- one stored key

-- what is seen of a request
abbrev pub shown : PlainRequest → Seen
shown p = record { entry = alone (entry_of p); weight = weight_of p }

abbrev pub same_weight : Option ℕ → Option ℕ → Bool
same_weight (Some m) (Some n) = m == n
same_weight _ _ = true

abbrev pub fits : Seen → Seen → Bool
fits known seen = same_entry known.entry seen.entry && same_weight known.weight seen.weight

abbrev pub either : Option ℕ → Option ℕ → Option ℕ
either None n = n
either (Some m) n = Some m

-- a request besides those that are known, of the same stored key
abbrev pub added : Seen → Option Seen → Seen
added seen None = seen
added seen (Some known) = record seen { weight = either known.weight seen.weight }

-- what requests say of a stored key
abbrev pub known_at : List PlainRequest → List ℕ → Option Seen
known_at [] k = None
known_at (p ∷ known) k = if same_bytes (stored_key (entry_of p)) k then Some (added (shown p) (known_at known k)) else known_at known k

abbrev pub fits_by : Option Seen → Seen → Bool
fits_by None seen = true
fits_by (Some known) seen = fits known seen

-- the weight that is known then, where one fits
abbrev pub fitting : Option Seen → Seen → Option (Option ℕ)
fitting None seen = Some seen.weight
fitting (Some known) seen = if fits known seen then Some (either known.weight seen.weight) else None

-- a request fits what others say of its stored key
abbrev pub fits_all : PlainRequest → List PlainRequest → Bool
fits_all p known = fits_by (known_at known (stored_key (entry_of p))) (shown p)

-- the table has what requests say
abbrev pub Knows : {S : Type 0} → HashMap (List ℕ) Seen S → List PlainRequest → Type 0
Knows table known = (k : List ℕ) → get (pointwise ◌==◌) table k ≡ known_at known k

-- ---- one request after another

abbrev pub some : PlainRequest → Option PlainRequest
some p = Some p

-- whether those that were seen are uniform; where they are, what is known is of them
abbrev pub AreNoted : Bool → List (Option PlainRequest) → (List PlainRequest → Type 0) → Type 0
AreNoted true seen IsKnown = (known : List PlainRequest) × (seen ≡ map some known) × plain.IsUniform known × IsKnown known
AreNoted false seen IsKnown = IsUniform seen → ⊥
