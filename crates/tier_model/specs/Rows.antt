-- Words on finished bodies, each under its stored key.
use Rattle.std.specs.Prelude.{ℕ, ◌+◌, max, List, [], ◌∷◌, length, Option, Some, None, option_map}
use Rattle.std.specs.Ordering.{nat_cmp}
use Rattle.std.specs.Cmp.Lexicographic.{slice_cmp}
use Rattle.std.specs.FinMap.{FinMap, get, insert, remove}
use Rattle.cache_heads.specs.Meta.{meta_weight}
use Rattle.cache_heads.specs.declared.meta.CacheMeta.{CacheMeta}
use Rattle.cache_entries.specs.declared.entry.CacheEntryKey.{CacheEntryKey}
use Rattle.cache_changes.specs.Changes.{StoredKey, stored_key, key_alone}
use Rattle.tier_model.specs.declared.state.Body.{Body}
use Rattle.tier_model.specs.Keys.{Entry}

-- a body as it is held: with the number of its write
pub record Numbered : Type 0 where
  pub number : ℕ
  pub body : Body

-- finished bodies by their stored keys, which are in the order of their bytes
abbrev pub Bodies : Type 0
Bodies = FinMap (slice_cmp nat_cmp) Numbered

-- the body of a key
abbrev pub body_of : StoredKey → Bodies → Option Body
body_of k bodies = option_map (λ x. x.body) (get bodies k)

-- the number of its write
abbrev pub number_at : StoredKey → Bodies → Option ℕ
number_at k bodies = option_map (λ x. x.number) (get bodies k)

abbrev pub without_body : StoredKey → Bodies → Bodies
without_body k bodies = remove bodies k

-- the same of no key
abbrev pub without_key : Option StoredKey → Bodies → Bodies
without_key None bodies = bodies
without_key (Some k) bodies = without_body k bodies

-- the bodies of these entries' stored keys are gone, under whatever tag they were stored; an entry with an id takes none along
abbrev pub without_bodies : List CacheEntryKey → Bodies → Bodies
without_bodies [] bodies = bodies
without_bodies (e ∷ es) bodies = without_bodies es (without_key (key_alone e) bodies)

-- a body that is finished under an entry
pub record FinishedBody : Type 0 where
  pub entry : Entry
  pub body : Body

-- it takes the place of the one before it, with the number of its write
abbrev pub with_body : ℕ → FinishedBody → Bodies → Bodies
with_body n b bodies = insert bodies (stored_key b.entry) (record { number = n; body = b.body })

abbrev pub with_meta_in : Option Numbered → StoredKey → CacheMeta → Bodies → Bodies
with_meta_in None k meta bodies = bodies
with_meta_in (Some x) k meta bodies = insert bodies k (record x { body = record x.body { meta = meta } })

-- the body of a key has another meta
abbrev pub with_meta : StoredKey → CacheMeta → Bodies → Bodies
with_meta k meta bodies = with_meta_in (get bodies k) k meta bodies

-- what a body takes: its bytes, what it has outside, and its meta as it is written
abbrev pub size_of : Body → ℕ
size_of b = length b.bytes + meta_weight b.meta

-- what a body weighs
abbrev pub weight_for : Body → ℕ
weight_for b = max 1 (size_of b)
