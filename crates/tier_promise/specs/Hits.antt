-- What a key shows that is whole and fresh: by a state, and by what calls changed.
use Rattle.std.specs.Prelude.{List, [], ◌∷◌, if◌then◌else◌, Option, Some, None}
use Rattle.cache_words.specs.Time.{MomentValue}
use Rattle.cache_heads.specs.declared.meta.CacheMeta.{CacheMeta}
use Rattle.cache_changes.specs.Changes.{StoredKey}
use Rattle.tier_model.specs.declared.state.Body.{Body}
use Rattle.tier_model.specs.Answers.{is_fresh}
use Rattle.tier_model.specs.Shelf.{Look, absent, in_flight, finished}
use Rattle.tier_promise.specs.Promise.{Write, Changes, as_body, flying, body_of}

-- the meta of what is found: of a write in flight that of its head, of a finished body the one that is stored with it
abbrev pub head_at : Look → Option CacheMeta
head_at absent = None
head_at (in_flight f) = Some f.meta
head_at (finished x) = Some x.body.meta

-- the body that is found, if it is whole and fresh
abbrev pub hit_at : MomentValue → Look → Option Body
hit_at t (finished x) = if is_fresh t x.body.meta then Some x.body else None
hit_at t _ = None

-- the same by what calls changed: of the key no write is in flight, and its body is fresh
abbrev pub fresh_in : MomentValue → Changes → Option Write → Option Body
fresh_in t c None = None
fresh_in t c (Some w) = if is_fresh t w.meta then Some (as_body w c) else None

abbrev pub unless_any : List Write → Option Body → Option Body
unless_any [] b = b
unless_any (w ∷ ws) b = None

abbrev pub hit_in : MomentValue → StoredKey → Changes → Option Body
hit_in t k c = unless_any (flying k c) (fresh_in t c (body_of k c))
