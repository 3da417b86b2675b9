-- What a predictor says of a request's key.
use Rattle.std.specs.Prelude.{is_none, ℕ, Bool, true, List, Option, Some, None}
use Rattle.cache_words.specs.Key.{CacheKeyValue, key_of}
use Rattle.cache_heads.specs.declared.reason.NoCacheReason.{NoCacheReason}

-- the reason that is reported, where the predictor is on
abbrev pub told_by : Bool → (List ℕ → Option NoCacheReason) → Option CacheKeyValue → Option NoCacheReason
told_by true tells (Some key) = tells (key_of key).primary
told_by _ tells _ = None

-- the response is predicted to be kept: no reason against it is known, or the predictor is off
abbrev pub is_predicted : Bool → (List ℕ → Option NoCacheReason) → Option CacheKeyValue → Bool
is_predicted true reason_of (Some key) = is_none (reason_of (key_of key).primary)
is_predicted _ reason_of _ = true

-- the predictor after the key was reported to it, where it is on
abbrev pub told_of : {P : Type 0} → Bool → (List ℕ → P) → Option CacheKeyValue → P → P
told_of true change (Some key) p = change (key_of key).primary
told_of _ change _ p = p
