-- The lifetime that a response has by its status alone.
use Rattle.std.specs.Prelude.{ℕ, ◌==◌, if◌then◌else◌, Option}
use Rattle.cache_words.specs.Time.{DurationValue}
use Rattle.cache_heads.specs.declared.defaults.CacheMetaDefaults.{CacheMetaDefaults}

-- a 304 renews a 200, and has its lifetime
abbrev pub renewed_status : ℕ → ℕ
renewed_status status = if status == 304 then 200 else status

abbrev pub status_lifetime : {F : Type 0} → (F → ℕ → Option DurationValue) → CacheMetaDefaults F → ℕ → Option DurationValue
status_lifetime duration defaults status = duration defaults.fresh_sec_fn (renewed_status status)
