-- What a request that looked up may do.
use Rattle.std.proofs.Common.{◌≡◌, ap}
use Rattle.std.specs.Prelude.{Bool, true, false, Option, Some, None, if◌then◌else◌}
use Rattle.cache_words.specs.Time.{MomentValue}
use Rattle.cache_heads.specs.Fresh.{is_fresh_at}
use Rattle.cache_store.specs.Answers.{Look}
use Rattle.request_phases.specs.declared.phase.CachePhase.{CachePhase}
use Rattle.request_phases.specs.declared.phase.CachePhase.TheVariants as phases
use Rattle.request_phases.specs.Phases.{can_begin}
use Rattle.request_store.specs.Looks.{meta_of}
use Rattle.example_requests.specs.Steps.{phase_at}

stale-begins : (fresh : Bool) (p : CachePhase) → p ≡ (if fresh then phases.Hit else phases.Stale) → (p ≡ phases.Hit → ⊥) → can_begin p ≡ true
stale-begins true p e n = absurd (n e)
stale-begins false p e n = ap can_begin e

-- what isn't a `Hit` may begin a write
pub begins : (moment : MomentValue) (look : Option Look) (p : CachePhase) → p ≡ phase_at moment look → (p ≡ phases.Hit → ⊥) → can_begin p ≡ true
begins moment None p e n = ap can_begin e
begins moment (Some look) p e n = stale-begins (is_fresh_at (meta_of look).internal.fresh_until moment) p e n
