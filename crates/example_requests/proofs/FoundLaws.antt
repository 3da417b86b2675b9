-- What a request found.
use Rattle.std.proofs.Common.{◌≡◌, refl, ap, ◌∙◌, subst}
use Rattle.std.specs.Prelude.{Bool, true, false, Option, Some, None, option_map, if◌then◌else◌}
use Rattle.cache_words.specs.Time.{MomentValue}
use Rattle.cache_heads.specs.Fresh.{is_fresh_at}
use Rattle.cache_heads.specs.declared.meta.CacheMeta.{CacheMeta}
use Rattle.cache_store.specs.Answers.{Look, in_flight, finished}
use Rattle.cache_store.specs.StoreState.{StoreState}
use Rattle.cache_store.specs.Readers.{Reader}
use Rattle.request_phases.specs.declared.hit.HitStatus.{HitStatus}
use Rattle.request_phases.specs.declared.hit.HitStatus.TheVariants.{Fresh, Expired}
use Rattle.request_phases.specs.declared.phase.CachePhase.{CachePhase}
use Rattle.request_phases.specs.declared.phase.CachePhase.TheVariants as phases
use Rattle.request_phases.specs.HitStatuses.{found_phase}
use Rattle.request_cache.specs.Founds.{kept}
use Rattle.request_store.specs.Looks.{valid_look, IsValidFound}
use Rattle.example_requests.specs.Steps.{phase_at, reader_for}

abbrev pub status-of : Bool → HitStatus
status-of fresh = if fresh then Fresh else Expired

phase-by : (fresh : Bool) (before : CachePhase) → found_phase (status-of fresh) before ≡ (if fresh then phases.Hit else phases.Stale)
phase-by true before = refl
phase-by false before = refl

kept-by : {H : Type 0} (fresh : Bool) (hit : H) → kept (status-of fresh) hit ≡ Some hit
kept-by true hit = refl
kept-by false hit = refl

module _ {H : Type 0} (reader : H → Reader) (old new : StoreState) (meta : CacheMeta) (hit : H) (moment : MomentValue) where
  abbrev Finds : Option MomentValue → Option Look → Type 0
  Finds since look = IsValidFound reader (valid_look since look) old (Some (meta, hit)) new

  abbrev phase-of : CacheMeta → CachePhase
  phase-of m = if is_fresh_at m.internal.fresh_until moment then phases.Hit else phases.Stale

  found-meta : (look : Option Look) → Finds None look → phase-of meta ≡ phase_at moment look
  found-meta None f = let e = f.0 in absurd cc
  found-meta (Some (finished x)) f = ap phase-of f.0.0
  found-meta (Some (in_flight x)) f = ap phase-of f.0.0

  found-reader : (look : Option Look) → Finds None look → Some (reader hit) ≡ option_map reader_for look
  found-reader None f = let e = f.0 in absurd cc
  found-reader (Some (finished x)) f = ap (λ (r : Reader). Some r) f.0.1
  found-reader (Some (in_flight x)) f = ap (λ (r : Reader). Some r) f.0.1

  module _ (look : Option Look) (since : Option MomentValue) (status : HitStatus) (n : since ≡ None) (e : status ≡ status-of (is_fresh_at meta.internal.fresh_until moment)) where
    as-shown : Finds since look → Finds None look
    as-shown f = subst (λ (s : Option MomentValue). Finds s look) n f

    -- the phase is that of what the store shows, at the moment
    pub phase-found : (before : CachePhase) → Finds since look → found_phase status before ≡ phase_at moment look
    phase-found before f =
        ap (λ (s : HitStatus). found_phase s before) e ∙ (phase-by (is_fresh_at meta.internal.fresh_until moment) before ∙ found-meta look (as-shown f))

    -- and what is kept reads it
    pub reader-found : Finds since look → option_map reader (kept status hit) ≡ option_map reader_for look
    reader-found f =
        ap (λ (s : HitStatus). option_map reader (kept s hit)) e
        ∙ (ap (option_map reader) (kept-by (is_fresh_at meta.internal.fresh_until moment) hit) ∙ found-reader look (as-shown f))
