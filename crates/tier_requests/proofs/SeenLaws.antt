-- What a request has seen, as the plain record has it.
use Rattle.std.proofs.Common.{◌≡◌, ℕ, refl, ap, sym, ◌∙◌, true, false, cond, Some, None, Option}
use Rattle.std.specs.Prelude.{option_map}
use Rattle.cache_words.specs.Time.{MomentValue}
use Rattle.cache_heads.specs.declared.meta.CacheMeta.{CacheMeta}
use Rattle.cache_heads.specs.Merged.{with_provenance_of}
use Rattle.request_phases.specs.declared.phase.CachePhase.{CachePhase}
use Rattle.request_phases.specs.declared.phase.CachePhase.TheVariants as phases
use Rattle.request_phases.specs.Phases.{is_stale_phase}
use Rattle.cache_store.specs.Readers.{number_read}
use Rattle.store_memory.specs.declared.handlers.MemHitHandler.{MemHitHandler}
use Rattle.store_memory.specs.Readings.{reader_of}
use Rattle.tier_model.specs.Shelf.{Look, absent, in_flight, finished}
use Rattle.tier_model.specs.State.{Seen}
use Rattle.tier_model.specs.Answers.{is_fresh, finds_fresh}
use Rattle.tier_model.specs.After as model
use Rattle.tier_requests.specs.Plain.{without_head, as_seen, seen_in}
use Rattle.tier_requests.specs.Finds.{IsReadBy}
use Rattle.tier_requests.specs.Shown.{meta_found}

-- what is past its moment, or isn't
past_fresh : (t : MomentValue) (n : ℕ) (meta : CacheMeta) → is_fresh t meta ≡ true → None ≡ model.seen_past t n meta
past_fresh t n meta fresh = ap (λ v. cond v None (Some (as_seen n meta))) (sym fresh)

past_stale : (t : MomentValue) (n : ℕ) (meta : CacheMeta) → is_fresh t meta ≡ false → Some (as_seen n meta) ≡ model.seen_past t n meta
past_stale t n meta stale = ap (λ v. cond v None (Some (as_seen n meta))) (sym stale)

-- of what is fresh nothing is kept
pub seen-fresh : (t : MomentValue) (l : Look) → finds_fresh t l ≡ true → None ≡ model.seen_in t l
seen-fresh t absent fresh = refl
seen-fresh t (in_flight f) fresh = past_fresh t f.number f.meta fresh
seen-fresh t (finished x) fresh = past_fresh t x.number x.body.meta fresh

-- of what is past its moment the number of its write and its meta are kept
pub seen-stale : (t : MomentValue) (l : Look) (meta : CacheMeta) (hit : MemHitHandler) → finds_fresh t l ≡ false → meta_found l ≡ Some meta → IsReadBy l hit → Some (as_seen (number_read (reader_of hit)) meta) ≡ model.seen_in t l
seen-stale t absent meta hit stale is reads = absurd reads
seen-stale t (in_flight f) meta hit stale is reads =
    let same : f.meta ≡ meta = cc in
    (λ i. Some (as_seen (number_read (reads i)) (sym same i))) ∙ past_stale t f.number f.meta stale
seen-stale t (finished x) meta hit stale is reads =
    let same : x.body.meta ≡ meta = cc in
    (λ i. Some (as_seen (number_read (reads.0 i)) (sym same i))) ∙ past_stale t x.number x.body.meta stale

-- a write keeps the provenance of what its request has seen
pub meta-kept : (p : CachePhase) (n : ℕ) (old share : Option CacheMeta) (meta : CacheMeta) → (is_stale_phase p ≡ true → old ≡ option_map without_head share)
    → cond (is_stale_phase p) (with_provenance_of old meta) meta ≡ with_provenance_of (option_map (λ (x : Seen). x.meta) (seen_in p n share)) meta
meta-kept phases.Stale n old None meta bare = ap (λ (o : Option CacheMeta). with_provenance_of o meta) (bare refl)
meta-kept phases.Stale n old (Some x) meta bare = ap (λ (o : Option CacheMeta). with_provenance_of o meta) (bare refl)
meta-kept _ n old share meta bare = refl
