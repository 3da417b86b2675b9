use Rattle.std.proofs.Common.{ap, sym, subst, ◌∙◌}
use Rattle.cache_heads.specs.Merged.{renewed_from}
use Rattle.request_store.specs.Admissions.{cache_of}
use Rattle.request_phases.specs.Phases.{is_stale_phase}
use Rattle.request_cache.specs.Revalidations.{is_confirmed}
use Rattle.tier_model.specs.Calls.{Outcome}
use Rattle.tier_model.specs.State.{Request}
use Rattle.tier_requests.specs.Plain.{Driven, share_of, plain_of}
use Rattle.tier_requests.specs.Renewals.{forgotten, left_held, Renews}
use Rattle.tier_requests.proofs.TableLaws.{renews_now}
use Rattle.tier_requests.proofs.RenewalLaws.{is-stale, has-meta, driven-renewed, renewed-as, no-id}
use Rattle.tier_requests.proofs.request.Request.revalidate.Goals as goal

pub revalidate_cache_meta-came-requires-clause-phase : goal.revalidate_cache_meta-came-requires-clause-phase
revalidate_cache_meta-came-requires-clause-phase g c =
    let r = c.self.inside in
    let may = ap renews_now c.self.view_is ∙ c.requires in
    ap is_stale_phase (is-stale r.cache r.asks r.wait r.gave_read r.seen (share_of r.held) r.unread c.self.invariant may)

pub revalidate_cache_meta-came-requires-clause-meta : goal.revalidate_cache_meta-came-requires-clause-meta
revalidate_cache_meta-came-requires-clause-meta g c =
    let r = c.self.inside in
    let may = ap renews_now c.self.view_is ∙ c.requires in
    has-meta r.cache r.asks r.wait r.gave_read r.seen (share_of r.held) r.unread c.self.invariant may

pub invariant_of-self : goal.invariant_of-self
invariant_of-self g c =
    let r = c.self.inside in
    let may = ap renews_now c.self.view_is ∙ c.requires in
    driven-renewed r.cache r.asks r.wait r.gave_read r.seen (share_of r.held) r.unread c.self.invariant may (renewed_from r.cache.meta c.args.meta) (is_confirmed c.revalidate_cache_meta-came.result) c.forget_confirmed.new.cache (share_of c.forget_confirmed.new.held)
    (c.forget_confirmed.ensures.cache ∙ ap forgotten c.revalidate_cache_meta-came.ensures.request)
    (c.forget_confirmed.ensures.held ∙ ap (λ (x : Driven). left_held x (share_of r.held)) c.revalidate_cache_meta-came.ensures.request)

pub returns-clause-answer : goal.returns-clause-answer
returns-clause-answer g c =
    let r = c.self.inside in
    let may = ap renews_now c.self.view_is ∙ c.requires in
    let n = g.E.EvictionManager.shard_count in
    let weighed = g.E.EvictionManager.weighed in
    let pick = g.E.EvictionManager.pick in
    let old = cache_of c.args.parts.now.store (g.E.EvictionManager.managed c.args.parts.now.manager) (g.R.Rng.stream c.args.rng.now) in
    let parts = c.revalidate_cache_meta-came.new.parts in
    let left = cache_of parts.store (g.E.EvictionManager.managed parts.manager) (g.R.Rng.stream c.revalidate_cache_meta-came.new.rng) in
    let now = plain_of c.forget_confirmed.new.cache r.asks r.wait r.gave_read r.seen (share_of c.forget_confirmed.new.held) r.unread in
    subst (λ (q : Request). Renews n weighed pick c.args.meta q old c.args.parts.now.lock c.told_of_renewal.result now left parts.lock) c.self.view_is
    (subst (λ (o : Outcome). Renews n weighed pick c.args.meta (plain_of r.cache r.asks r.wait r.gave_read r.seen (share_of r.held) r.unread) old c.args.parts.now.lock o now left parts.lock) (sym c.told_of_renewal.ensures)
    (renewed-as r.cache r.asks r.wait r.gave_read r.seen (share_of r.held) r.unread c.self.invariant may n weighed pick c.args.meta c.revalidate_cache_meta-came.result old left _ c.args.parts.now.lock parts.lock c.forget_confirmed.new.cache (share_of c.forget_confirmed.new.held)
    (no-id r.cache.reader)
    c.revalidate_cache_meta-came.ensures.revalidated (c.forget_confirmed.ensures.cache ∙ ap forgotten c.revalidate_cache_meta-came.ensures.request)
    (c.forget_confirmed.ensures.held ∙ ap (λ (x : Driven). left_held x (share_of r.held)) c.revalidate_cache_meta-came.ensures.request) c.revalidate_cache_meta-came.ensures.lock))
