use Rattle.std.proofs.Common.{None, ap, subst, ◌∙◌}
use Rattle.cache_heads.specs.declared.reason.NoCacheReason.TheVariants.{OriginNotCache}
use Rattle.request_phases.specs.Phases.{is_stale_phase}
use Rattle.tier_model.specs.State.{Request}
use Rattle.tier_requests.specs.Plain.{Driven, share_of, plain_of}
use Rattle.tier_requests.specs.Renewals.{RenewsNot}
use Rattle.tier_requests.proofs.TableLaws.{renews_now}
use Rattle.tier_requests.proofs.RenewalLaws.{is-stale, has-meta, driven-refused, refused-as}
use Rattle.tier_requests.proofs.request.Request.revalidate_uncacheable.Goals as goal

pub revalidate_uncacheable-requires-clause-phase : goal.revalidate_uncacheable-requires-clause-phase
revalidate_uncacheable-requires-clause-phase g c =
    let r = c.self.inside in
    let may = ap renews_now c.self.view_is ∙ c.requires in
    ap is_stale_phase (is-stale r.cache r.asks r.wait r.gave_read r.seen (share_of r.held) r.unread c.self.invariant may)

pub revalidate_uncacheable-requires-clause-meta : goal.revalidate_uncacheable-requires-clause-meta
revalidate_uncacheable-requires-clause-meta g c =
    let r = c.self.inside in
    let may = ap renews_now c.self.view_is ∙ c.requires in
    has-meta r.cache r.asks r.wait r.gave_read r.seen (share_of r.held) r.unread c.self.invariant may

pub invariant_of-self : goal.invariant_of-self
invariant_of-self g c =
    let r = c.self.inside in
    let may = ap renews_now c.self.view_is ∙ c.requires in
    driven-refused r.cache r.asks r.wait r.gave_read r.seen (share_of r.held) r.unread c.self.invariant may OriginNotCache c.forget_cache_meta.new.self
    (c.forget_cache_meta.ensures ∙ ap (λ (x : Driven). record x { meta = None }) c.revalidate_uncacheable.ensures.request)

pub returns-clause-answer : goal.returns-clause-answer
returns-clause-answer g c =
    let r = c.self.inside in
    let may = ap renews_now c.self.view_is ∙ c.requires in
    let now = plain_of c.forget_cache_meta.new.self r.asks r.wait r.gave_read r.seen None r.unread in
    let parts = c.revalidate_uncacheable.new.parts in
    subst (λ (q : Request). RenewsNot q c.args.parts.now.lock now parts.lock) c.self.view_is
    (refused-as r.cache r.asks r.wait r.gave_read r.seen (share_of r.held) r.unread c.self.invariant may OriginNotCache c.args.parts.now.lock parts.lock c.forget_cache_meta.new.self
    (c.forget_cache_meta.ensures ∙ ap (λ (x : Driven). record x { meta = None }) c.revalidate_uncacheable.ensures.request) c.revalidate_uncacheable.ensures.lock)
