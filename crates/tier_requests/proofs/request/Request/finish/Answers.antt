use Rattle.std.proofs.Common.{◌≡◌, true, sym, subst}
use Rattle.request_store.specs.Admissions.{cache_of}
use Rattle.request_phases.specs.Phases.{is_write_phase}
use Rattle.request_cache.specs.Finishes.{finish_status}
use Rattle.tier_model.specs.Calls.{Outcome}
use Rattle.tier_model.specs.State.{Request}
use Rattle.tier_requests.specs.Finishes.{FinishAnswer}
use Rattle.tier_requests.specs.Plain.{share_of, plain_of}
use Rattle.tier_requests.proofs.FinishLaws.{driven-finished, finished-as}
use Rattle.tier_requests.proofs.request.Request.finish.Goals as goal

pub invariant_of-self : goal.invariant_of-self
invariant_of-self g c =
    let r = c.self.inside in
    driven-finished r.cache r.asks r.wait r.gave_read r.seen (share_of r.held) r.unread c.self.invariant (finish_status c.finish_miss_handler.result) _ c.finish_miss_handler.new.self c.finish_miss_handler.ensures.request

pub returns-clause-answer : goal.returns-clause-answer
returns-clause-answer g c =
    let r = c.self.inside in
    let writing : is_write_phase r.cache.phase ≡ true = (let a = c.phase.ensures in let b = c.is_write_phase.ensures in let e = c.if-not-is_write_phase.false in cc) in
    let n = g.E.EvictionManager.shard_count in
    let weighed = g.E.EvictionManager.weighed in
    let pick = g.E.EvictionManager.pick in
    let old = cache_of c.args.parts.now.store (g.E.EvictionManager.managed c.args.parts.now.manager) (g.R.Rng.stream c.args.rng.now) in
    let left = cache_of c.finish_miss_handler.new.parts.store (g.E.EvictionManager.managed c.finish_miss_handler.new.parts.manager) (g.R.Rng.stream c.finish_miss_handler.new.rng) in
    let now = plain_of c.finish_miss_handler.new.self r.asks r.wait r.gave_read r.seen (share_of r.held) r.unread in
    subst (λ (q : Request). FinishAnswer n weighed pick q.write q old c.told_of.result now left) c.self.view_is
    (subst (λ (o : Outcome). FinishAnswer n weighed pick r.cache.writer (plain_of r.cache r.asks r.wait r.gave_read r.seen (share_of r.held) r.unread) old o now left) (sym c.told_of.ensures)
    (finished-as r.cache r.asks r.wait r.gave_read r.seen (share_of r.held) r.unread c.self.invariant n weighed pick c.finish_miss_handler.result old left _ c.finish_miss_handler.new.self writing c.finish_miss_handler.ensures.finished
    c.finish_miss_handler.ensures.request))
