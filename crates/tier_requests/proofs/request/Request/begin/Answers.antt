use Rattle.std.proofs.Common.{None, ap, sym, subst, ◌∙◌}
use Rattle.request_cache.specs.Request.{stored_at}
use Rattle.request_cache.specs.Writes.{meta_for}
use Rattle.tier_model.specs.declared.event.TierFault.{TierFault}
use Rattle.tier_model.specs.Checks.{can_begin}
use Rattle.tier_model.specs.State.{Request}
use Rattle.tier_requests.specs.Plain.{Driven, share_of, plain_of, IsDriven}
use Rattle.tier_requests.specs.Shelves.{shelf_of}
use Rattle.tier_requests.specs.Rows.{Begins, BeginsNot}
use Rattle.tier_requests.proofs.OwnLaws.{driven-begun, begun-as}
use Rattle.tier_requests.proofs.UnbegunLaws.{refused-as}
use Rattle.tier_requests.proofs.request.Request.begin.Goals as goal

pub invariant_of-self : goal.invariant_of-self
invariant_of-self g c =
    let r = c.self.inside in
    let may = ap (λ (q : Request). can_begin q.phase q.gave_read) c.self.view_is ∙ c.requires.phase in
    subst (λ (x : Driven). IsDriven x r.asks r.wait r.gave_read None None) (sym c.ask_tag.ensures.same)
    (driven-begun r.cache r.asks r.wait r.gave_read r.seen (share_of r.held) r.unread c.self.invariant may c.args.meta c.args.parts.now.store c.begin_write.new.parts.store c.args.parts.now.lock c.begin_write.new.parts.lock
    c.begin_write.new.self c.ask_tag.ensures.named c.in-Ok.ensures.begun)

pub returns-in-Ok-clause-begun : goal.returns-in-Ok-clause-begun
returns-in-Ok-clause-begun g c =
    let r = c.self.inside in
    let may = ap (λ (q : Request). can_begin q.phase q.gave_read) c.self.view_is ∙ c.requires.phase in
    let now = plain_of c.ask_tag.new.cache r.asks r.wait r.gave_read r.seen None None in
    subst (λ (q : Request). Begins c.args.meta q (shelf_of c.args.parts.now.store) c.args.parts.now.lock now (shelf_of c.begin_write.new.parts.store) c.begin_write.new.parts.lock) c.self.view_is
    (subst (λ (x : Driven). Begins c.args.meta (plain_of r.cache r.asks r.wait r.gave_read r.seen (share_of r.held) r.unread) (shelf_of c.args.parts.now.store) c.args.parts.now.lock (plain_of x r.asks r.wait r.gave_read r.seen None None)
    (shelf_of c.begin_write.new.parts.store) c.begin_write.new.parts.lock) (sym c.ask_tag.ensures.same)
    (begun-as r.cache r.asks r.wait r.gave_read r.seen (share_of r.held) r.unread c.self.invariant may c.args.meta c.args.parts.now.store c.begin_write.new.parts.store c.args.parts.now.lock c.begin_write.new.parts.lock
    c.begin_write.new.self c.ask_tag.ensures.named c.in-Ok.ensures.begun))

pub returns-in-Err : goal.returns-in-Err
returns-in-Err g c =
    let r = c.self.inside in
    let b = c.in-Err.ensures.begun in
    record {
      begun = tt;
      refused = subst (λ (f : TierFault). BeginsNot (shelf_of c.args.parts.now.store) f (shelf_of c.begin_write.new.parts.store)) (sym c.begin_fault_for.ensures)
          (refused-as (stored_at r.cache.key) (meta_for c.args.meta r.cache) c.args.parts.now.store c.begin_write.new.parts.store c.requires.below c.in-Err.fault b.store);
      err = (ap (λ (x : Driven). plain_of x r.asks r.wait r.gave_read r.seen (share_of r.held) r.unread) b.request ∙ c.self.view_is, b.lock);
      parts = c.begin_write.ensures.parts;
    }
