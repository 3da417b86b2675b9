use Rattle.std.proofs.Common.{◌≡◌, Some, sym, ap, ◌∙◌, subst}
use Rattle.cache_store.specs.Readers.{whole_past}
use Rattle.store_memory.specs.declared.handlers.MemHitHandler.{MemHitHandler}
use Rattle.tier_model.specs.Answers.{whole_read}
use Rattle.tier_model.specs.State.{Request}
use Rattle.tier_requests.specs.Shelves.{shelf_of}
use Rattle.tier_requests.proofs.WholeLaws.{tells-none, tells-body, tells-stream}
use Rattle.tier_requests.proofs.request.Request.is_whole.Goals as goal

pub returns-in_default : goal.returns-in_default
returns-in_default g c =
    let i = c.self.inside in
    subst (λ (q : Request). c.whole_without.result ≡ whole_read q.reader (shelf_of c.args.parts.now.store)) c.self.view_is
    (tells-none i.unread i.cache.reader c.args.parts.now.store c.whole_without.result (sym c.in_default.ensures) c.whole_without.ensures)

pub returns-in-Complete : goal.returns-in-Complete
returns-in-Complete g c =
    let i = c.self.inside in
    subst (λ (q : Request). c.whole_once_read.result ≡ whole_read q.reader (shelf_of c.args.parts.now.store)) c.self.view_is
    (tells-body i.unread i.cache.reader _ c.args.parts.now.store c.whole_once_read.result (sym c.in-Some.ensures ∙ ap Some c.in-Complete.is) c.whole_once_read.ensures)

pub returns-in-Partial : goal.returns-in-Partial
returns-in-Partial g c =
    let i = c.self.inside in
    subst (λ (q : Request). c.whole_past.result ≡ whole_read q.reader (shelf_of c.args.parts.now.store)) c.self.view_is
    (tells-stream i.unread i.cache.reader _ c.args.parts.now.store c.whole_past.result (sym c.in-Some.ensures ∙ ap Some c.in-Partial.is)
    (c.whole_past.ensures ∙ (λ j. whole_past (c.number.ensures j) (c.place.ensures j) c.args.parts.now.store)))
