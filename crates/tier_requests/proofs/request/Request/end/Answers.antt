use Rattle.std.proofs.Common.{◌≡◌, false, subst}
use Rattle.tier_model.specs.State.{closed, Request}
use Rattle.tier_model.specs.Shelf.{landed}
use Rattle.tier_model.specs.After.{turned, on_write}
use Rattle.tier_requests.specs.Shelves.{shelf_of}
use Rattle.tier_requests.proofs.EndLaws.{shelf-ends}
use Rattle.tier_requests.proofs.request.Request.end.Goals as goal

pub returns-clause-shelf : goal.returns-clause-shelf
returns-clause-shelf g c =
    let i = c.self.inside in
    let old = c.args.parts.now.store in
    let new = c.end.new.parts.store in
    subst (λ (q : Request). shelf_of new ≡ turned q.reader closed (on_write q.write (landed false) (shelf_of old))) c.self.view_is
    (shelf-ends i.unread i.cache.reader i.cache.writer old new c.end.ensures.store)
