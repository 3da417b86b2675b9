use Rattle.std.proofs.Common.{◌≡◌, subst, sym, ◌∙◌, ap}
use Rattle.tier_model.specs.State.{closed, Request}
use Rattle.tier_model.specs.After.{turned}
use Rattle.cache_store.specs.StoreState.{StoreState}
use Rattle.cache_store.specs.Readers.{PartsReader}
use Rattle.store_memory.specs.Readings.{reader_of}
use Rattle.request_store.specs.Spends.{Spends}
use Rattle.tier_requests.specs.Shelves.{shelf_of}
use Rattle.tier_requests.proofs.EndLaws.{shelf-spent}
use Rattle.tier_requests.proofs.RequestLaws.{spends-some, spends-none}
use Rattle.tier_requests.proofs.request.Request.spend_reader.Goals.{in-Some, in_default}
use Rattle.tier_requests.proofs.request.Request.spend_reader.Goals as goal

pub returns-clause-shelf : goal.returns-clause-shelf
returns-clause-shelf g c =
    let i = c.self.inside in
    let old = c.args.parts.now.store in
    let new = c.match-take_reader.parts.store in
    let spends : Spends reader_of i.cache.reader old new = elim c.match-take_reader.branch [
      | in-Some w ↦ spends-some i.cache.reader w.in-Some.hit old new (sym c.take_reader.ensures.reader ∙ w.in-Some.is) (subst (λ (h : StoreState). PartsReader (reader_of w.in-Some.hit) old h) (sym (ap (λ p. p.store) w.parts-is)) w.finish.ensures.parts)
      | in_default w ↦ spends-none i.cache.reader old new (sym c.take_reader.ensures.reader ∙ w.in_default.is) (ap (λ p. p.store) w.parts-is)
    ] in
    subst (λ (q : Request). shelf_of new ≡ turned q.reader closed (shelf_of old)) c.self.view_is (shelf-spent i.unread i.cache.reader old new spends)
