use Rattle.std.proofs.Common.{sym, ◌∙◌}
use Rattle.tier_requests.specs.Shelves.{shelf_of}
use Rattle.tier_requests.specs.Plain.{share_of}
use Rattle.tier_requests.proofs.ShownLaws.{shown-meta, shown-refused, shown-let, key-of}
use Rattle.tier_requests.proofs.request.Request.shown.Goals as goal

pub returns-in-Some : goal.returns-in-Some
returns-in-Some g c = sym (shown-refused c.args.self.now (shelf_of c.args.store.now) _ (sym c.look_refusal.ensures ∙ c.in-Some.is))

pub returns : goal.returns
returns g c =
    let r = c.self.inside in
    let k = c.combined_bin.result in
    let same = key-of r.cache r.asks r.wait r.gave_read r.seen (share_of r.held) r.unread c.cache_key.result.now k c.cache_key.ensures c.combined_bin.ensures in
    shown-let c.args.self.now (shelf_of c.args.store.now) k (rw (← c.self.view_is) same) (sym c.look_refusal.ensures ∙ c.in_default.is)
    _ (shown-meta k c.args.store.now c.shown_meta.result c.shown_meta.ensures)
