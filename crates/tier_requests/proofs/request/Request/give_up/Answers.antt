use Rattle.std.proofs.Common.{None, ap, subst, ◌∙◌}
use Rattle.tier_model.specs.Checks.{can_begin}
use Rattle.tier_model.specs.State.{Request}
use Rattle.tier_requests.specs.Plain.{share_of, plain_of}
use Rattle.tier_requests.specs.Shelves.{shelf_of}
use Rattle.tier_requests.specs.Rows.{GivesUp}
use Rattle.tier_requests.proofs.BeginLaws.{given-up}
use Rattle.tier_requests.proofs.request.Request.give_up.Goals as goal

pub returns-clause-given_up : goal.returns-clause-given_up
returns-clause-given_up g c =
    let r = c.self.inside in
    let may = ap (λ (q : Request). can_begin q.phase q.gave_read) c.self.view_is ∙ c.requires in
    let new = plain_of c.disable.new.self r.asks r.wait r.gave_read r.seen None None in
    subst (λ (q : Request). GivesUp q (shelf_of c.args.parts.now.store) c.args.parts.now.lock new (shelf_of c.disable.new.parts.store) c.disable.new.parts.lock) c.self.view_is
    (given-up r.cache r.asks r.wait r.gave_read r.seen (share_of r.held) r.unread c.self.invariant may _ c.args.parts.now.store c.disable.new.parts.store c.args.parts.now.lock c.disable.new.parts.lock c.disable.new.self c.disable.ensures.disabled)
