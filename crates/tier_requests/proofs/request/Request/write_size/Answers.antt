use Rattle.std.proofs.Common.{◌≡◌, ℕ, Some, None, Option, sym, ap, ◌∙◌, subst}
use Rattle.std.specs.Prelude.{option_and_then}
use Rattle.tier_model.specs.Sizes.{flight_size}
use Rattle.tier_model.specs.State.{Request}
use Rattle.tier_requests.specs.Shelves.{shelf_of}
use Rattle.tier_requests.proofs.SizeLaws.{size-of, size-none}
use Rattle.tier_requests.proofs.request.Request.write_size.Goals as goal

pub returns-in-Some : goal.returns-in-Some
returns-in-Some g c =
    let i = c.self.inside in
    subst (λ (q : Request). c.write_size.result ≡ option_and_then (flight_size (shelf_of c.args.parts.now.store)) q.write) c.self.view_is
    (size-of i.cache.writer c.number.result c.args.parts.now.store c.write_size.result (sym c.in-Some.ensures ∙ ap Some (sym c.number.ensures)) c.write_size.ensures)

pub returns-in-None : goal.returns-in-None
returns-in-None g c =
    let i = c.self.inside in
    subst (λ (q : Request). None ≡ option_and_then (flight_size (shelf_of c.args.parts.now.store)) q.write) c.self.view_is (size-none i.cache.writer c.args.parts.now.store (sym c.in-None.ensures))
