use Rattle.std.proofs.Common.{◌≡◌, true, ap, sym, ◌∙◌}
use Rattle.std.specs.Prelude.{is_some}
use Rattle.tier_model.specs.Answers.{is_that_write}
use Rattle.tier_model.specs.State.{Request}
use Rattle.tier_requests.specs.Plain.{share_of, seen_in}
use Rattle.tier_requests.proofs.RenewalLaws.{body-seen, seen-is, seen-none}
use Rattle.tier_requests.proofs.request.Request.finds_its_body.Goals as goal

pub returns-in-Some : goal.returns-in-Some
returns-in-Some g c =
    let r = c.self.inside in
    let is_seen : c.has_seen.result ≡ is_some (seen_in r.cache.phase r.seen (share_of r.held)) = c.has_seen.ensures ∙ ap (λ (q : Request). is_some q.seen) (sym c.self.view_is) in
    let there : is_some (seen_in r.cache.phase r.seen (share_of r.held)) ≡ true = (let e = c.if-not-has_seen.false in cc) in
    rw (← c.self.view_is)
    (seen-is r.cache.phase r.seen c.in-Some.number (share_of r.held) there ∙ ap (is_that_write (seen_in r.cache.phase r.seen (share_of r.held))) (sym c.in-Some.is)
    ∙ sym (body-seen r.cache r.asks r.wait r.gave_read r.seen (share_of r.held) r.unread c.cache_key.result.now c.combined_bin.result c.args.store.now c.body_number.result c.cache_key.ensures c.combined_bin.ensures c.body_number.ensures))

pub returns-in-None : goal.returns-in-None
returns-in-None g c =
    let r = c.self.inside in
    rw (← c.self.view_is)
    (sym (seen-none (seen_in r.cache.phase r.seen (share_of r.held))) ∙ ap (is_that_write (seen_in r.cache.phase r.seen (share_of r.held))) (sym c.in-None.is)
    ∙ sym (body-seen r.cache r.asks r.wait r.gave_read r.seen (share_of r.held) r.unread c.cache_key.result.now c.combined_bin.result c.args.store.now c.body_number.result c.cache_key.ensures c.combined_bin.ensures c.body_number.ensures))
