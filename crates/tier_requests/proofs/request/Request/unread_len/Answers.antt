use Rattle.std.proofs.Common.{◌≡◌, Some, sym, ap, ◌∙◌, subst, None}
use Rattle.tier_model.specs.Sizes.{unread_len}
use Rattle.tier_model.specs.State.{Request}
use Rattle.tier_requests.proofs.SizeLaws.{len-none, len-of, len-stream}
use Rattle.tier_requests.proofs.request.Request.unread_len.Goals as goal

pub returns-in_default : goal.returns-in_default
returns-in_default g c =
    let i = c.self.inside in
    subst (λ (q : Request). None ≡ unread_len q.reader) c.self.view_is (len-none i.unread i.cache.reader (sym c.in_default.ensures))

pub returns-in-Complete : goal.returns-in-Complete
returns-in-Complete g c =
    let i = c.self.inside in
    subst (λ (q : Request). c.len_of.result ≡ unread_len q.reader) c.self.view_is
    (len-of i.unread i.cache.reader _ c.len_of.result (sym c.in-Some.ensures ∙ ap Some c.in-Complete.is) c.len_of.ensures)

pub returns-in-Partial : goal.returns-in-Partial
returns-in-Partial g c =
    let i = c.self.inside in
    subst (λ (q : Request). None ≡ unread_len q.reader) c.self.view_is (len-stream i.unread i.cache.reader _ (sym c.in-Some.ensures ∙ ap Some c.in-Partial.is))
