use Rattle.std.proofs.Common.{◌≡◌, false, Option, ap, sym, subst, ◌∙◌, is_some, IfSome}
use Rattle.cache_heads.specs.declared.meta.CacheMeta.{CacheMeta}
use Rattle.cache_heads.specs.Merged.{merged}
use Rattle.tier_requests.specs.Plain.{share_of}
use Rattle.tier_requests.proofs.TableLaws.{renews_now}
use Rattle.tier_requests.proofs.RenewalLaws.{has-share, merged-as}
use Rattle.tier_requests.proofs.request.Request.merged.Goals as goal

-- one that may be confirmed holds the meta of what it found
pub unreachable-requires : goal.unreachable-requires
unreachable-requires g c =
    let r = c.self.inside in
    let may = ap renews_now c.self.view_is ∙ c.requires in
    let there = has-share r.cache r.asks r.wait r.gave_read r.seen (share_of r.held) r.unread c.self.invariant may in
    let never : is_some (share_of r.held) ≡ false = ap (λ o. is_some (share_of o)) c.in_default.is in
    absurd cc

pub returns-in-Ok-merged_head-clause-ok : goal.returns-in-Ok-merged_head-clause-ok
returns-in-Ok-merged_head-clause-ok g c =
    let r = c.self.inside in
    let may = ap renews_now c.self.view_is ∙ c.requires in
    let is = c.in-Ok-merged_head.ensures.ok ∙ ap (λ (m : CacheMeta). merged m.header c.args.sent.now) (c.in-Ok.ensures ∙ c.deref.ensures) in
    rw (← c.self.view_is)
    (merged-as r.cache r.asks r.wait r.gave_read r.seen (share_of r.held) r.unread c.self.invariant may c.args.sent.now c.in-Ok-merged_head.header
    (subst (λ (o : Option CacheMeta). IfSome o (λ m. c.in-Ok-merged_head.header ≡ merged m.header c.args.sent.now)) (sym (ap share_of c.in-Some.is)) is))
