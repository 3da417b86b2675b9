use Rattle.std.proofs.Common.{◌≡◌, sym, subst, true, false, None, Some}
use Rattle.std.specs.Prelude.{Ok, Err}
use Rattle.std.specs.FinMap.{get}
use Rattle.std.proofs.lemmas.Result.{err_from_is_err_and}
use Rattle.head_lines.specs.declared.header.ResponseHeader.{ResponseHeader}
use Rattle.tier_model.specs.declared.event.TierFault.TheVariants.{NotStored}
use Rattle.tier_model.specs.State.{State}
use Rattle.tier_requests.specs.Shelves.{shelf_of}
use Rattle.tier_single.specs.declared.put.Renewal.TheVariants.{Renewed, NotRenewed}
use Rattle.tier_single.specs.declared.put.Verdict.TheVariants.{Kept, NotKept}
use Rattle.tier_single.specs.Heads.{IsVerdictOn}
use Rattle.tier_single.specs.States.{state_by}
use Rattle.tier_single.proofs.ConfirmLaws.{may_revalidate, confirmed-none, confirmed-memory, confirmed-gone, confirmed-kept, confirmed-fault, there, of-request, merged-of, found-of}
use Rattle.tier_single.proofs.RevalidateLaws.{known}
use Rattle.tier_single.proofs.tier.Tier.confirm_judged.Goals as goal

pub returns-in_err-sent : goal.returns-in_err-sent
returns-in_err-sent g c =
    let i = c.self.inside in
    let s : State = state_by i.parts.manager i.wait (shelf_of i.parts.store) i.parts.lock i.requests i.found i.absent in
    let may : may_revalidate (get i.requests c.args.id) ≡ Some true = subst (λ (x : State). may_revalidate (get x.requests c.args.id) ≡ Some true) (sym c.self.view_is) c.requires in
    let h = (known s c.args.id (c.self.invariant.2.0, c.self.invariant.2.1, c.self.invariant.2.2) may).seen in
    let p = err_from_is_err_and c.from_residual.result c.from_residual.ensures.1 in
    rw (← c.self.view_is, p.1, p.2) (of-request None c.args.moment c.args.head.now (get i.requests c.args.id) (shelf_of i.parts.store) h (Err c.in_err-sent.field-0.0)
    (confirmed-none c.args.moment c.args.head.now h.old (there None c.args.moment c.args.head.now (get i.requests c.args.id) (shelf_of i.parts.store) h) c.in_err-sent.field-0.0 c.in_err-sent.ensures))

pub returns-then-not-found : goal.returns-then-not-found
returns-then-not-found g c =
    let i = c.self.inside in
    let s : State = state_by i.parts.manager i.wait (shelf_of i.parts.store) i.parts.lock i.requests i.found i.absent in
    let may : may_revalidate (get i.requests c.args.id) ≡ Some true = subst (λ (x : State). may_revalidate (get x.requests c.args.id) ≡ Some true) (sym c.self.view_is) c.requires in
    let h = (known s c.args.id (c.self.invariant.2.0, c.self.invariant.2.1, c.self.invariant.2.2) may).seen in
    let off : c.finds_its_body-found.result ≡ false = cc c.if-not-found.true in
    let gone = found-of None c.args.moment c.args.head.now (get i.requests c.args.id) (shelf_of i.parts.store) h c.finds_its_body-found.result false off c.finds_its_body-found.ensures in
    rw (← c.self.view_is) (of-request None c.args.moment c.args.head.now (get i.requests c.args.id) (shelf_of i.parts.store) h (Err NotStored)
    (confirmed-gone c.args.moment c.args.head.now h.old _ c.in_ok-sent.sent c.in_ok-sent.ensures gone))

pub returns-in_err-merged : goal.returns-in_err-merged
returns-in_err-merged g c =
    let i = c.self.inside in
    let s : State = state_by i.parts.manager i.wait (shelf_of i.parts.store) i.parts.lock i.requests i.found i.absent in
    let may : may_revalidate (get i.requests c.args.id) ≡ Some true = subst (λ (x : State). may_revalidate (get x.requests c.args.id) ≡ Some true) (sym c.self.view_is) c.requires in
    let h = (known s c.args.id (c.self.invariant.2.0, c.self.invariant.2.1, c.self.invariant.2.2) may).seen in
    let p = err_from_is_err_and c.from_residual-in_err-merged.result c.from_residual-in_err-merged.ensures.1 in
    rw (← c.self.view_is, p.1, p.2) (of-request None c.args.moment c.args.head.now (get i.requests c.args.id) (shelf_of i.parts.store) h (Err c.in_err-merged.field-0.0)
    (confirmed-memory c.args.moment c.args.head.now h.old _ c.in_err-merged.field-0.0 c.in_err-merged.ensures.err))

pub returns-in_err-verdict : goal.returns-in_err-verdict
returns-in_err-verdict g c =
    let i = c.self.inside in
    let s : State = state_by i.parts.manager i.wait (shelf_of i.parts.store) i.parts.lock i.requests i.found i.absent in
    let may : may_revalidate (get i.requests c.args.id) ≡ Some true = subst (λ (x : State). may_revalidate (get x.requests c.args.id) ≡ Some true) (sym c.self.view_is) c.requires in
    let h = (known s c.args.id (c.self.invariant.2.0, c.self.invariant.2.1, c.self.invariant.2.2) may).seen in
    let on : c.finds_its_body-found.result ≡ true = cc c.if-not-found.false in
    let found = found-of None c.args.moment c.args.head.now (get i.requests c.args.id) (shelf_of i.parts.store) h c.finds_its_body-found.result true on c.finds_its_body-found.ensures in
    let header = merged-of None c.args.moment c.args.head.now (get i.requests c.args.id) (shelf_of i.parts.store) h c.in_ok-sent.sent c.in_ok-merged.merged c.in_ok-merged.ensures.ok in
    let p = err_from_is_err_and c.from_residual-in_err-verdict.result c.from_residual-in_err-verdict.ensures.1 in
    rw (← c.self.view_is, p.1, p.2) (of-request None c.args.moment c.args.head.now (get i.requests c.args.id) (shelf_of i.parts.store) h (Err c.in_err-verdict.field-0.0)
    (confirmed-fault c.args.moment c.args.head.now h.old _ c.in_ok-sent.sent c.in_ok-sent.ensures found c.in_err-verdict.field-0.0
    (subst (λ (x : ResponseHeader). IsVerdictOn None c.args.moment x (Err c.in_err-verdict.field-0.0)) header c.in_err-verdict.ensures)))

pub returns-in-Kept : goal.returns-in-Kept
returns-in-Kept g c =
    let i = c.self.inside in
    let s : State = state_by i.parts.manager i.wait (shelf_of i.parts.store) i.parts.lock i.requests i.found i.absent in
    let may : may_revalidate (get i.requests c.args.id) ≡ Some true = subst (λ (x : State). may_revalidate (get x.requests c.args.id) ≡ Some true) (sym c.self.view_is) c.requires in
    let h = (known s c.args.id (c.self.invariant.2.0, c.self.invariant.2.1, c.self.invariant.2.2) may).seen in
    let on : c.finds_its_body-found.result ≡ true = cc c.if-not-found.false in
    let found = found-of None c.args.moment c.args.head.now (get i.requests c.args.id) (shelf_of i.parts.store) h c.finds_its_body-found.result true on c.finds_its_body-found.ensures in
    let header = merged-of None c.args.moment c.args.head.now (get i.requests c.args.id) (shelf_of i.parts.store) h c.in_ok-sent.sent c.in_ok-merged.merged c.in_ok-merged.ensures.ok in
    let judges : IsVerdictOn None c.args.moment c.in_ok-merged.merged (Ok (Kept c.in-Kept.meta)) = rw c.in-Kept.is at c.in_ok-verdict.ensures in
    rw (← c.self.view_is) (of-request None c.args.moment c.args.head.now (get i.requests c.args.id) (shelf_of i.parts.store) h (Ok (Renewed c.in-Kept.meta))
    (confirmed-kept c.args.moment c.args.head.now h.old _ c.in_ok-sent.sent c.in_ok-sent.ensures found (Renewed c.in-Kept.meta)
    (subst (λ (x : ResponseHeader). IsVerdictOn None c.args.moment x (Ok (Kept c.in-Kept.meta))) header judges)))

pub returns-in-NotKept : goal.returns-in-NotKept
returns-in-NotKept g c =
    let i = c.self.inside in
    let s : State = state_by i.parts.manager i.wait (shelf_of i.parts.store) i.parts.lock i.requests i.found i.absent in
    let may : may_revalidate (get i.requests c.args.id) ≡ Some true = subst (λ (x : State). may_revalidate (get x.requests c.args.id) ≡ Some true) (sym c.self.view_is) c.requires in
    let h = (known s c.args.id (c.self.invariant.2.0, c.self.invariant.2.1, c.self.invariant.2.2) may).seen in
    let on : c.finds_its_body-found.result ≡ true = cc c.if-not-found.false in
    let found = found-of None c.args.moment c.args.head.now (get i.requests c.args.id) (shelf_of i.parts.store) h c.finds_its_body-found.result true on c.finds_its_body-found.ensures in
    let header = merged-of None c.args.moment c.args.head.now (get i.requests c.args.id) (shelf_of i.parts.store) h c.in_ok-sent.sent c.in_ok-merged.merged c.in_ok-merged.ensures.ok in
    let judges : IsVerdictOn None c.args.moment c.in_ok-merged.merged (Ok (NotKept c.in-NotKept.reason)) = rw c.in-NotKept.is at c.in_ok-verdict.ensures in
    rw (← c.self.view_is) (of-request None c.args.moment c.args.head.now (get i.requests c.args.id) (shelf_of i.parts.store) h (Ok (NotRenewed c.in-NotKept.reason c.in_ok-sent.sent))
    (confirmed-kept c.args.moment c.args.head.now h.old _ c.in_ok-sent.sent c.in_ok-sent.ensures found (NotRenewed c.in-NotKept.reason c.in_ok-sent.sent)
    (subst (λ (x : ResponseHeader). IsVerdictOn None c.args.moment x (Ok (NotKept c.in-NotKept.reason))) header judges)))
