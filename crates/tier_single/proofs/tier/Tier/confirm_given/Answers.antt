use Rattle.std.proofs.Common.{◌≡◌, sym, subst, true, false, Some}
use Rattle.std.specs.Prelude.{Ok, Err}
use Rattle.std.specs.FinMap.{get}
use Rattle.std.proofs.lemmas.Result.{err_from_is_err_and}
use Rattle.cache_words.specs.Time.{MomentValue}
use Rattle.tier_model.specs.declared.event.TierFault.TheVariants.{NotStored}
use Rattle.tier_model.specs.State.{State}
use Rattle.tier_requests.specs.Shelves.{shelf_of}
use Rattle.tier_single.specs.declared.put.Renewal.TheVariants.{Renewed}
use Rattle.tier_single.specs.States.{state_by}
use Rattle.tier_single.proofs.ConfirmLaws.{may_revalidate, given-none, given-gone, given-kept, given-fault, there, of-request, found-of}
use Rattle.tier_single.proofs.RevalidateLaws.{known}
use Rattle.tier_single.proofs.tier.Tier.confirm_given.Goals as goal

pub returns-in_err-header : goal.returns-in_err-header
returns-in_err-header g c =
    let i = c.self.inside in
    let s : State = state_by i.parts.manager i.wait (shelf_of i.parts.store) i.parts.lock i.requests i.found i.absent in
    let may : may_revalidate (get i.requests c.args.id) ≡ Some true = subst (λ (x : State). may_revalidate (get x.requests c.args.id) ≡ Some true) (sym c.self.view_is) c.requires in
    let h = (known s c.args.id (c.self.invariant.2.0, c.self.invariant.2.1, c.self.invariant.2.2) may).seen in
    let p = err_from_is_err_and c.from_residual.result c.from_residual.ensures.1 in
    rw (← c.self.view_is, p.1, p.2) (λ (t : MomentValue). of-request (Some c.args.given) t c.args.head.now (get i.requests c.args.id) (shelf_of i.parts.store) h (Err c.in_err-header.field-0.0)
    (given-none c.args.given t c.args.head.now h.old (there (Some c.args.given) t c.args.head.now (get i.requests c.args.id) (shelf_of i.parts.store) h) c.in_err-header.field-0.0 c.in_err-header.ensures))

pub returns-then-not-found : goal.returns-then-not-found
returns-then-not-found g c =
    let i = c.self.inside in
    let s : State = state_by i.parts.manager i.wait (shelf_of i.parts.store) i.parts.lock i.requests i.found i.absent in
    let may : may_revalidate (get i.requests c.args.id) ≡ Some true = subst (λ (x : State). may_revalidate (get x.requests c.args.id) ≡ Some true) (sym c.self.view_is) c.requires in
    let h = (known s c.args.id (c.self.invariant.2.0, c.self.invariant.2.1, c.self.invariant.2.2) may).seen in
    let off : c.finds_its_body-found.result ≡ false = cc c.if-not-found.true in
    rw (← c.self.view_is) (λ (t : MomentValue). of-request (Some c.args.given) t c.args.head.now (get i.requests c.args.id) (shelf_of i.parts.store) h (Err NotStored)
    (given-gone c.args.given t c.args.head.now h.old _ c.in_ok-header.header c.in_ok-header.ensures (found-of (Some c.args.given) t c.args.head.now (get i.requests c.args.id) (shelf_of i.parts.store) h c.finds_its_body-found.result false off c.finds_its_body-found.ensures)))

pub returns : goal.returns
returns g c =
    let i = c.self.inside in
    let s : State = state_by i.parts.manager i.wait (shelf_of i.parts.store) i.parts.lock i.requests i.found i.absent in
    let may : may_revalidate (get i.requests c.args.id) ≡ Some true = subst (λ (x : State). may_revalidate (get x.requests c.args.id) ≡ Some true) (sym c.self.view_is) c.requires in
    let h = (known s c.args.id (c.self.invariant.2.0, c.self.invariant.2.1, c.self.invariant.2.2) may).seen in
    let on : c.finds_its_body-found.result ≡ true = cc c.if-not-found.false in
    rw (← c.self.view_is) (λ (t : MomentValue). of-request (Some c.args.given) t c.args.head.now (get i.requests c.args.id) (shelf_of i.parts.store) h (Ok (Renewed c.in_ok-meta.meta))
    (given-kept c.args.given t c.args.head.now h.old _ c.in_ok-header.header c.in_ok-header.ensures (found-of (Some c.args.given) t c.args.head.now (get i.requests c.args.id) (shelf_of i.parts.store) h c.finds_its_body-found.result true on c.finds_its_body-found.ensures) c.in_ok-meta.meta c.in_ok-meta.ensures))

pub returns-in_err-meta : goal.returns-in_err-meta
returns-in_err-meta g c =
    let i = c.self.inside in
    let s : State = state_by i.parts.manager i.wait (shelf_of i.parts.store) i.parts.lock i.requests i.found i.absent in
    let may : may_revalidate (get i.requests c.args.id) ≡ Some true = subst (λ (x : State). may_revalidate (get x.requests c.args.id) ≡ Some true) (sym c.self.view_is) c.requires in
    let h = (known s c.args.id (c.self.invariant.2.0, c.self.invariant.2.1, c.self.invariant.2.2) may).seen in
    let on : c.finds_its_body-found.result ≡ true = cc c.if-not-found.false in
    let p = err_from_is_err_and c.from_residual-in_err-meta.result c.from_residual-in_err-meta.ensures.1 in
    rw (← c.self.view_is, p.1, p.2) (λ (t : MomentValue). of-request (Some c.args.given) t c.args.head.now (get i.requests c.args.id) (shelf_of i.parts.store) h (Err c.in_err-meta.field-0.0)
    (given-fault c.args.given t c.args.head.now h.old _ c.in_ok-header.header c.in_ok-header.ensures (found-of (Some c.args.given) t c.args.head.now (get i.requests c.args.id) (shelf_of i.parts.store) h c.finds_its_body-found.result true on c.finds_its_body-found.ensures) c.in_err-meta.field-0.0 c.in_err-meta.ensures))
