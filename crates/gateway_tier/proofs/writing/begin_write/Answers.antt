use Rattle.std.proofs.Common.{◌≡◌, ℕ, List, not, ap, subst, sym, ◌∙◌}
use Rattle.std.specs.Prelude.{Some}
use Rattle.gateway_exchanges.specs.declared.exchange.Exchange.{Exchange}
use Rattle.gateway_rules.specs.Options.{options_of}
use Rattle.gateway_rules.specs.Values.{response_of}
use Rattle.gateway_state.specs.declared.state.Gateway.{Gateway}
use Rattle.gateway_tier.specs.Looks.{HasSameButRequest, lets_go_if}
use Rattle.gateway_tier.specs.Roles.{is_at}
use Rattle.gateway_tier.specs.Variants.{place_in, IsPlaced}
use Rattle.gateway_tier.specs.Superseding.{earlier_at}
use Rattle.gateway_tier.specs.Writes.{BeginsAt}
use Rattle.gateway_tier.proofs.Held.{begun_from, err_as, held_from_request, if_begun, same_earlier}
use Rattle.gateway_tier.proofs.writing.begin_write.Goals as goal

pub returns-clause-others : goal.returns-clause-others
returns-clause-others c =
    let key : c.write_at.new.e.key ≡ Some c.in-Some-2.place = ap (λ (e : Exchange). e.key) c.write_at.ensures.rest ∙ c.in_ok-hold_at.ensures.place in
    let rules : options_of c.hold_at.new.g.rules ≡ options_of c.args.g.now.rules =
    ap (λ (g : Gateway). options_of g.rules) c.hold_at.ensures.gateway ∙ ap (λ (g : Gateway). options_of g.rules) c.place_of.ensures.gateway
    in
    begun_from c.write_at.result c.hold_at.new.e.x c.hold_at.new.e.steps.state c.write_at.new.e.steps.state
    (λ sequence begins. (
      c.in-Some-2.place,
      c.hold_at.new.g.table,
      key,
      subst (λ (xs : List ℕ). BeginsAt c.in-Some-2.place xs c.hold_at.new.g.table c.write_at.new.g.table)
          (ap (λ o. earlier_at o c.hold_at.new.e c.in-Some-2.place c.hold_at.new.g.table) rules
          ∙ sym (same_earlier (options_of c.args.g.now.rules) c.hold_at.new.e c.write_at.new.e (ap (λ (e : Exchange). e.first) c.write_at.ensures.rest)
          (ap (λ (e : Exchange). e.request) c.write_at.ensures.rest) (ap (λ (e : Exchange). e.index) c.write_at.ensures.rest) sequence c.in-Some-2.place c.hold_at.new.g.table))
          begins,
    ))
    c.write_at.ensures.began c.write_at.ensures.others

pub returns-clause-place : goal.returns-clause-place
returns-clause-place c =
    let made : place_in c.args.g.now c.args.e.now (response_of c.args.response.now) c.args.now ≡ Some (c.in-Some-2.place, c.place_of.new.e.index) =
    rw c.in-Some-2.is at c.in_ok-place.ensures.place
    in
    let index : c.write_at.new.e.index ≡ c.place_of.new.e.index =
    ap (λ (e : Exchange). e.index) c.write_at.ensures.rest ∙ ap (λ (e : Exchange). e.index) c.hold_at.ensures.rest
    in
    let key : c.write_at.new.e.key ≡ Some c.in-Some-2.place = ap (λ (e : Exchange). e.key) c.write_at.ensures.rest ∙ c.in_ok-hold_at.ensures.place in
    let placed : IsPlaced (place_in c.args.g.now c.args.e.now (response_of c.args.response.now) c.args.now) c.write_at.new.e =
    (c.in-Some-2.place, key, made ∙ ap (λ i. Some (c.in-Some-2.place, i)) (sym index))
    in
    if_begun c.write_at.result placed

pub returns-clause-err : goal.returns-clause-err
returns-clause-err c =
    let same : c.place_of.new.e.steps.state ≡ c.args.e.now.steps.state = ap (λ (e : Exchange). e.steps.state) c.place_of.ensures.rest in
    let held : HasSameButRequest (lets_go_if (not (is_at c.in-Some-2.place c.place_of.new.e)) c.args.e.now.steps.state) c.hold_at.new.e.steps.state =
    rw same at c.in_ok-hold_at.ensures.state
    in
    err_as c.write_at.result c.args.e.now.steps.state c.hold_at.new.e.steps.state c.write_at.new.e.steps.state
    (held_from_request _ c.args.e.now.steps.state c.hold_at.new.e.steps.state held)
    c.write_at.ensures.err
