use Rattle.std.proofs.Common.{◌≡◌, Some, ap, sym, ◌∙◌, true, false}
use Rattle.cache_words.specs.Time.{MomentValue, at_most}
use Rattle.tier_model.specs.Answers.{is_fresh}
use Rattle.tier_single.proofs.FreshBodies.{none-shown, stale-shown, fresh-shown, some-shown}
use Rattle.tier_single.proofs.found.fresh_body.Goals as goal

pub returns-in_default : goal.returns-in_default
returns-in_default g c = none-shown c.args.moment c.args.key.now c.args.store.now c.in_default.ensures

pub returns-then-not-is_at_most : goal.returns-then-not-is_at_most
returns-then-not-is_at_most g c =
    let stale : is_fresh c.args.moment c.in-Some.packed.now ≡ false = ap (λ (m : MomentValue). at_most c.args.moment m) (sym c.fresh_until.ensures) ∙ sym c.is_at_most.ensures ∙ c.if-not-is_at_most.true in
    stale-shown c.args.moment c.args.key.now c.args.store.now c.in-Some.packed.now c.in-Some.bytes.now c.in-Some.weight c.in-Some.ensures stale

pub returns-in-Ok : goal.returns-in-Ok
returns-in-Ok g c =
    let fresh : is_fresh c.args.moment c.in-Some.packed.now ≡ true = ap (λ (m : MomentValue). at_most c.args.moment m) (sym c.fresh_until.ensures) ∙ sym c.is_at_most.ensures ∙ c.if-not-is_at_most.false in
    (λ i. Some (record { bytes = c.in-Ok.ensures.1 i; meta = c.in-Ok.ensures.0 i }, c.in-Some.weight))
    ∙ fresh-shown c.args.moment c.args.key.now c.args.store.now c.in-Some.packed.now c.in-Some.bytes.now c.in-Some.weight c.in-Some.ensures fresh

pub returns-in-Err : goal.returns-in-Err
returns-in-Err g c =
    let fresh : is_fresh c.args.moment c.in-Some.packed.now ≡ true = ap (λ (m : MomentValue). at_most c.args.moment m) (sym c.fresh_until.ensures) ∙ sym c.is_at_most.ensures ∙ c.if-not-is_at_most.false in
    some-shown c.args.moment c.args.key.now c.args.store.now c.in-Some.packed.now c.in-Some.bytes.now c.in-Some.weight c.in-Some.ensures fresh
