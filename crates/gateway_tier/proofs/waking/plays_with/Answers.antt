use Rattle.std.proofs.Common.{◌≡◌, ◌==◌, false, ap, sym, ◌∙◌, arith}
use Rattle.std.specs.Prelude.{Some}
use Rattle.std.proofs.lemmas.Bool.Decides.{nat_tests}
use Rattle.gateway_tier.specs.Roles.{plays, with_own}
use Rattle.gateway_tier.proofs.Places.{own_plays, others_play}
use Rattle.gateway_tier.proofs.waking.plays_with.Goals as goal

pub returns-then-e-y : goal.returns-then-e-y
returns-then-e-y c =
    rw c.in-Some.is
    (c.plays_at.ensures ∙ sym (own_plays c.args.role.now c.args.key.now c.in-Some.e.now c.args.g.now.table)
    ∙ ap (plays c.args.role.now c.args.key.now (with_own (Some c.in-Some.e.now) c.args.g.now.table)) c.if-e-y.true)

pub returns-else-e-y : goal.returns-else-e-y
returns-else-e-y c =
    let other : (c.args.y == c.in-Some.e.now.x) ≡ false = grind (arith, nat_tests, c.if-e-y.false) in
    rw c.in-Some.is (c.plays-else-e-y.ensures ∙ sym (others_play c.args.role.now c.args.key.now c.in-Some.e.now c.args.g.now.table c.args.y other))
