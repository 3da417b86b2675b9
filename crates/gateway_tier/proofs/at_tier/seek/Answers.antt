use Rattle.std.proofs.Common.{rules, ◌≡◌, true, ap, inl, inr}
use Rattle.std.proofs.lemmas.Result.{IfOk-weaker}
use Rattle.gateway_exchanges.specs.declared.exchange.Exchange.{Exchange}
use Rattle.gateway_state.specs.declared.state.Gateway.{Gateway}
use Rattle.gateway_tier.proofs.at_tier.seek.Goals as goal

pub returns-clause-found : goal.returns-clause-found
returns-clause-found c = λ some.
    inl (record {
      asked = c.move_to.new.g;
      same = ap (λ (g : Gateway). g.tier) c.move_to.ensures.gateway;
      hits = rw c.in-Some.is at c.in_ok-look.ensures.hit;
    })

pub returns-2-clause-found : goal.returns-2-clause-found
returns-2-clause-found c =
    let own : c.move_to.new.e.x ≡ c.args.e.now.x = ap (λ (e : Exchange). e.x) c.move_to.ensures.rest in
    let is_open : c.in_ok-open_at.field-0 ≡ true = search rules in
    IfOk-weaker c.look_held.result _ _ (λ look h some.
    inr (record {
      closed = c.else-lock.g;
      opened = c.open_at.new.self;
      first = c.else-lock.out;
      second = c.open_at.new.out;
      opens = rw (own, is_open) at c.in_ok-open_at.ensures.taken;
      looked = rw own at (h some);
    })) c.look_held.ensures.looked
