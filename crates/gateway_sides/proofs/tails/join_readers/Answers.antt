use Rattle.std.proofs.Common.{ap, ◌∙◌, length}
use Rattle.std.specs.Prelude.{None}
use Rattle.gateway_exchanges.specs.Tails.{joined, with_change}
use Rattle.gateway_state.specs.declared.state.Gateway.{Gateway}
use Rattle.gateway_tier.specs.Roles.{in_role}
use Rattle.gateway_tier.specs.declared.waking.Role.{Role}
use Rattle.gateway_sides.proofs.tails.join_readers.Goals as goal

pub returns-clause-joins : goal.returns-clause-joins
returns-clause-joins c = record {
  hidden = c.hide_own.new.g;
  hides = c.hide_own.ensures.hides;
  told = c.tell_all.ensures.told;
  tails = c.join.ensures
      ∙ ap (λ n. with_change c.args.e.now.x (joined n) c.tell_all.new.g.tails) c.count_readers-readers.ensures
      ∙ ap (λ (g : Gateway). with_change c.args.e.now.x (joined (length (in_role (Role.Lacks c.args.e.now.x) c.args.key.now None c.hide_own.new.g.table))) g.tails) c.tell_all.ensures.rest;
  rest = ap (λ (g : Gateway). record g { tails = c.join.new.self }) c.tell_all.ensures.rest;
}
