use Rattle.std.proofs.Common.{sym}
use Rattle.std.proofs.Common.{None}
use Rattle.gateway_exchanges.specs.Places.{exchange_in, keys_in}
use Rattle.gateway_exchanges.proofs.Places.{insert-place}
use Rattle.gateway_exchanges.proofs.TableLaws.{at-places}
use Rattle.std.proofs.Common.{subst}
use Rattle.gateway_exchanges.specs.Tables.{AreNumbered}
use Rattle.gateway_exchanges.proofs.TableLaws.{numbered-none}
use Rattle.gateway_exchanges.specs.Places.{places_in}
use Rattle.gateway_exchanges.proofs.table.Table.reserve.Goals as goal

pub returns-clause-ok : goal.returns-clause-ok
returns-clause-ok c =
    rw (← c.self.view_is) (at-places _ _ (keys_in c.self.inside.by_key)
    (insert-place exchange_in c.self.inside.open.entries c.insert.new.self.entries c.args.x None c.in_ok-insert.ensures.updates.0))

pub invariant_of-self-2 : goal.invariant_of-self-2
invariant_of-self-2 c = record {
  index = c.self.invariant.index;
  numbered =
      subst AreNumbered (sym (insert-place exchange_in c.self.inside.open.entries c.insert.new.self.entries c.args.x None c.in_ok-insert.ensures.updates.0))
      (numbered-none (places_in c.self.inside.open) c.args.x c.self.invariant.numbered);
}
