use Rattle.std.proofs.Common.{sym, subst}
use Rattle.gateway_exchanges.specs.Places.{exchange_in, keys_in, places_in}
use Rattle.gateway_exchanges.specs.Tables.{AreNumbered, keys_left}
use Rattle.gateway_exchanges.proofs.Places.{remove-place}
use Rattle.gateway_exchanges.proofs.TableLaws.{at-places, index-left-if, numbered-removed}
use Rattle.gateway_exchanges.proofs.table.Table.forget.Goals as goal

pub invariant_of-self : goal.invariant_of-self
invariant_of-self c = record {
  index =
      rw (c.leave_if-2.ensures, c.leave_if.ensures)
      (index-left-if (keys_left c.args.x c.args.first (keys_in c.self.inside.by_key)) c.args.x c.args.key (index-left-if (keys_in c.self.inside.by_key) c.args.x c.args.first c.self.invariant.index));
  numbered =
      subst AreNumbered (sym (remove-place exchange_in c.self.inside.open.entries c.remove-place.new.self.entries c.args.x c.remove-place.ensures.updates.0))
      (numbered-removed (places_in c.self.inside.open) c.args.x c.self.invariant.numbered);
}

pub returns : goal.returns
returns c =
    rw (← c.self.view_is, c.leave_if-2.ensures, c.leave_if.ensures)
    (at-places _ _ _ (remove-place exchange_in c.self.inside.open.entries c.remove-place.new.self.entries c.args.x c.remove-place.ensures.updates.0))
