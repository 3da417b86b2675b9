use Rattle.std.proofs.Common.{◌∙◌, ap, sym}
use Rattle.std.specs.Prelude.{option_map}
use Rattle.gateway_exchanges.specs.Places.{exchange_in, places_in, keys_in}
use Rattle.gateway_exchanges.specs.Tables.{in_place}
use Rattle.gateway_exchanges.proofs.Places.{get-place, set-place}
use Rattle.gateway_exchanges.proofs.TableLaws.{at-places, taken-out, taken-nowhere}
use Rattle.std.specs.FinMap.{from_entries, insert}
use Rattle.std.specs.Ordering.{nat_cmp}
use Rattle.tier_model.proofs.Tables.{each_of}
use Rattle.std.proofs.Common.{subst}
use Rattle.gateway_exchanges.specs.Tables.{AreNumbered}
use Rattle.gateway_exchanges.proofs.TableLaws.{numbered-none, numbered-in}
use Rattle.gateway_exchanges.proofs.table.Table.take.Goals.{in-Some, in-None}
use Rattle.gateway_exchanges.proofs.table.Table.take.Goals as goal

pub returns-clause-taken : goal.returns-clause-taken
returns-clause-taken c = elim c.match-get_mut.branch [
  | in-Some w ↦
      rw (w.result-is, ← c.self.view_is) (ap exchange_in w.take.ensures.value
      ∙ sym (ap in_place (get-place exchange_in c.self.inside.open.entries c.args.x ∙ ap (option_map exchange_in) (sym w.in-Some.ensures.value))))
  | in-None w ↦
      rw (w.result-is, ← c.self.view_is) (sym (ap in_place (get-place exchange_in c.self.inside.open.entries c.args.x ∙ ap (option_map exchange_in) (sym w.in-None.ensures.value))))
]

pub returns-clause-left : goal.returns-clause-left
returns-clause-left c = elim c.match-get_mut.branch [
  | in-Some w ↦
      let was = get-place exchange_in c.self.inside.open.entries c.args.x ∙ ap (option_map exchange_in) (sym w.in-Some.ensures.value) in
      let new = ap (from_entries {R = nat_cmp}) (ap (each_of exchange_in) ((c.get_mut.follows.holds w.take.new.self).0))
      ∙ set-place exchange_in c.self.inside.open.entries c.args.x w.in-Some.place.now w.take.new.self (sym w.in-Some.ensures.value) in
      rw (w.self-inside-is, ← c.self.view_is) (at-places _ _ (keys_in c.self.inside.by_key) (new ∙ ap (λ p. insert (places_in c.self.inside.open) c.args.x (exchange_in p)) w.take.ensures.after)
      ∙ taken-out (places_in c.self.inside.open) (keys_in c.self.inside.by_key) c.args.x (exchange_in w.in-Some.place.now) was)
  | in-None w ↦
      let was = get-place exchange_in c.self.inside.open.entries c.args.x ∙ ap (option_map exchange_in) (sym w.in-None.ensures.value) in
      rw (w.self-inside-is, c.get_mut.follows.holds-at-none, ← c.self.view_is) (taken-nowhere (places_in c.self.inside.open) (keys_in c.self.inside.by_key) c.args.x was)
]

pub invariant_of-self : goal.invariant_of-self
invariant_of-self c = elim c.match-get_mut.branch [
  | in-Some w ↦
      let new = ap (from_entries {R = nat_cmp}) (ap (each_of exchange_in) ((c.get_mut.follows.holds w.take.new.self).0))
      ∙ set-place exchange_in c.self.inside.open.entries c.args.x w.in-Some.place.now w.take.new.self (sym w.in-Some.ensures.value)
      ∙ ap (λ p. insert (places_in c.self.inside.open) c.args.x (exchange_in p)) w.take.ensures.after in
      rw w.self-inside-is (record { index = c.self.invariant.index; numbered = subst AreNumbered (sym new) (numbered-none (places_in c.self.inside.open) c.args.x c.self.invariant.numbered) })
  | in-None w ↦ rw (w.self-inside-is, c.get_mut.follows.holds-at-none) c.self.invariant
]

pub returns-clause-numbered : goal.returns-clause-numbered
returns-clause-numbered c = elim c.match-get_mut.branch [
  | in-Some w ↦
      let was = get-place exchange_in c.self.inside.open.entries c.args.x ∙ ap (option_map exchange_in) (sym w.in-Some.ensures.value) in
      rw (w.result-is, w.take.ensures.value) (numbered-in (places_in c.self.inside.open) c.args.x w.in-Some.place.now c.self.invariant.numbered was)
  | in-None w ↦ rw w.result-is tt
]
