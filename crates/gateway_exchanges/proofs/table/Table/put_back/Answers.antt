use Rattle.std.proofs.Common.{◌∙◌, ap, sym, Some}
use Rattle.std.specs.Prelude.{option_map}
use Rattle.gateway_exchanges.specs.Places.{exchange_in, places_in, keys_in}
use Rattle.gateway_exchanges.proofs.Places.{get-place, set-place}
use Rattle.gateway_exchanges.proofs.TableLaws.{at-places, put-in, put-nowhere}
use Rattle.std.specs.FinMap.{from_entries}
use Rattle.std.specs.Ordering.{nat_cmp}
use Rattle.tier_model.proofs.Tables.{each_of}
use Rattle.std.proofs.Common.{subst}
use Rattle.gateway_exchanges.specs.Tables.{AreNumbered}
use Rattle.gateway_exchanges.proofs.TableLaws.{numbered-some}
use Rattle.gateway_exchanges.proofs.table.Table.put_back.Goals.{in-Some+in-Some-1, in-Some+in-None-1, in_default}
use Rattle.gateway_exchanges.proofs.table.Table.put_back.Goals as goal

pub returns : goal.returns
returns c = elim c.match-get_mut.branch [
  | in-Some+in-Some-1 w ↦
      let was = get-place exchange_in c.self.inside.open.entries c.args.e.value.x ∙ ap (option_map exchange_in) (sym (rw c.deref.ensures at w.in-Some.ensures.value)) in
      let new = ap (from_entries {R = nat_cmp}) (ap (each_of exchange_in) (rw c.deref.ensures at (c.get_mut.follows.holds (Some c.args.e)).0))
      ∙ set-place exchange_in c.self.inside.open.entries c.args.e.value.x w.in-Some.place.now (Some c.args.e) (sym (rw c.deref.ensures at w.in-Some.ensures.value)) in
      rw (w.self-inside-is, ← c.self.view_is) (at-places _ _ (keys_in c.self.inside.by_key) new
      ∙ put-in (places_in c.self.inside.open) (keys_in c.self.inside.by_key) c.args.e.value (exchange_in w.in-Some.place.now) was)
  | in-Some+in-None-1 w ↦
      let was = get-place exchange_in c.self.inside.open.entries c.args.e.value.x ∙ ap (option_map exchange_in) (sym (rw c.deref.ensures at w.in-Some.ensures.value)) in
      let new = ap (from_entries {R = nat_cmp}) (ap (each_of exchange_in) (rw c.deref.ensures at (c.get_mut.follows.holds (Some c.args.e)).0))
      ∙ set-place exchange_in c.self.inside.open.entries c.args.e.value.x w.in-Some.place.now (Some c.args.e) (sym (rw c.deref.ensures at w.in-Some.ensures.value)) in
      rw (w.self-inside-is, ← c.self.view_is) (at-places _ _ (keys_in c.self.inside.by_key) new
      ∙ put-in (places_in c.self.inside.open) (keys_in c.self.inside.by_key) c.args.e.value (exchange_in w.in-Some.place.now) was)
  | in_default w ↦
      let was = get-place exchange_in c.self.inside.open.entries c.args.e.value.x ∙ ap (option_map exchange_in) (sym (rw c.deref.ensures at w.in_default.ensures.value)) in
      rw (w.self-inside-is, c.get_mut.follows.holds-at-none, ← c.self.view_is) (put-nowhere (places_in c.self.inside.open) (keys_in c.self.inside.by_key) c.args.e.value was)
]

pub invariant_of-self : goal.invariant_of-self
invariant_of-self c = elim c.match-get_mut.branch [
  | in-Some+in-Some-1 w ↦
      let new = ap (from_entries {R = nat_cmp}) (ap (each_of exchange_in) (rw c.deref.ensures at (c.get_mut.follows.holds (Some c.args.e)).0))
      ∙ set-place exchange_in c.self.inside.open.entries c.args.e.value.x w.in-Some.place.now (Some c.args.e) (sym (rw c.deref.ensures at w.in-Some.ensures.value)) in
      rw w.self-inside-is (record { index = c.self.invariant.index; numbered = subst AreNumbered (sym new) (numbered-some (places_in c.self.inside.open) c.args.e.value c.self.invariant.numbered) })
  | in-Some+in-None-1 w ↦
      let new = ap (from_entries {R = nat_cmp}) (ap (each_of exchange_in) (rw c.deref.ensures at (c.get_mut.follows.holds (Some c.args.e)).0))
      ∙ set-place exchange_in c.self.inside.open.entries c.args.e.value.x w.in-Some.place.now (Some c.args.e) (sym (rw c.deref.ensures at w.in-Some.ensures.value)) in
      rw w.self-inside-is (record { index = c.self.invariant.index; numbered = subst AreNumbered (sym new) (numbered-some (places_in c.self.inside.open) c.args.e.value c.self.invariant.numbered) })
  | in_default w ↦ rw (w.self-inside-is, c.get_mut.follows.holds-at-none) c.self.invariant
]
