use Rattle.std.proofs.Common.{refl}
use Rattle.curve_sizes.proofs.Feeding.{removed-fed}
use Rattle.curve_sizes.proofs.curve.SizeCurve.remove.Goals as goal

pub returns-clause-fed : goal.returns-clause-fed
returns-clause-fed c = removed-fed _ _ _ (record {
  whole = refl;
  within = c.requires;
  weights = refl;
  table = refl;
  places = c.in_ok-remove.ensures.ok;
  none = c.in_ok-remove_marked.ensures.none;
  some = c.in_ok-remove_marked.ensures.some;
  asks_are = c.in_ok-add_removal.ensures.asks;
  removed_are = c.in_ok-add_removal.ensures.removed;
  odd_are = c.in_ok-add_removal.ensures.odd;
  bytes_are = c.in_ok-add_removal.ensures.bytes;
  said_are = c.in_ok-add_removal.ensures.said;
})
