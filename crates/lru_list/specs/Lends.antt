-- What a list ends as, where a `&mut` to one of its slots is returned.
use Rattle.std.specs.Prelude.{ℕ, Option, slice_set}
use Rattle.std.specs.Borrow.{Lends, LendsIf, Fml, RattleType, MutBor}
use Rattle.lru_list.specs.Slots.{Slots}
use Rattle.lru_list.specs.contracts.linked_list.LinkedList.{the_row}

-- the slots where slot i holds w
abbrev pub with_item : {K : Type 0} → Slots K → ℕ → K → Slots K
with_item s i w = record s { items = slice_set s.items i w }

module _ (K : RattleType) (s : MutBor (Slots K.Denot)) (i : ℕ) where
  -- once the borrow r ends, the slot holds the last value written through r
  abbrev pub lends_item : MutBor K.Denot → Fml
  lends_item r = Lends (the_row K) K s r (with_item s.now i)

  -- the same where r is a reference, and at `None` the slots stay as they are
  abbrev pub lends_slot : Option (MutBor K.Denot) → Fml
  lends_slot r = LendsIf (the_row K) K s r (with_item s.now i) s.now
