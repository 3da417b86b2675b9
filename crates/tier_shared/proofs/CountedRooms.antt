-- What parts of a counted tier take in memory, where the whole fits there.
use borrow.Rule.Slice.AtParam.{field_room}
use denote.Param.{layout}
use denote.RattleType.{RattleType}
use prog.Memory.{size}
use Rattle.std.proofs.Common.{◌<◌, ◌^◌, refl}
use Rattle.std.specs.contracts.cell.UnsafeCell.{the_row as cell_row}
use Rattle.std.specs.contracts.sync.Mutex.{the_row as mutex_row}
use Rattle.std.specs.declared.hash.BuildHasher as build
use Rattle.std.specs.declared.hash.Hasher as hasher
use Rattle.std.specs.declared.sync.ledger.Ledger as ledger
use Rattle.rand_core.specs.declared.Rng as rng
use Rattle.tier_single.specs.contracts.tier.Tier.{the_row as tier_row}
use Rattle.tier_shared.specs.contracts.counted.Counted.{the_row as counted_row}
use Rattle.tier_shared.specs.contracts.counted_shared.CountedTier.{the_row as shared_row}

module _ (N R L S H : RattleType) (r : rng.Ghosts R.Denot) (l : ledger.Ghosts L.Denot) (s : build.Ghosts S.Denot H.Denot) (h : hasher.Ghosts H.Denot) where
  abbrev counted : RattleType
  counted = counted_row N R L S H r l s h

  -- the tier that is counted
  pub tier_room : size (layout counted) < 2 ^ 63 → size (layout (tier_row N S H s h)) < 2 ^ 63
  tier_room fits = field_room (layout counted) 1 _ _ refl fits

  -- what is under the lock
  pub locked_room : size (layout (shared_row N R L S H r l s h)) < 2 ^ 63 → size (layout counted) < 2 ^ 63
  locked_room fits =
      let lock_fits : size (layout (mutex_row counted)) < 2 ^ 63 = field_room (layout (shared_row N R L S H r l s h)) 0 _ _ refl fits in
      let cell_fits : size (layout (cell_row counted)) < 2 ^ 63 = field_room (layout (mutex_row counted)) 1 _ _ refl lock_fits in
      field_room (layout (cell_row counted)) 0 _ _ refl cell_fits
