-- What the ends of requests leave of what they are lent.
use Rattle.std.specs.Prelude.{◌≡◌, false, List}
use Rattle.std.specs.List.{fold}
use Rattle.std.specs.List.Sorted.{IsPermutation}
use Rattle.std.specs.FinMap.{FinMap, values}
use Rattle.std.specs.Ordering.{nat_cmp}
use Rattle.cache_lock.specs.State.{LockState, after_all}
use Rattle.tier_model.specs.Shelf.{Shelf, landed}
use Rattle.tier_model.specs.State.{closed, Request}
use Rattle.tier_model.specs.After.{turned, on_write, leave_of}

-- a request's write is left, and its reader is spent
abbrev pub shelf_after : Shelf → Request → Shelf
shelf_after shelf q = turned q.reader closed (on_write q.write (landed false) shelf)

-- its permit is dropped, or its wait left
abbrev pub lock_after : LockState → Request → LockState
lock_after s q = after_all (leave_of q.held) s

-- each of the requests ends once, in an order that isn't reported
pub record EndsAll (requests : FinMap nat_cmp Request) (old : Shelf) (s : LockState) (new : Shelf) (s' : LockState) : Type 0 where
  pub order : List Request
  pub each : IsPermutation (values requests) order
  pub shelf : new ≡ fold shelf_after old order
  pub lock : s' ≡ fold lock_after s order
