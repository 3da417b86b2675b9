-- How what a request holds ends, as the plain record has it.
use Rattle.std.proofs.Common.{◌≡◌, ℕ, refl, ap, ◌∙◌, false, Some, None, Option, List}
use Rattle.cache_words.specs.Time.{MomentValue}
use Rattle.cache_lock.specs.declared.tokens.Locked.{Locked}
use Rattle.cache_lock.specs.declared.tokens.Locked.TheVariants.{Write, Read}
use Rattle.cache_lock.specs.State.{LockState, after_all}
use Rattle.request_phases.specs.Locks.{left_by}
use Rattle.cache_store.specs.StoreState.{StoreState}
use Rattle.store_memory.specs.declared.handlers.MemHitHandler.{MemHitHandler}
use Rattle.store_memory.specs.declared.handlers.MemHitHandler.TheVariants.{Complete, Partial}
use Rattle.store_memory.specs.Readings as readings
use Rattle.request_store.specs.Spends.{Spends, Leaves, Ends}
use Rattle.tier_model.specs.Shelf.{landed}
use Rattle.tier_model.specs.State.{closed}
use Rattle.tier_model.specs.After.{turned, on_write, leave_of}
use Rattle.tier_requests.specs.Shelves.{shelf_of}
use Rattle.tier_requests.specs.Plain.{held_in, reader_in}
use Rattle.tier_requests.proofs.ShelfLaws.{shelf-parted, shelf-left}

-- a reader is spent
pub shelf-spent : (bytes : Option (List ℕ)) (hit : Option MemHitHandler) (h0 h : StoreState) → Spends readings.reader_of hit h0 h
    → shelf_of h ≡ turned (reader_in bytes hit) closed (shelf_of h0)
shelf-spent None None h0 h e = ap shelf_of e
shelf-spent (Some bytes) None h0 h e = ap shelf_of e
shelf-spent None (Some (Complete w)) h0 h e = ap shelf_of e
shelf-spent (Some bytes) (Some (Complete w)) h0 h e = ap shelf_of e
shelf-spent bytes (Some (Partial s)) h0 h e = shelf-parted s.number h0 h e

-- a write is left
pub shelf-leaves : (write : Option ℕ) (h0 h : StoreState) → Leaves (λ n. n) write h0 h → shelf_of h ≡ on_write write (landed false) (shelf_of h0)
shelf-leaves None h0 h e = ap shelf_of e
shelf-leaves (Some n) h0 h e = ap shelf_of e ∙ shelf-left n h0

pub shelf-ends : (bytes : Option (List ℕ)) (hit : Option MemHitHandler) (write : Option ℕ) (h0 h : StoreState) → Ends readings.reader_of (λ n. n) hit write h0 h
    → shelf_of h ≡ turned (reader_in bytes hit) closed (on_write write (landed false) (shelf_of h0))
shelf-ends bytes hit write h0 h e = shelf-spent bytes hit e.0 h e.2 ∙ ap (turned (reader_in bytes hit) closed) (shelf-leaves write h0 e.0 e.1)

-- a permit or a wait is left
pub lock-leaves : (l : Option Locked) (polled : Option MomentValue) (s : LockState) → left_by l s ≡ after_all (leave_of (held_in l polled)) s
lock-leaves None polled s = refl
lock-leaves (Some (Write p)) polled s = refl
lock-leaves (Some (Read r)) polled s = refl
