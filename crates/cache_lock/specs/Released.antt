-- What a release does to each table.
use Rattle.std.specs.Prelude.{ℕ, nat_le, Bool, true, false, List, Option, Some, None, if◌then◌else◌}
use Rattle.std.specs.Ordering.{nat_cmp}
use Rattle.std.specs.Cmp.Lexicographic.{slice_cmp}
use Rattle.std.specs.FinMap.{FinMap, get, insert, remove}
use Rattle.cache_lock.specs.declared.lock_core.HeldCore.{HeldCore}
use Rattle.cache_lock.specs.declared.status.LockStatus.{LockStatus}
use Rattle.cache_lock.specs.declared.status.LockStatus.TheVariants.{Dangling}
use Rattle.cache_lock.specs.State.{LockState, is_number, unnamed, with_status}

-- it has one name
abbrev pub is_last : Option HeldCore → Bool
is_last None = false
is_last (Some c) = nat_le c.names 1

-- without a core that has one name
abbrev pub without_last : ℕ → Option HeldCore → FinMap nat_cmp HeldCore → FinMap nat_cmp HeldCore
without_last n None cores = cores
without_last n (Some c) cores = if nat_le c.names 1 then remove cores n else cores

-- without a key whose core has that number
abbrev pub without_key : ℕ → List ℕ → FinMap (slice_cmp nat_cmp) ℕ → FinMap (slice_cmp nat_cmp) ℕ
without_key n key current = if is_number n (get current key) then remove current key else current

-- without the key that is released, unless a poll found the permit past its age, and without the core's own
abbrev pub keys_left : Bool → ℕ → List ℕ → HeldCore → FinMap (slice_cmp nat_cmp) ℕ → FinMap (slice_cmp nat_cmp) ℕ
keys_left true n key c current = without_key n c.key current
keys_left false n key c current = without_key n c.key (without_key n key current)

-- a core was its key's: the reason, else it is dropped
abbrev pub told_by : Bool → LockStatus → LockStatus
told_by own reason = if own then reason else Dangling

-- with one name less of a core that has more, and with how its permit ended
abbrev pub shared_left : Bool → ℕ → List ℕ → LockStatus → HeldCore → LockState → LockState
shared_left true n key reason c s = record s { cores = insert s.cores n (unnamed c) }
shared_left false n key reason c s = record s {
  cores = insert s.cores n (unnamed (with_status (told_by (is_number n (get s.current key)) reason) c));
  current = without_key n key s.current;
}
