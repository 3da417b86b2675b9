-- What calls of a store answer.
use Rattle.std.specs.Prelude.{◌≡◌, ◌||◌, ℕ, Bool, true, false, List, length, Option, Some, None, option_map, Result, Err, IfErr, MatchResult, find, if◌then◌else◌}
use Rattle.cache_heads.specs.declared.meta.CacheMeta.{CacheMeta}
use Rattle.cache_changes.specs.Changes.{StoredKey, Write, appends, ends, finishes, leaves}
use Rattle.cache_changes.specs.Store.{Stored, Flying, Store, after, flying_at, flies_for, body_at}
use Rattle.cache_store.specs.declared.storage.StoreFault.{StoreFault}
use Rattle.cache_store.specs.declared.storage.StoreFault.TheVariants.{Memory, WriteRemoved, AfterEnd}
use Rattle.cache_store.specs.Agree.{Agree}
use Rattle.cache_store.specs.StoreState.{Reading, StoreState, left_with}

-- the answer to bytes, by whether the end of the write in flight is marked: none where there is no such write
abbrev pub WriteAnswer : {X : Type 0} → Option Bool → Result X StoreFault → Type 0
WriteAnswer None r = r ≡ Err WriteRemoved
WriteAnswer (Some true) r = r ≡ Err AfterEnd
WriteAnswer (Some false) r = IfErr r (λ f. f ≡ Memory)

-- bytes come, and with the last of them the end
abbrev pub after_write : {M : Type 0} → ℕ → List ℕ → Bool → Store M → Store M
after_write n more true s = after (ends n) (after (appends n more) s)
after_write n more false s = after (appends n more) s

-- the key of a write in flight that no removal met
abbrev pub alive_key : Option (Flying CacheMeta) → Option StoredKey
alive_key None = None
alive_key (Some f) = if f.removed then None else Some f.stored.write.key

-- the readers of a write in flight are left with its bytes; they are all of it where it is finished, or had its end
abbrev pub left_behind : Bool → ℕ → Option (Flying CacheMeta) → List Reading → List Reading
left_behind is_finished n None rs = rs
left_behind is_finished n (Some f) rs = left_with n f.stored.bytes (is_finished || f.ended) rs

-- a write is given up
abbrev pub left : ℕ → StoreState → StoreState
left n h = record h { store = after (leaves n) h.store; readings = left_behind false n (flying_at n h.store) h.readings }

-- a write in flight, which is `x`, is finished
pub record IsFinished (n : ℕ) (x : Stored CacheMeta) (old new : StoreState) : Type 0 where
  pub shown : option_map (λ f. f.stored) (flying_at n old.store) ≡ Some x
  pub store : (w : Write CacheMeta) → w.number ≡ n → Agree new.store (after (finishes w) old.store)
  pub next : new.next ≡ old.next
  pub readings : new.readings ≡ left_behind true n (flying_at n old.store) old.readings

-- a write is finished, and `size` is the length of its body
abbrev pub FinishesWith : ℕ → ℕ → StoreState → StoreState → Type 0
FinishesWith n size old new = (x : Stored CacheMeta) × (size ≡ length x.bytes) × IsFinished n x old new

-- the answer to the end of a write, by the key of the write where no removal met it
abbrev pub FinishAnswer : ℕ → StoreState → Result ℕ StoreFault → StoreState → Option StoredKey → Type 0
FinishAnswer n old r new None = (r ≡ Err WriteRemoved) × (new ≡ left n old)
FinishAnswer n old r new (Some k) = MatchResult r (λ size. FinishesWith n size old new) (λ f. (f ≡ Memory) × (new ≡ old))

-- what a look-up shows: a write in flight, or a finished body
pub data Look : Type 0 where
  in_flight : Stored CacheMeta → Look
  finished : Stored CacheMeta → Look

-- the alive write of k in flight that began first; without one the body
abbrev pub look_of : Option (Flying CacheMeta) → Option (Stored CacheMeta) → Option Look
look_of (Some f) body = Some (in_flight f.stored)
look_of None body = option_map finished body

abbrev pub look_up : StoredKey → Store CacheMeta → Option Look
look_up k s = look_of (find (flies_for k) s.flying) (body_at k s)

-- the alive write of k in flight of that number
abbrev pub streamed_of : StoredKey → Option (Flying CacheMeta) → Option Look
streamed_of k None = None
streamed_of k (Some f) = if flies_for k f then Some (in_flight f.stored) else None

abbrev pub streamed : StoredKey → ℕ → Store CacheMeta → Option Look
streamed k n s = streamed_of k (flying_at n s)
