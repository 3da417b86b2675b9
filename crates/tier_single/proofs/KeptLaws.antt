-- A body that is stored is admitted, or taken back: what that leaves of a state.
use Rattle.std.proofs.Common.{◌≡◌, ℕ, ap, sym, ◌∙◌, arith, true, false, subst, max, length, List, Ok, Err}
use Rattle.std.specs.Prelude.{Bool}
use Rattle.rand_core.specs.Stream.{Stream}
use Rattle.cache_entries.specs.declared.entry.CacheEntryKey.{CacheEntryKey}
use Rattle.cache_changes.specs.Changes.{stored_key}
use Rattle.cache_evict.specs.declared.fault.EvictFault.{EvictFault}
use Rattle.cache_evict.specs.Faults.{evicted_of}
use Rattle.cache_evict.specs.Managed.{Managed, IsSharded, pick_by_draws}
use Rattle.cache_store.specs.StoreState.{StoreState}
use Rattle.cache_store.specs.declared.storage.MissFinishType.TheVariants.{Created}
use Rattle.request_store.specs.Admissions.{Rules, Cache, cache_of, was_admitted, IsAdmitted, IsTakenBack}
use Rattle.tier_model.specs.Keys.{alone}
use Rattle.tier_model.specs.declared.event.Answer.TheVariants.{Finished}
use Rattle.tier_model.specs.declared.event.TierFault.{TierFault}
use Rattle.tier_model.specs.Calls.{Outcome, done_of}
use Rattle.tier_model.specs.Rows.{FinishedBody, size_of, weight_for}
use Rattle.tier_model.specs.Shelf as shelf
use Rattle.tier_model.specs.Shelf.{Shelf, stored, removed}
use Rattle.tier_model.specs.State.{State}
use Rattle.tier_model.specs.After.{taken_back}
use Rattle.tier_requests.specs.Faults.{fault_for}
use Rattle.tier_requests.specs.Finishes as finishes
use Rattle.tier_requests.specs.Shelves.{shelf_of, IsBelow}
use Rattle.tier_requests.proofs.BelowLaws.{below-cleared, below-removed}
use Rattle.tier_single.proofs.StoreLaws.{after_store, StoresOver, HasEvicted, has_evicted, cleared, refused-put, kept-stopped, put_in, stores-refused, stores-kept}
use Rattle.tier_single.proofs.StoredLaws.{shelf-purged, shelf-taken}

-- what is known of the tier's store and of its order of use, of n shards
abbrev pub rules : ℕ → Rules StoreState
rules n = finishes.rules n (λ size. max size 1) (pick_by_draws n)

pub weighed : (size : ℕ) → max size 1 ≡ max 1 size
weighed size = omega arith

-- a state with what a cache holds
abbrev pub with_cache : State → Cache StoreState → State
with_cache s c = record s { managed = c.managed; shelf = shelf_of c.store }

module _ (n : ℕ) (s : State) (m : ℕ) (b : FinishedBody) (k : IsSharded n s.managed) (st : Stream) (mid : StoreState) (shelved : shelf_of mid ≡ stored m b s.shelf) where
  -- what came of the body that is stored in `mid` over the state
  pub record IsKept (o : Outcome) (c : Cache StoreState) : Type 0 where
    pub stores : StoresOver s st m b o (with_cache s c) c.words
    pub sharded : IsSharded n c.managed

  pub kept-admitted : (size : ℕ) (es : List CacheEntryKey) (c : Cache StoreState) → size ≡ length b.body.bytes
      → IsAdmitted (rules n) (Created (size_of b.body)) (alone b.entry) es (cache_of mid s.managed st) c → IsKept (Ok (Finished size es)) c
  kept-admitted size es c sized a =
      let gone : shelf_of c.store ≡ shelf.cleared es (stored m b s.shelf) = shelf-purged es mid c.store a.purged ∙ ap (shelf.cleared es) shelved in
      let h : HasEvicted n s b false es c.managed st c.words = has_evicted n (max (size_of b.body) 1) s b false es c.managed st c.words k (weighed (size_of b.body)) a.fits a.evicts a.within in
      record {
        stores = stores-kept s m b st size es (with_cache s c) c.words n c.managed sized h (ap (λ (x : Shelf). record s { shelf = x; managed = c.managed }) gone);
        sharded = h.kept;
      }

  pub kept-back : {F : Type 0} (tells : Bool → EvictFault → F → Type 0) (fault : F) (f : TierFault) (c : Cache StoreState)
      → (back : IsTakenBack (rules n) tells (Created (size_of b.body)) (alone b.entry) fault (cache_of mid s.managed st) c)
      → f ≡ fault_for back.cause (record { stored = true; admitted = was_admitted n (alone b.entry) back.cause back.left; evicted = evicted_of back.cause }) → IsKept (Err f) c
  kept-back tells fault f c back told =
      let w : ℕ = max (size_of b.body) 1 in
      let weighs : w ≡ weight_for b.body = weighed (size_of b.body) in
      let es : List CacheEntryKey = evicted_of back.cause in
      let gone : shelf_of back.purged ≡ shelf.cleared es (stored m b s.shelf) = shelf-purged es mid back.purged back.purges ∙ ap (shelf.cleared es) shelved in
      let left : shelf_of c.store ≡ removed (stored_key b.entry) (shelf.cleared es (stored m b s.shelf)) = shelf-taken (stored_key b.entry) back.purged c.store back.removes ∙ ap (removed (stored_key b.entry)) gone in
      let after : with_cache s c ≡ cleared n w (put_in s m b st) b k weighs es back.left = λ i. record s { managed = back.managed i; shelf = left i } in
      record {
        stores = stores-refused s m b st f (with_cache s c) c.words (refused-put n w (put_in s m b st) b k weighs back.left back.cause f (with_cache s c) st c.words back.stops told after);
        sharded = subst (λ (x : Managed). IsSharded n x) (sym back.managed) (kept-stopped n w s b k weighs back.left back.cause st c.words back.stops);
      }

-- the writes in flight, and those that have readers, have begun still
pub below-store : (s : State) (m : ℕ) (b : FinishedBody) (o : Outcome) → IsBelow s.shelf → IsBelow (after_store s m b o).shelf
below-store s m b (Ok (Finished size es)) below = below-cleared es (stored m b s.shelf) (record { flying = below.flying; readers = below.readers })
below-store s m b (Ok _) below = below
below-store s m b (Err f) below = by_stored (done_of f).stored
  where
    by_stored : (v : Bool) → IsBelow (taken_back v s b (done_of f)).shelf
    by_stored true = below-removed (stored_key b.entry) (shelf.cleared (done_of f).evicted s.shelf) (below-cleared (done_of f).evicted s.shelf below)
    by_stored false = below
