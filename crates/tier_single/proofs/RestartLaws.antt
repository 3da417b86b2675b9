-- A tier that starts from files is as an opening with what they have gives it.
use Rattle.std.proofs.Common.{◌≡◌, inl, inr, ℕ, List, [], ◌∷◌, Option, Result, Ok, Err, sym, refl, ap, ◌∙◌, subst}
use Rattle.std.specs.Prelude.{codes, length}
use Rattle.lru_files.specs.Folder.{Files, FolderCall, Outcome, IsSame}
use Rattle.lru_files.specs.Load.{Loads}
use Rattle.lru_files.specs.Load.Loads.{NoShard, Taken, Missing, Refused, Unread}
use Rattle.lru_files.specs.declared.fault.ShardLoadFailure.{ShardLoadFailure}
use Rattle.lru_files.specs.declared.fault.ShardLoadReport.{ShardLoadReport}
use Rattle.lru_files.specs.declared.fault.ShardSaveReport.{ShardSaveReport}
use Rattle.cache_entries.specs.declared.rows.Tracked.{Tracked}
use Rattle.cache_entries.specs.RowText.{RowsRead, recency_at}
use Rattle.cache_words.specs.declared.pack.fault.PackWriteFault.{PackWriteFault}
use Rattle.cache_evict.specs.declared.fault.EvictFault.{EvictFault}
use Rattle.cache_evict.specs.declared.fault.EvictFault.TheVariants as fault
use Rattle.cache_evict.specs.declared.load_fault.LoadFault.{LoadFault}
use Rattle.cache_evict.specs.declared.tracker.loading.Again.TheVariants.{PassedOver}
use Rattle.cache_evict.specs.FileLoads.{LoadsStored, TakesShard}
use Rattle.cache_evict.specs.Loads as rows
use Rattle.cache_evict.specs.Managed.{Managed, IsSharded, fresh}
use Rattle.cache_evict.specs.Saves.{Saves}
use Rattle.cache_evict.specs.Stored.{file_at, temp_at, lru_stored}
use Rattle.cache_evict.proofs.TurnLaws.{shards_again}
use Rattle.tier_model.specs.Past.{HasPast}
use Rattle.tier_model.specs.Started.{HasOnlyOrder, opening_of, settings_of}
use Rattle.tier_model.specs.State.{State}
use Rattle.tier_model.proofs.StartedLaws.{opening_past}
use Rattle.tier_single.specs.Restarts.{IsToldOfFiles, SavesOrder, LoadsOrder}

-- ---- what stays of a manager under a load

pub record Stays (m m' : Managed) : Type 0 where
  pub limit : m'.limit ≡ m.limit
  pub watermark : m'.watermark ≡ m.watermark
  pub size : m'.evicted_size ≡ m.evicted_size
  pub items : m'.evicted_items ≡ m.evicted_items

stays-both : (a b c : Managed) → Stays a b → Stays b c → Stays a c
stays-both a b c h k = record { limit = k.limit ∙ h.limit; watermark = k.watermark ∙ h.watermark; size = k.size ∙ h.size; items = k.items ∙ h.items }

stays-same : (m m' : Managed) → m' ≡ m → Stays m m'
stays-same m m' e = record {
  limit = ap (λ (x : Managed). x.limit) e;
  watermark = ap (λ (x : Managed). x.watermark) e;
  size = ap (λ (x : Managed). x.evicted_size) e;
  items = ap (λ (x : Managed). x.evicted_items) e;
}

module _ (n : ℕ) where
  stays-put : (done : List Tracked) (m : Managed) → Stays m (rows.all_put (rows.appended n) done m)
  stays-put [] m = stays-same m m refl
  stays-put (r ∷ done) m = let rest = stays-put done (rows.appended n r m) in record { limit = rest.limit; watermark = rest.watermark; size = rest.size; items = rest.items }

  stays-after : (done : List Tracked) (m m' : Managed) → m' ≡ rows.all_put (rows.appended n) done m → Stays m m'
  stays-after done m m' e = stays-both m (rows.all_put (rows.appended n) done m) m' (stays-put done m) (stays-same (rows.all_put (rows.appended n) done m) m' e)

  stays-read : (read : RowsRead) (m m' : Managed) (result : Result (Unit {0}) LoadFault) → rows.Loads PassedOver n read m m' result → Stays m m'
  stays-read read m m' (Ok x) h = stays-after read.0 m m' h.1
  stays-read read m m' (Err f) (inl h) = stays-after read.0 m m' h.3
  stays-read read m m' (Err f) (inr h) = stays-after h.2.0 m m' h.2.4

  stays-each : {keeps : Type 0} {file_of : ℕ → Option (List ℕ)} (k loaded missing : ℕ) (errored : List (ℕ × ShardLoadFailure LoadFault)) (m m' : Managed)
      → Loads keeps file_of (TakesShard n) k loaded missing errored m m' → Stays m m'
  stays-each _ _ _ _ _ _ (NoShard start) = stays-same start start refl
  stays-each _ _ _ _ _ _ (Taken k loaded missing errored start now next bytes before file took) =
      stays-both start now next (stays-each k loaded missing errored start now before) (stays-read (recency_at bytes) now next (Ok tt) took)
  stays-each _ _ _ _ _ _ (Missing k loaded missing errored start now before file) = stays-each k loaded missing errored start now before
  stays-each _ _ _ _ _ _ (Refused k loaded missing errored start now next bytes error before file took) =
      stays-both start now next (stays-each k loaded missing errored start now before) (stays-read (recency_at bytes) now next (Err error) took)
  stays-each _ _ _ _ _ _ (Unread k loaded missing errored start now failure before unread) = stays-each k loaded missing errored start now before

module _ {D : Type 0} (did : D → FolderCall → Outcome → D → Type 0) (failures : D → ℕ) (keeps : Type 0) (files : D → Files) (n : ℕ) (dir : List ℕ) where
  pub stays : (m m' : Managed) (old new : D) (came : Result (ShardLoadReport LoadFault) EvictFault) → LoadsStored did failures keeps files n lru_stored dir m m' old new came → Stays m m'
  stays m m' old new (Ok report) h = stays-each n n report.loaded report.missing report.errored.items m m' h.loads
  stays m m' old new (Err (fault.Memory v)) h = stays-same m m' h.1.manager
  stays m m' old new (Err (fault.File v)) h = absurd h
  stays m m' old new (Err (fault.Weight v)) h = absurd h
  stays m m' old new (Err (fault.Length v)) h = absurd h
  stays m m' old new (Err (fault.NumbersSpent v)) h = absurd h

  -- a tier that holds nothing but its order of use still does after a load, and its past is that of the opening with these rows
  pub started : (s : State) (m' : Managed) (old new : D) (came : Result (ShardLoadReport LoadFault) EvictFault) → HasOnlyOrder s
      → LoadsStored did failures keeps files n lru_stored dir s.managed m' old new came
      → IsSharded n m' → HasOnlyOrder (record s { managed = m' }) × HasPast (opening_of (record s { managed = m' })) (record s { managed = m' }) []
  started s m' old new came held loads sharded =
      let kept = stays s.managed m' old new came loads in
      let still : HasOnlyOrder (record s { managed = m' }) = record {
        bodies = held.bodies;
        flying = held.flying;
        readers = held.readers;
        lock = held.lock;
        requests = held.requests;
        found = held.found;
        absent = held.absent;
        evicted_size = kept.size ∙ held.evicted_size;
        evicted_items = kept.items ∙ held.evicted_items;
      } in
      (still, opening_past (record s { managed = m' }) still (subst (λ (k : ℕ). IsSharded k m') (sym sharded.count) sharded))

  -- what it was made with stays
  pub settings_stay : (s : State) (m' : Managed) (old new : D) (came : Result (ShardLoadReport LoadFault) EvictFault) → LoadsStored did failures keeps files n lru_stored dir s.managed m' old new came
      → IsSharded n s.managed → IsSharded n m' → settings_of (record s { managed = m' }) ≡ settings_of s
  settings_stay s m' old new came loads before sharded =
      let kept = stays s.managed m' old new came loads in
      let count : length m'.shards ≡ length s.managed.shards = sharded.count ∙ sym before.count in
      λ i. record { shards = count i; limit = kept.limit i; watermark = kept.watermark i; age = s.lock.age; wait = s.wait }

-- ---- what was saved is loaded

told_ok : {X : Type 0} (came : Result X EvictFault) (x : X) → IsToldOfFiles came (Ok x) → came ≡ Ok x
told_ok (Ok y) x e = let same : y ≡ x = cc in ap (λ z. Ok z) same
told_ok (Err f) x e = absurd cc

pub order_again : {D : Type 0} (did : D → FolderCall → Outcome → D → Type 0) (failures : D → ℕ) (keeps : Type 0) (files : D → Files) → keeps
    → (n limit : ℕ) (watermark : Option ℕ) (dir words : List ℕ) (m m' : Managed) (old saved start end : D) (report : ShardSaveReport PackWriteFault) (loads : ShardLoadReport LoadFault)
    → IsSharded n m → SavesOrder did failures keeps files n dir m words old saved (Ok report) → report.failed.items ≡ [] → IsSame (files saved) (files start)
    → LoadsOrder did failures keeps files n dir (fresh n limit watermark) m' start end (Ok loads) → loads.errored.items ≡ [] → m'.shards ≡ m.shards
order_again did failures keeps files kept n limit watermark dir words m m' old saved start end report loads sharded saves none same loaded clean =
    shards_again did failures keeps files kept (codes "lru.data") dir words n limit watermark m m' old saved start end report loads sharded
    (subst (λ (r : Result (ShardSaveReport PackWriteFault) EvictFault). Saves did failures keeps files m n (file_at lru_stored dir) (temp_at lru_stored dir words) dir old saved r) (told_ok saves.0 report saves.1) saves.2)
    none same
    (subst (λ (r : Result (ShardLoadReport LoadFault) EvictFault). LoadsStored did failures keeps files n lru_stored dir (fresh n limit watermark) m' start end r) (told_ok loaded.0 loads loaded.1) loaded.2)
    clean
