-- How a request's write begins, as the plain record has it: the request reads it, and has let go of its permit and of its earlier reader.
use Rattle.std.proofs.Common.{◌≡◌, ◌≢◌, ℕ, ◌+◌, ◌-◌, ◌^◌, refl, ap, sym, ◌∙◌, subst, Bool, true, false, cond, Some, None, Option, List, [], ◌∷◌, eq-eqb, eqb-true}
use Rattle.std.specs.Prelude.{is_some, find, IfSome, Result, Ok}
use Rattle.std.specs.Int.{w64, to_be_bytes}
use Rattle.cache_words.specs.Time.{DurationValue}
use Rattle.cache_heads.specs.declared.meta.CacheMeta.{CacheMeta}
use Rattle.cache_changes.specs.Changes.{StoredKey}
use Rattle.cache_changes.specs.Store as store
use Rattle.cache_changes.specs.Store.{Stored, Flying}
use Rattle.cache_lock.specs.State.{LockState}
use Rattle.cache_lock.specs.declared.status.LockStatus.TheVariants as status
use Rattle.request_phases.specs.declared.phase.CachePhase.{CachePhase}
use Rattle.request_phases.specs.declared.phase.CachePhase.TheVariants as phases
use Rattle.request_phases.specs.Phases.{is_disabled, is_never_enabled, is_stale_phase}
use Rattle.request_phases.specs.Locks as locks
use Rattle.request_phases.specs.Locks.{is_read, let_go}
use Rattle.request_phases.specs.Releases.{released_in}
use Rattle.cache_store.specs.declared.storage.StoreFault.{StoreFault}
use Rattle.cache_store.specs.Answers.{in_flight, streamed_of, streamed}
use Rattle.cache_store.specs.StoreState.{StoreState}
use Rattle.cache_store.specs.Looks.{StreamAnswer, TagAnswer, asked}
use Rattle.cache_store.specs.Misses.{BeginAnswer}
use Rattle.cache_store.specs.Misses as misses
use Rattle.cache_store.specs.Readers as readers
use Rattle.cache_store.specs.Readers.{IsJoined}
use Rattle.store_memory.specs.declared.handlers.MemHitHandler.{MemHitHandler}
use Rattle.store_memory.specs.declared.handlers.MemHitHandler.TheVariants.{Complete, Partial}
use Rattle.store_memory.specs.Looks.{tag_number}
use Rattle.store_memory.specs.Misses.{are_numbers_spent}
use Rattle.store_memory.specs.Readings as readings
use Rattle.request_store.specs.Begins as begins
use Rattle.request_store.specs.Spends.{Spends}
use Rattle.request_cache.specs.Request.{stored_at}
use Rattle.request_cache.specs.Writes as writes
use Rattle.request_cache.specs.Writes.{variance_in, meta_for, with_meta, adopted, earlier, lock_adopted}
use Rattle.request_cache.specs.Points.{point}
use Rattle.tier_model.specs.Shelf as shelf
use Rattle.tier_model.specs.Shelf.{Shelf, joined}
use Rattle.tier_model.specs.State.{begun, closed, streaming, Request}
use Rattle.tier_model.specs.Checks.{can_begin}
use Rattle.tier_model.specs.Answers.{key_for}
use Rattle.tier_model.specs.After.{turned, writing}
use Rattle.tier_requests.specs.Shelves.{shelf_of}
use Rattle.tier_requests.specs.Plain.{Driven, phase_in, held_in, reader_in, seen_in, plain_of, IsDriven}
use Rattle.tier_requests.specs.Rows.{Begins}
use Rattle.tier_requests.proofs.LockLaws.{let-go-none, set-let-go, key-same, released-as}
use Rattle.tier_requests.proofs.BeginLaws.{is-on, not-waiting}
use Rattle.tier_requests.proofs.EndLaws.{shelf-spent}
use Rattle.tier_requests.proofs.ShelfLaws.{shelf-joined, shelf-begun}
use Rattle.tier_requests.proofs.SeenLaws.{meta-kept}

-- ---- the reader of its own write

-- the write in flight that is found by a number has that number
numbered : (n : ℕ) (fs : List (Flying CacheMeta)) (f : Flying CacheMeta) → find (store.has_number n) fs ≡ Some f → f.stored.write.number ≡ n
numbered n [] f e = absurd cc
numbered n (g ∷ fs) f e = by_test (store.has_number n g) refl e (numbered n fs f)
  where
    by_test : (t : Bool) → store.has_number n g ≡ t → cond t (Some g) (find (store.has_number n) fs) ≡ Some f → (find (store.has_number n) fs ≡ Some f → f.stored.write.number ≡ n) → f.stored.write.number ≡ n
    by_test true is e rest = let same : g ≡ f = cc in subst (λ (x : Flying CacheMeta). x.stored.write.number ≡ n) same (sym (eqb-true n g.stored.write.number is))
    by_test false is e rest = rest e

-- a reader of the write n as it comes, which has read nothing, and is counted
pub record IsOwn (n : ℕ) (own : MemHitHandler) (mid new : StoreState) : Type 0 where
  pub reads : own ≡ Partial (record { number = n; place = 0 })
  pub counted : IsJoined n mid new

own-hit : (n : ℕ) (mid new : StoreState) (x : Stored CacheMeta) (own : MemHitHandler) → x.write.number ≡ n → readings.reader_of own ≡ readers.streaming (record { number = x.write.number; place = 0 })
    → IsJoined x.write.number mid new → IsOwn n own mid new
own-hit n mid new x (Complete h) same is j = absurd cc
own-hit n mid new x (Partial h) same is j =
    let reads : h ≡ record { number = x.write.number; place = 0 } = cc in
    record { reads = ap Partial reads ∙ ap (λ (m : ℕ). Partial (record { number = m; place = 0 })) same; counted = subst (λ (m : ℕ). IsJoined m mid new) same j }

abbrev found_own : CacheMeta → MemHitHandler → Result (Option (CacheMeta × MemHitHandler)) StoreFault
found_own meta own = Ok (Some (meta, own))

pub own-reads : (k : StoredKey) (n : ℕ) (mid new : StoreState) (meta : CacheMeta) (own : MemHitHandler) → StreamAnswer readings.reader_of (streamed k n mid.store) mid (found_own meta own) new → IsOwn n own mid new
own-reads k n mid new meta own a = by_flight (store.flying_at n mid.store) refl a
  where
    by_alive : (f : Flying CacheMeta) (t : Bool) → f.stored.write.number ≡ n → StreamAnswer readings.reader_of (cond t (Some (in_flight f.stored)) None) mid (found_own meta own) new → IsOwn n own mid new
    by_alive f true same a = own-hit n mid new f.stored own same a.0.1 a.1
    by_alive f false same a = let never = a.0 in absurd cc

    by_flight : (o : Option (Flying CacheMeta)) → store.flying_at n mid.store ≡ o → StreamAnswer readings.reader_of (streamed_of k o) mid (found_own meta own) new → IsOwn n own mid new
    by_flight None e a = let never = a.0 in absurd cc
    by_flight (Some f) e a = by_alive f (store.flies_for k f) (numbered n mid.store.flying f e) a

-- a write that began, as the store's answer says it
pub begun-in : (k : StoredKey) (meta : CacheMeta) (n : ℕ) (spent : Bool) (old mid : StoreState) → BeginAnswer {H = ℕ} (λ m. m) spent k meta old (Ok n) mid → misses.IsBegun k meta n old mid × (spent ≡ false)
begun-in k meta n true old mid a = let never = a.0 in absurd cc
begun-in k meta n false old mid a = (a, refl)

-- the number that the tag of a write's writer names
abbrev pub tagged : ℕ → Option ℕ
tagged n = tag_number (Some (to_be_bytes w64 n))

-- the tag of a write names its number
abbrev pub IsNamed : ℕ → Type 0
IsNamed n = IfSome (tagged n) (λ m. m ≡ n)

is-named : (n : ℕ) → IsNamed n → tagged n ≡ Some n
is-named n named = ap Some named

pub unspent : (h : StoreState) → are_numbers_spent h ≡ false → h.next ≢ 2 ^ 64 - 1
unspent h free e = let never : true ≡ false = sym (eq-eqb h.next (2 ^ 64 - 1) e) ∙ free in absurd cc

-- what a begun write is: of the next number, and read by its request
pub record HasBegun (k : StoredKey) (meta : CacheMeta) (n : ℕ) (own : Option MemHitHandler) (old new : StoreState) : Type 0 where
  pub mid : StoreState
  pub reader : MemHitHandler
  pub is : own ≡ Some reader
  pub write : misses.IsBegun k meta n old mid
  pub free : old.next ≢ 2 ^ 64 - 1
  pub reads : IsOwn n reader mid new

pub has-begun : (k : StoredKey) (meta : CacheMeta) (n : ℕ) (own : Option MemHitHandler) (old new : StoreState) → tagged n ≡ Some n
    → begins.IsBegun readings.reader_of (λ m. m) tagged true (are_numbers_spent old) k meta n own old new → HasBegun k meta n own old new
has-begun k meta n own old new named b =
    let began = begun-in k meta n (are_numbers_spent old) old b.mid b.begun in
    record {
      mid = b.mid;
      reader = b.read.1;
      is = b.read.2;
      write = began.0;
      free = unspent old began.1;
      reads = own-reads k n b.mid new b.read.0 b.read.1
          (subst (λ (o : Option ℕ). TagAnswer readings.reader_of o (asked true k o b.mid.store) b.mid (found_own b.read.0 b.read.1) new) named b.read.3);
    }

-- ---- the request while its write begins

-- how the request is while its write begins
pub record IsAt (stored : CacheMeta) (d : Driven) : Type 0 where
  pub phase : CachePhase
  pub variance : Option (List ℕ)
  pub on : is_disabled phase ≡ false
  pub used : is_never_enabled phase ≡ false
  pub plain : phase_in phase true ≡ begun
  pub unstale : is_stale_phase phase ≡ false
  pub unseen : (n : ℕ) → seen_in phase n None ≡ None
  pub same : with_meta stored d ≡ record d { phase = phase; meta = Some stored; stale_variance = variance }

abbrev stale_with : CacheMeta → Driven → Driven
stale_with stored d = record d { phase = phases.Expired; meta = Some stored; stale_variance = variance_in d.meta }

abbrev miss_with : CacheMeta → Driven → Driven
miss_with stored d = record d { meta = Some stored; stale_variance = None }

at-begin : (stored : CacheMeta) (d : Driven) (gave : Bool) (p : CachePhase) → d.phase ≡ p → can_begin (phase_in p (is_some d.meta)) gave ≡ true → IsAt stored d
at-begin stored d gave phases.Miss e may = record {
  phase = phases.Miss;
  variance = None;
  on = refl;
  used = refl;
  plain = refl;
  unstale = refl;
  unseen = λ n. refl;
  same = ap (λ (p : CachePhase). cond (is_stale_phase p) (stale_with stored d) (miss_with stored d)) e ∙ ap (λ (p : CachePhase). record (miss_with stored d) { phase = p }) e;
}
at-begin stored d gave phases.Stale e may = record {
  phase = phases.Expired;
  variance = variance_in d.meta;
  on = refl;
  used = refl;
  plain = refl;
  unstale = refl;
  unseen = λ n. refl;
  same = ap (λ (p : CachePhase). cond (is_stale_phase p) (stale_with stored d) (miss_with stored d)) e;
}
at-begin stored d gave _ e may = absurd cc

-- ---- the request

module _ (d : Driven) (asks : Bool) (wait : Option DurationValue) (gave : Bool) (k : ℕ) (share : Option CacheMeta) (bytes : Option (List ℕ)) (i : IsDriven d asks wait gave share bytes) (may : can_begin (phase_in d.phase (is_some d.meta)) gave ≡ true) where
  abbrev own_of : ℕ → MemHitHandler
  own_of n = Partial (record { number = n; place = 0 })

  abbrev at_work : CachePhase → Option (List ℕ) → CacheMeta → ℕ → Driven
  at_work phase variance stored n = record d { phase = phase; meta = Some stored; stale_variance = variance; writer = Some n; reader = Some (own_of n); lock = let_go d.lock }

  worked : (phase : CachePhase) (variance : Option (List ℕ)) (stored : CacheMeta) (n : ℕ) → phase_in phase true ≡ begun → seen_in phase k None ≡ None
      → plain_of (at_work phase variance stored n) asks wait gave k None None ≡ writing n (plain_of d asks wait gave k share bytes)
  worked phase variance stored n plain unseen = λ j. record (writing n (plain_of d asks wait gave k share bytes)) { phase = plain j; held = held_in (let-go-none d.lock j) None; seen = unseen j }

  driven-worked : (phase : CachePhase) (variance : Option (List ℕ)) (stored : CacheMeta) (n : ℕ) → is_disabled phase ≡ false → is_never_enabled phase ≡ false → phase_in phase true ≡ begun → is_stale_phase phase ≡ false
      → IsDriven (at_work phase variance stored n) asks wait gave None None
  driven-worked phase variance stored n on used plain unstale = record {
    used = used;
    key = i.key;
    admits = i.admits;
    shown = i.shown;
    evicts = λ e. i.evicts (is-on d asks wait gave k share bytes i may);
    lock = λ e. set-let-go asks wait d.lock (i.lock (is-on d asks wait gave k share bytes i may));
    idle = λ off. let never : false ≡ true = sym on ∙ off in absurd cc;
    writes = λ there. plain;
    released = λ there. let-go-none d.lock;
    waits = λ reads. let never : false ≡ true = sym (ap is_read (let-go-none d.lock)) ∙ reads in absurd cc;
    sees = λ stale given. let never : false ≡ true = sym unstale ∙ stale in absurd cc;
    bare = λ stale. let never : false ≡ true = sym unstale ∙ stale in absurd cc;
    unheld = λ e. refl;
    gone = λ reads. refl;
  }

  -- what the store did, as the shelf has it
  shelf-own : (at : StoredKey) (stored : CacheMeta) (n : ℕ) (own : MemHitHandler) (h0 mid seen h : StoreState) → misses.IsBegun at stored n h0 mid → IsOwn n own mid seen
      → Spends readings.reader_of d.reader seen h → shelf_of h ≡ record (turned (reader_in bytes d.reader) (streaming h0.next 0) (shelf.begun at stored (shelf_of h0))) { writes = h0.next + 1 }
  shelf-own at stored n own h0 mid seen h b o spends =
      shelf-spent bytes d.reader seen h spends
      ∙ ap (turned (reader_in bytes d.reader) closed) (shelf-joined n mid seen o.counted)
      ∙ ap (λ (s : Shelf). turned (reader_in bytes d.reader) (streaming n 0) s) (ap shelf_of b.begun ∙ shelf-begun at stored h0)
      ∙ ap (λ (m : ℕ). turned (reader_in bytes d.reader) (streaming m 0) (record (shelf.begun at stored (shelf_of h0)) { writes = h0.next + 1 })) b.number

  -- what began, with all that is known of it
  record Began (meta : CacheMeta) (h0 h : StoreState) (s s' : LockState) (new : Driven) : Type 0 where
    number : ℕ
    at : IsAt (meta_for meta d) d
    own : Option MemHitHandler
    seen : StoreState
    has : HasBegun (stored_at d.key) (meta_for meta d) number own h0 seen
    request : new ≡ at_work at.phase at.variance (meta_for meta d) number
    store : Spends readings.reader_of d.reader seen h
    lock : s' ≡ released_in (locks.held d.lock) (stored_at d.key) status.Done s

  abbrev Writes : CacheMeta → StoreState → StoreState → LockState → LockState → Driven → Type 0
  Writes meta h0 h s s' new =
      writes.Begins readings.reader_of (λ m. m) tagged true (are_numbers_spent h0) (meta_for meta d) (point (with_meta (meta_for meta d) d) h0 s) (point new h s')

  began : (meta : CacheMeta) (h0 h : StoreState) (s s' : LockState) (new : Driven) → IfSome new.writer IsNamed → Writes meta h0 h s s' new → Began meta h0 h s s' new
  began meta h0 h s s' new named b0 =
      let at = at-begin (meta_for meta d) d gave d.phase refl may in
      let r : Driven = record d { phase = at.phase; meta = Some (meta_for meta d); stale_variance = at.variance } in
      let b = subst (λ (x : Driven). writes.Begins readings.reader_of (λ m. m) tagged true (are_numbers_spent h0) (meta_for meta d) (point x h0 s) (point new h s')) at.same b0 in
      let written : new.writer ≡ Some b.miss = ap (λ (x : Driven). x.writer) (b.request ∙ ap (λ (o : Option MemHitHandler). adopted b.miss o r) b.begun.read.2) in
      let has = has-begun (stored_at d.key) (meta_for meta d) b.miss b.own h0 b.mid (is-named b.miss (subst (λ (w : Option ℕ). IfSome w IsNamed) written named)) b.begun in
      let own : b.own ≡ Some (own_of b.miss) = has.is ∙ ap Some has.reads.reads in
      record {
        number = b.miss;
        at = at;
        own = b.own;
        seen = b.mid;
        has = has;
        request = b.request ∙ ap (λ (o : Option MemHitHandler). adopted b.miss o r) own;
        store = subst (λ (o : Option MemHitHandler). Spends readings.reader_of (earlier o r) b.mid h) own b.store;
        lock = b.lock ∙ ap (λ (o : Option MemHitHandler). lock_adopted o r s) own;
      }

  -- what is left of the request
  pub driven-begun : (meta : CacheMeta) (h0 h : StoreState) (s s' : LockState) (new : Driven) → IfSome new.writer IsNamed → Writes meta h0 h s s' new → IsDriven new asks wait gave None None
  driven-begun meta h0 h s s' new named b0 =
      let b = began meta h0 h s s' new named b0 in
      subst (λ (r : Driven). IsDriven r asks wait gave None None) (sym b.request) (driven-worked b.at.phase b.at.variance (meta_for meta d) b.number b.at.on b.at.used b.at.plain b.at.unstale)

  -- and the plain record of what began
  pub begun-as : (meta : CacheMeta) (h0 h : StoreState) (s s' : LockState) (new : Driven) → IfSome new.writer IsNamed → Writes meta h0 h s s' new
      → Begins meta (plain_of d asks wait gave k share bytes) (shelf_of h0) s (plain_of new asks wait gave k None None) (shelf_of h) s'
  begun-as meta h0 h s s' new named b0 =
      let b = began meta h0 h s s' new named b0 in
      let q : Request = plain_of d asks wait gave k share bytes in
      record {
        number = b.has.free;
        request = ap (λ (r : Driven). plain_of r asks wait gave k None None) b.request ∙ worked b.at.phase b.at.variance (meta_for meta d) b.number b.at.plain (b.at.unseen k) ∙ ap (λ (n : ℕ). writing n q) b.has.write.number;
        shelf = shelf-own (stored_at d.key) (meta_for meta d) b.number b.has.reader h0 b.has.mid b.seen h b.has.write b.has.reads b.store
            ∙ ap (λ (at : StoredKey). record (turned q.reader (streaming h0.next 0) (shelf.begun at (meta_for meta d) (shelf_of h0))) { writes = h0.next + 1 }) (key-same d.key i.key)
            ∙ ap (λ (m : CacheMeta). record (turned q.reader (streaming h0.next 0) (shelf.begun (key_for q) m (shelf_of h0))) { writes = h0.next + 1 }) (meta-kept d.phase k d.meta share meta i.bare);
        lock = b.lock ∙ released-as d.key (locks.held d.lock) d.lock.polled status.Done q s i.key refl (not-waiting d asks wait gave k share bytes i may);
      }
