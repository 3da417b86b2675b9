-- What the storing of a body leaves: its evictions, and its taking back.
use Rattle.std.proofs.Common.{◌≡◌, ◌≢◌, ℕ, Bool, true, false, List, [], ◌∷◌, refl, ap, sym, ◌∙◌, Some, None, Option, Err, inl, inr, subst, cond, length}
use Rattle.std.specs.Prelude.{◌||◌, not, is_some, Ok, MatchResult}
use Rattle.std.specs.FinMap.{get}
use Rattle.rand_core.specs.Stream.{Stream}
use Rattle.cache_entries.specs.Keys.{same_bytes}
use Rattle.cache_entries.specs.declared.entry.CacheEntryKey.{CacheEntryKey}
use Rattle.cache_entries.specs.Rows.{weight_of}
use Rattle.cache_changes.specs.Changes.{stored_key}
use Rattle.cache_evict.specs.declared.fault.EvictFault.{EvictFault}
use Rattle.cache_evict.specs.declared.fault.EvictFault.TheVariants as evict
use Rattle.cache_evict.specs.Faults.{evicted_of, IsPutRefused, StopsAt, IsMemory}
use Rattle.cache_evict.specs.Managed.{Managed, Evicts, rows_of, put_first, taken_out, pick_by_draws, is_over, Fits, IsHeavy, IsLong, IsFull, HasNoOtherReason, IsSharded}
use Rattle.request_store.specs.Admissions.{was_admitted, is_empty}
use Rattle.tier_model.specs.Keys.{alone}
use Rattle.tier_model.specs.declared.event.Done.{Done}
use Rattle.tier_model.specs.declared.event.Answer.TheVariants.{Finished}
use Rattle.tier_model.specs.declared.event.TierFault.{TierFault}
use Rattle.tier_model.specs.declared.event.TierFault.TheVariants.{Memory, TooHeavy, TooLong, NumbersSpent}
use Rattle.tier_model.specs.Calls.{Outcome, done_of, evicted_by}
use Rattle.tier_model.specs.Evictions.{all_gone, GoInTurn}
use Rattle.tier_model.specs.Rows.{Bodies, FinishedBody, with_body, without_body, without_bodies, weight_for}
use Rattle.tier_model.specs.Shelf as shelf
use Rattle.tier_model.specs.Shelf.{Shelf, stored, removed}
use Rattle.tier_model.specs.State.{State, shards_of}
use Rattle.tier_model.specs.Answers.{admitted, IsStored, IsKeptOut, IsStoreFault, stored_alone, all_done}
use Rattle.tier_model.specs.After.{after_put, until, taken_back}
use Rattle.tier_model.proofs.BodyLaws.{has_key, held-with, held-without, held-without_all}
use Rattle.tier_model.proofs.OpenLaws.{kept_out-done}
use Rattle.tier_requests.specs.Faults.{fault_for}
use Rattle.tier_requests.proofs.ShelfLaws.{same-bodies}
use Rattle.tier_single.proofs.ShardLaws.{kept-put, kept-out, put-there, Went, evicts-went}

-- the state after the storing of a body as the write of that number
abbrev pub after_store : State → ℕ → FinishedBody → Outcome → State
after_store s m b (Ok a) = after_put s (Some m) (Some b) a
after_store s m b (Err f) = taken_back (done_of f).stored s b (done_of f)

-- what was evicted was drawn by the words from s to rest
abbrev pub DrawsFor : State → FinishedBody → Outcome → Stream → Stream → Type 0
DrawsFor old b outcome s rest = (left : Managed) × Evicts (pick_by_draws (shards_of old)) (admitted old b) (evicted_by outcome) s left rest

-- a body was stored over a state, or was taken back, and with it the words from s to rest were taken
pub record StoresOver (old : State) (s : Stream) (m : ℕ) (b : FinishedBody) (outcome : Outcome) (new : State) (rest : Stream) : Type 0 where
  pub allowed : MatchResult outcome (IsStored old b) (IsStoreFault old b)
  pub after : new ≡ after_store old m b outcome
  pub drawn : DrawsFor old b outcome s rest

-- what the manager evicted after the admission of a body, and left
pub record HasEvicted (n : ℕ) (s : State) (b : FinishedBody) (over : Bool) (es : List CacheEntryKey) (m : Managed) (st rest : Stream) : Type 0 where
  pub fits : Fits (shards_of s) (admitted s b)
  pub turns : GoInTurn (shards_of s) over es (admitted s b)
  pub left : m ≡ all_gone (shards_of s) es (admitted s b)
  pub drawn : Evicts (pick_by_draws (shards_of s)) (admitted s b) es st m rest
  pub kept : IsSharded n m

pub has_evicted : (n w : ℕ) (s : State) (b : FinishedBody) (over : Bool) (es : List CacheEntryKey) (m : Managed) (st rest : Stream) → IsSharded n s.managed → w ≡ weight_for b.body
    → Fits n (put_first n (alone b.entry) w s.managed) → Evicts (pick_by_draws n) (put_first n (alone b.entry) w s.managed) es st m rest → is_over m ≡ over → HasEvicted n s b over es m st rest
has_evicted n w s b over es m st rest k weighs fits went ends =
    let N = shards_of s in
    let turn : (x v : ℕ) → Type 0 = λ x v. Fits x (put_first x (alone b.entry) v s.managed) × Evicts (pick_by_draws x) (put_first x (alone b.entry) v s.managed) es st m rest in
    let here : turn N (weight_for b.body) = subst (λ (v : ℕ). turn N v) weighs (subst (λ (x : ℕ). turn x w) (sym k.count) (fits, went)) in
    let kept : IsSharded N s.managed = subst (λ (x : ℕ). IsSharded x s.managed) (sym k.count) k in
    let all : Went N over es (admitted s b) m = evicts-went (pick_by_draws N) N over es (admitted s b) m st rest (kept-put N s.managed kept (alone b.entry) (weight_for b.body)) here.1 ends in
    record { fits = here.0; turns = all.turns; left = all.left; drawn = here.1; kept = subst (λ (x : ℕ). IsSharded x m) k.count all.kept }

-- nothing was evicted, and the entry isn't there
untouched : (es : List CacheEntryKey) (o : Option ℕ) → es ≡ [] → o ≡ None → (not (is_empty es) || is_some o) ≡ false
untouched [] None e n = refl
untouched [] (Some w) e n = absurd cc
untouched (x ∷ es) o e n = absurd cc

-- something was evicted, or the entry is there
touched : (es : List CacheEntryKey) (o : Option ℕ) → (es ≡ [] → o ≢ None) → (not (is_empty es) || is_some o) ≡ true
touched [] None h = absurd (h refl refl)
touched [] (Some w) h = refl
touched (x ∷ es) o h = refl

-- ---- a put that is refused

pub record IsRefusedPut (s : State) (b : FinishedBody) (f : TierFault) (new : State) (st rest : Stream) : Type 0 where
  pub allowed : IsStoreFault s b f
  pub after : new ≡ taken_back true s b (done_of f)
  pub drawn : (left : Managed) × Evicts (pick_by_draws (shards_of s)) (admitted s b) (evicted_by (Err f)) st left rest

module _ (n w : ℕ) (s : State) (b : FinishedBody) (k : IsSharded n s.managed) (weighs : w ≡ weight_for b.body) where
  -- the body is gone with its entry, and those of the entries that were evicted until that order of use
  abbrev pub cleared : List CacheEntryKey → Managed → State
  cleared es m = record s { shelf = removed (stored_key b.entry) (shelf.cleared es s.shelf); managed = taken_out n (alone b.entry) m }

  cut_put : (m : Managed) (f : TierFault) (new : State) (st rest : Stream) (es : List CacheEntryKey) → HasEvicted n s b true es m st rest → f ≡ Memory (all_done es) → new ≡ cleared es m → IsRefusedPut s b f new st rest
  cut_put m f new st rest es h told r =
      let is : new ≡ taken_back true s b (all_done es) = r ∙ ap (cleared es) h.left
      ∙ ap (λ (x : ℕ). record s { shelf = removed (stored_key b.entry) (shelf.cleared es s.shelf); managed = taken_out x (alone b.entry) (all_gone (shards_of s) es (admitted s b)) }) (sym k.count) in
      subst (λ (x : TierFault). IsRefusedPut s b x new st rest) (sym told) (record { allowed = inr (es, refl, h.fits, h.turns); after = is; drawn = (m, h.drawn) })

  kept_out : (m : Managed) (f g : TierFault) (new : State) (st rest : Stream) → m ≡ s.managed → rest ≡ st → f ≡ g → IsKeptOut s (alone b.entry) (weight_for b.body) stored_alone g → evicted_by (Err g) ≡ [] → done_of g ≡ stored_alone
      → new ≡ cleared [] m → IsRefusedPut s b f new st rest
  kept_out m f g new st rest same none told out nobody alone_stored r =
      let is : new ≡ taken_back true s b stored_alone = r ∙ ap (cleared []) same
      ∙ ap (λ (x : ℕ). record s { shelf = removed (stored_key b.entry) s.shelf; managed = taken_out x (alone b.entry) s.managed }) (sym k.count) in
      subst (λ (x : TierFault). IsRefusedPut s b x new st rest) (sym told) (record {
        allowed = inl out;
        after = is ∙ ap (taken_back true s b) (sym alone_stored);
        drawn = (admitted s b, subst (λ (l : List CacheEntryKey). Evicts (pick_by_draws (shards_of s)) (admitted s b) l st (admitted s b) rest) (sym nobody) (refl, none));
      })

  -- an entry that was put is tracked where nothing went
  there : (m : Managed) (es : List CacheEntryKey) (st rest : Stream) → Evicts (pick_by_draws n) (put_first n (alone b.entry) w s.managed) es st m rest → es ≡ [] → weight_of (alone b.entry) (rows_of n (alone b.entry) m) ≢ None
  there m [] st rest h e none =
      let is : weight_of (alone b.entry) (rows_of n (alone b.entry) m) ≡ Some w = ap (λ (x : Managed). weight_of (alone b.entry) (rows_of n (alone b.entry) x)) h.0 ∙ put-there n s.managed k (alone b.entry) w in
      absurd cc
  there m (x ∷ es) st rest h e none = absurd cc

  heavy_here : (fault : ℕ → ℕ → Type 0) → fault n w → fault (shards_of s) (weight_for b.body)
  heavy_here fault p = subst (λ (v : ℕ). fault (shards_of s) v) weighs (subst (λ (x : ℕ). fault x w) (sym k.count) p)

  -- what a fault of the order of use is reported as, that left the order of use so
  abbrev pub told_of : EvictFault → Managed → TierFault
  told_of cause m = fault_for cause (record { stored = true; admitted = was_admitted n (alone b.entry) cause m; evicted = evicted_of cause })

  refused_by : (m : Managed) (cause : EvictFault) (f : TierFault) (new : State) (st rest : Stream) → IsPutRefused n (alone b.entry) w s.managed cause → evicted_of cause ≡ [] → m ≡ s.managed → rest ≡ st
      → f ≡ told_of cause m → new ≡ cleared [] m → IsRefusedPut s b f new st rest
  refused_by m (evict.Memory v) f new st rest p none same drawn t r =
      let absent : weight_of (alone b.entry) (rows_of n (alone b.entry) m) ≡ None = ap (λ (x : Managed). weight_of (alone b.entry) (rows_of n (alone b.entry) x)) same ∙ p.0 in
      let told : f ≡ Memory stored_alone = t
      ∙ (λ i. Memory (record { stored = true; admitted = untouched v.items (weight_of (alone b.entry) (rows_of n (alone b.entry) m)) none absent i; evicted = none i })) in
      kept_out m f (Memory stored_alone) new st rest same drawn told (refl, heavy_here (λ x v. HasNoOtherReason x (alone b.entry) v s.managed) p) refl refl r
  refused_by m (evict.Weight v) f new st rest p none same drawn t r =
      kept_out m f (TooHeavy stored_alone) new st rest same drawn (t ∙ (λ i. TooHeavy (record { stored = true; admitted = false; evicted = none i })))
      (refl, heavy_here (λ x v. IsHeavy x (alone b.entry) v s.managed) p) refl refl r
  refused_by m (evict.Length v) f new st rest p none same drawn t r =
      kept_out m f (TooLong stored_alone) new st rest same drawn (t ∙ (λ i. TooLong (record { stored = true; admitted = false; evicted = none i })))
      (refl, heavy_here (λ x v. IsLong x (alone b.entry) s.managed) p) refl refl r
  refused_by m (evict.NumbersSpent v) f new st rest p none same drawn t r =
      kept_out m f (NumbersSpent stored_alone) new st rest same drawn (t ∙ (λ i. NumbersSpent (record { stored = true; admitted = false; evicted = none i })))
      (refl, heavy_here (λ x v. IsFull x (alone b.entry) s.managed) p) refl refl r
  refused_by m (evict.File v) f new st rest p none same drawn t r = absurd p

  -- memory ran out in the evictions
  cut_by : (m : Managed) (cause : EvictFault) (f : TierFault) (st rest : Stream) → IsMemory cause → Evicts (pick_by_draws n) (put_first n (alone b.entry) w s.managed) (evicted_of cause) st m rest
      → f ≡ told_of cause m → f ≡ Memory (all_done (evicted_of cause))
  cut_by m (evict.Memory v) f st rest memory went t =
      t ∙ (λ i. Memory (record { stored = true; admitted = touched v.items (weight_of (alone b.entry) (rows_of n (alone b.entry) m)) (there m v.items st rest went) i; evicted = v.items }))
  cut_by m (evict.Weight v) f st rest memory went t = absurd memory
  cut_by m (evict.Length v) f st rest memory went t = absurd memory
  cut_by m (evict.NumbersSpent v) f st rest memory went t = absurd memory
  cut_by m (evict.File v) f st rest memory went t = absurd memory

  pub refused-put : (m : Managed) (cause : EvictFault) (f : TierFault) (new : State) (st rest : Stream) → StopsAt (pick_by_draws n) n (alone b.entry) w s.managed st cause m rest → f ≡ told_of cause m
      → new ≡ cleared (evicted_of cause) m → IsRefusedPut s b f new st rest
  refused-put m cause f new st rest stops t r = elim stops [
    | inl p ↦ refused_by m cause f new st rest p.0 p.1 p.2 p.3 t (r ∙ ap (λ (es : List CacheEntryKey). cleared es m) p.1)
    | inr q ↦ cut_put m f new st rest (evicted_of cause) (has_evicted n w s b true (evicted_of cause) m st rest k weighs q.1 q.0.1 q.0.2) (cut_by m cause f st rest q.0.0 q.0.1 t) r
  ]

  -- the order of use stays sharded
  pub kept-stopped : (m : Managed) (cause : EvictFault) (st rest : Stream) → StopsAt (pick_by_draws n) n (alone b.entry) w s.managed st cause m rest → IsSharded n (taken_out n (alone b.entry) m)
  kept-stopped m cause st rest stops = kept-out n m (elim stops [
    | inl p ↦ subst (λ (x : Managed). IsSharded n x) (sym p.2) k
    | inr q ↦ (has_evicted n w s b true (evicted_of cause) m st rest k weighs q.1 q.0.1 q.0.2).kept
  ]) (alone b.entry)

-- ---- a body that is stored

both_gone : {X : Type 0} (v w : Bool) (o p : Option X) → cond v None (cond w None (cond v p o)) ≡ cond v None (cond w None o)
both_gone true w o p = refl
both_gone false w o p = refl

-- a body that was put and taken back leaves what was there, without what went
back-same : (m : ℕ) (b : FinishedBody) (es : List CacheEntryKey) (bodies : Bodies) → without_body (stored_key b.entry) (without_bodies es (with_body m b bodies)) ≡ without_body (stored_key b.entry) (without_bodies es bodies)
back-same m b es bodies =
    same-bodies (without_body (stored_key b.entry) (without_bodies es (with_body m b bodies))) (without_body (stored_key b.entry) (without_bodies es bodies))
    (λ k. held-without k (stored_key b.entry) (without_bodies es (with_body m b bodies))
    ∙ ap (cond (same_bytes (stored_key b.entry) k) None) (held-without_all k es (with_body m b bodies) ∙ ap (cond (has_key k es) None) (held-with k m b bodies))
    ∙ both_gone (same_bytes (stored_key b.entry) k) (has_key k es) (get bodies k) (Some (record { number = m; body = b.body }))
    ∙ sym (held-without k (stored_key b.entry) (without_bodies es bodies) ∙ ap (cond (same_bytes (stored_key b.entry) k) None) (held-without_all k es bodies)))

module _ (s : State) (m : ℕ) (b : FinishedBody) (st : Stream) where
  -- with the body in its place
  abbrev pub put_in : State
  put_in = record s { shelf = stored m b s.shelf }

  stored_by : (f : TierFault) → IsStoreFault s b f → (done_of f).stored ≡ true
  stored_by f p = elim p [ inl out ↦ ap (λ (d : Done). d.stored) (kept_out-done s (alone b.entry) (weight_for b.body) stored_alone f out) | inr cut ↦ ap (λ (x : TierFault). (done_of x).stored) cut.1 ]

  until_same : (v : Bool) → until v put_in b ≡ until v s b
  until_same true = refl
  until_same false = refl

  -- and taken back
  pub stores-refused : (f : TierFault) (new : State) (rest : Stream) → IsRefusedPut put_in b f new st rest → StoresOver s st m b (Err f) new rest
  stores-refused f new rest h = record {
    allowed = h.allowed;
    after = h.after
        ∙ ap (λ (left : Managed). record s { shelf = removed (stored_key b.entry) (shelf.cleared (done_of f).evicted (stored m b s.shelf)); managed = taken_out (shards_of s) (alone b.entry) (all_gone (shards_of s) (done_of f).evicted left) }) (until_same (done_of f).admitted)
        ∙ ap (λ (x : Bodies). record s {
          shelf = record (removed (stored_key b.entry) (shelf.cleared (done_of f).evicted s.shelf)) { bodies = x };
          managed = taken_out (shards_of s) (alone b.entry) (all_gone (shards_of s) (done_of f).evicted (until (done_of f).admitted s b));
        }) (back-same m b (done_of f).evicted s.shelf.bodies)
        ∙ ap (λ (v : Bool). taken_back v s b (done_of f)) (sym (stored_by f h.allowed));
    drawn = h.drawn;
  }

  -- stored, with these evictions
  pub stores-kept : (size : ℕ) (es : List CacheEntryKey) (new : State) (rest : Stream) (n : ℕ) (left : Managed) → size ≡ length b.body.bytes → HasEvicted n s b false es left st rest
      → new ≡ record s { shelf = shelf.cleared es (stored m b s.shelf); managed = left } → StoresOver s st m b (Ok (Finished size es)) new rest
  stores-kept size es new rest n left sized h is = record {
    allowed = (sized, h.fits, h.turns);
    after = is ∙ ap (λ (x : Managed). record s { shelf = shelf.cleared es (stored m b s.shelf); managed = x }) h.left;
    drawn = (left, h.drawn);
  }
