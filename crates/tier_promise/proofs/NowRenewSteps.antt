-- What a revalidation leaves: the body with its new meta, its entry weighed anew, and what went; the lock without the permit that the request held.
use Rattle.std.proofs.Common.{◌≡◌, ℕ, refl, ap, sym, ◌∙◌, true, false, subst, cond, [], ◌∷◌, ◌++◌, ◌==◌, length, arith}
use Rattle.std.specs.Prelude.{Bool, List, Option, Some, option_map, is_some, map}
use Rattle.std.specs.FinMap.{get, insert}
use Rattle.std.proofs.lemmas.Bool.{eqb-true, eq-eqb}
use Rattle.cache_changes.specs.Changes.{StoredKey, stored_key, reweighs}
use Rattle.cache_changes.specs.Uses.{AreShardsOf}
use Rattle.cache_changes.proofs.ManyShards.{AreShardsOf-after}
use Rattle.cache_entries.specs.Entry.{key_of}
use Rattle.cache_entries.specs.declared.entry.CacheEntryKey.{CacheEntryKey}
use Rattle.cache_evict.specs.Managed.{Managed, Fits, weighed_anew}
use Rattle.cache_heads.specs.declared.meta.CacheMeta.{CacheMeta}
use Rattle.cache_lock.specs.Changes.{Changes as LockChanges}
use Rattle.cache_lock.specs.State.{after_all}
use Rattle.cache_lock.specs.Status.{is_waiting}
use Rattle.cache_lock.specs.declared.status.LockStatus.{LockStatus}
use Rattle.cache_lock.specs.declared.status.LockStatus.TheVariants as status
use Rattle.tier_model.specs.Keys.{Entry, alone}
use Rattle.tier_model.specs.declared.event.TierFault.{TierFault}
use Rattle.tier_model.specs.Calls.{nothing_done, extended}
use Rattle.tier_model.specs.Evictions as shards
use Rattle.tier_model.specs.Histories.{Kept}
use Rattle.tier_model.specs.Rows.{Numbered, weight_for}
use Rattle.tier_model.specs.Shelf.{Shelf, renewed}
use Rattle.tier_model.specs.State.{Settings, State, shards_of}
use Rattle.tier_model.specs.State as state
use Rattle.tier_model.specs.Answers.{key_for, weight_with, reweighed, IsKeptOut}
use Rattle.tier_model.specs.After.{with_counts, release_of, confirmed, renewed_for, emptied, taken}
use Rattle.tier_promise.specs.Promise.{Write, Change, Changes, Request, Now, Hold, no_lock, holds, waits, FitsBeside, KeepsOut, GoInTurn, renews, weighs, takes, as_body, bytes_of, is_done, body_of, rows, ended, released}
use Rattle.tier_promise.specs.Promise as now_is
use Rattle.tier_model.proofs.CallLaws.{at-insert}
use Rattle.tier_model.proofs.RowSteps.{IsMade, made-anew}
use Rattle.tier_promise.proofs.Room.{has-room}
use Rattle.tier_promise.proofs.NowRoom.{entry-out}
use Rattle.tier_promise.proofs.NowFits.{Permits, end_of, BodyFits, RequestFits, OpenFits, NowFits}
use Rattle.tier_promise.proofs.NowGone.{turn-rows, taken-fits, taken-permits, emptied-fits, emptied-permits}
use Rattle.tier_promise.proofs.NowLists.{extended-both}
use Rattle.tier_promise.proofs.NowLock.{lock-same}
use Rattle.tier_promise.proofs.NowOrder.{IsOrderly}
use Rattle.tier_promise.proofs.NowRenews.{shelf-renews, body-fits}
use Rattle.tier_promise.proofs.NowShelf.{shelf-weighs}
use Rattle.tier_promise.proofs.NowRequests.{Carries, request-carried, open-carried}
use Rattle.tier_promise.proofs.NowSteps.{no_longer, turned-fits, request-fits, request-permits, counted-fits}
use Rattle.tier_promise.proofs.NowQuiet.{IsLocked, request-quiet}
use Rattle.tier_promise.proofs.NowOthers.{OtherFits, other-closed}
use Rattle.tier_promise.proofs.NowBeginSteps.{release-left}

-- a body has another meta, its entry is weighed anew, and these go
abbrev pub renewal : Write → Entry → CacheMeta → List CacheEntryKey → Changes → List Change
renewal w e meta es c = renews w.number e meta ∷ weighs (alone e) (weight_for (as_body (record w { meta = meta }) c)) ∷ map takes es

-- what entries went leaves each end of a permit
ended-gone : (n : ℕ) (es : List CacheEntryKey) (c : Changes) → ended n (extended c (map takes es)) ≡ ended n c
ended-gone n [] c = refl
ended-gone n (e ∷ es) c = ended-gone n es (takes e ∷ c)

-- an end of a permit leaves what there is to read
reads-released : (m : ℕ) (how : LockStatus) (h : Hold) (then c : Changes) → (bytes_of m (extended c (released how h then)) ≡ bytes_of m c) × (is_done m (extended c (released how h then)) ≡ is_done m c)
reads-released m how no_lock then c = (refl, refl)
reads-released m how (waits p since) then c = (refl, refl)
reads-released m how (holds p) then c = by_end (is_some (ended p.number then))
  where
    by_end : (v : Bool) → (bytes_of m (extended c (cond v [] (now_is.ends p.number how ∷ []))) ≡ bytes_of m c) × (is_done m (extended c (cond v [] (now_is.ends p.number how ∷ []))) ≡ is_done m c)
    by_end true = (refl, refl)
    by_end false = (refl, refl)

module _ (x : Settings) (s : State) (locks : LockChanges) (now : Now) (fits : NowFits x s locks now) (locked : IsLocked x.age s locks) (id : ℕ) (q : state.Request) (r : Request) (is : get s.requests id ≡ Some q)
    (f : RequestFits x fits.numbers fits.permits s.shelf now.changes q r) where
  abbrev c : Changes
  c = now.changes

  abbrev N : ℕ
  N = shards_of s

  abbrev key : StoredKey
  key = stored_key r.entry

  abbrev now_with : Changes → Now
  now_with then = record { changes = then; request = λ j. cond (j == id) (Some (now_is.confirmed r)) (now.request j) }

  abbrev state_with : Shelf → Managed → State
  state_with shelf m = record s { shelf = shelf; managed = m; requests = insert s.requests id (confirmed q) }

  request_then : RequestFits x fits.numbers fits.permits s.shelf c (confirmed q) (now_is.confirmed r)
  request_then = record { entry = f.entry; asks = f.asks; wait = f.wait; phase = refl; waited = f.waited; gave_read = f.gave_read; hold = tt; seen = tt; write = f.write; reader = f.reader }

  -- ---- its permit ends

  other_side : (j : ℕ) → (id == j) ≡ false → (v : Bool) → (j == id) ≡ v → v ≡ false
  other_side j apart false e = refl
  other_side j apart true e = let one : (id == j) ≡ true = eq-eqb id j (sym (eqb-true j id e)) in absurd cc

  module _ (how : LockStatus) (over : end_of how ≡ Some how) (not_waiting : is_waiting how ≡ false) (shelf : Shelf) (m : Managed) (then : Changes) (new : NowFits x (state_with shelf m) locks (now_with then))
      (same : new.permits ≡ fits.permits) (ends : (n : ℕ) → ended n then ≡ ended n c) where
    others : (j : ℕ) → (id == j) ≡ false → OpenFits x new.numbers new.permits shelf then (get s.requests j) (now.request j)
    others j apart =
        subst (λ (v : Bool). OpenFits x new.numbers new.permits shelf then (get s.requests j) (cond v (Some (now_is.confirmed r)) (now.request j))) (other_side j apart (j == id) refl)
        (subst (λ (o : Option state.Request). OpenFits x new.numbers new.permits shelf then o (cond (j == id) (Some (now_is.confirmed r)) (now.request j)))
        (at-insert s.requests id (confirmed q) j ∙ ap (λ (v : Bool). cond v (Some (confirmed q)) (get s.requests j)) apart) (new.requests j))

    kept : OtherFits x new.numbers fits.permits s now id m shelf locks s.lock.next then
    kept = subst (λ (p : Permits). OtherFits x new.numbers p s now id m shelf locks s.lock.next then) same
        (record { made = new.made; order = new.rows; stored = new.shelf; lock = new.lock; others = others })

    one : RequestFits x new.numbers new.permits shelf then (confirmed q) (now_is.confirmed r)
    one =
        subst (λ (v : Bool). OpenFits x new.numbers new.permits shelf then (Some (confirmed q)) (cond v (Some (now_is.confirmed r)) (now.request id))) (eq-eqb id id refl)
        (subst (λ (o : Option state.Request). OpenFits x new.numbers new.permits shelf then o (cond (id == id) (Some (now_is.confirmed r)) (now.request id)))
        (at-insert s.requests id (confirmed q) id ∙ ap (λ (v : Bool). cond v (Some (confirmed q)) (get s.requests id)) (eq-eqb id id refl)) (new.requests id))

    pub released-fits : (k : ℕ) → k ≡ shelf.writes
        → NowFits x (with_counts k (after_all (release_of how q q.held s.lock) s.lock) (state_with shelf m)) (release_of how q q.held s.lock ++ locks) (now_with (extended then (released how r.hold c)))
    released-fits k writes =
        counted-fits x (record (state_with shelf m) { lock = after_all (release_of how q q.held s.lock) s.lock }) (release_of how q q.held s.lock ++ locks) (now_with (extended then (released how r.hold c))) k
        (after_all (release_of how q q.held s.lock) s.lock) writes refl
        (other-closed x s (record (state_with shelf m) { lock = after_all (release_of how q q.held s.lock) s.lock }) now id new.numbers fits.permits (release_of how q q.held s.lock ++ locks)
        (extended then (released how r.hold c)) (Some (confirmed q)) (Some (now_is.confirmed r)) fits.wait fits.some (at-insert s.requests id (confirmed q))
        (request-quiet x new.numbers fits.permits shelf then (extended then (released how r.hold c)) (λ n. (reads-released n how r.hold c then).0) (λ n. (reads-released n how r.hold c then).1) (confirmed q) (now_is.confirmed r)
        (subst (λ (p : Permits). RequestFits x new.numbers p shelf then (confirmed q) (now_is.confirmed r)) same one))
        (release-left x s locks now fits locked id q is how over not_waiting new.numbers m shelf then ends kept q.held r.hold refl f.hold))

  -- ---- what may not be kept

  pub given-up-leaves : (how : LockStatus) → end_of how ≡ Some how → is_waiting how ≡ false → (k : ℕ) → k ≡ s.shelf.writes
      → NowFits x (with_counts k (after_all (release_of how q q.held s.lock) s.lock) (state_with s.shelf s.managed)) (release_of how q q.held s.lock ++ locks) (now_with (extended c (released how r.hold c)))
  given-up-leaves how over not_waiting k same = released-fits how over not_waiting s.shelf s.managed c (request-fits x s locks now fits id (confirmed q) (now_is.confirmed r) request_then)
      (request-permits x s locks now fits id (confirmed q) (now_is.confirmed r) request_then) (λ n. refl) k same

  -- ---- what is renewed

  module _ (order : IsOrderly c) (b : Numbered) (w : Write) (held : get s.shelf.bodies key ≡ Some b) (body : body_of key c ≡ Some w) (meta : CacheMeta) where
    abbrev weight : ℕ
    weight = weight_for (as_body (record w { meta = meta }) c)

    abbrev then : Changes
    then = weighs (alone r.entry) weight ∷ renews w.number r.entry meta ∷ c

    abbrev shelf_then : Shelf
    shelf_then = renewed key meta s.shelf

    abbrev managed_then : Managed
    managed_then = weighed_anew N (alone r.entry) weight s.managed

    made_then : IsMade x managed_then
    made_then = made-anew x N (alone r.entry) weight s.managed fits.made

    pub rows_then : AreShardsOf x.shards managed_then.shards (rows (weighs (alone r.entry) weight ∷ c))
    rows_then = subst (λ (i : ℕ). AreShardsOf x.shards (weighed_anew i (alone r.entry) weight s.managed).shards (rows (weighs (alone r.entry) weight ∷ c))) (sym fits.made.shards)
        (let a = AreShardsOf-after {M = Kept} x.shards (reweighs (alone r.entry) weight) (alone r.entry) s.managed.shards (rows c) fits.some refl fits.rows in record { count = a.count; each = a.each })

    carries : (p : state.Request) → Carries fits.numbers fits.numbers s.shelf shelf_then c then p
    carries p = record { named = λ n i h. h; flights = λ n g e at. (g, at, refl, refl); reads = λ n place i e named h. (h, no_longer (length (bytes_of i c))) }

    renewed_fits : NowFits x (state_with shelf_then managed_then) locks (now_with then)
    renewed_fits =
        let shelf = shelf-renews fits.numbers s.shelf.bodies s.shelf.flying s.shelf.writes c fits.shelf order key b w held body r.entry refl meta in
        record {
          numbers = fits.numbers;
          permits = fits.permits;
          wait = fits.wait;
          some = fits.some;
          made = made_then;
          rows = rows_then;
          shelf = shelf-weighs fits.numbers shelf_then.bodies s.shelf.flying s.shelf.writes (renews w.number r.entry meta ∷ c) shelf (alone r.entry) weight;
          lock = lock-same fits.permits locks s.lock.next c fits.lock then (omega arith) (λ j. refl) (λ j. refl);
          requests = turned-fits x fits.numbers fits.permits shelf_then then id (get s.requests) (get (insert s.requests id (confirmed q))) now.request (Some (confirmed q)) (Some (now_is.confirmed r))
              (at-insert s.requests id (confirmed q))
              (request-carried fits.numbers fits.numbers s.shelf shelf_then c then x fits.permits fits.permits (confirmed q) (now_is.confirmed r) (carries (confirmed q)) (λ j p y. y) request_then)
              (λ j apart. open-carried fits.numbers fits.numbers s.shelf shelf_then c then x fits.permits fits.permits (get s.requests j) (now.request j) (λ p here. carries p) (λ j p y. y) (fits.requests j));
        }

    went_fits : (es : List CacheEntryKey) → NowFits x (emptied N es (state_with shelf_then managed_then)) locks (now_with (extended then (map takes es)))
    went_fits es = emptied-fits x N fits.made.shards es (state_with shelf_then managed_then) locks (now_with then) renewed_fits

    went_permits : (es : List CacheEntryKey) → (went_fits es).permits ≡ fits.permits
    unfolding renewed_fits went_fits
    went_permits es = emptied-permits x N fits.made.shards es (state_with shelf_then managed_then) locks (now_with then) renewed_fits

    cut_fits : (es : List CacheEntryKey) → NowFits x (taken N r.entry (emptied N es (state_with shelf_then managed_then))) locks (now_with (takes (alone r.entry) ∷ extended then (map takes es)))
    cut_fits es = taken-fits x (emptied N es (state_with shelf_then managed_then)) locks (now_with (extended then (map takes es))) (went_fits es) N fits.made.shards r.entry

    cut_permits : (es : List CacheEntryKey) → (cut_fits es).permits ≡ fits.permits
    unfolding cut_fits
    cut_permits es = taken-permits x (emptied N es (state_with shelf_then managed_then)) locks (now_with (extended then (map takes es))) (went_fits es) N fits.made.shards r.entry ∙ went_permits es

    -- the state after it, by the entry of the request in the promise
    key_is : key_for q ≡ key
    key_is = ap (λ (e : CacheEntryKey). stored_key (key_of e)) f.entry

    fit : BodyFits fits.numbers (λ m. bytes_of m c) (λ m. is_done m c) key (Some b) (Some w)
    fit = body-fits fits.numbers s.shelf.bodies s.shelf.flying s.shelf.writes c fits.shelf order key b w held body r.entry refl meta

    pub weight_is : weight_with (option_map (λ y. y.body) (get s.shelf.bodies (key_for q))) meta ≡ weight
    weight_is =
        ap (λ (k : StoredKey). weight_with (option_map (λ y. y.body) (get s.shelf.bodies k)) meta) key_is ∙ ap (λ (o : Option Numbered). weight_with (option_map (λ y. y.body) o) meta) held
        ∙ ap (λ (l : List ℕ). weight_for (record { bytes = l; meta = meta })) fit.1

    pub managed_is : reweighed s q meta ≡ managed_then
    managed_is = ap (λ (e : CacheEntryKey). weighed_anew N e (weight_with (option_map (λ y. y.body) (get s.shelf.bodies (key_for q))) meta) s.managed) f.entry
        ∙ ap (λ (v : ℕ). weighed_anew N (alone r.entry) v s.managed) weight_is

    pub state_is : renewed_for s id q meta ≡ state_with shelf_then managed_then
    state_is = ap (λ (k : StoredKey). state_with (renewed k meta s.shelf) (reweighed s q meta)) key_is ∙ ap (λ (m : Managed). state_with shelf_then m) managed_is

    -- what went in turn from the shards went in turn from the rows
    pub in_turn : (over : Bool) (es : List CacheEntryKey) → shards.GoInTurn N over es (reweighed s q meta) → GoInTurn x over es (rows (weighs (alone r.entry) weight ∷ c))
    in_turn over es h = turn-rows x fits.some N fits.made.shards over es managed_then (rows (weighs (alone r.entry) weight ∷ c)) made_then rows_then (subst (λ (m : Managed). shards.GoInTurn N over es m) managed_is h)

    pub room : Fits N (reweighed s q meta) → FitsBeside x (alone r.entry) (rows (weighs (alone r.entry) weight ∷ c))
    room p = has-room x managed_then (rows (weighs (alone r.entry) weight ∷ c)) fits.some made_then rows_then (alone r.entry)
        (subst (λ (n : ℕ). Fits n managed_then) fits.made.shards (subst (λ (m : Managed). Fits N m) managed_is p))

    pub away : (g : TierFault) → IsKeptOut s q.entry (weight_with (option_map (λ y. y.body) (get s.shelf.bodies (key_for q))) meta) nothing_done g → KeepsOut x (alone r.entry) weight nothing_done g (rows c)
    away g p = entry-out x s locks now fits (alone r.entry) weight nothing_done g
        (subst (λ (v : ℕ). IsKeptOut s (alone r.entry) v nothing_done g) weight_is
        (subst (λ (e : CacheEntryKey). IsKeptOut s e (weight_with (option_map (λ y. y.body) (get s.shelf.bodies (key_for q))) meta) nothing_done g) f.entry p))

    module _ (k : ℕ) (writes : k ≡ s.shelf.writes) (es : List CacheEntryKey) where
      abbrev locks_then : LockChanges
      locks_then = release_of status.Done q q.held s.lock

      -- it is renewed, and these went
      pub renewal-leaves : NowFits x (with_counts k (after_all locks_then s.lock) (emptied N es (renewed_for s id q meta))) (locks_then ++ locks)
          (now_with (extended c (renewal w r.entry meta es c ++ released status.Done r.hold c)))
      renewal-leaves = subst (λ (y : State). NowFits x (with_counts k (after_all locks_then s.lock) (emptied N es y)) (locks_then ++ locks) (now_with (extended c (renewal w r.entry meta es c ++ released status.Done r.hold c))))
          (sym state_is)
          (subst (λ (l : Changes). NowFits x (with_counts k (after_all locks_then s.lock) (emptied N es (state_with shelf_then managed_then))) (locks_then ++ locks) (now_with l))
          (sym (extended-both then (map takes es) (released status.Done r.hold c)))
          (released-fits status.Done refl refl (emptied N es (state_with shelf_then managed_then)).shelf (emptied N es (state_with shelf_then managed_then)).managed (extended then (map takes es)) (went_fits es) (went_permits es)
          (λ n. ended-gone n es then) k writes))

      -- the same, and then body and entry go
      pub cut-leaves : NowFits x (with_counts k (after_all locks_then s.lock) (taken N (key_of q.entry) (emptied N es (renewed_for s id q meta)))) (locks_then ++ locks)
          (now_with (extended c ((renewal w r.entry meta es c ++ takes (alone r.entry) ∷ []) ++ released status.Done r.hold c)))
      cut-leaves = subst (λ (y : State). NowFits x (with_counts k (after_all locks_then s.lock) (taken N (key_of q.entry) (emptied N es y))) (locks_then ++ locks)
          (now_with (extended c ((renewal w r.entry meta es c ++ takes (alone r.entry) ∷ []) ++ released status.Done r.hold c)))) (sym state_is)
          (subst (λ (e : CacheEntryKey). NowFits x (with_counts k (after_all locks_then s.lock) (taken N (key_of e) (emptied N es (state_with shelf_then managed_then)))) (locks_then ++ locks)
          (now_with (extended c ((renewal w r.entry meta es c ++ takes (alone r.entry) ∷ []) ++ released status.Done r.hold c)))) (sym f.entry)
          (subst (λ (l : Changes). NowFits x (with_counts k (after_all locks_then s.lock) (taken N r.entry (emptied N es (state_with shelf_then managed_then)))) (locks_then ++ locks) (now_with l))
          (sym (extended-both then (map takes es ++ takes (alone r.entry) ∷ []) (released status.Done r.hold c) ∙ ap (λ (l : Changes). extended l (released status.Done r.hold c)) (extended-both then (map takes es) (takes (alone r.entry) ∷ []))))
          (released-fits status.Done refl refl (taken N r.entry (emptied N es (state_with shelf_then managed_then))).shelf (taken N r.entry (emptied N es (state_with shelf_then managed_then))).managed
          (takes (alone r.entry) ∷ extended then (map takes es))
          (cut_fits es) (cut_permits es) (λ n. ended-gone n es then) k writes)))
