-- A put: its write begins, gets its bytes, and is a body, or is given up; then its entry is admitted, and entries go.
use Rattle.std.proofs.Common.{◌≡◌, ℕ, ◌+◌, refl, ap, sym, ◌∙◌, true, false, subst, cond, [], ◌∷◌, ◌++◌, ◌||◌, ◌==◌, length, arith}
use Rattle.std.specs.Prelude.{Bool, List, Some, None, option_and_then, not, filter}
use Rattle.std.specs.List.{AllByRecursion}
use Rattle.std.specs.FinMap.{get}
use Rattle.std.proofs.lemmas.Bool.{eq-eqb}
use Rattle.cache_changes.specs.Changes.{stored_key}
use Rattle.cache_changes.specs.Uses.{AreShardsOf}
use Rattle.cache_evict.specs.Managed.{Managed}
use Rattle.cache_lock.specs.Changes.{Changes as LockChanges}
use Rattle.tier_model.specs.declared.state.Body.{Body}
use Rattle.tier_model.specs.Keys.{Entry, alone}
use Rattle.tier_model.specs.Rows.{Bodies, FinishedBody, with_body}
use Rattle.tier_model.specs.Shelf.{InFlight, Readers, Shelf, has_number, flying_at, on_flying, stored}
use Rattle.tier_model.specs.State.{Settings, State, shards_of}
use Rattle.tier_model.specs.State as state
use Rattle.tier_model.specs.After.{with_counts}
use Rattle.tier_promise.specs.Promise.{Write, Changes, Now, begins, appends, lands, puts, bytes_of, is_done, rows}
use Rattle.tier_model.proofs.RowSteps.{IsMade}
use Rattle.tier_promise.proofs.NowLists.{all-mapped}
use Rattle.tier_promise.proofs.NowFits.{Numbers, IsFlight, ShelfFits, NowFits}
use Rattle.tier_promise.proofs.NowShelf.{apart_number, with_number, new_flight, named-more, named-new, shelf-begins, shelf-puts}
use Rattle.tier_promise.proofs.NowLands.{shelf-last, shelf-left, shelf-lands}
use Rattle.tier_promise.proofs.NowRequests.{Carries, IsSound, reads-on}
use Rattle.tier_promise.proofs.NowSteps.{no_longer, stored-fits}

-- ---- a write that comes last, under a number that no other has

module _ (n : ℕ) where
  pub on-last : (g : InFlight → InFlight) (fs : List InFlight) (y : InFlight) → AllByRecursion (λ f. has_number n f ≡ false) fs → on_flying n g (fs ++ y ∷ []) ≡ fs ++ cond (has_number n y) (g y) y ∷ []
  on-last g [] y a = refl
  on-last g (f ∷ fs) y a =
      ap (λ (v : Bool). cond v (g f) f ∷ on_flying n g (fs ++ y ∷ [])) a.0 ∙ ap (λ (l : List InFlight). f ∷ l) (on-last g fs y a.1)

  pub land-last : (fs : List InFlight) (y : InFlight) → AllByRecursion (λ f. has_number n f ≡ false) fs → has_number n y ≡ true → filter (λ g. not (has_number n g)) (fs ++ y ∷ []) ≡ fs
  land-last [] y a t = ap (λ (v : Bool). cond (not v) (y ∷ []) []) t
  land-last (f ∷ fs) y a t =
      ap (λ (v : Bool). cond (not v) (f ∷ filter (λ g. not (has_number n g)) (fs ++ y ∷ [])) (filter (λ g. not (has_number n g)) (fs ++ y ∷ []))) a.0
      ∙ ap (λ (l : List InFlight). f ∷ l) (land-last fs y a.1 t)

  pub find-last : (fs : List InFlight) (y : InFlight) → AllByRecursion (λ f. has_number n f ≡ false) fs → has_number n y ≡ true → flying_at n (fs ++ y ∷ []) ≡ Some y
  find-last [] y a t = ap (λ (v : Bool). cond v (Some y) None) t
  find-last (f ∷ fs) y a t = ap (λ (v : Bool). cond v (Some f) (flying_at n (fs ++ y ∷ []))) a.0 ∙ find-last fs y a.1 t

pub find-pushed : (j : ℕ) (fs : List InFlight) (y g : InFlight) → flying_at j fs ≡ Some g → flying_at j (fs ++ y ∷ []) ≡ Some g
find-pushed j [] y g e = absurd cc
find-pushed j (f ∷ fs) y g e = by_test (has_number j f) e (find-pushed j fs y g)
  where
    by_test : (v : Bool) → cond v (Some f) (flying_at j fs) ≡ Some g → (flying_at j fs ≡ Some g → flying_at j (fs ++ y ∷ []) ≡ Some g) → cond v (Some f) (flying_at j (fs ++ y ∷ [])) ≡ Some g
    by_test true e ih = e
    by_test false e ih = ih e

all-found : (fs gs : List InFlight) (y : InFlight) → AllByRecursion (λ g. flying_at g.number fs ≡ Some g) gs → flying_at y.number (fs ++ y ∷ []) ≡ Some y
    → AllByRecursion (λ g. flying_at g.number (fs ++ y ∷ []) ≡ Some g) (gs ++ y ∷ [])
all-found fs [] y a h = (h, tt)
all-found fs (g ∷ gs) y a h = (find-pushed g.number fs y g a.0, all-found fs gs y a.1 h)

-- ---- a write that begins, gets its bytes and lands in one event

module _ (numbers : Numbers) (bodies : Bodies) (fs : List InFlight) (n : ℕ) (c : Changes) (f : ShelfFits numbers bodies fs n c) (e : Entry) (b : Body) where
  abbrev pub m : ℕ
  m = length c

  abbrev pub w : Write
  w = record { number = m; entry = e; meta = b.meta }

  abbrev pub more : Numbers
  more = with_number n m numbers

  abbrev whole : InFlight
  whole = record { number = n; key = stored_key e; meta = b.meta; bytes = b.bytes; ended = true; removed = false }

  abbrev pub written : Changes
  written = appends m b.bytes true ∷ begins w ∷ c

  others : AllByRecursion (λ g. has_number n g ≡ false) fs
  others = all-mapped (IsFlight numbers (λ i. bytes_of i c) (λ i. is_done i c)) (λ g. has_number n g ≡ false) fs
      (λ g h. let l = (f.below g.number h.0 h.1).0 in apart_number n g.number (λ same. absurd (omega (arith, l, same)))) f.each

  here : has_number n whole ≡ true
  here = eq-eqb n n refl

  filled : on_flying n (λ g. record g { ended = true }) (on_flying n (λ g. record g { bytes = g.bytes ++ b.bytes }) (fs ++ new_flight n (stored_key e) b.meta ∷ [])) ≡ fs ++ whole ∷ []
  filled =
      ap (on_flying n (λ g. record g { ended = true }))
      (on-last n (λ g. record g { bytes = g.bytes ++ b.bytes }) fs (new_flight n (stored_key e) b.meta) others
      ∙ ap (λ (v : Bool). fs ++ cond v (record (new_flight n (stored_key e) b.meta) { bytes = b.bytes }) (new_flight n (stored_key e) b.meta) ∷ []) here)
      ∙ on-last n (λ g. record g { ended = true }) fs (record (new_flight n (stored_key e) b.meta) { bytes = b.bytes }) others
      ∙ ap (λ (v : Bool). fs ++ cond v whole (record (new_flight n (stored_key e) b.meta) { bytes = b.bytes }) ∷ []) here

  pub named-now : more n ≡ Some m
  named-now = named-new numbers bodies fs n c e b.meta f

  full : ShelfFits more bodies (fs ++ whole ∷ []) (n + 1) written
  full = subst (λ (l : List InFlight). ShelfFits more bodies l (n + 1) written) filled
      (shelf-last more bodies (fs ++ new_flight n (stored_key e) b.meta ∷ []) (n + 1) (begins w ∷ c) (shelf-begins numbers bodies fs n c e b.meta f) n m named-now b.bytes (f.fresh m (no_longer m)).1)

  pub shelf-given-up : ShelfFits more bodies fs (n + 1) (lands m false ∷ written)
  shelf-given-up = subst (λ (l : List InFlight). ShelfFits more bodies l (n + 1) (lands m false ∷ written)) (land-last n fs whole others here)
      (shelf-left more bodies (fs ++ whole ∷ []) (n + 1) written full n m named-now)

  pub shelf-whole : AllByRecursion (λ g. flying_at g.number fs ≡ Some g) fs → ShelfFits more (with_body n (record { entry = e; body = b }) bodies) fs (n + 1) (lands m true ∷ written)
  shelf-whole one = subst (λ (l : List InFlight). ShelfFits more (with_body n (record { entry = e; body = b }) bodies) l (n + 1) (lands m true ∷ written)) (land-last n fs whole others here)
      (shelf-lands more bodies (fs ++ whole ∷ []) (n + 1) written full n m named-now (all-found fs fs whole one (find-last n fs whole others here)) whole (find-last n fs whole others here) refl
      (record { entry = e; body = b }) refl refl)

-- ---- the relation

module _ (x : Settings) (s : State) (locks : LockChanges) (now : Now) (fits : NowFits x s locks now) (e : Entry) (b : Body) where
  abbrev c : Changes
  c = now.changes

  abbrev n : ℕ
  n = s.shelf.writes

  abbrev body : FinishedBody
  body = record { entry = e; body = b }

  abbrev into : Numbers
  into = with_number n (length c) fits.numbers

  abbrev all_written : Changes
  all_written = appends (length c) b.bytes true ∷ begins (record { number = length c; entry = e; meta = b.meta }) ∷ c

  -- a request goes on while another write begins, gets its bytes and lands
  goes-on : (new : Shelf) (v : Bool) → new.flying ≡ s.shelf.flying → new.readers ≡ s.shelf.readers → ShelfFits into new.bodies new.flying (n + 1) (lands (length c) v ∷ all_written) → (q : state.Request)
      → Carries fits.numbers into s.shelf new c (lands (length c) v ∷ all_written) q
  goes-on new v flying readers shelf q = record {
    named = λ i j h. named-more fits.numbers s.shelf.bodies s.shelf.flying n c e b.meta fits.shelf i j h;
    flights = λ i f held at. (f, ap (flying_at i) flying ∙ at, refl, refl);
    reads = λ i place j held h h'. reads-on into new (n + 1) (lands (length c) v ∷ all_written) shelf i j (named-more fits.numbers s.shelf.bodies s.shelf.flying n c e b.meta fits.shelf i j h) s.shelf c
        (λ none. sym (ap (flying_at i) flying) ∙ none) (λ gone. ap (λ r. option_and_then (λ (y : Readers). y.left) (get r i)) readers)
        (λ d. (old_bytes j (apart i j h), ap (λ (u : Bool). u || (u || is_done j c)) (apart i j h) ∙ d))
        (let same : length (bytes_of j (lands (length c) v ∷ all_written)) ≡ length (bytes_of j c) = ap (λ (l : List ℕ). length l) (old_bytes j (apart i j h)) in omega (arith, same)) h';
  }
    where
      apart : (i j : ℕ) → fits.numbers i ≡ Some j → (length c == j) ≡ false
      apart i j h = let l = (fits.shelf.below i j h).1 in apart_number (length c) j (λ same. absurd (omega (arith, l, same)))

      old_bytes : (j : ℕ) → (length c == j) ≡ false → bytes_of j (lands (length c) v ∷ all_written) ≡ bytes_of j c
      old_bytes j a = ap (λ (u : Bool). cond u (bytes_of j c ++ b.bytes) (bytes_of j c)) a

  landed-fits : (new : Shelf) (v : Bool) → new.flying ≡ s.shelf.flying → new.readers ≡ s.shelf.readers → new.writes ≡ n + 1
      → ShelfFits into new.bodies new.flying new.writes (lands (length c) v ∷ all_written) → ShelfFits into new.bodies new.flying (n + 1) (lands (length c) v ∷ all_written)
      → NowFits x (record s { shelf = new }) locks (record now { changes = lands (length c) v ∷ all_written })
  landed-fits new v flying readers writes shelf at =
      stored-fits x s locks now fits into new s.managed (lands (length c) v ∷ all_written) fits.made fits.rows shelf (omega arith) (λ j. refl) (λ k. refl) (goes-on new v flying readers at)

  -- a write that is given up
  pub given-up-fits : NowFits x (with_counts (n + 1) s.lock s) locks (record now { changes = lands (length c) false ∷ all_written })
  given-up-fits =
      let shelf = shelf-given-up fits.numbers s.shelf.bodies s.shelf.flying n c fits.shelf e b in
      landed-fits (record s.shelf { writes = n + 1 }) false refl refl refl shelf shelf

  -- a write that is a body
  pub whole-fits : IsSound s → NowFits x (with_counts (n + 1) s.lock (record s { shelf = stored n body s.shelf })) locks (record now { changes = lands (length c) true ∷ all_written })
  whole-fits sound =
      let shelf = shelf-whole fits.numbers s.shelf.bodies s.shelf.flying n c fits.shelf e b sound.one in
      landed-fits (record (stored n body s.shelf) { writes = n + 1 }) true refl refl refl shelf shelf

-- an entry is admitted
pub put-fits : (x : Settings) (s : State) (locks : LockChanges) (now : Now) (fits : NowFits x s locks now) (i : ℕ) → i ≡ x.shards → (e : Entry) (w : ℕ) (m : Managed) → IsMade x m
    → AreShardsOf x.shards m.shards (rows (puts (alone e) w ∷ now.changes)) → NowFits x (record s { managed = m }) locks (record now { changes = puts (alone e) w ∷ now.changes })
put-fits x s locks now fits i same e w m made order =
    stored-fits x s locks now fits fits.numbers s.shelf m (puts (alone e) w ∷ now.changes) made order (shelf-puts fits.numbers s.shelf.bodies s.shelf.flying s.shelf.writes now.changes fits.shelf (alone e) w)
    (omega arith) (λ j. refl) (λ k. refl) (λ q. record {
      named = λ j k h. h;
      flights = λ j f held at. (f, at, refl, refl);
      reads = λ j place k held h e. (e, no_longer (length (bytes_of k now.changes)));
    })
