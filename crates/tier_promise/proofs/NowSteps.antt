-- What an event leaves of the relation between a state and the promise, said for all events: refusals, requests that turn, and what leaves the lock alone.
use Rattle.std.proofs.Common.{◌≡◌, ℕ, ◌≤◌, refl, ap, sym, ◌∙◌, true, false, subst, cond, ◌++◌, ◌==◌, length, arith}
use Rattle.std.specs.Prelude.{Bool, Option, Some, None, MatchOption}
use Rattle.std.specs.FinMap.{FinMap, get, insert}
use Rattle.std.specs.Ordering.{nat_cmp}
use Rattle.std.proofs.lemmas.Bool.{eqb-true, eq-eqb}
use Rattle.cache_changes.specs.Changes.{StoredKey}
use Rattle.cache_changes.specs.Uses.{AreShardsOf}
use Rattle.cache_evict.specs.Managed.{Managed}
use Rattle.cache_lock.specs.State.{LockState}
use Rattle.cache_lock.specs.Changes.{Changes as LockChanges}
use Rattle.tier_model.specs.declared.event.TierFault.{TierFault}
use Rattle.tier_model.specs.Calls.{Call, Outcome, writes_after}
use Rattle.cache_words.specs.Time.{MomentValue}
use Rattle.tier_model.specs.declared.event.Action.{Action}
use Rattle.tier_model.specs.Shelf.{Shelf, flying_at, readable}
use Rattle.tier_model.specs.State.{Settings, Reader, streaming, State, shards_of}
use Rattle.tier_model.specs.State as state
use Rattle.tier_model.specs.Step.{BeginsWrite, OfRequest}
use Rattle.tier_model.specs.After.{with_counts, with_request, by_request, on_request, after_outcome, lock_changes, after}
use Rattle.tier_promise.specs.Promise.{Changes, Request, EventRow, Now, IsRight, bytes_of, rows, ended, waiting, ran_out, refused, came, now_after}
use Rattle.tier_model.proofs.CallLaws.{Inside, call_at, at-insert}
use Rattle.tier_model.proofs.RowSteps.{IsMade}
use Rattle.tier_promise.proofs.NowRows.{row_closed, Answered}
use Rattle.tier_promise.proofs.NowFits.{Numbers, Permits, ShelfFits, RequestFits, OpenFits, NowFits}
use Rattle.tier_promise.proofs.NowShelf.{shelf-later}
use Rattle.tier_promise.proofs.NowLock.{lock-same}
use Rattle.tier_promise.proofs.NowRequests.{Carries, open-carried}

-- a call is answered by its row, and the state after it is what the promise says then
pub record Step (x : Settings) (used : ℕ) (s : State) (locks : LockChanges) (c : Call) (now : Now) : Type 0 where
  pub right : IsRight x used c now
  pub fits : NowFits x (after s c) (lock_changes s c ++ locks) (now_after x c now)

-- what is said of an event of an open request
abbrev pub Comes : Settings → ℕ → State → LockChanges → Now → MomentValue → Action → Inside → Outcome → ℕ → ℕ → EventRow → Type 0
Comes x used s locks now t action i o id n row =
    Answered x used o row now.changes
    × NowFits x (with_counts n s.lock (after_outcome s t action (call_at t action i o) o)) locks (cond (ran_out o) now (came id row now).now)

-- what is said of the request that is open
pub of-open : (s : State) (id : ℕ) (q : state.Request) (P : state.Request → Type 0) → get s.requests id ≡ Some q → OfRequest s id P → P q
of-open s id q P is p = subst (λ (o : Option state.Request). MatchOption o ⊥ P) is p

pub on-open : (s : State) (id : ℕ) (q : state.Request) (f : state.Request → State) (P : State → Type 0) → get s.requests id ≡ Some q → P (f q) → P (on_request s id f)
on-open s id q f P is p = subst (λ (o : Option state.Request). P (by_request s o f)) (sym is) p

pub no_longer : (n : ℕ) → n ≤ n
no_longer n = omega arith

-- no write began
none-began : (s : State) (told v : Bool) → BeginsWrite s false told v → v ≡ false
none-began s told true b = absurd cc
none-began s told false b = refl

pub same-count : (s : State) (told v : Bool) → BeginsWrite s false told v → writes_after s.shelf.writes v ≡ s.shelf.writes
same-count s told v b = ap (writes_after s.shelf.writes) (none-began s told v b)

-- ---- parts that stay

-- a shelf on which the same is in flight and to read
pub open-same : (x : Settings) (numbers : Numbers) (permits : Permits) (old new : Shelf) (c : Changes) → new.flying ≡ old.flying → ((n : ℕ) → readable n new ≡ readable n old)
    → (o : Option state.Request) (v : Option Request) → OpenFits x numbers permits old c o v → OpenFits x numbers permits new c o v
open-same x numbers permits old new c flying same o v f = open-carried numbers numbers old new c c x permits permits o v
    (λ q is. record {
      named = λ n m h. h;
      flights = λ n g e at. (g, ap (flying_at n) flying ∙ at, refl, refl);
      reads = λ n place m e named h. (same n ∙ h, no_longer (length (bytes_of m c)));
    })
    (λ n p h. h) f

-- ---- requests that turn

pub turned-fits : (x : Settings) (numbers : Numbers) (permits : Permits) (shelf : Shelf) (c : Changes) (id : ℕ) (was now : ℕ → Option state.Request) (then : ℕ → Option Request) (o : Option state.Request)
    (v : Option Request) → ((i : ℕ) → now i ≡ cond (id == i) o (was i)) → OpenFits x numbers permits shelf c o v → ((i : ℕ) → (id == i) ≡ false → OpenFits x numbers permits shelf c (was i) (then i))
    → (i : ℕ) → OpenFits x numbers permits shelf c (now i) (cond (i == id) v (then i))
turned-fits x numbers permits shelf c id was now then o v turns one others i = subst (λ (y : Option state.Request). OpenFits x numbers permits shelf c y (cond (i == id) v (then i))) (sym (turns i)) (by_tests (id == i) (i == id) refl refl)
  where
    by_tests : (a b : Bool) → (id == i) ≡ a → (i == id) ≡ b → OpenFits x numbers permits shelf c (cond a o (was i)) (cond b v (then i))
    by_tests true true s t = one
    by_tests false false s t = others i s
    by_tests true false s t = let yes : (i == id) ≡ true = eq-eqb i id (sym (eqb-true id i s)) in absurd cc
    by_tests false true s t = let yes : (id == i) ≡ true = eq-eqb id i (sym (eqb-true i id t)) in absurd cc

module _ (x : Settings) (s : State) (locks : LockChanges) (now : Now) (fits : NowFits x s locks now) where
  -- the requests are others, and all else stays
  pub other-requests : (requests : FinMap nat_cmp state.Request) (then : ℕ → Option Request) → ((i : ℕ) → OpenFits x fits.numbers fits.permits s.shelf now.changes (get requests i) (then i))
      → NowFits x (record s { requests = requests }) locks (record now { request = then })
  other-requests requests then each = record {
    numbers = fits.numbers;
    permits = fits.permits;
    wait = fits.wait;
    some = fits.some;
    made = fits.made;
    rows = fits.rows;
    shelf = fits.shelf;
    lock = fits.lock;
    requests = each;
  }

  -- they are as before, whatever their table
  pub same-requests : (then : ℕ → Option Request) → ((i : ℕ) → then i ≡ now.request i) → NowFits x s locks (record now { request = then })
  same-requests then same = other-requests s.requests then (λ i. subst (λ (v : Option Request). OpenFits x fits.numbers fits.permits s.shelf now.changes (get s.requests i) v) (sym (same i)) (fits.requests i))

  pub as-before : (id : ℕ) (v : Option Request) → now.request id ≡ v → (i : ℕ) → cond (i == id) v (now.request i) ≡ now.request i
  as-before id v is i = by_test (i == id) refl
    where
      by_test : (t : Bool) → (i == id) ≡ t → cond t v (now.request i) ≡ now.request i
      by_test true t = sym is ∙ ap now.request (sym (eqb-true i id t))
      by_test false t = refl

  pub refused-fits : (id : ℕ) (p : Request) (f : TierFault) → now.request id ≡ Some p → NowFits x s locks (came id (refused p f) now).now
  refused-fits id p f is = same-requests (λ i. cond (i == id) (Some p) (now.request i)) (as-before id (Some p) is)

  pub closed-fits : (id : ℕ) → now.request id ≡ None → NowFits x s locks (came id row_closed now).now
  closed-fits id is = same-requests (λ i. cond (i == id) None (now.request i)) (as-before id None is)

  -- a request turns, and all else stays
  pub request-fits : (id : ℕ) (q : state.Request) (p : Request) → RequestFits x fits.numbers fits.permits s.shelf now.changes q p
      → NowFits x (with_request id q s) locks (record now { request = λ j. cond (j == id) (Some p) (now.request j) })
  request-fits id q p f = other-requests (insert s.requests id q) (λ j. cond (j == id) (Some p) (now.request j))
      (turned-fits x fits.numbers fits.permits s.shelf now.changes id (get s.requests) (get (insert s.requests id q)) now.request (Some q) (Some p) (at-insert s.requests id q) f (λ j apart. fits.requests j))

  -- with the permits that there were
  pub request-permits : (id : ℕ) (q : state.Request) (p : Request) (f : RequestFits x fits.numbers fits.permits s.shelf now.changes q p) → (request-fits id q p f).permits ≡ fits.permits
  unfolding request-fits other-requests
  request-permits id q p f = refl

  -- what is stored changes, and the order of use; all requests go on
  pub stored-fits : (numbers : Numbers) (shelf : Shelf) (m : Managed) (then : Changes) → IsMade x m → AreShardsOf x.shards m.shards (rows then) → ShelfFits numbers shelf.bodies shelf.flying shelf.writes then
      → length now.changes ≤ length then → ((n : ℕ) → ended n then ≡ ended n now.changes) → ((k : StoredKey) → waiting k then ≡ waiting k now.changes)
      → ((q : state.Request) → Carries fits.numbers numbers s.shelf shelf now.changes then q) → NowFits x (record s { shelf = shelf; managed = m }) locks (record now { changes = then })
  stored-fits numbers shelf m then made order stored longer ends waits carries = record {
    numbers = numbers;
    permits = fits.permits;
    wait = fits.wait;
    some = fits.some;
    made = made;
    rows = order;
    shelf = stored;
    lock = lock-same fits.permits locks s.lock.next now.changes fits.lock then longer ends waits;
    requests = λ id. open-carried fits.numbers numbers s.shelf shelf now.changes then x fits.permits fits.permits (get s.requests id) (now.request id) (λ q is. carries q) (λ j p h. h) (fits.requests id);
  }

  -- a number is used up in vain
  pub later-fits : (n : ℕ) → s.shelf.writes ≤ n → NowFits x (with_counts n s.lock s) locks now
  later-fits n later = record {
    numbers = fits.numbers;
    permits = fits.permits;
    wait = fits.wait;
    some = fits.some;
    made = fits.made;
    rows = fits.rows;
    shelf = shelf-later fits.numbers s.shelf.bodies s.shelf.flying s.shelf.writes now.changes fits.shelf n later;
    lock = fits.lock;
    requests = λ i. open-same x fits.numbers fits.permits s.shelf (record s.shelf { writes = n }) now.changes refl (λ m. refl) (get s.requests i) (now.request i) (fits.requests i);
  }

-- with the counts that it has
pub counted-fits : (x : Settings) (s : State) (locks : LockChanges) (now : Now) (n : ℕ) (lock : LockState) → n ≡ s.shelf.writes → lock ≡ s.lock → NowFits x s locks now → NowFits x (with_counts n lock s) locks now
counted-fits x s locks now n lock writes same fits =
    subst (λ (l : LockState). NowFits x (with_counts n l s) locks now) (sym same) (subst (λ (m : ℕ). NowFits x (with_counts m s.lock s) locks now) (sym writes) fits)

-- a request that is open in both
pub both_open : (x : Settings) (numbers : Numbers) (permits : Permits) (shelf : Shelf) (c : Changes) (q : state.Request) (v : Option Request) → OpenFits x numbers permits shelf c (Some q) v
    → (p : Request) × (v ≡ Some p) × RequestFits x numbers permits shelf c q p
both_open x numbers permits shelf c q None f = absurd f
both_open x numbers permits shelf c q (Some p) f = (p, refl, f)

pub both_closed : (x : Settings) (numbers : Numbers) (permits : Permits) (shelf : Shelf) (c : Changes) (v : Option Request) → OpenFits x numbers permits shelf c None v → v ≡ None
both_closed x numbers permits shelf c None f = refl
both_closed x numbers permits shelf c (Some p) f = absurd f
