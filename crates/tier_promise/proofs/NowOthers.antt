-- All requests but one: what a state is to the promise while that one turns, part by part.
use Rattle.std.proofs.Common.{◌≡◌, ℕ, ◌<◌, refl, ap, sym, ◌∙◌, true, false, subst, cond, ◌∷◌, ◌||◌, ◌==◌, length, arith}
use Rattle.std.specs.Prelude.{◌-◌, nat_le, Bool, List, Option, Some, None, not, filter}
use Rattle.std.specs.FinMap.{FinMap, get}
use Rattle.std.specs.Ordering.{nat_cmp}
use Rattle.std.proofs.lemmas.Bool.{eqb-true, eq-eqb}
use Rattle.cache_changes.specs.Uses.{AreShardsOf}
use Rattle.cache_changes.proofs.RowLaws.{find-kept, find-gone, not_true, not_false}
use Rattle.cache_evict.specs.Managed.{Managed}
use Rattle.cache_lock.specs.Changes.{Changes as LockChanges, spends, stores}
use Rattle.cache_lock.specs.Status.{is_waiting}
use Rattle.cache_lock.specs.declared.status.LockStatus.{LockStatus}
use Rattle.tier_model.specs.Shelf.{InFlight, Readers, Shelf, has_number, flying_at, readable, readable_of, landed, readers_left, one_more}
use Rattle.tier_model.specs.State.{Settings, Reader, closed, unread, spent, streaming, State}
use Rattle.tier_model.specs.State as state
use Rattle.tier_model.specs.After.{turned, with_reader, without_reader}
use Rattle.tier_promise.specs.Promise.{Permit, Changes, Request, Now, lands, ends, bytes_of, is_done, rows}
use Rattle.tier_model.proofs.ReaderLaws.{up, down, left_entry, at-with, at-without, at-left}
use Rattle.tier_model.proofs.RowSteps.{IsMade}
use Rattle.tier_promise.proofs.NowFits.{Numbers, Permits, end_of, ShelfFits, LockFits, OpenFits, NowFits}
use Rattle.tier_promise.proofs.NowShelf.{apart_number, shelf-ends}
use Rattle.tier_promise.proofs.NowLands.{shelf-left, same-place}
use Rattle.tier_promise.proofs.NowLock.{lock-same, lock-spent, lock-stores}
use Rattle.tier_promise.proofs.NowRequests.{Carries, open-carried, flying-read}
use Rattle.tier_promise.proofs.NowSteps.{no_longer, turned-fits}
use Rattle.tier_promise.proofs.NowQuiet.{open-quiet}

-- ---- readers that turn keep what they were left with

up_some : (n : ℕ) (b : Reader) (r : Readers) → (y : Readers) × (up n b (Some r) ≡ Some y) × (y.left ≡ r.left)
up_some n (streaming m place) r = by_test (m == n)
  where
    by_test : (v : Bool) → (y : Readers) × (cond v (Some (one_more (Some r))) (Some r) ≡ Some y) × (y.left ≡ r.left)
    by_test true = (one_more (Some r), refl, refl)
    by_test false = (r, refl, refl)
up_some n closed r = (r, refl, refl)
up_some n (unread l) r = (r, refl, refl)
up_some n spent r = (r, refl, refl)

down_left : (n : ℕ) (a : Reader) (r y : Readers) → down n a (Some r) ≡ Some y → y.left ≡ r.left
down_left n (streaming m place) r y e = by_tests (m == n) (nat_le r.count 1) e
  where
    by_tests : (u v : Bool) → cond u (cond v None (Some (record r { count = r.count - 1 }))) (Some r) ≡ Some y → y.left ≡ r.left
    by_tests true true e = absurd cc
    by_tests true false e = let same : record r { count = r.count - 1 } ≡ y = cc in ap (λ (z : Readers). z.left) (sym same)
    by_tests false v e = let same : r ≡ y = cc in ap (λ (z : Readers). z.left) (sym same)
down_left n closed r y e = let same : r ≡ y = cc in ap (λ (z : Readers). z.left) (sym same)
down_left n (unread l) r y e = let same : r ≡ y = cc in ap (λ (z : Readers). z.left) (sym same)
down_left n spent r y e = let same : r ≡ y = cc in ap (λ (z : Readers). z.left) (sym same)

turned_left : (n : ℕ) (a b : Reader) (readers : FinMap nat_cmp Readers) (r y : Readers) → get readers n ≡ Some r → get (without_reader a (with_reader b readers)) n ≡ Some y → y.left ≡ r.left
turned_left n a b readers r y old new =
    let mid = up_some n b r in
    let is : down n a (Some mid.0) ≡ Some y =
    ap (down n a) (sym (at-with n b readers ∙ ap (up n b) old ∙ mid.1)) ∙ sym (at-without n a (with_reader b readers)) ∙ new in
    down_left n a mid.0 y is ∙ mid.2

-- there is as much to read as before
turned_reads : (n : ℕ) (a b : Reader) (shelf : Shelf) (x : List ℕ × Bool) → ((y : Readers) × (get (turned a b shelf).readers n ≡ Some y)) → readable n shelf ≡ Some x → readable n (turned a b shelf) ≡ Some x
turned_reads n a b shelf x there e = by_flight (flying_at n shelf.flying) e
  where
    by_left : (o : Option Readers) → get shelf.readers n ≡ o → readable_of None o ≡ Some x → readable_of None (get (turned a b shelf).readers n) ≡ Some x
    by_left None is e = absurd cc
    by_left (Some r) is e =
        let same = turned_left n a b shelf.readers r there.0 is there.1 in
        ap (readable_of None) there.1 ∙ ap (λ (l : Option (List ℕ)). readable_of None (Some (record there.0 { left = l }))) same ∙ both r e
      where
        both : (r : Readers) → readable_of None (Some r) ≡ Some x → readable_of None (Some (record there.0 { left = r.left })) ≡ Some x
        both r e = e

    by_flight : (o : Option InFlight) → readable_of o (get shelf.readers n) ≡ Some x → readable_of o (get (turned a b shelf).readers n) ≡ Some x
    by_flight (Some f) e = e
    by_flight None e = by_left (get shelf.readers n) refl e

-- ---- all requests but one

pub record OtherFits (x : Settings) (numbers : Numbers) (permits : Permits) (s : State) (now : Now) (id : ℕ) (m : Managed) (shelf : Shelf) (locks : LockChanges) (next : ℕ) (c : Changes) : Type 0 where
  pub made : IsMade x m
  pub order : AreShardsOf x.shards m.shards (rows c)
  pub stored : ShelfFits numbers shelf.bodies shelf.flying shelf.writes c
  pub lock : LockFits permits locks next c
  pub others : (j : ℕ) → (id == j) ≡ false → OpenFits x numbers permits shelf c (get s.requests j) (now.request j)

module _ (x : Settings) (s : State) (now : Now) (id : ℕ) where
  pub other-start : (locks : LockChanges) (fits : NowFits x s locks now) → OtherFits x fits.numbers fits.permits s now id s.managed s.shelf locks s.lock.next now.changes
  other-start locks fits = record { made = fits.made; order = fits.rows; stored = fits.shelf; lock = fits.lock; others = λ j apart. fits.requests j }

  module _ (numbers : Numbers) (permits : Permits) (m : Managed) (shelf : Shelf) (locks : LockChanges) (next : ℕ) (c : Changes) (f : OtherFits x numbers permits s now id m shelf locks next c) where
    -- a lock is handed back
    pub other-spent : (n : ℕ) → OtherFits x numbers permits s now id m shelf (spends n ∷ locks) next c
    other-spent n = record { made = f.made; order = f.order; stored = f.stored; lock = lock-spent permits locks next c f.lock n; others = f.others }

    -- a permit ends
    pub other-ends : (n : ℕ) (p : Permit) → permits n ≡ Some p → (how : LockStatus) → end_of how ≡ Some how → is_waiting how ≡ false
        → OtherFits x numbers permits s now id m shelf (stores n how ∷ locks) next (ends p.number how ∷ c)
    other-ends n p named how over not_waiting = record {
      made = f.made;
      order = f.order;
      stored = shelf-ends numbers shelf.bodies shelf.flying shelf.writes c f.stored p.number how;
      lock = lock-stores permits locks next c f.lock n p named how over not_waiting;
      others = λ j apart. open-quiet x numbers permits permits shelf c (ends p.number how ∷ c) (λ k. refl) (λ k. refl) (λ k y h. h) (get s.requests j) (now.request j) (f.others j apart);
    }

    -- a reader takes the place of another
    pub other-turned : (a b : Reader) → ((j n place : ℕ) (q : state.Request) → (id == j) ≡ false → get s.requests j ≡ Some q → q.reader ≡ streaming n place → (y : Readers) × (get (turned a b shelf).readers n ≡ Some y))
        → OtherFits x numbers permits s now id m (turned a b shelf) locks next c
    other-turned a b there = record {
      made = f.made;
      order = f.order;
      stored = f.stored;
      lock = f.lock;
      others = λ j apart. open-carried numbers numbers shelf (turned a b shelf) c c x permits permits (get s.requests j) (now.request j)
          (λ q is. record {
            named = λ n k h. h;
            flights = λ n g e at. (g, at, refl, refl);
            reads = λ n place k e h read. (turned_reads n a b shelf (bytes_of k c, is_done k c) (there j n place q apart is e) read, no_longer (length (bytes_of k c)));
          })
          (λ k y h. h) (f.others j apart);
    }

    -- a write is given up: it is of that one request, and its readers are left with its bytes
    module _ (is_finished : Bool) (n k : ℕ) (named : numbers n ≡ Some k) (g : InFlight) (at : flying_at n shelf.flying ≡ Some g)
        (own : (j : ℕ) (q : state.Request) → (id == j) ≡ false → get s.requests j ≡ Some q → q.write ≡ Some n → ⊥)
        (there : (j place : ℕ) (q : state.Request) → (id == j) ≡ false → get s.requests j ≡ Some q → q.reader ≡ streaming n place → (y : Readers) × (get shelf.readers n ≡ Some y)) where
      pub apart_of : (i : ℕ) → (i ≡ n → ⊥) → (n == i) ≡ false
      apart_of i h = apart_number n i (λ e. h (sym e))

      pub stays_at : (i : ℕ) → (n == i) ≡ false → flying_at i (filter (λ f. not (has_number n f)) shelf.flying) ≡ flying_at i shelf.flying
      stays_at i apart = find-kept (has_number i) (λ f. not (has_number n f)) shelf.flying (λ f t. not_false (has_number n f) (ap (λ (y : ℕ). n == y) (sym (eqb-true i f.number t)) ∙ apart))

      pub gone_at : flying_at n (filter (λ f. not (has_number n f)) shelf.flying) ≡ None
      gone_at = find-gone (has_number n) (λ f. not (has_number n f)) shelf.flying (λ f t. not_true (has_number n f) t)

      readers_at : (i : ℕ) → get (landed is_finished n shelf).readers i ≡ cond (n == i) (left_entry g.bytes (is_finished || g.ended) (get shelf.readers i)) (get shelf.readers i)
      readers_at i = ap (λ (o : Option InFlight). get (readers_left is_finished n o shelf.readers) i) at ∙ at-left i n is_finished g shelf.readers

      abbrev Reads : Option (List ℕ × Bool) → ℕ → Bool → Type 0
      Reads o j done = o ≡ Some (bytes_of j c, done)

      -- what there is to read of another write, and of this one
      other_read : (i j : ℕ) (done : Bool) → (n == i) ≡ false → Reads (readable i shelf) j done → Reads (readable i (landed is_finished n shelf)) j done
      other_read i j done apart e =
          ap (λ (o : Option InFlight). readable_of o (get (landed is_finished n shelf).readers i)) (stays_at i apart)
          ∙ ap (readable_of (flying_at i shelf.flying)) (readers_at i ∙ ap (λ (u : Bool). cond u (left_entry g.bytes (is_finished || g.ended) (get shelf.readers i)) (get shelf.readers i)) apart) ∙ e

      this_read : ((y : Readers) × (get shelf.readers n ≡ Some y)) → Reads (readable n (landed is_finished n shelf)) k true
      this_read read =
          ap (λ (o : Option InFlight). readable_of o (get (landed is_finished n shelf).readers n)) gone_at
          ∙ ap (readable_of None) (readers_at n ∙ ap (λ (u : Bool). cond u (left_entry g.bytes (is_finished || g.ended) (get shelf.readers n)) (get shelf.readers n)) (eq-eqb n n refl) ∙ ap (left_entry g.bytes (is_finished || g.ended)) read.1)
          ∙ ap (λ (l : List ℕ). readable_of None (Some (record read.0 { left = Some l; whole = is_finished || g.ended }))) (flying-read numbers shelf shelf.writes c f.stored n k named g at).0

      reads_landed : (i j : ℕ) → numbers i ≡ Some j → ((n == i) ≡ true → (y : Readers) × (get shelf.readers n ≡ Some y)) → Reads (readable i shelf) j (is_done j c)
          → Reads (readable i (landed is_finished n shelf)) j ((k == j) || is_done j c)
      reads_landed i j h read e = by_number (n == i) refl (same-place numbers shelf.bodies shelf.flying shelf.writes c f.stored n k named i j h)
        where
          by_number : (u : Bool) → (n == i) ≡ u → u ≡ (k == j) → Reads (readable i (landed is_finished n shelf)) j ((k == j) || is_done j c)
          by_number false apart same = subst (λ (u : Bool). Reads (readable i (landed is_finished n shelf)) j (u || is_done j c)) same (other_read i j (is_done j c) apart e)
          by_number true one same =
              let i_is : n ≡ i = eqb-true n i one in
              let j_is : k ≡ j = eqb-true k j (sym same) in
              subst (λ (u : Bool). Reads (readable i (landed is_finished n shelf)) j (u || is_done j c)) same
              (subst (λ (y : ℕ). Reads (readable y (landed is_finished n shelf)) j true) i_is (subst (λ (y : ℕ). Reads (readable n (landed is_finished n shelf)) y true) j_is (this_read (read one))))

      pub land-carries : (v : Bool) (q : state.Request) → (q.write ≡ Some n → ⊥) → ((place : ℕ) → q.reader ≡ streaming n place → (y : Readers) × (get shelf.readers n ≡ Some y))
          → Carries numbers numbers shelf (landed is_finished n shelf) c (lands k v ∷ c) q
      land-carries v q not_own reads_it = record {
        named = λ i j h. h;
        flights = λ i h e is. (h, stays_at i (apart_number n i (λ same. not_own (e ∙ ap (λ (y : ℕ). Some y) (sym same)))) ∙ is, refl, refl);
        reads = λ i place j e h read. (
          reads_landed i j h (λ same. reads_it place (e ∙ ap (λ (y : ℕ). streaming y place) (sym (eqb-true n i same)))) read,
          no_longer (length (bytes_of j c)),
        );
      }

      pub other-left : OtherFits x numbers permits s now id m (landed is_finished n shelf) locks next (lands k false ∷ c)
      other-left = record {
        made = f.made;
        order = f.order;
        stored = shelf-left numbers shelf.bodies shelf.flying shelf.writes c f.stored n k named;
        lock = lock-same permits locks next c f.lock (lands k false ∷ c) (omega arith) (λ j. refl) (λ j. refl);
        others = λ j apart. open-carried numbers numbers shelf (landed is_finished n shelf) c (lands k false ∷ c) x permits permits (get s.requests j) (now.request j)
            (λ q is. land-carries false q (own j q apart is) (λ place e. there j place q apart is e)) (λ i y h. h) (f.others j apart);
      }

-- the one request turned, or went: what the state is then
pub other-closed : (x : Settings) (s new : State) (now : Now) (id : ℕ) (numbers : Numbers) (permits : Permits) (locks : LockChanges) (c : Changes) (o : Option state.Request) (v : Option Request)
    → new.wait ≡ x.wait → 0 < x.shards → ((j : ℕ) → get new.requests j ≡ cond (id == j) o (get s.requests j)) → OpenFits x numbers permits new.shelf c o v
    → OtherFits x numbers permits s now id new.managed new.shelf locks new.lock.next c → NowFits x new locks (record { changes = c; request = λ j. cond (j == id) v (now.request j) })
other-closed x s new now id numbers permits locks c o v wait some turns one f = record {
  numbers = numbers;
  permits = permits;
  wait = wait;
  some = some;
  made = f.made;
  rows = f.order;
  shelf = f.stored;
  lock = f.lock;
  requests = turned-fits x numbers permits new.shelf c id (get s.requests) (get new.requests) now.request o v turns one f.others;
}
