-- Pieces: each is answered by its row, and leaves what the promise says then.
use Rattle.std.proofs.Common.{◌≡◌, ℕ, refl, ap, sym, ◌∙◌, true, false, subst, cond, [], ◌∷◌, ◌++◌, ◌==◌, arith, inl, inr}
use Rattle.std.specs.Prelude.{Bool, List, Option, Some, None, Ok, Err, not}
use Rattle.std.specs.FinMap.{get}
use Rattle.cache_words.specs.Time.{MomentValue}
use Rattle.cache_lock.specs.Changes.{Changes as LockChanges}
use Rattle.tier_model.specs.declared.event.Action.TheVariants.{Piece}
use Rattle.tier_model.specs.declared.event.Answer.{Answer}
use Rattle.tier_model.specs.declared.event.Answer.TheVariants.{Written}
use Rattle.tier_model.specs.declared.event.TierFault.{TierFault}
use Rattle.tier_model.specs.declared.event.TierFault.TheVariants.{NoRequest, WrongPhase, AfterEnd}
use Rattle.tier_model.specs.Calls.{Outcome, writes_after}
use Rattle.tier_model.specs.Shelf.{InFlight, has_number, on_flying}
use Rattle.tier_model.specs.State.{Settings, State}
use Rattle.tier_model.specs.State as state
use Rattle.tier_model.specs.Checks.{unless, unless_open, has_ended, piece_refusal}
use Rattle.tier_model.specs.Step.{AllowsBy, Allows, tells_of_write}
use Rattle.tier_model.specs.After.{with_counts, on_write, pieced}
use Rattle.tier_promise.specs.Promise.{Write, Changes, Request, EventRow, Now, is_done, appends, piece_by, came, some_memory, refused, row_of}
use Rattle.tier_model.proofs.CallLaws.{Inside, call_at}
use Rattle.tier_promise.proofs.NowRows.{row_closed, memory-out}
use Rattle.tier_promise.proofs.NowFits.{WriteFits, OpenFits, NowFits}
use Rattle.tier_promise.proofs.NowShelf.{or_true}
use Rattle.tier_promise.proofs.NowLands.{shelf-more, shelf-last}
use Rattle.tier_promise.proofs.NowRequests.{flying-read}
use Rattle.tier_promise.proofs.NowSteps.{Step, Comes, stored-fits, on-open, same-count, same-requests, as-before, refused-fits, closed-fits, counted-fits}
use Rattle.tier_promise.proofs.NowReads.{carried}

-- two changes of a write are one
on-twice : (n : ℕ) (g h : InFlight → InFlight) (fs : List InFlight) → ((f : InFlight) → (g f).number ≡ f.number) → on_flying n h (on_flying n g fs) ≡ on_flying n (λ f. h (g f)) fs
on-twice n g h [] number = refl
on-twice n g h (f ∷ fs) number =
    ap (λ (y : InFlight). y ∷ on_flying n h (on_flying n g fs)) (by_test (has_number n f) refl) ∙ ap (λ (l : List InFlight). cond (has_number n f) (h (g f)) f ∷ l) (on-twice n g h fs number)
  where
    by_test : (v : Bool) → has_number n f ≡ v → cond (has_number n (cond v (g f) f)) (h (cond v (g f) f)) (cond v (g f) f) ≡ cond v (h (g f)) f
    by_test true e = ap (λ (u : Bool). cond u (h (g f)) (g f)) (ap (λ (k : ℕ). n == k) (number f) ∙ e)
    by_test false e = ap (λ (u : Bool). cond u (h f) f) e

module _ (x : Settings) (s : State) (locks : LockChanges) (now : Now) (fits : NowFits x s locks now) (used : ℕ) (t : MomentValue) (i : Inside) where
  abbrev c : Changes
  c = now.changes

  -- ---- bytes come to a write in flight

  module _ (n m : ℕ) (b : List ℕ) (named : fits.numbers n ≡ Some m) (open_yet : is_done m c ≡ false) where
    abbrev add : InFlight → InFlight
    add = λ f. record f { bytes = f.bytes ++ b }

    abbrev close : InFlight → InFlight
    close = λ f. record f { ended = true }

    more-fits : NowFits x (record s { shelf = pieced b false n s.shelf }) locks (record now { changes = appends m b false ∷ c })
    more-fits =
        let shelf = shelf-more fits.numbers s.shelf.bodies s.shelf.flying s.shelf.writes c fits.shelf n m named b open_yet in
        stored-fits x s locks now fits fits.numbers (pieced b false n s.shelf) s.managed (appends m b false ∷ c) fits.made fits.rows shelf (omega arith) (λ j. refl) (λ k. refl)
        (carried x s locks now fits used t i n m add s.shelf (pieced b false n s.shelf) (appends m b false ∷ c) b named open_yet (λ j. refl) (λ j d. d) (λ f. refl) (λ f. refl) (λ f. refl) refl refl refl shelf)

    last-fits : NowFits x (record s { shelf = pieced b true n s.shelf }) locks (record now { changes = appends m b true ∷ c })
    last-fits =
        let shelf = shelf-last fits.numbers s.shelf.bodies s.shelf.flying s.shelf.writes c fits.shelf n m named b open_yet in
        stored-fits x s locks now fits fits.numbers (pieced b true n s.shelf) s.managed (appends m b true ∷ c) fits.made fits.rows shelf (omega arith) (λ j. refl) (λ k. refl)
        (carried x s locks now fits used t i n m (λ f. close (add f)) s.shelf (pieced b true n s.shelf) (appends m b true ∷ c) b named open_yet (λ j. refl) (λ j d. or_true (m == j) (is_done j c) d)
        (λ f. refl) (λ f. refl) (λ f. refl) refl (on-twice n add close s.shelf.flying (λ f. refl)) refl shelf)

    pub pieced-fits : (last : Bool) → NowFits x (record s { shelf = pieced b last n s.shelf }) locks (record now { changes = appends m b last ∷ c })
    pieced-fits true = last-fits
    pieced-fits false = more-fits

  -- ---- the event

  abbrev PieceRow : Option Request → List ℕ → Bool → EventRow
  PieceRow v b last = row_of v (λ r. piece_by r.write b last r c)

  abbrev came_with : ℕ → Request → ℕ → List ℕ → Bool → Now
  came_with id r m b last = record { changes = appends m b last ∷ c; request = λ j. cond (j == id) (Some r) (now.request j) }

  abbrev row_with : Request → ℕ → List ℕ → Bool → EventRow
  row_with r m b last = record { outcome = Ok Written; changes = appends m b last ∷ []; request = Some r; needs = some_memory }

  module _ (id : ℕ) (b : List ℕ) (last : Bool) (q : state.Request) (r : Request) (n : ℕ) (is : get s.requests id ≡ Some q) (at : now.request id ≡ Some r) (same : n ≡ s.shelf.writes) where
    piece_open : (o : Outcome) (k : ℕ) (w : Write) → q.write ≡ Some k → fits.numbers k ≡ Some w.number → (v : Bool) → is_done w.number c ≡ v → AllowsBy (unless (not v) AfterEnd) s t (Piece id b last) (call_at t (Piece id b last) i o) o
        → Comes x used s locks now t (Piece id b last) i o id n (cond v (refused r AfterEnd) (row_with r w.number b last))
    piece_open (Ok a) k w held named true done p = absurd cc
    piece_open (Err g) k w held named true done p =
        subst (λ (y : TierFault). Comes x used s locks now t (Piece id b last) i (Err y) id n (refused r AfterEnd)) (let one : AfterEnd ≡ g = cc in one)
        ((refl, tt), counted-fits x s locks (came id (refused r AfterEnd) now).now n s.lock same refl (refused-fits x s locks now fits id r AfterEnd at))
    piece_open (Ok a) k w held named false done p =
        subst (λ (y : Answer). Comes x used s locks now t (Piece id b last) i (Ok y) id n (row_with r w.number b last)) (sym p) (
          (refl, tt),
          on-open s id q (λ q. record s { shelf = on_write q.write (pieced b last) s.shelf }) (λ new. NowFits x (with_counts n s.lock new) locks (came_with id r w.number b last)) is
              (subst (λ (o : Option ℕ). NowFits x (with_counts n s.lock (record s { shelf = on_write o (pieced b last) s.shelf })) locks (came_with id r w.number b last)) (sym held) (written (pieced-fits k w.number b named done last))),
        )
      where
        still : (v : Bool) → (pieced b v k s.shelf).writes ≡ s.shelf.writes
        still true = refl
        still false = refl

        written : NowFits x (record s { shelf = pieced b last k s.shelf }) locks (record now { changes = appends w.number b last ∷ c })
            → NowFits x (with_counts n s.lock (record s { shelf = pieced b last k s.shelf })) locks (came_with id r w.number b last)
        written y = counted-fits x (record s { shelf = pieced b last k s.shelf }) locks (came_with id r w.number b last) n s.lock (same ∙ sym (still last)) refl
            (same-requests x (record s { shelf = pieced b last k s.shelf }) locks (record now { changes = appends w.number b last ∷ c }) y (λ j. cond (j == id) (Some r) (now.request j)) (as-before x s locks now fits id (Some r) at))
    piece_open (Err g) k w held named false done p = elim p [
      | inl h ↦ subst (λ (y : TierFault). Comes x used s locks now t (Piece id b last) i (Err y) id n (row_with r w.number b last)) (sym h.0)
          (memory-out x used some_memory c refl, counted-fits x s locks now n s.lock same refl fits)
      | inr h ↦ absurd h
    ]

    piece_write : (o : Outcome) (u : Option ℕ) (v : Option Write) → q.write ≡ u → WriteFits fits.numbers s.shelf.flying r.entry u v
        → AllowsBy (piece_refusal u s.shelf) s t (Piece id b last) (call_at t (Piece id b last) i o) o → Comes x used s locks now t (Piece id b last) i o id n (piece_by v b last r c)
    piece_write (Ok a) None None held f p = absurd cc
    piece_write (Err g) None None held f p =
        subst (λ (y : TierFault). Comes x used s locks now t (Piece id b last) i (Err y) id n (refused r WrongPhase)) (let one : WrongPhase ≡ g = cc in one)
        ((refl, tt), counted-fits x s locks (came id (refused r WrongPhase) now).now n s.lock same refl (refused-fits x s locks now fits id r WrongPhase at))
    piece_write o (Some k) (Some w) held f p =
        let over : (f.2.0).ended ≡ is_done w.number c = (flying-read fits.numbers s.shelf s.shelf.writes c fits.shelf k w.number f.0 f.2.0 f.2.1).1 in
        piece_open o k w held f.0 (is_done w.number c) refl
        (subst (λ (v : Bool). AllowsBy (unless (not v) AfterEnd) s t (Piece id b last) (call_at t (Piece id b last) i o) o) (ap has_ended f.2.1 ∙ over) p)
    piece_write o (Some k) None held f p = absurd f
    piece_write o None (Some w) held f p = absurd f

  piece_by_open : (id : ℕ) (b : List ℕ) (last : Bool) (o : Outcome) (q : Option state.Request) (v : Option Request) (n : ℕ) → get s.requests id ≡ q → now.request id ≡ v → OpenFits x fits.numbers fits.permits s.shelf c q v
      → n ≡ s.shelf.writes → AllowsBy (unless_open q (λ q. piece_refusal q.write s.shelf)) s t (Piece id b last) (call_at t (Piece id b last) i o) o → Comes x used s locks now t (Piece id b last) i o id n (PieceRow v b last)
  piece_by_open id b last o (Some q) None n is at f same p = absurd f
  piece_by_open id b last o None (Some r) n is at f same p = absurd f
  piece_by_open id b last (Ok a) None None n is at f same p = absurd cc
  piece_by_open id b last (Err g) None None n is at f same p =
      subst (λ (y : TierFault). Comes x used s locks now t (Piece id b last) i (Err y) id n row_closed) (let one : NoRequest ≡ g = cc in one)
      ((refl, tt), counted-fits x s locks (came id row_closed now).now n s.lock same refl (closed-fits x s locks now fits id at))
  piece_by_open id b last o (Some q) (Some r) n is at f same p = piece_write id b last q r n is at same o q.write r.write refl f.write p

  pub piece-step : (id : ℕ) (b : List ℕ) (last : Bool) (o : Outcome) → Allows s (call_at t (Piece id b last) i o) → Step x used s locks (call_at t (Piece id b last) i o) now
  piece-step id b last o p =
      let all = piece_by_open id b last o (get s.requests id) (now.request id) (writes_after s.shelf.writes i.began) refl refl (fits.requests id)
      (same-count s (tells_of_write (call_at t (Piece id b last) i o)) i.began p.begins) p.outcome in
      record { right = record { read = p.read; outcome = all.0 }; fits = all.1 }
