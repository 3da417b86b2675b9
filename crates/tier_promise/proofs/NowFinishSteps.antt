-- Finishes: each is answered by its row, and leaves what the promise says then.
use Rattle.std.proofs.Common.{◌≡◌, ℕ, refl, ap, sym, true, false, subst, cond, [], ◌∷◌, ◌++◌, ◌==◌, arith, inl, inr}
use Rattle.std.specs.Prelude.{Bool, List, Option, Some, None, Ok, Err, not, map, MatchOption, MatchResult}
use Rattle.std.specs.FinMap.{get, insert}
use Rattle.std.proofs.lemmas.Bool.{eq-eqb}
use Rattle.cache_words.specs.Time.{MomentValue}
use Rattle.cache_changes.specs.Changes.{stored_key}
use Rattle.cache_entries.specs.declared.entry.CacheEntryKey.{CacheEntryKey}
use Rattle.cache_evict.specs.Managed.{Fits}
use Rattle.cache_lock.specs.Changes.{Changes as LockChanges}
use Rattle.tier_model.specs.declared.event.Action.TheVariants.{Finish}
use Rattle.tier_model.specs.declared.event.Answer.{Answer}
use Rattle.tier_model.specs.declared.event.Answer.TheVariants.{Finished}
use Rattle.tier_model.specs.declared.event.Done.{Done}
use Rattle.tier_model.specs.declared.event.TierFault.{TierFault}
use Rattle.tier_model.specs.declared.event.TierFault.TheVariants.{WriteRemoved, Memory, TooHeavy, TooLong, NumbersSpent}
use Rattle.tier_model.specs.Keys.{Entry, alone}
use Rattle.tier_model.specs.Calls.{Outcome, nothing_done, has_stored, extended}
use Rattle.tier_model.specs.Evictions as shards
use Rattle.tier_model.specs.Histories.{is_landing}
use Rattle.tier_model.specs.Rows.{FinishedBody, weight_for, without_body, without_bodies}
use Rattle.tier_model.specs.Shelf.{InFlight, Readers, Shelf, landed, stored}
use Rattle.tier_model.specs.State.{Settings, streaming, State, shards_of}
use Rattle.tier_model.specs.State as state
use Rattle.tier_model.specs.Answers.{admitted, stored_alone, finishing, IsKeptOut, IsCutShort, IsStored, IsStoreFault, IsFinishFault}
use Rattle.tier_model.specs.After.{with_counts, on_write, after_finish, emptied, taken}
use Rattle.tier_promise.specs.Promise.{Write, Changes, Request, EventRow, Now, KeepsOut, FitsBeside, lands, puts, takes, as_body, rows, GoInTurn, is_alive, some_memory, refused, finish_row, far_of, ran_out, came}
use Rattle.tier_model.proofs.CallLaws.{Inside, at-insert}
use Rattle.tier_model.proofs.RowSteps.{made-put}
use Rattle.tier_promise.proofs.NowRows.{Answered, memory-out}
use Rattle.tier_promise.proofs.NowRoom.{put-room, entry-out}
use Rattle.tier_promise.proofs.NowFits.{WriteFits, RequestFits, NowFits}
use Rattle.tier_promise.proofs.NowLands.{shelf-lands}
use Rattle.tier_promise.proofs.NowLock.{lock-same}
use Rattle.tier_promise.proofs.NowRequests.{IsSound, Carries, request-carried, open-carried}
use Rattle.tier_promise.proofs.NowSteps.{turned-fits, counted-fits}
use Rattle.tier_promise.proofs.NowGone.{rows-put, taken-fits, emptied-fits}
use Rattle.tier_promise.proofs.NowPut.{put-fits}
use Rattle.tier_promise.proofs.NowPuts.{same-bodies, gone-again, in_turn}
use Rattle.tier_promise.proofs.NowOthers.{OtherFits, other-start, other-left, land-carries, other-closed}
use Rattle.tier_promise.proofs.NowFinishes.{body-is, finishing-is, alive-is}

module _ (x : Settings) (s : State) (locks : LockChanges) (now : Now) (fits : NowFits x s locks now) (sound : IsSound s) (used : ℕ) (t : MomentValue) (i : Inside) where
  abbrev c : Changes
  c = now.changes

  abbrev N : ℕ
  N = shards_of s

  module _ (id : ℕ) (q : state.Request) (r : Request) (is : get s.requests id ≡ Some q) (at : now.request id ≡ Some r) (f : RequestFits x fits.numbers fits.permits s.shelf c q r) (n : ℕ) (w : Write) (held : q.write ≡ Some n)
      (has : r.write ≡ Some w) (h : WriteFits fits.numbers s.shelf.flying r.entry (Some n) (Some w)) where
    abbrev b : FinishedBody
    b = record { entry = r.entry; body = as_body w c }

    abbrev g : InFlight
    g = h.2.0

    abbrev without_q : state.Request
    without_q = record q { write = None }

    abbrev without_r : Request
    without_r = record r { write = None }

    abbrev landed_state : Bool → State
    landed_state is_finished = record s { shelf = landed is_finished n s.shelf; requests = insert s.requests id without_q }

    abbrev now_with : Changes → Now
    now_with then = record { changes = then; request = λ j. cond (j == id) (Some without_r) (now.request j) }

    start : OtherFits x fits.numbers fits.permits s now id s.managed s.shelf locks s.lock.next c
    start = other-start x s now id locks fits

    own : (j : ℕ) (p : state.Request) → (id == j) ≡ false → get s.requests j ≡ Some p → p.write ≡ Some n → ⊥
    own j p apart there e = let same : id ≡ j = sound.apart id j n q p is there held e in let one : (id == j) ≡ true = eq-eqb id j same in absurd cc

    there : (j place : ℕ) (p : state.Request) → (id == j) ≡ false → get s.requests j ≡ Some p → p.reader ≡ streaming n place → (y : Readers) × (get s.shelf.readers n ≡ Some y)
    there j place p apart here e = sound.readers j n place p here e

    carries : (is_finished v : Bool) (p : state.Request) → (p.write ≡ Some n → ⊥) → ((place : ℕ) → p.reader ≡ streaming n place → (y : Readers) × (get s.shelf.readers n ≡ Some y))
        → Carries fits.numbers fits.numbers s.shelf (landed is_finished n s.shelf) c (lands w.number v ∷ c) p
    carries is_finished v p not_own reads = land-carries x s now id fits.numbers fits.permits s.managed s.shelf locks s.lock.next c start is_finished n w.number h.0 g h.2.1 own there v p not_own reads

    plain_fits : RequestFits x fits.numbers fits.permits s.shelf c without_q without_r
    plain_fits = record { entry = f.entry; asks = f.asks; wait = f.wait; phase = f.phase; waited = f.waited; gave_read = f.gave_read; hold = f.hold; seen = f.seen; write = tt; reader = f.reader }

    -- its write is given up
    left_fits : (is_finished : Bool) → NowFits x (landed_state is_finished) locks (now_with (lands w.number false ∷ c))
    left_fits is_finished = other-closed x s (landed_state is_finished) now id fits.numbers fits.permits locks (lands w.number false ∷ c) (Some without_q) (Some without_r) fits.wait fits.some (at-insert s.requests id without_q)
        (request-carried fits.numbers fits.numbers s.shelf (landed is_finished n s.shelf) c (lands w.number false ∷ c) x fits.permits fits.permits without_q without_r
        (carries is_finished false without_q (λ e. absurd cc) (λ place e. sound.readers id n place q is e)) (λ j p y. y) plain_fits)
        (other-left x s now id fits.numbers fits.permits s.managed s.shelf locks s.lock.next c start is_finished n w.number h.0 g h.2.1 own there)

    -- ---- its write is a body

    module _ (alive : g.removed ≡ false) where
      abbrev shelf_then : Shelf
      shelf_then = stored n b (landed true n s.shelf)

      body_carries : (p : state.Request) → Carries fits.numbers fits.numbers s.shelf (landed true n s.shelf) c (lands w.number true ∷ c) p → Carries fits.numbers fits.numbers s.shelf shelf_then c (lands w.number true ∷ c) p
      body_carries p y = record { named = y.named; flights = y.flights; reads = y.reads }

      whole_fits : NowFits x (record (landed_state true) { shelf = shelf_then }) locks (now_with (lands w.number true ∷ c))
      whole_fits = record {
        numbers = fits.numbers;
        permits = fits.permits;
        wait = fits.wait;
        some = fits.some;
        made = fits.made;
        rows = fits.rows;
        shelf = shelf-lands fits.numbers s.shelf.bodies s.shelf.flying s.shelf.writes c fits.shelf n w.number h.0 sound.one g h.2.1 alive b (sym h.2.2) (sym (body-is x s locks now fits sound q r f n w held h));
        lock = lock-same fits.permits locks s.lock.next c fits.lock (lands w.number true ∷ c) (omega arith) (λ j. refl) (λ j. refl);
        requests = turned-fits x fits.numbers fits.permits shelf_then (lands w.number true ∷ c) id (get s.requests) (get (insert s.requests id without_q)) now.request (Some without_q) (Some without_r) (at-insert s.requests id without_q)
            (request-carried fits.numbers fits.numbers s.shelf shelf_then c (lands w.number true ∷ c) x fits.permits fits.permits without_q without_r
            (body_carries without_q (carries true true without_q (λ e. absurd cc) (λ place e. sound.readers id n place q is e))) (λ j p y. y) plain_fits)
            (λ j apart. open-carried fits.numbers fits.numbers s.shelf shelf_then c (lands w.number true ∷ c) x fits.permits fits.permits (get s.requests j) (now.request j)
            (λ p here. body_carries p (carries true true p (own j p apart here) (λ place e. there j place p apart here e))) (λ k p y. y) (fits.requests j));
      }

      abbrev with_entry : Entry → Changes
      with_entry e = puts (alone e) (weight_for (as_body w c)) ∷ lands w.number true ∷ c

      abbrev admitted_state : State
      admitted_state = record (landed_state true) { shelf = shelf_then; managed = admitted s b }

      admitted_fits : NowFits x admitted_state locks (now_with (with_entry r.entry))
      admitted_fits = put-fits x (record (landed_state true) { shelf = shelf_then }) locks (now_with (lands w.number true ∷ c)) whole_fits N fits.made.shards r.entry (weight_for (as_body w c)) (admitted s b)
          (made-put x N (alone r.entry) (weight_for (as_body w c)) s.managed fits.made)
          (let a = rows-put x fits.some N fits.made.shards (alone r.entry) s.managed c fits.rows (weight_for (as_body w c)) in record { count = a.count; each = a.each })

      went_fits : (es : List CacheEntryKey) → NowFits x (emptied N es admitted_state) locks (now_with (extended (with_entry r.entry) (map takes es)))
      went_fits es = emptied-fits x N fits.made.shards es admitted_state locks (now_with (with_entry r.entry)) admitted_fits

      cut_fits : (es : List CacheEntryKey) → NowFits x (taken N r.entry (emptied N es (record (landed_state true) { managed = admitted s b }))) locks (now_with (takes (alone r.entry) ∷ extended (with_entry r.entry) (map takes es)))
      cut_fits es =
          let y = taken-fits x (emptied N es admitted_state) locks (now_with (extended (with_entry r.entry) (map takes es))) (went_fits es) N fits.made.shards r.entry in
          same-bodies x (taken N r.entry (emptied N es admitted_state)) locks (now_with (takes (alone r.entry) ∷ extended (with_entry r.entry) (map takes es)))
          (without_body (stored_key r.entry) (without_bodies es s.shelf.bodies)) (λ k. sym (gone-again n b es s.shelf.bodies k)) y

    out_fits : NowFits x (taken N r.entry (landed_state true)) locks (now_with (takes (alone r.entry) ∷ lands w.number false ∷ c))
    out_fits = taken-fits x (landed_state true) locks (now_with (lands w.number false ∷ c)) (left_fits true) N fits.made.shards r.entry

    -- ---- what comes of it

    abbrev row_at : Bool → Outcome → EventRow
    row_at v o = cond v (finish_row w (as_body w c) (far_of o) r) (record (refused without_r WriteRemoved) { changes = lands w.number false ∷ [] })

    abbrev ComesAt : Bool → Outcome → State → ℕ → Type 0
    ComesAt v o new k =
        Answered x used o (row_at v o) c
        × NowFits x (with_counts k s.lock new) locks (cond (ran_out o) now (came id (row_at v o) now).now)

    abbrev by_entry : (CacheEntryKey → Changes) → State → ℕ → Type 0
    by_entry then new k = NowFits x (with_counts k s.lock new) locks (now_with (then (alone w.entry)))

    entry_is : alone r.entry ≡ alone w.entry
    entry_is = ap alone (sym h.1)

    in_turn_is : (over : Bool) (es : List CacheEntryKey) → shards.GoInTurn N over es (admitted s b) → GoInTurn x over es (rows (puts (alone w.entry) (weight_for (as_body w c)) ∷ c))
    in_turn_is over es p = subst (λ (e : CacheEntryKey). GoInTurn x over es (rows (puts e (weight_for (as_body w c)) ∷ c))) entry_is (in_turn x s locks now fits sound r.entry (as_body w c) over es p)

    room_is : Fits N (admitted s b) → FitsBeside x (alone w.entry) (rows (puts (alone w.entry) (weight_for (as_body w c)) ∷ c))
    room_is p = subst (λ (e : CacheEntryKey). FitsBeside x e (rows (puts e (weight_for (as_body w c)) ∷ c))) entry_is (put-room x s locks now fits r.entry (weight_for (as_body w c)) p)

    away : (e : TierFault) → IsKeptOut s (alone r.entry) (weight_for (as_body w c)) stored_alone e → KeepsOut x (alone w.entry) (weight_for (as_body w c)) stored_alone e (rows c)
    away e p = subst (λ (y : CacheEntryKey). KeepsOut x y (weight_for (as_body w c)) stored_alone e (rows c)) entry_is (entry-out x s locks now fits (alone r.entry) (weight_for (as_body w c)) stored_alone e p)

    finish_ok : (alive : g.removed ≡ false) (a : Answer) (k : ℕ) → k ≡ s.shelf.writes → IsStored s b a → ComesAt true (Ok a) (after_finish (landed_state (has_stored (Ok a))) (Some n) (Some b) (Ok a)) k
    finish_ok alive (Finished told es) k same p = (
      (ap (λ (n : ℕ). let said : Outcome = Ok (Finished n es) in said) p.0, (room_is p.1, in_turn_is false es p.2)),
      subst (λ (e : CacheEntryKey). NowFits x (with_counts k s.lock (emptied N es (admitted_state alive))) locks (now_with (extended (puts e (weight_for (as_body w c)) ∷ lands w.number true ∷ c) (map takes es)))) entry_is
          (counted-fits x (emptied N es (admitted_state alive)) locks (now_with (extended (with_entry alive r.entry) (map takes es))) k s.lock same refl (went_fits alive es)),
    )
    finish_ok alive _ k same p = absurd p

    given_up : (k : ℕ) → k ≡ s.shelf.writes → NowFits x (with_counts k s.lock (taken N r.entry (landed_state true))) locks (now_with (takes (alone w.entry) ∷ lands w.number false ∷ c))
    given_up k same = subst (λ (e : CacheEntryKey). NowFits x (with_counts k s.lock (taken N r.entry (landed_state true))) locks (now_with (takes e ∷ lands w.number false ∷ c))) entry_is
        (counted-fits x (taken N r.entry (landed_state true)) locks (now_with (takes (alone r.entry) ∷ lands w.number false ∷ c)) k s.lock same refl out_fits)

    abbrev KeptState : TierFault → State
    KeptState e = after_finish (landed_state (has_stored (Err e))) (Some n) (Some b) (Err e)

    finish_kept : (e : TierFault) (k : ℕ) → k ≡ s.shelf.writes → IsKeptOut s (alone r.entry) (weight_for (as_body w c)) stored_alone e → ComesAt true (Err e) (KeptState e) k
    finish_kept (TooHeavy told) k same p = subst (λ (d : Done). ComesAt true (Err (TooHeavy d)) (KeptState (TooHeavy d)) k) (sym p.0) ((refl, (refl, (away (TooHeavy told) p).1)), given_up k same)
    finish_kept (TooLong told) k same p = subst (λ (d : Done). ComesAt true (Err (TooLong d)) (KeptState (TooLong d)) k) (sym p.0)
        ((refl, (let out = away (TooLong told) p in (refl, out.1, out.2))), given_up k same)
    finish_kept (NumbersSpent told) k same p = subst (λ (d : Done). ComesAt true (Err (NumbersSpent d)) (KeptState (NumbersSpent d)) k) (sym p.0)
        ((refl, (let out = away (NumbersSpent told) p in (refl, out.1, out.2))), given_up k same)
    finish_kept (Memory told) k same p = subst (λ (d : Done). ComesAt true (Err (Memory d)) (KeptState (Memory d)) k) (sym p.0)
        ((refl, (let out = away (Memory told) p in (refl, out.1, out.2, out.3, out.4))), given_up k same)
    finish_kept _ k same p = absurd p

    and_then : (es : List CacheEntryKey) (e : CacheEntryKey) (past : Changes) → extended past (map takes es ++ takes e ∷ []) ≡ takes e ∷ extended past (map takes es)
    and_then [] e past = refl
    and_then (y ∷ es) e past = and_then es e (takes y ∷ past)

    finish_short : (alive : g.removed ≡ false) (e : TierFault) (k : ℕ) → k ≡ s.shelf.writes → IsCutShort s b e → ComesAt true (Err e) (KeptState e) k
    finish_short alive e k same p = subst (λ (y : TierFault). ComesAt true (Err y) (KeptState y) k) (sym p.1) (
      (refl, (room_is p.2, in_turn_is true p.0 p.3)),
      subst (λ (l : Changes). NowFits x (with_counts k s.lock (taken N r.entry (emptied N p.0 (record (landed_state true) { managed = admitted s b })))) locks (now_with l))
          (sym (and_then p.0 (alone w.entry) (puts (alone w.entry) (weight_for (as_body w c)) ∷ lands w.number true ∷ c)))
          (subst (λ (y : CacheEntryKey). NowFits x (with_counts k s.lock (taken N r.entry (emptied N p.0 (record (landed_state true) { managed = admitted s b })))) locks
          (now_with (takes y ∷ extended (puts y (weight_for (as_body w c)) ∷ lands w.number true ∷ c) (map takes p.0)))) entry_is
          (counted-fits x (taken N r.entry (emptied N p.0 (record (landed_state true) { managed = admitted s b }))) locks (now_with (takes (alone r.entry) ∷ extended (with_entry alive r.entry) (map takes p.0))) k s.lock same refl
          (cut_fits alive p.0))),
    )

    -- ---- the state after it

    abbrev state_by : Option ℕ → Option FinishedBody → Outcome → State
    state_by u y o = cond (is_landing o) (after_finish (record s { shelf = on_write u (landed (has_stored o)) s.shelf; requests = insert s.requests id without_q }) u y o) s

    landing_stored : (e : TierFault) → IsStoreFault s b e → is_landing (Err e) ≡ true
    landing_stored e p = elim p [
      | inl out ↦ kept_lands e out
      | inr cut ↦ subst (λ (y : TierFault). is_landing (Err y) ≡ true) (sym cut.1) refl
    ]
      where
        kept_lands : (e : TierFault) → IsKeptOut s (alone r.entry) (weight_for (as_body w c)) stored_alone e → is_landing (Err e) ≡ true
        kept_lands (TooHeavy told) p = ap (λ (d : Done). d.stored) p.0
        kept_lands (TooLong told) p = ap (λ (d : Done). d.stored) p.0
        kept_lands (NumbersSpent told) p = ap (λ (d : Done). d.stored) p.0
        kept_lands (Memory told) p = ap (λ (d : Done). d.stored) p.0
        kept_lands _ p = absurd p

    finish_err : (alive : g.removed ≡ false) (e : TierFault) (k : ℕ) → k ≡ s.shelf.writes → IsFinishFault s (Some b) e → ComesAt true (Err e) (state_by (Some n) (Some b) (Err e)) k
    finish_err alive e k same p = elim p [
      | inl m ↦ subst (λ (y : TierFault). ComesAt true (Err y) (state_by (Some n) (Some b) (Err y)) k) (sym m)
          (memory-out x used (row_at true (Err (Memory nothing_done))).needs c refl, counted-fits x s locks now k s.lock same refl fits)
      | inr late ↦ subst (λ (v : Bool). ComesAt true (Err e) (cond v (KeptState e) s) k) (sym (landing_stored e late)) (elim late [
        | inl out ↦ finish_kept e k same out
        | inr cut ↦ finish_short alive e k same cut
      ])
    ]

    finish_gone : (e : TierFault) (k : ℕ) → k ≡ s.shelf.writes → IsFinishFault s None e → ComesAt false (Err e) (state_by (Some n) None (Err e)) k
    finish_gone e k same p = subst (λ (y : TierFault). ComesAt false (Err y) (state_by (Some n) None (Err y)) k) (sym p)
        ((refl, tt), counted-fits x (landed_state false) locks (now_with (lands w.number false ∷ c)) k s.lock same refl (left_fits false))

    -- by whether the write met a removal
    by_removed : (o : Outcome) (k : ℕ) → k ≡ s.shelf.writes → (v : Bool) → g.removed ≡ v
        → MatchResult o (λ a. MatchOption (cond v None (Some b)) ⊥ (λ y. IsStored s y a)) (λ e. IsFinishFault s (cond v None (Some b)) e) → ComesAt (not v) o (state_by (Some n) (cond v None (Some b)) o) k
    by_removed (Ok a) k same true e p = absurd p
    by_removed (Err y) k same true e p = finish_gone y k same p
    by_removed (Ok a) k same false e p = finish_ok e a k same p
    by_removed (Err y) k same false e p = finish_err e y k same p

    abbrev All : Bool → Option ℕ → Option FinishedBody → Outcome → ℕ → Type 0
    All v u y o k = ComesAt v o (state_by u y o) k

    pub finish-leaves : (o : Outcome) (k : ℕ) → k ≡ s.shelf.writes → MatchResult o (λ a. MatchOption (finishing q s.shelf) ⊥ (λ y. IsStored s y a)) (λ e. IsFinishFault s (finishing q s.shelf) e)
        → All (is_alive w c) q.write (finishing q s.shelf) o k
    finish-leaves o k same p =
        let fin = finishing-is x s locks now fits sound q r f n w held h in
        let done = by_removed o k same g.removed refl (subst (λ (y : Option FinishedBody). MatchResult o (λ a. MatchOption y ⊥ (λ z. IsStored s z a)) (λ e. IsFinishFault s y e)) fin p) in
        subst (λ (v : Bool). All v q.write (finishing q s.shelf) o k) (sym (alive-is x s locks now fits sound q r f n w held h))
        (subst (λ (u : Option ℕ). All (not g.removed) u (finishing q s.shelf) o k) (sym held) (subst (λ (y : Option FinishedBody). All (not g.removed) (Some n) y o k) (sym fin) done))
