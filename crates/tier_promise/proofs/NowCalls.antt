-- After whatever calls are answered by their rows, a tier's changes are in order, and each body's entry is tracked with at least the body's size.
use Rattle.std.proofs.Common.{◌≡◌, ℕ, ◌+◌, ◌≤◌, refl, ap, sym, ◌∙◌, true, false, cond, [], ◌∷◌, ◌++◌, length, arith}
use Rattle.std.specs.Prelude.{Bool, List, Option, Some, None, is_some, map, find}
use Rattle.std.proofs.lemmas.Bool.{eq-eqb}
use Rattle.cache_entries.specs.declared.rows.Tracked.{Tracked}
use Rattle.cache_entries.specs.SameEntry.{same_bytes-tells}
use Rattle.cache_words.specs.Time.{MomentValue}
use Rattle.cache_changes.specs.Changes.{stored_key}
use Rattle.tier_model.specs.declared.event.Action.{Action}
use Rattle.tier_model.specs.declared.event.Action.TheVariants as on
use Rattle.tier_model.specs.declared.state.Body.{Body}
use Rattle.tier_model.specs.declared.whole.PutVerdict.{PutVerdict}
use Rattle.tier_model.specs.declared.whole.PutVerdict.TheVariants as whole
use Rattle.tier_model.specs.Keys.{Entry, entry_of, alone}
use Rattle.tier_model.specs.Calls.{Call, History, extended, judged_of, read_by}
use Rattle.tier_model.specs.Rows.{size_of, weight_for}
use Rattle.tier_model.specs.State.{Settings}
use Rattle.tier_promise.specs.Promise.{Write, Changes, begins, appends, puts, takes, has_number, bytes_of, flying, shown, is_alive, as_body}
use Rattle.tier_promise.specs.Promise.{Now, look_by, poll_by, begin_by, confirmed_by, revalidate_by, piece_by, read_by_reader}
use Rattle.tier_promise.specs.Promise.{drop_row, purge_row, HowFar, Whether, ComesSo, SomeRanOut, far_of, put_row, finish_by, ran_out, of_key, after, came_of, row_of_call, now_of, AreRight}
use Rattle.tier_promise.proofs.NowStart.{no_body}
use Rattle.tier_promise.proofs.NowShelf.{apart_number}
use Rattle.tier_promise.proofs.NowOrder.{IsOrderly, IsOpen, no-bytes, open-new, open-later}
use Rattle.tier_promise.proofs.NowAlive.{found_last}
use Rattle.tier_promise.proofs.NowKeeps.{Keeps, with_changes, IsFree, keeps-more, keeps-calm}
use Rattle.tier_promise.proofs.NowKept.{settled-keeps, look_by-keeps, poll-keeps, begin_by-keeps, revalidate_by-keeps, piece-keeps, finish-keeps, read-keeps, drop-keeps, open-keeps, of-open-so, of-open-keeps}

-- ---- puts and purges

module _ (now : Now) (k : Keeps now) (e : Entry) where
  purge-keeps : Keeps (of_key (purge_row e now.changes) now).now
  purge-keeps = by_found (is_some (shown (stored_key e) now.changes))
    where
      by_found : (v : Bool) → Keeps (with_changes (extended now.changes (cond v (takes (alone e) ∷ []) [])) now)
      by_found true = keeps-calm (takes (alone e) ∷ []) now k (tt, tt)
      by_found false = k

  module _ (b : Body) where
    abbrev pub w : Write
    w = record { number = length now.changes; entry = e; meta = b.meta }

    apart_now : IsFree (length now.changes) now
    apart_now i v h = let l = (k.held i v h).below in apart_number (length now.changes) v.number (λ same. absurd (omega (arith, l, same)))

    pub begun_now : Keeps (with_changes (begins w ∷ now.changes) now)
    begun_now = keeps-more now k (begins w) refl tt (λ i v h. refl)

    pub yet : IsOpen w (begins w ∷ now.changes)
    yet = open-new w now.changes k.order refl

    abbrev pub written : Changes
    written = appends w.number b.bytes true ∷ begins w ∷ now.changes

    pub written_now : Keeps (with_changes written now)
    written_now = keeps-more (with_changes (begins w ∷ now.changes) now) begun_now (appends w.number b.bytes true) (yet.below, yet.yet) tt (λ i v h. refl)

    pub alive_now : is_alive w written ≡ true
    alive_now =
        ap (λ (v : Bool). is_some (find (has_number w.number) (cond v (flying (stored_key e) now.changes ++ w ∷ []) (flying (stored_key e) now.changes)))) (same_bytes-tells.itself (stored_key e))
        ∙ found_last (has_number w.number) (flying (stored_key e) now.changes) w (eq-eqb w.number w.number refl)

    -- all its bytes came in one piece
    pub bytes_now : bytes_of w.number written ≡ b.bytes
    bytes_now =
        ap (λ (v : Bool). cond v (bytes_of w.number now.changes ++ b.bytes) (bytes_of w.number now.changes)) (eq-eqb w.number w.number refl)
        ∙ ap (λ (l : List ℕ). l ++ b.bytes) (no-bytes w.number now.changes k.order (omega arith))

    enough : size_of (as_body w written) ≤ weight_for b
    enough = let same = ap (λ (l : List ℕ). length l) bytes_now in omega (arith, same)

    stored-keeps : (far : HowFar) → Keeps (of_key (put_row e (Some (whole.Stored b)) far now.changes) now).now
    stored-keeps far =
        settled-keeps (with_changes written now) written_now w (open-later w (appends w.number b.bytes true) (begins w ∷ now.changes) begun_now.order (yet.below, yet.yet) refl yet) apart_now alive_now (weight_for b) enough far

  put-keeps : (o : Option PutVerdict) (far : HowFar) → Keeps (of_key (put_row e o far now.changes) now).now
  put-keeps (Some (whole.Stored b)) far = stored-keeps b far
  put-keeps (Some (whole.Uncacheable reason)) far = k
  put-keeps (Some whole.Incomplete) far = k
  put-keeps (Some whole.BadHead) far = k
  put-keeps (Some whole.BeforeEpoch) far = k
  put-keeps None far = k

-- ---- all events

after-keeps : (s : Settings) (now : Now) → Keeps now → (call : Call) (t : MomentValue) (action : Action) → ComesSo s (after s call t action now).row.needs.entering (far_of call.outcome) now.changes → Keeps (after s call t action now).now
after-keeps s now k call t (on.Open id key asks) so = open-keeps now k id (now.request id) refl (entry_of key) asks
after-keeps s now k call t (on.LookUp id) so = of-open-keeps now k id (λ q. look_by q.phase q.hold t q) (λ q at. look_by-keeps now k id q at t q.phase q.hold)
after-keeps s now k call t (on.Poll id) so = of-open-keeps now k id (λ q. poll_by s q.hold t q) (λ q at. poll-keeps now k id q at s t q.hold)
after-keeps s now k call t (on.Begin id head given) so = of-open-keeps now k id (λ q. begin_by q.phase q.gave_read (judged_of call) q) (λ q at. begin_by-keeps now k id q at (judged_of call) q.phase q.gave_read)
after-keeps s now k call t (on.Revalidate id head given) so =
    of-open-so now k id (λ q. revalidate_by q.phase q.gave_read (confirmed_by q call) (far_of call.outcome) q) (λ row. ComesSo s row.needs.entering (far_of call.outcome) now.changes) so
    (λ q at here. revalidate_by-keeps now k id q at s (confirmed_by q call) (far_of call.outcome) q.phase q.gave_read here)
after-keeps s now k call t (on.Piece id bytes last) so = of-open-keeps now k id (λ q. piece_by q.write bytes last q) (λ q at. piece-keeps now k id q at q.write bytes last refl)
after-keeps s now k call t (on.Finish id) so = of-open-keeps now k id (λ q. finish_by q.write (far_of call.outcome) q) (λ q at. finish-keeps now k id q at q.write (far_of call.outcome) refl)
after-keeps s now k call t (on.Read id) so = of-open-keeps now k id (λ q. read_by_reader q.reader q) (λ q at. read-keeps now k id q at q.reader)
after-keeps s now k call t (on.Drop id) so = of-open-keeps now k id (λ q c. drop_row q) (λ q at. drop-keeps now k id q at)
after-keeps s now k call t (on.Purge key) so = purge-keeps now k (entry_of key)
after-keeps s now k call t (on.Put key pieces given) so = put-keeps now k (entry_of key) (read_by call) (far_of call.outcome)

loading-orderly : (l : List Tracked) → IsOrderly (map (λ r. puts r.entry r.weight) l)
loading-orderly [] = tt
loading-orderly (r ∷ l) = (tt, loading-orderly l)

pub keeps-all : (s : Settings) (used : ℕ) (loaded : List Tracked) (h : History) → AreRight s used loaded h → Keeps (now_of s loaded h)
keeps-all s used loaded [] right = record {
  order = loading-orderly loaded;
  held = λ id w e. absurd cc;
  apart = λ i j v w e f h. absurd cc;
  tracks = λ j w e. let none : None ≡ Some w = sym (no_body j loaded) ∙ e in absurd cc;
}
keeps-all s used loaded (call ∷ h) right = by_room (ran_out call.outcome) (right.0).outcome (keeps-all s used loaded h right.1)
  where
    by_room : (v : Bool) → Whether v (SomeRanOut s (used + length h) (row_of_call s call (now_of s loaded h)).needs call.outcome (now_of s loaded h).changes)
        ((call.outcome ≡ (row_of_call s call (now_of s loaded h)).outcome) × ComesSo s (row_of_call s call (now_of s loaded h)).needs.entering (far_of call.outcome) (now_of s loaded h).changes)
        → Keeps (now_of s loaded h) → Keeps (cond v (now_of s loaded h) (came_of s call (now_of s loaded h)).now)
    by_room true p k = k
    by_room false p k = after-keeps s (now_of s loaded h) k call call.event.moment call.event.action p.1
