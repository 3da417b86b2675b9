-- Puts: each is answered by its row, and leaves what the promise says then.
use Rattle.cache_heads.specs.declared.given.GivenMeta.{GivenMeta}
use Rattle.std.proofs.Common.{◌≡◌, ℕ, ◌+◌, ◌≤◌, refl, ap, sym, ◌∙◌, true, false, subst, cond, [], ◌∷◌, ◌++◌, length, arith, inl, inr}
use Rattle.std.specs.Prelude.{Bool, List, Option, Some, None, is_some, Ok, Err, map, ◌⊎◌}
use Rattle.std.specs.FinMap.{get}
use Rattle.cache_words.specs.Time.{MomentValue}
use Rattle.cache_words.specs.Key.{CacheKeyValue}
use Rattle.cache_changes.specs.Changes.{StoredKey, stored_key}
use Rattle.cache_entries.specs.Keys.{same_bytes}
use Rattle.cache_entries.specs.declared.entry.CacheEntryKey.{CacheEntryKey}
use Rattle.cache_heads.specs.declared.reason.NoCacheReason.{NoCacheReason}
use Rattle.cache_lock.specs.Changes.{Changes as LockChanges}
use Rattle.tier_model.specs.declared.event.Action.TheVariants.{Put}
use Rattle.tier_model.specs.declared.event.Answer.{Answer}
use Rattle.tier_model.specs.declared.event.Answer.TheVariants.{Finished}
use Rattle.tier_model.specs.declared.event.Answer.TheVariants as answer
use Rattle.tier_model.specs.declared.event.Done.{Done}
use Rattle.tier_model.specs.declared.event.TierFault.{TierFault}
use Rattle.tier_model.specs.declared.event.TierFault.TheVariants.{NumbersSpent, TooHeavy, TooLong, Memory}
use Rattle.tier_model.specs.declared.state.Body.{Body}
use Rattle.tier_model.specs.declared.whole.PutVerdict.{PutVerdict}
use Rattle.tier_model.specs.declared.whole.PutVerdict.TheVariants as whole
use Rattle.tier_model.specs.Keys.{Entry, entry_of, alone}
use Rattle.tier_model.specs.Calls.{Outcome, writes_after, nothing_done, done_of, finished_in, read_by, has_stored, is_begun, extended}
use Rattle.tier_model.specs.Evictions as shards
use Rattle.tier_model.specs.Rows.{Numbered, FinishedBody, Bodies, weight_for, with_body, without_body, without_bodies}
use Rattle.tier_model.specs.Shelf.{stored}
use Rattle.tier_model.specs.State.{Settings, State, shards_of}
use Rattle.tier_model.specs.Answers.{admitted, stored_alone, IsKeptOut, IsCutShort, IsPutAnswer, IsPutFault}
use Rattle.tier_model.specs.Step.{Allows, BeginsWrite, PutTakes}
use Rattle.tier_model.specs.After.{with_counts, emptied, taken, after_put, undone}
use Rattle.tier_promise.specs.Promise.{Write, Changes, EventRow, Now, KeepsOut, GoInTurn, begins, appends, lands, puts, takes, rows, bytes_of, is_done, body_of, some_memory, far_of, ran_out, put_row, of_key}
use Rattle.tier_model.proofs.RowSteps.{made-put}
use Rattle.tier_model.proofs.CallLaws.{Inside, call_at}
use Rattle.tier_model.proofs.BodyLaws.{has_key, held-without, held-with, held-without_all}
use Rattle.tier_model.proofs.OpenLaws.{begun-told, kept_out-done, no-fewer}
use Rattle.tier_promise.proofs.NowRows.{Answered, memory-out, number-out}
use Rattle.tier_promise.proofs.NowRoom.{put-room, entry-out}
use Rattle.tier_promise.proofs.NowFits.{BodyFits, NowFits}
use Rattle.tier_promise.proofs.NowRequests.{IsSound}
use Rattle.tier_promise.proofs.NowSteps.{Step, later-fits, open-same}
use Rattle.tier_promise.proofs.NowGone.{rows-put, turn-rows, taken-fits, emptied-fits}
use Rattle.tier_promise.proofs.NowPut.{given-up-fits, whole-fits, put-fits}

-- other bodies that are the same
pub same-bodies : (x : Settings) (s : State) (locks : LockChanges) (now : Now) (new : Bodies) → ((k : StoredKey) → get new k ≡ get s.shelf.bodies k) → NowFits x s locks now
    → NowFits x (record s { shelf = record s.shelf { bodies = new } }) locks now
same-bodies x s locks now new same fits = record {
  numbers = fits.numbers;
  permits = fits.permits;
  wait = fits.wait;
  some = fits.some;
  made = fits.made;
  rows = fits.rows;
  shelf = record {
    below = fits.shelf.below;
    apart = fits.shelf.apart;
    fresh = fits.shelf.fresh;
    flights = fits.shelf.flights;
    each = fits.shelf.each;
    bodies = λ k. subst (λ (o : Option Numbered). BodyFits fits.numbers (λ m. bytes_of m now.changes) (λ m. is_done m now.changes) k o (body_of k now.changes)) (sym (same k)) (fits.shelf.bodies k);
  };
  lock = fits.lock;
  requests = λ id. open-same x fits.numbers fits.permits s.shelf (record s.shelf { bodies = new }) now.changes refl (λ n. refl) (get s.requests id) (now.request id) (fits.requests id);
}

-- a body that was put is gone with its key, as if it had never been there
module _ (n : ℕ) (b : FinishedBody) (es : List CacheEntryKey) (bodies : Bodies) where
  three : (u v : Bool) (y o : Option Numbered) → cond u None (cond v None (cond u y o)) ≡ cond u None (cond v None o)
  three true v y o = refl
  three false v y o = refl

  pub gone-again : (k : StoredKey) → get (without_body (stored_key b.entry) (without_bodies es (with_body n b bodies))) k ≡ get (without_body (stored_key b.entry) (without_bodies es bodies)) k
  gone-again k =
      held-without k (stored_key b.entry) (without_bodies es (with_body n b bodies))
      ∙ ap (cond (same_bytes (stored_key b.entry) k) None) (held-without_all k es (with_body n b bodies) ∙ ap (cond (has_key k es) None) (held-with k n b bodies))
      ∙ three (same_bytes (stored_key b.entry) k) (has_key k es) (Some (record { number = n; body = b.body })) (get bodies k)
      ∙ sym (held-without k (stored_key b.entry) (without_bodies es bodies) ∙ ap (cond (same_bytes (stored_key b.entry) k) None) (held-without_all k es bodies))

module _ (x : Settings) (s : State) (locks : LockChanges) (now : Now) (fits : NowFits x s locks now) (sound : IsSound s) where
  abbrev c : Changes
  c = now.changes

  abbrev N : ℕ
  N = shards_of s

  abbrev next : ℕ
  next = s.shelf.writes

  module _ (e : Entry) (b : Body) where
    abbrev body : FinishedBody
    body = record { entry = e; body = b }

    abbrev w : Write
    w = record { number = length c; entry = e; meta = b.meta }

    abbrev landed : Bool → Changes
    landed v = lands (length c) v ∷ appends (length c) b.bytes true ∷ begins w ∷ c

    abbrev with_it : Changes
    with_it = puts (alone e) (weight_for b) ∷ landed true

    -- the body is stored, its entry admitted, and these went
    admitted_fits : NowFits x (with_counts (next + 1) s.lock (record s { shelf = stored next body s.shelf; managed = admitted s body })) locks (record now { changes = with_it })
    admitted_fits =
        let y = whole-fits x s locks now fits e b sound in
        put-fits x (with_counts (next + 1) s.lock (record s { shelf = stored next body s.shelf })) locks (record now { changes = landed true }) y N fits.made.shards e (weight_for b) (admitted s body)
        (made-put x N (alone e) (weight_for b) s.managed fits.made)
        (let a = rows-put x fits.some N fits.made.shards (alone e) s.managed c fits.rows (weight_for b) in record { count = a.count; each = a.each })

    pub went_fits : (es : List CacheEntryKey) → NowFits x (with_counts (next + 1) s.lock (emptied N es (record s { shelf = stored next body s.shelf; managed = admitted s body }))) locks
        (record now { changes = extended with_it (map takes es) })
    went_fits es = emptied-fits x N fits.made.shards es (with_counts (next + 1) s.lock (record s { shelf = stored next body s.shelf; managed = admitted s body })) locks (record now { changes = with_it }) admitted_fits

    -- what went in turn from the shards went in turn from the rows
    pub in_turn : (over : Bool) (es : List CacheEntryKey) → shards.GoInTurn N over es (admitted s body) → GoInTurn x over es (rows (puts (alone e) (weight_for b) ∷ c))
    in_turn over es h = turn-rows x fits.some N fits.made.shards over es (admitted s body) (rows (puts (alone e) (weight_for b) ∷ c)) (made-put x N (alone e) (weight_for b) s.managed fits.made)
        (rows-put x fits.some N fits.made.shards (alone e) s.managed c fits.rows (weight_for b)) h

    -- the write is given up, and its entry goes
    pub kept_out_fits : NowFits x (with_counts (next + 1) s.lock (taken N e s)) locks (record now { changes = takes (alone e) ∷ landed false })
    kept_out_fits = taken-fits x (with_counts (next + 1) s.lock s) locks (record now { changes = landed false }) (given-up-fits x s locks now fits e b) N fits.made.shards e

    -- the same where some went in vain
    pub cut_short_fits : (es : List CacheEntryKey) → NowFits x (with_counts (next + 1) s.lock (taken N e (emptied N es (record s { managed = admitted s body })))) locks
        (record now { changes = takes (alone e) ∷ extended with_it (map takes es) })
    cut_short_fits es =
        let y = taken-fits x (with_counts (next + 1) s.lock (emptied N es (record s { shelf = stored next body s.shelf; managed = admitted s body }))) locks (record now { changes = extended with_it (map takes es) }) (went_fits es)
        N fits.made.shards e in
        same-bodies x (taken N e (with_counts (next + 1) s.lock (emptied N es (record s { shelf = stored next body s.shelf; managed = admitted s body })))) locks
        (record now { changes = takes (alone e) ∷ extended with_it (map takes es) }) (without_body (stored_key e) (without_bodies es s.shelf.bodies)) (λ k. sym (gone-again next body es s.shelf.bodies k)) y

  -- ---- the event

  module _ (used : ℕ) (few : s.shelf.writes ≤ used) (t : MomentValue) (i : Inside) (key : CacheKeyValue) (pieces : List (List ℕ)) (given : Option GivenMeta) where
    abbrev row_so : Option PutVerdict → Outcome → EventRow
    row_so w o = put_row (entry_of key) w (far_of o) c

    abbrev finished : Option PutVerdict → Option FinishedBody
    finished w = finished_in (Put key pieces given) w

    abbrev new : Option PutVerdict → Outcome → State
    new w (Ok a) = after_put s (Some next) (finished w) a
    new w (Err f) = undone s (finished w) (done_of f)

    abbrev PutComes : Option PutVerdict → Outcome → ℕ → Type 0
    PutComes w o n =
        Answered x used o (row_so w o) c
        × NowFits x (with_counts n s.lock (new w o)) locks (cond (ran_out o) now (of_key (row_so w o) now).now)

    -- nothing was stored
    unchanged : (n : ℕ) → next ≤ n → NowFits x (with_counts n s.lock s) locks now
    unchanged n later = later-fits x s locks now fits n later

    put_ok : (w : Option PutVerdict) (a : Answer) (n : ℕ) → IsPutAnswer s (finished w) w a → next ≤ n → (has_stored (Ok a) ≡ true → is_some (finished w) ≡ true → n ≡ next + 1) → PutComes w (Ok a) n
    put_ok None a n p later began = absurd p
    put_ok (Some whole.Incomplete) a n p later began = absurd p
    put_ok (Some whole.BadHead) a n p later began = absurd p
    put_ok (Some whole.BeforeEpoch) a n p later began = absurd p
    put_ok (Some (whole.Uncacheable reason)) (answer.Uncacheable shown) n p later began =
        subst (λ (r : NoCacheReason). PutComes (Some (whole.Uncacheable reason)) (Ok (answer.Uncacheable r)) n) (sym p) ((refl, tt), unchanged n later)
    put_ok (Some (whole.Uncacheable reason)) _ n p later began = absurd p
    put_ok (Some (whole.Stored b)) (Finished told es) n p later began = (
      (ap (λ (n : ℕ). let said : Outcome = Ok (Finished n es) in said) p.0, (put-room x s locks now fits (entry_of key) (weight_for b) p.1, in_turn (entry_of key) b false es p.2)),
      subst (λ (m : ℕ). NowFits x (with_counts m s.lock (new (Some (whole.Stored b)) (Ok (Finished told es)))) locks
          (record now { changes = extended (with_it (entry_of key) b) (map takes es) })) (sym (began refl refl)) (went_fits (entry_of key) b es),
    )
    put_ok (Some (whole.Stored b)) _ n p later began = absurd p

    -- the body is given up again, since its entry was kept out, or since memory ran out in the midst
    given_back : (b : Body) (n : ℕ) → n ≡ next + 1 → NowFits x (with_counts n s.lock (taken N (entry_of key) s)) locks (record now { changes = takes (alone (entry_of key)) ∷ landed (entry_of key) b false })
    given_back b n began = subst (λ (m : ℕ). NowFits x (with_counts m s.lock (taken N (entry_of key) s)) locks (record now { changes = takes (alone (entry_of key)) ∷ landed (entry_of key) b false })) (sym began)
        (kept_out_fits (entry_of key) b)

    away : (b : Body) (f : TierFault) → IsKeptOut s (alone (entry_of key)) (weight_for b) stored_alone f → KeepsOut x (alone (entry_of key)) (weight_for b) stored_alone f (rows c)
    away b f p = entry-out x s locks now fits (alone (entry_of key)) (weight_for b) stored_alone f p

    put_kept : (b : Body) (f : TierFault) (n : ℕ) → IsKeptOut s (alone (entry_of key)) (weight_for b) stored_alone f → n ≡ next + 1 → PutComes (Some (whole.Stored b)) (Err f) n
    put_kept b (TooHeavy told) n p began = subst (λ (d : Done). PutComes (Some (whole.Stored b)) (Err (TooHeavy d)) n) (sym p.0) ((refl, (refl, (away b (TooHeavy told) p).1)), given_back b n began)
    put_kept b (TooLong told) n p began = subst (λ (d : Done). PutComes (Some (whole.Stored b)) (Err (TooLong d)) n) (sym p.0)
        ((refl, (let out = away b (TooLong told) p in (refl, out.1, out.2))), given_back b n began)
    put_kept b (NumbersSpent told) n p began = subst (λ (d : Done). PutComes (Some (whole.Stored b)) (Err (NumbersSpent d)) n) (sym p.0)
        ((refl, (let out = away b (NumbersSpent told) p in (refl, out.1, out.2))), given_back b n began)
    put_kept b (Memory told) n p began = subst (λ (d : Done). PutComes (Some (whole.Stored b)) (Err (Memory d)) n) (sym p.0)
        ((refl, (let out = away b (Memory told) p in (refl, out.1, out.2, out.3, out.4))), given_back b n began)
    put_kept b _ n p began = absurd p

    put_short : (b : Body) (f : TierFault) (n : ℕ) → IsCutShort s (body (entry_of key) b) f → n ≡ next + 1 → PutComes (Some (whole.Stored b)) (Err f) n
    put_short b f n p began = subst (λ (y : TierFault). PutComes (Some (whole.Stored b)) (Err y) n) (sym p.1) (
      (refl, (put-room x s locks now fits (entry_of key) (weight_for b) p.2, in_turn (entry_of key) b true p.0 p.3)),
      subst (λ (m : ℕ). NowFits x (with_counts m s.lock (taken N (entry_of key) (emptied N p.0 (record s { managed = admitted s (body (entry_of key) b) })))) locks
          (record now { changes = extended (with_it (entry_of key) b) (map takes p.0 ++ takes (alone (entry_of key)) ∷ []) })) (sym began)
          (subst (λ (l : Changes). NowFits x (with_counts (next + 1) s.lock (taken N (entry_of key) (emptied N p.0 (record s { managed = admitted s (body (entry_of key) b) })))) locks (record now { changes = l }))
          (sym (and_then p.0 (with_it (entry_of key) b))) (cut_short_fits (entry_of key) b p.0)),
    )
      where
        and_then : (es : List CacheEntryKey) (past : Changes) → extended past (map takes es ++ takes (alone (entry_of key)) ∷ []) ≡ takes (alone (entry_of key)) ∷ extended past (map takes es)
        and_then [] past = refl
        and_then (g ∷ es) past = and_then es (takes g ∷ past)

    -- numbers or memory ran out, and nothing was done
    put_ran : (w : Option PutVerdict) (f : TierFault) (n : ℕ) → f ≡ Memory nothing_done → next ≤ n → (row_so w (Err (Memory nothing_done))).needs.memory ≡ true → PutComes w (Err f) n
    put_ran w f n is later memory = subst (λ (y : TierFault). PutComes w (Err y) n) (sym is) (memory-out x used (row_so w (Err (Memory nothing_done))).needs c memory, ran w)
      where
        ran : (w : Option PutVerdict) → NowFits x (with_counts n s.lock (new w (Err (Memory nothing_done)))) locks now
        ran None = unchanged n later
        ran (Some (whole.Stored b)) = unchanged n later
        ran (Some (whole.Uncacheable reason)) = unchanged n later
        ran (Some whole.Incomplete) = unchanged n later
        ran (Some whole.BadHead) = unchanged n later
        ran (Some whole.BeforeEpoch) = unchanged n later

    put_err : (w : Option PutVerdict) (f : TierFault) (n : ℕ) → ((f ≡ Memory nothing_done) × PutTakes s (finished w) w) ⊎ IsPutFault s (finished w) w f → next ≤ n
        → (has_stored (Err f) ≡ true → is_some (finished w) ≡ true → n ≡ next + 1) → PutComes w (Err f) n
    put_err None f n p later began = elim p [
      | inl h ↦ put_ran None f n h.0 later refl
      | inr h ↦ absurd h
    ]
    put_err (Some (whole.Uncacheable reason)) f n p later began = elim p [
      | inl h ↦ absurd h.1
      | inr h ↦ absurd h
    ]
    put_err (Some whole.Incomplete) f n p later began = elim p [
      | inl h ↦ absurd h.1
      | inr h ↦ subst (λ (y : TierFault). PutComes (Some whole.Incomplete) (Err y) n) (sym h) ((refl, tt), unchanged n later)
    ]
    put_err (Some whole.BadHead) f n p later began = elim p [
      | inl h ↦ absurd h.1
      | inr h ↦ subst (λ (y : TierFault). PutComes (Some whole.BadHead) (Err y) n) (sym h) ((refl, tt), unchanged n later)
    ]
    put_err (Some whole.BeforeEpoch) f n p later began = elim p [
      | inl h ↦ absurd h.1
      | inr h ↦ subst (λ (y : TierFault). PutComes (Some whole.BeforeEpoch) (Err y) n) (sym h) ((refl, tt), unchanged n later)
    ]
    put_err (Some (whole.Stored b)) f n p later began = elim p [
      | inl h ↦ put_ran (Some (whole.Stored b)) f n h.0 later refl
      | inr h ↦ elim h [
        | inl spent ↦ subst (λ (y : TierFault). PutComes (Some (whole.Stored b)) (Err y) n) (sym spent.0)
            (number-out x used (row_so (Some (whole.Stored b)) (Err (NumbersSpent nothing_done))).needs c refl (let all = spent.1 in omega (arith, few, all)), unchanged n later)
        | inr store ↦ elim store [
          | inl out ↦ put_kept b f n out (began (ap (λ (d : Done). d.stored) (kept_out-done s (alone (entry_of key)) (weight_for b) stored_alone f out)) refl)
          | inr cut ↦ put_short b f n cut (began (ap (λ (y : TierFault). has_stored (Err y)) cut.1) refl)
        ]
      ]
    ]

    abbrev Told : Option PutVerdict → Outcome → Bool
    Told w o = cond (is_some (finished w)) (has_stored o) (is_begun o)

    abbrev May : Option PutVerdict → Bool
    May w = cond (is_some (finished w)) true false

    began_by : (w : Option PutVerdict) (o : Outcome) → BeginsWrite s (May w) (Told w o) i.began → has_stored o ≡ true → is_some (finished w) ≡ true → writes_after next i.began ≡ next + 1
    began_by w o b stored some =
        let told : Told w o ≡ true = ap (λ (v : Bool). cond v (has_stored o) (is_begun o)) some ∙ stored in
        ap (writes_after next) (begun-told s (May w) (Told w o) i.began b told)

  pub put-step : (used : ℕ) → s.shelf.writes ≤ used → (t : MomentValue) (i : Inside) (key : CacheKeyValue) (pieces : List (List ℕ)) (given : Option GivenMeta) (o : Outcome) → Allows s (call_at t (Put key pieces given) i o) → Step x used s locks (call_at t (Put key pieces given) i o) now
  put-step used few t i key pieces given (Ok a) p =
      let w = read_by (call_at t (Put key pieces given) i (Ok a)) in
      let all = put_ok used few t i key pieces given w a (writes_after next i.began) p.outcome (no-fewer next i.began) (began_by used few t i key pieces given w (Ok a) p.begins) in
      record { right = record { read = p.read; outcome = all.0 }; fits = all.1 }
  put-step used few t i key pieces given (Err f) p =
      let w = read_by (call_at t (Put key pieces given) i (Err f)) in
      let all = put_err used few t i key pieces given w f (writes_after next i.began) p.outcome (no-fewer next i.began) (began_by used few t i key pieces given w (Err f) p.begins) in
      record { right = record { read = p.read; outcome = all.0 }; fits = all.1 }
