-- Finishes, puts, purges and revalidations of a lawful history change the order of use alike by the promise and by the history.
use Rattle.cache_heads.specs.declared.given.GivenMeta.{GivenMeta}
use Rattle.std.proofs.Common.{◌≡◌, ℕ, refl, ap, sym, ◌∙◌, true, false, subst, cond, [], ◌∷◌, ◌++◌, length}
use Rattle.std.specs.Prelude.{Bool, List, Option, Some, None, Ok, Err, is_some, not}
use Rattle.cache_words.specs.Time.{MomentValue}
use Rattle.cache_words.specs.Key.{CacheKeyValue}
use Rattle.cache_changes.specs.Changes.{StoredKey, stored_key, Write as KeptWrite, Changes as Told}
use Rattle.cache_changes.specs.Changes as kept
use Rattle.cache_changes.specs.Uses.{rows_of}
use Rattle.cache_entries.specs.Rows.{without_row}
use Rattle.cache_entries.specs.declared.entry.CacheEntryKey.{CacheEntryKey}
use Rattle.tier_model.specs.declared.event.Action.TheVariants as on
use Rattle.tier_model.specs.declared.event.Answer.TheVariants as answer
use Rattle.tier_model.specs.declared.event.TierFault.{TierFault}
use Rattle.tier_model.specs.declared.event.TierFault.TheVariants as fault
use Rattle.tier_model.specs.declared.state.Body.{Body}
use Rattle.tier_model.specs.declared.whole.PutVerdict.{PutVerdict}
use Rattle.tier_model.specs.declared.whole.PutVerdict.TheVariants as whole
use Rattle.tier_model.specs.Keys.{Entry, entry_of, alone}
use Rattle.tier_model.specs.Calls.{Call, History, Outcome, extended, done_of, finished_in}
use Rattle.tier_model.specs.Histories.{Kept, Opening, settles, settles_back, clears, stores, put_changes, finished_of, finish_changes, write_of, changes_of, writes_begun}
use Rattle.tier_model.specs.Rows.{FinishedBody, weight_for}
use Rattle.tier_model.specs.Answers.{stored_alone, all_done}
use Rattle.tier_model.specs.declared.event.Done.{Done}
use Rattle.tier_model.specs.State.{State, shards_of}
use Rattle.tier_model.specs.State as state
use Rattle.tier_model.specs.Past.{state_of, lock_changes_of, IsLawful}
use Rattle.tier_promise.specs.Promise.{Write, Changes, Request, EventRow, Now, begins, appends, lands, takes, rows, as_body, is_alive, lands_whole, done_so, told_so, refused, finish_row, finish_by, put_row, purge_row, shown, now_of}
use Rattle.tier_promise.specs.Promise.{HowFar, cut, kept_out, far_of, ComesSo, a_body}
use Rattle.tier_model.proofs.CallLaws.{Inside, call_at}
use Rattle.tier_model.proofs.OpenLaws.{IsOpen, Written, the-write, FlightAt, flight-at}
use Rattle.tier_model.proofs.OpenLaws as open_laws
use Rattle.tier_promise.proofs.NowFits.{WriteFits, RequestFits}
use Rattle.tier_promise.proofs.NowFinishes.{finishing-is, alive-is}
use Rattle.tier_promise.proofs.NowRequests.{IsSound}
use Rattle.tier_promise.proofs.NowSound.{IsSound-stands}
use Rattle.tier_promise.proofs.NowRows.{keeps_out-done}
use Rattle.tier_promise.proofs.NowUses.{Same, admits, same-settled, same-back}
use Rattle.tier_promise.proofs.NowUseEvents.{Next, past, fits, refused-same, the-request, opens}

-- memory ran out in the midst of the evictions: it was stored
cut_stored : (g : TierFault) (es : List CacheEntryKey) → ◌≡◌ {A = Outcome} (Err g) (Err (fault.Memory (all_done es))) → (done_of g).stored ≡ true
cut_stored g es e = let same : g ≡ fault.Memory (all_done es) = cc in ap (λ (y : TierFault). (done_of y).stored) same

module _ (start : Opening) (h : History) (l : IsLawful start h) (same : Same (now_of start.settings start.loaded h).changes (changes_of start h)) where
  abbrev s : State
  s = state_of start h

  abbrev now : Now
  now = now_of start.settings start.loaded h

  abbrev c : Changes
  c = now.changes

  abbrev all : Told Kept
  all = changes_of start h

  abbrev Then : Call → Changes → Type 0
  Then call then = Next start h l same call then

  -- ---- finishes

  module _ (id : ℕ) (r : Request) (at : now.request id ≡ Some r) (w : Write) (has : r.write ≡ Some w) where
    abbrev q : state.Request
    q = (the-request start h l same id r at).0

    abbrev f : RequestFits start.settings (fits start h l same).numbers (fits start h l same).permits s.shelf c q r
    f = (the-request start h l same id r at).2

    -- the write that it has
    has_write : (n : ℕ) × (q.write ≡ Some n) × WriteFits (fits start h l same).numbers s.shelf.flying r.entry (Some n) (Some w)
    has_write = by_write q.write refl (subst (λ (o : Option Write). WriteFits (fits start h l same).numbers s.shelf.flying r.entry q.write o) has f.write)
      where
        by_write : (o : Option ℕ) → q.write ≡ o → WriteFits (fits start h l same).numbers s.shelf.flying r.entry o (Some w) → (n : ℕ) × (q.write ≡ Some n) × WriteFits (fits start h l same).numbers s.shelf.flying r.entry (Some n) (Some w)
        by_write (Some n) e x = (n, e, x)
        by_write None e x = absurd x

    written : Written start id q h
    written = the-write start id q h (opens start h l same id r at) (past start h l same).writes has_write.0 has_write.1

    -- what it finishes is what the write is, where that is alive
    finished-is : is_alive w c ≡ true → finished_of all written.write ≡ record { entry = w.entry; body = as_body w c }
    finished-is alive =
        let flight : FlightAt written.write s.shelf.flying all =
        flight-at (shards_of s) (writes_begun start h) s.shelf.bodies s.shelf.flying s.managed all (past start h l same).holds.leaves written.write written.flies in
        let sound : IsSound s = IsSound-stands start s h (past start h l same) in
        let here = finishing-is start.settings s (lock_changes_of start h) now (fits start h l same) sound q r f has_write.0 w has_write.1 has_write.2 in
        let life = alive-is start.settings s (lock_changes_of start h) now (fits start h l same) sound q r f has_write.0 w has_write.1 has_write.2 in
        let there = open_laws.finishing-is start id q h s.shelf written flight in
        by_removed flight.flight.removed ((has_write.2).2.0).removed (sym life ∙ alive) (sym there ∙ here)
        ∙ ap (λ (e : Entry). record { entry = e; body = as_body w c }) (sym (has_write.2).1)
      where
        by_removed : (u v : Bool) → not v ≡ true → cond u None (Some (finished_of all written.write)) ≡ cond v None (Some (record { entry = r.entry; body = as_body w c }))
            → finished_of all written.write ≡ record { entry = r.entry; body = as_body w c }
        by_removed u true t e = absurd cc
        by_removed true false t e = absurd cc
        by_removed false false t e = cc

    module _ (t : MomentValue) (i : Inside) where
      abbrev call : Outcome → Call
      call o = call_at t (on.Finish id) i o

      err_changes : (v : KeptWrite Kept) (g : TierFault) → (done_of g).stored ≡ true → finish_changes (Some v) (Err g) all ≡ kept.finishes v ∷ settles_back (finished_of all v) (done_of g)
      err_changes v fault.WriteRemoved stored = absurd cc
      err_changes v g stored = ap (λ (b : Bool). cond b (kept.finishes v ∷ settles_back (finished_of all v) (done_of g)) []) stored

      abbrev weight : ℕ
      weight = weight_for (as_body w c)

      abbrev so_far : HowFar → Changes
      so_far far = extended c (done_so w (lands_whole w weight) far)

      -- a refusal after it was stored
      back_same : is_alive w c ≡ true → (g : TierFault) → (done_of g).stored ≡ true → (v : Bool) → (done_of g).admitted ≡ v
          → Then (call (Err g)) (extended c (cond v (admits w weight (done_of g).evicted) (lands w.number false ∷ []) ++ takes (alone w.entry) ∷ []))
      back_same alive g stored v is = subst (λ (u : Bool). Then (call (Err g)) (extended c (cond u (admits w weight (done_of g).evicted) (lands w.number false ∷ []) ++ takes (alone w.entry) ∷ []))) is
          (same-back w (as_body w c) c (kept.finishes written.write ∷ all) same (done_of g).admitted (done_of g).evicted
          ∙ sym (ap (λ (o : Option (KeptWrite Kept)). rows_of (extended all (finish_changes o (Err g) all))) written.held
          ∙ ap (λ cs. rows_of (extended all cs)) (err_changes written.write g stored)
          ∙ ap (λ (b : FinishedBody). rows_of (extended (kept.finishes written.write ∷ all) (settles_back b (done_of g)))) (finished-is alive)))

      abbrev ToldSo : Outcome → HowFar → Type 0
      ToldSo o far = (o ≡ told_so (λ es. answer.Finished (length (as_body w c).bytes) es) far) × ComesSo start.settings (a_body (alone w.entry) weight) far c

      err_same : is_alive w c ≡ true → (g : TierFault) (v : Bool) → (done_of g).admitted ≡ v → ToldSo (Err g) (cond v (cut (done_of g).evicted) (kept_out g)) → Then (call (Err g)) (so_far (cond v (cut (done_of g).evicted) (kept_out g)))
      err_same alive g true is p = back_same alive g (cut_stored g (done_of g).evicted p.0) true is
      err_same alive g false is p =
          back_same alive g (ap (λ (d : Done). d.stored) (keeps_out-done start.settings (alone w.entry) weight stored_alone g (rows c) p.1)) false is

      settled_same : is_alive w c ≡ true → (o : Outcome) → ToldSo o (far_of o) → Then (call o) (so_far (far_of o))
      settled_same alive (Ok (answer.Finished told es)) p =
          same-settled w (as_body w c) c (kept.finishes written.write ∷ all) same es
          ∙ sym (ap (λ (o : Option (KeptWrite Kept)). rows_of (extended all (finish_changes o (Ok (answer.Finished told es)) all))) written.held
          ∙ ap (λ (b : FinishedBody). rows_of (extended (kept.finishes written.write ∷ all) (settles b es))) (finished-is alive))
      settled_same alive (Ok _) p = let no = p.0 in absurd cc
      settled_same alive (Err g) p = err_same alive g (done_of g).admitted refl p

      abbrev row_at : Bool → Outcome → EventRow
      row_at v o = cond v (finish_row w (as_body w c) (far_of o) r) (record (refused (record r { write = None }) fault.WriteRemoved) { changes = lands w.number false ∷ [] })

      by_life : (v : Bool) → is_alive w c ≡ v → (o : Outcome) → o ≡ (row_at v o).outcome → ComesSo start.settings (row_at v o).needs.entering (far_of o) c → Then (call o) (extended c (row_at v o).changes)
      by_life true alive o e so = settled_same alive o (e, so)
      by_life false alive o e so = refused-same start h l same t i (on.Finish id) fault.WriteRemoved o refl e

      pub write-same : (o : Outcome) → o ≡ (finish_by (Some w) (far_of o) r c).outcome → ComesSo start.settings (finish_by (Some w) (far_of o) r c).needs.entering (far_of o) c
          → Then (call o) (extended c (finish_by (Some w) (far_of o) r c).changes)
      write-same o e so = by_life (is_alive w c) refl o e so

  -- ---- puts and purges

  module _ (t : MomentValue) (i : Inside) (key : CacheKeyValue) (pieces : List (List ℕ)) (given : Option GivenMeta) where
    abbrev e : Entry
    e = entry_of key

    abbrev n : ℕ
    n = writes_begun start h

    abbrev by_history : Option PutVerdict → Outcome → Told Kept
    by_history w o = extended all (put_changes n (finished_in (on.Put key pieces given) w) o)

    abbrev written_by : Body → Write
    written_by b = record { number = length c; entry = e; meta = b.meta }

    abbrev body_by : Body → FinishedBody
    body_by b = record { entry = e; body = b }

    abbrev put_so_far : Body → Changes
    put_so_far b = appends (length c) b.bytes true ∷ begins (written_by b) ∷ c

    abbrev kept_so_far : Body → Told Kept
    kept_so_far b = kept.finishes (write_of n (body_by b)) ∷ kept.appends n b.bytes ∷ kept.begins (write_of n (body_by b)) ∷ all

    abbrev put_to : Body → HowFar → Changes
    put_to b far = extended (put_so_far b) (done_so (written_by b) (lands_whole (written_by b) (weight_for b)) far)

    -- a refusal after it was stored
    back_put : (b : Body) (g : TierFault) → (done_of g).stored ≡ true → (v : Bool) → (done_of g).admitted ≡ v
        → rows (extended (put_so_far b) (cond v (admits (written_by b) (weight_for b) (done_of g).evicted) (lands (written_by b).number false ∷ []) ++ takes (alone e) ∷ [])) ≡ rows_of (by_history (Some (whole.Stored b)) (Err g))
    back_put b g stored v is =
        by_done v
        ∙ ap (λ (u : Bool). rows_of (extended all (cond u (stores n (body_by b) (done_of g).evicted) [] ++ clears e))) (sym is)
        ∙ sym (ap (λ (u : Bool). rows_of (extended all (cond u (cond (done_of g).admitted (stores n (body_by b) (done_of g).evicted) [] ++ clears e) []))) stored)
      where
        by_done : (v : Bool) → rows (extended (put_so_far b) (cond v (admits (written_by b) (weight_for b) (done_of g).evicted) (lands (written_by b).number false ∷ []) ++ takes (alone e) ∷ []))
            ≡ rows_of (extended all (cond v (stores n (body_by b) (done_of g).evicted) [] ++ clears e))
        by_done true = same-back (written_by b) b (put_so_far b) (kept_so_far b) same true (done_of g).evicted
        by_done false = same-back (written_by b) b (put_so_far b) all same false (done_of g).evicted

    abbrev ToldPut : Body → Outcome → HowFar → Type 0
    ToldPut b o far = (o ≡ told_so (λ es. answer.Finished (length b.bytes) es) far) × ComesSo start.settings (a_body (alone e) (weight_for b)) far c

    err_put : (b : Body) (g : TierFault) (v : Bool) → (done_of g).admitted ≡ v → ToldPut b (Err g) (cond v (cut (done_of g).evicted) (kept_out g))
        → rows (put_to b (cond v (cut (done_of g).evicted) (kept_out g))) ≡ rows_of (by_history (Some (whole.Stored b)) (Err g))
    err_put b g true is p = back_put b g (cut_stored g (done_of g).evicted p.0) true is
    err_put b g false is p = back_put b g (ap (λ (d : Done). d.stored) (keeps_out-done start.settings (alone e) (weight_for b) stored_alone g (rows c) p.1)) false is

    stored_put : (b : Body) (o : Outcome) → ToldPut b o (far_of o) → rows (put_to b (far_of o)) ≡ rows_of (by_history (Some (whole.Stored b)) o)
    stored_put b (Ok (answer.Finished told es)) p = same-settled (written_by b) b (put_so_far b) (kept_so_far b) same es
    stored_put b (Ok _) p = let no = p.0 in absurd cc
    stored_put b (Err g) p = err_put b g (done_of g).admitted refl p

    pub put-same : (w : Option PutVerdict) (o : Outcome) → o ≡ (put_row e w (far_of o) c).outcome → ComesSo start.settings (put_row e w (far_of o) c).needs.entering (far_of o) c
        → rows (extended c (put_row e w (far_of o) c).changes) ≡ rows_of (by_history w o)
    put-same None o is so = same
    put-same (Some whole.Incomplete) o is so = same
    put-same (Some whole.BadHead) o is so = same
    put-same (Some whole.BeforeEpoch) o is so = same
    put-same (Some (whole.Uncacheable reason)) o is so = same
    put-same (Some (whole.Stored b)) o is so = stored_put b o (is, so)

    pub purge-same : (o : Outcome) → o ≡ (purge_row e c).outcome → Then (call_at t (on.Purge key) i o) (extended c (purge_row e c).changes)
    purge-same o is = subst (λ (y : Outcome). Then (call_at t (on.Purge key) i y) (extended c (purge_row e c).changes)) (sym is) (by_found (is_some (shown (stored_key e) c)))
      where
        by_found : (v : Bool) → Then (call_at t (on.Purge key) i (Ok (answer.Purged v))) (extended c (cond v (takes (alone e) ∷ []) []))
        by_found true = ap (without_row (alone e)) same
        by_found false = same
