-- Revalidations change the order of use alike by the promise and by the history; so all calls of a lawful history do.
use Rattle.cache_heads.specs.declared.given.GivenMeta.{GivenMeta}
use Rattle.std.proofs.Common.{◌≡◌, ℕ, refl, ap, sym, ◌∙◌, true, false, subst, cond, [], ◌∷◌, ◌++◌}
use Rattle.std.specs.Prelude.{Bool, List, Option, Some, None, Ok, Err}
use Rattle.std.specs.FinMap.{get}
use Rattle.cache_words.specs.Time.{MomentValue}
use Rattle.cache_changes.specs.Changes.{StoredKey, stored_key, Write as KeptWrite, Changes as Told, reweighs, renews}
use Rattle.cache_changes.specs.Uses.{rows_of, reweighed}
use Rattle.cache_changes.specs.Writes as writes
use Rattle.cache_entries.specs.Entry.{key_of}
use Rattle.cache_entries.specs.Rows.{without_row}
use Rattle.cache_entries.specs.declared.entry.CacheEntryKey.{CacheEntryKey}
use Rattle.cache_heads.specs.declared.meta.CacheMeta.{CacheMeta}
use Rattle.cache_heads.specs.declared.reason.NoCacheReason.{NoCacheReason}
use Rattle.cache_lock.specs.declared.status.LockStatus.TheVariants as status
use Rattle.tier_model.specs.declared.event.Action.TheVariants as on
use Rattle.tier_model.specs.declared.event.Answer.TheVariants as answer
use Rattle.tier_model.specs.declared.event.TierFault.{TierFault}
use Rattle.tier_model.specs.declared.event.TierFault.TheVariants as fault
use Rattle.tier_model.specs.Keys.{Entry, alone}
use Rattle.tier_model.specs.Response.{Judged, kept, not_kept, too_early, not_read}
use Rattle.tier_model.specs.Calls.{Call, History, Outcome, extended, nothing_done, done_of, confirmed_of}
use Rattle.tier_model.specs.Histories.{Kept, Opening, clears, renewal_by, renews_body, renewal_changes, changes_of}
use Rattle.tier_model.specs.Rows.{Numbered, weight_for}
use Rattle.tier_model.specs.Answers.{all_done, confirmed_for, is_body_seen}
use Rattle.tier_model.specs.State.{Phase, stale, State}
use Rattle.tier_model.specs.State as state
use Rattle.tier_model.specs.Past.{state_of, lock_changes_of, IsLawful}
use Rattle.tier_promise.specs.Promise.{Write, Changes, Request, EventRow, Now, HowFar, cut, kept_out, told_so, far_of, ComesSo, a_renewal, takes, rows, as_body, body_of}
use Rattle.tier_promise.specs.Promise.{still, released, refused, confirm_row, confirmed_by, revalidate_row, revalidate_by, now_of}
use Rattle.tier_promise.specs.Promise as now_is
use Rattle.tier_model.proofs.CallLaws.{Inside, call_at}
use Rattle.tier_model.proofs.RenewEvents.{SeenBody, seen_body, renewed-is, write_then}
use Rattle.tier_promise.proofs.NowFits.{RequestFits}
use Rattle.tier_promise.proofs.NowAll.{used_by, AreRight-lawful}
use Rattle.tier_promise.proofs.NowCalls.{keeps-all}
use Rattle.tier_promise.proofs.NowLists.{extended-both}
use Rattle.tier_promise.proofs.NowBeginSteps.{seen_same}
use Rattle.tier_promise.proofs.NowRenewChecks.{SeenAt, seen-at}
use Rattle.tier_promise.proofs.NowRenewSteps.{renewal, weight_is}
use Rattle.tier_promise.proofs.NowStart.{IsLocked-lawful}
use Rattle.tier_promise.proofs.NowUses.{Same, same-went, rows-released}
use Rattle.tier_promise.proofs.NowUseEvents.{Next, past, fits, refused-same, the-request, opens, entry-is}

module _ (start : Opening) (h : History) (l : IsLawful start h) (same : Same (now_of start.settings start.loaded h).changes (changes_of start h)) (id : ℕ) (r : Request)
    (at : (now_of start.settings start.loaded h).request id ≡ Some r) (t : MomentValue) (i : Inside) (head : List ℕ) (given : Option GivenMeta) where
  abbrev s : State
  s = state_of start h

  abbrev now : Now
  now = now_of start.settings start.loaded h

  abbrev c : Changes
  c = now.changes

  abbrev all : Told Kept
  all = changes_of start h

  abbrev key : StoredKey
  key = stored_key r.entry

  abbrev call : Outcome → Call
  call o = call_at t (on.Revalidate id head given) i o

  abbrev Then : Outcome → Changes → Type 0
  Then o then = Next start h l same (call o) then

  abbrev q : state.Request
  q = (the-request start h l same id r at).0

  f : RequestFits start.settings (fits start h l same).numbers (fits start h l same).permits s.shelf c q r
  f = (the-request start h l same id r at).2

  judged : (o : Outcome) (j : Option Judged) → confirmed_by r (call o) ≡ j → confirmed_for q (call o) ≡ j
  judged o j is = ap (λ (m : Option CacheMeta). confirmed_of m (call o)) (seen_same (fits start h l same).numbers q.seen r.seen f.seen) ∙ is

  refusal : (o : Outcome) (g : TierFault) → (done_of g).stored ≡ false → o ≡ Err g → Then o c
  refusal o g none is = refused-same start h l same t i (on.Revalidate id head given) g o none is

  -- ---- what is renewed

  module _ (w : Write) (body : still r.seen (body_of key c) ≡ Some w) (meta : CacheMeta) where
    found : (v : Bool) → is_body_seen q s.shelf ≡ v → SeenAt s.shelf.bodies c key v (Some w) → (is_body_seen q s.shelf ≡ true) × ((b : Numbered) × (get s.shelf.bodies key ≡ Some b) × (body_of key c ≡ Some w))
    found true e there = (e, there)
    found false e there = absurd there

    there : (is_body_seen q s.shelf ≡ true) × ((b : Numbered) × (get s.shelf.bodies key ≡ Some b) × (body_of key c ≡ Some w))
    there = found (is_body_seen q s.shelf) refl (subst (λ (o : Option Write). SeenAt s.shelf.bodies c key (is_body_seen q s.shelf) o) body (seen-at start.settings s (lock_changes_of start h) now (fits start h l same) q r f))

    seen : SeenBody start s h (past start h l same).holds id q (opens start h l same id r at)
    seen = seen_body start s h (past start h l same).holds id q (opens start h l same id r at) there.0

    abbrev weight : ℕ
    weight = weight_for (as_body (record w { meta = meta }) c)

    -- the entry weighs the same by both
    weight-same : weight ≡ weight_for (record { bytes = writes.bytes_of seen.stored.write.number all; meta = meta })
    weight-same =
        sym (weight_is start.settings s (lock_changes_of start h) now (fits start h l same) (IsLocked-lawful start h l) id q r (the-request start h l same id r at).1 f (keeps-all start.settings (used_by start) start.loaded h (AreRight-lawful start h l)).order there.1.0 w there.1.1
        there.1.2 meta)
        ∙ seen.weighs meta

    abbrev new : KeptWrite Kept
    new = write_then start s h (past start h l same).holds id q (opens start h l same id r at) seen meta

    weighed : reweighed (alone r.entry) weight (rows c) ≡ reweighed new.meta.entry (weight_for (record { bytes = writes.bytes_of new.number all; meta = meta })) (rows_of all)
    weighed =
        ap (reweighed (alone r.entry) weight) same ∙ ap (λ (v : ℕ). reweighed (alone r.entry) v (rows_of all)) weight-same
        ∙ ap (λ (e : Entry). reweighed (alone e) (weight_for (record { bytes = writes.bytes_of new.number all; meta = meta })) (rows_of all)) (sym (entry-is start h l same id r at))

    renewal-same : (es : List CacheEntryKey) → Same (extended c (renewal w r.entry meta es c)) (extended all (renews_body new es all))
    renewal-same es = same-went es (now_is.weighs (alone r.entry) weight ∷ now_is.renews w.number r.entry meta ∷ c)
        (reweighs new.meta.entry (weight_for (record { bytes = writes.bytes_of new.number all; meta = meta })) ∷ renews new.number new.meta ∷ all) weighed

    new-is : (o : Outcome) → confirmed_by r (call o) ≡ Some (kept meta) → renewal_by start id (call o) h ≡ Some new
    new-is o is = renewed-is start s h (past start h l same).holds id q (opens start h l same id r at) (call o) seen meta (judged o (Some (kept meta)) is)

    renewed-same : (es : List CacheEntryKey) → confirmed_by r (call (Ok (answer.Revalidated es))) ≡ Some (kept meta)
        → Then (Ok (answer.Revalidated es)) (extended c (renewal w r.entry meta es c ++ released status.Done r.hold c))
    renewed-same es is =
        ap rows (extended-both c (renewal w r.entry meta es c) (released status.Done r.hold c)) ∙ rows-released status.Done r.hold c (extended c (renewal w r.entry meta es c)) ∙ renewal-same es
        ∙ sym (ap (λ (o : Option (KeptWrite Kept)). rows_of (extended all (renewal_changes o (Ok (answer.Revalidated es)) all))) (new-is (Ok (answer.Revalidated es)) is))

    cut-same : (es : List CacheEntryKey) → confirmed_by r (call (Err (fault.Memory (all_done es)))) ≡ Some (kept meta)
        → Then (Err (fault.Memory (all_done es))) (extended c ((renewal w r.entry meta es c ++ takes (alone r.entry) ∷ []) ++ released status.Done r.hold c))
    cut-same es is =
        ap rows (extended-both c (renewal w r.entry meta es c ++ takes (alone r.entry) ∷ []) (released status.Done r.hold c))
        ∙ rows-released status.Done r.hold c (extended c (renewal w r.entry meta es c ++ takes (alone r.entry) ∷ []))
        ∙ ap rows (extended-both c (renewal w r.entry meta es c) (takes (alone r.entry) ∷ []))
        ∙ ap (without_row (alone r.entry)) (renewal-same es)
        ∙ ap (λ (e : Entry). without_row (alone e) (rows_of (extended all (renews_body new es all)))) (sym (entry-is start h l same id r at))
        ∙ sym (ap rows_of (extended-both all (renews_body new es all) (clears (key_of new.meta.entry))))
        ∙ sym (ap (λ (o : Option (KeptWrite Kept)). rows_of (extended all (renewal_changes o (Err (fault.Memory (all_done es))) all))) (new-is (Err (fault.Memory (all_done es))) is))

    abbrev x_far : HowFar → Type 0
    x_far far = ComesSo start.settings (a_renewal (alone r.entry) weight) far c

    cut_by : (g : TierFault) → confirmed_by r (call (Err g)) ≡ Some (kept meta) → g ≡ fault.Memory (all_done (done_of g).evicted)
        → Then (Err g) (extended c ((renewal w r.entry meta (done_of g).evicted c ++ takes (alone r.entry) ∷ []) ++ released status.Done r.hold c))
    cut_by g is short =
        subst (λ (y : TierFault). Then (Err y) (extended c ((renewal w r.entry meta (done_of g).evicted c ++ takes (alone r.entry) ∷ []) ++ released status.Done r.hold c))) (sym short)
        (cut-same (done_of g).evicted (subst (λ (y : TierFault). confirmed_by r (call (Err y)) ≡ Some (kept meta)) short is))

    err_same : (g : TierFault) (v : Bool) → confirmed_by r (call (Err g)) ≡ Some (kept meta) → ◌≡◌ {A = Outcome} (Err g) (told_so (λ es. answer.Revalidated es) (cond v (cut (done_of g).evicted) (kept_out g)))
        → x_far (cond v (cut (done_of g).evicted) (kept_out g)) → Then (Err g) (extended c (confirm_row (kept meta) (cond v (cut (done_of g).evicted) (kept_out g)) (Some w) r c).changes)
    err_same g true is e so = cut_by g is cc
    err_same g false is e so = absurd so

    kept-same : (o : Outcome) → confirmed_by r (call o) ≡ Some (kept meta) → o ≡ told_so (λ es. answer.Revalidated es) (far_of o) → x_far (far_of o) → Then o (extended c (confirm_row (kept meta) (far_of o) (Some w) r c).changes)
    kept-same (Ok (answer.Revalidated es)) is e so = renewed-same es is
    kept-same (Ok _) is e so = absurd cc
    kept-same (Err g) is e so = err_same g (done_of g).admitted is e so

  -- ---- the rows

  uncacheable : (o : Option (KeptWrite Kept)) (reason : NoCacheReason) → renewal_changes o (Ok (answer.Uncacheable reason)) all ≡ []
  uncacheable None reason = refl
  uncacheable (Some v) reason = refl

  confirm-same : (j : Judged) (o : Outcome) (w : Option Write) → confirmed_by r (call o) ≡ Some j → still r.seen (body_of key c) ≡ w → o ≡ (confirm_row j (far_of o) w r c).outcome
      → ComesSo start.settings (confirm_row j (far_of o) w r c).needs.entering (far_of o) c → Then o (extended c (confirm_row j (far_of o) w r c).changes)
  confirm-same not_read o w is body e so = refusal o fault.BadHead refl e
  confirm-same too_early o None is body e so = refusal o fault.NotStored refl e
  confirm-same (not_kept reason) o None is body e so = refusal o fault.NotStored refl e
  confirm-same (kept meta) o None is body e so = refusal o fault.NotStored refl e
  confirm-same too_early o (Some w) is body e so = refusal o fault.BeforeEpoch refl e
  confirm-same (not_kept reason) o (Some w) is body e so = subst (λ (y : Outcome). Then y (extended c (confirm_row (not_kept reason) (far_of y) (Some w) r c).changes)) (sym e)
      (rows-released status.GiveUp r.hold c c ∙ same ∙ sym (ap (λ cs. rows_of (extended all cs)) (uncacheable (renewal_by start id (call (Ok (answer.Uncacheable reason))) h) reason)))
  confirm-same (kept meta) o (Some w) is body e so = kept-same w body meta o is e so

  judged-same : (j : Option Judged) (o : Outcome) → confirmed_by r (call o) ≡ j → o ≡ (revalidate_row j (far_of o) r c).outcome → ComesSo start.settings (revalidate_row j (far_of o) r c).needs.entering (far_of o) c
      → Then o (extended c (revalidate_row j (far_of o) r c).changes)
  judged-same None o is e so = refusal o (fault.Memory nothing_done) refl e
  judged-same (Some j) o is e so = confirm-same j o (still r.seen (body_of key c)) is refl e so

  pub revalidate-same : (phase : Phase) (gave : Bool) (o : Outcome) → o ≡ (revalidate_by phase gave (confirmed_by r (call o)) (far_of o) r c).outcome
      → ComesSo start.settings (revalidate_by phase gave (confirmed_by r (call o)) (far_of o) r c).needs.entering (far_of o) c → Then o (extended c (revalidate_by phase gave (confirmed_by r (call o)) (far_of o) r c).changes)
  revalidate-same stale false o e so = judged-same (confirmed_by r (call o)) o refl e so
  revalidate-same _ _ o e so = refusal o fault.WrongPhase refl e
