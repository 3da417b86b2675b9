-- The counts of a state are those of its history, and which refusals did nothing.
use Rattle.cache_heads.specs.declared.given.GivenMeta.{GivenMeta}
use Rattle.std.proofs.Common.{◌≡◌, ℕ, refl, ap, sym, ◌∙◌, true, false, subst, cond, ◌∷◌, inl, inr}
use Rattle.std.specs.Prelude.{Bool, List, Option, Some, None, is_some, Ok, Err, MatchOption, not, ◌⊎◌}
use Rattle.std.specs.FinMap.{get}
use Rattle.cache_words.specs.Time.{MomentValue}
use Rattle.tier_model.specs.declared.whole.PutVerdict.{PutVerdict}
use Rattle.tier_model.specs.declared.whole.PutVerdict.TheVariants as whole
use Rattle.tier_model.specs.declared.event.Action.{Action}
use Rattle.tier_model.specs.declared.event.Action.TheVariants.{Open, LookUp, Poll, Begin, Revalidate, Piece, Finish, Read, Drop, Purge, Put}
use Rattle.tier_model.specs.declared.event.Answer.{Answer}
use Rattle.tier_model.specs.declared.event.TierFault.{TierFault}
use Rattle.tier_model.specs.declared.event.TierFault.TheVariants.{NoRequest, IdInUse, WrongPhase, Waiting, AfterEnd, Memory}
use Rattle.tier_model.specs.Response.{Judged, kept, not_kept, too_early, not_read}
use Rattle.tier_model.specs.Calls.{Call, History, Outcome, judged_of, read_by, finished_by, nothing_done, done_of, has_stored}
use Rattle.tier_model.specs.Histories.{is_landing}
use Rattle.cache_heads.specs.declared.meta.CacheMeta.{CacheMeta}
use Rattle.cache_entries.specs.declared.entry.CacheEntryKey.{CacheEntryKey}
use Rattle.tier_model.specs.declared.event.Done.{Done}
use Rattle.tier_model.specs.Rows.{FinishedBody, weight_for}
use Rattle.tier_model.specs.Shelf.{Shelf, Look, absent, in_flight, finished}
use Rattle.tier_model.specs.State.{Request, State, shards_of}
use Rattle.tier_model.specs.Checks.{refusal, unless, unless_open, look_refusal, piece_refusal, is_waiting, can_begin, can_revalidate, has_reader}
use Rattle.tier_model.specs.Answers.{look_for, IsPutFault, IsBeginFault, all_done, weight_then, reweighed, confirmed_for, is_body_seen, IsRenewalFault, IsFaultBy, IsRevalidateFault, IsFinishFault, finishing}
use Rattle.tier_model.specs.Step.{IsUseFault, IsLockFault, IsAnswer, IsLateFault, AllowsBy, Allows}
use Rattle.tier_model.specs.After.{by_request, after_flight, undone, undone_renewal, after_finish, finished_state, refused, after_outcome, after}
use Rattle.tier_model.proofs.CallLaws.{Inside, call_at}
use Rattle.tier_model.proofs.OpenLaws.{kept_out-done}
use Rattle.tier_model.proofs.RowSteps.{gone-count}
use Rattle.tier_model.proofs.StoredLaws.{fault-stored, landing-stored}
use Rattle.tier_model.proofs.CountLaws.{Tallies, Counts, quiet, Tallies-counted, request_quiet, back_counts, fault_quiet, quiet_undone, answer_counts}

-- ---- refusals

checked_nothing : (o : Option Request) (check : Request → Option TierFault) (f : TierFault) → ((q : Request) → check q ≡ Some f → done_of f ≡ nothing_done)
    → unless_open o check ≡ Some f → done_of f ≡ nothing_done
checked_nothing None check f h e = let same : NoRequest ≡ f = cc in ap done_of (sym same)
checked_nothing (Some q) check f h e = h q e

unless_nothing : (v : Bool) (g f : TierFault) → done_of g ≡ nothing_done → unless v g ≡ Some f → done_of f ≡ nothing_done
unless_nothing true g f d e = absurd cc
unless_nothing false g f d e = let same : g ≡ f = cc in ap done_of (sym same) ∙ d

looked_nothing : (q : Request) (f : TierFault) → look_refusal q ≡ Some f → done_of f ≡ nothing_done
looked_nothing q f e = by_test _ e
  where
    by_test : (v : Bool) → cond v (unless (not (is_waiting q.held)) Waiting) (Some WrongPhase) ≡ Some f → done_of f ≡ nothing_done
    by_test true e = unless_nothing (not (is_waiting q.held)) Waiting f refl e
    by_test false e = let same : WrongPhase ≡ f = cc in ap done_of (sym same)

pieced_nothing : (o : Option ℕ) (shelf : Shelf) (f : TierFault) → piece_refusal o shelf ≡ Some f → done_of f ≡ nothing_done
pieced_nothing None shelf f e = let same : WrongPhase ≡ f = cc in ap done_of (sym same)
pieced_nothing (Some n) shelf f e = unless_nothing _ AfterEnd f refl e

-- a refusal before anything else did nothing
pub refused_nothing : (s : State) (action : Action) (f : TierFault) → refusal s action ≡ Some f → done_of f ≡ nothing_done
refused_nothing s (Open r key asks) f e = unless_nothing (not (is_some (get s.requests r))) IdInUse f refl e
refused_nothing s (LookUp r) f e = checked_nothing (get s.requests r) look_refusal f (λ q. looked_nothing q f) e
refused_nothing s (Poll r) f e = checked_nothing (get s.requests r) _ f (λ q. unless_nothing (is_waiting q.held) WrongPhase f refl) e
refused_nothing s (Begin r head given) f e = checked_nothing (get s.requests r) _ f (λ q. unless_nothing (can_begin q.phase q.gave_read) WrongPhase f refl) e
refused_nothing s (Revalidate r head given) f e = checked_nothing (get s.requests r) _ f (λ q. unless_nothing (can_revalidate q.phase q.gave_read) WrongPhase f refl) e
refused_nothing s (Piece r bytes last) f e = checked_nothing (get s.requests r) _ f (λ q. pieced_nothing q.write s.shelf f) e
refused_nothing s (Finish r) f e = checked_nothing (get s.requests r) _ f (λ q. unless_nothing (is_some q.write) WrongPhase f refl) e
refused_nothing s (Read r) f e = checked_nothing (get s.requests r) _ f (λ q. unless_nothing (has_reader q.reader) WrongPhase f refl) e
refused_nothing s (Drop r) f e = checked_nothing (get s.requests r) _ f (λ q e. absurd cc) e
refused_nothing s (Purge key) f e = absurd cc
refused_nothing s (Put key pieces given) f e = absurd cc

begin_nothing : (s : State) (j : Option Judged) (f : TierFault) → IsBeginFault s j f → done_of f ≡ nothing_done
begin_nothing s (Some (kept meta)) f p = ap done_of p.0
begin_nothing s (Some (not_kept reason)) f p = absurd p
begin_nothing s (Some not_read) f p = ap done_of p
begin_nothing s (Some too_early) f p = ap done_of p
begin_nothing s None f p = absurd p

used_nothing : (s : State) (q : Request) (l : Look) (f : TierFault) → IsUseFault s q l f → done_of f ≡ nothing_done
used_nothing s q absent f p = absurd p
used_nothing s q (in_flight x) f p = absurd p
used_nothing s q (finished b) f p = kept_out-done s q.entry (weight_for b.body) nothing_done f p.1

looks_nothing : (s : State) (t : MomentValue) (x : Option Request) (f : TierFault) → MatchOption x ⊥ (λ q. IsUseFault s q (look_for q s.shelf) f ⊎ IsLockFault s t q f) → done_of f ≡ nothing_done
looks_nothing s t None f p = absurd p
looks_nothing s t (Some q) f p = elim p [
  | inl x ↦ used_nothing s q (look_for q s.shelf) f x
  | inr x ↦ ap done_of x.0
]

-- a refusal but of a put, a finish or a revalidation did nothing
abbrev pub stores_nothing : Action → Bool
stores_nothing (Finish r) = false
stores_nothing (Put key pieces given) = false
stores_nothing (Revalidate r head given) = false
stores_nothing _ = true

late_nothing : (s : State) (t : MomentValue) (action : Action) (c : Call) (f : TierFault) → stores_nothing action ≡ true → IsLateFault s t action c f → done_of f ≡ nothing_done
late_nothing s t (Finish r) c f e p = absurd cc
late_nothing s t (Put key pieces given) c f e p = absurd cc
late_nothing s t (Revalidate r head given) c f e p = absurd cc
late_nothing s t (LookUp r) c f e p = looks_nothing s t (get s.requests r) f p
late_nothing s t (Begin r head given) c f e p = begin_nothing s (judged_of c) f p
late_nothing s t _ c f e p = absurd p

pub did_nothing : (s : State) (t : MomentValue) (action : Action) (c : Call) (f : TierFault) (o : Option TierFault) → refusal s action ≡ o → AllowsBy o s t action c (Err f)
    → stores_nothing action ≡ true → done_of f ≡ nothing_done
did_nothing s t action c f (Some g) r p e = let same : f ≡ g = cc in ap done_of same ∙ refused_nothing s action g r
did_nothing s t action c f None r p e = elim p [
  | inl m ↦ ap done_of m.0
  | inr late ↦ late_nothing s t action c f e late
]

put_fault_counts : (s : State) (b : Option FinishedBody) (w : Option PutVerdict) (f : TierFault) → IsPutFault s b w f → Counts s (undone s b (done_of f)) (Err f)
put_fault_counts s (Some b) w f p = elim p [
  | inl full ↦ rw (quiet_undone s (Some b) (done_of f) (ap done_of full.0)) (quiet s s (Err f) refl refl refl (fault_quiet f (ap done_of full.0)))
  | inr late ↦ back_counts s s b f refl refl refl (fault-stored s b f late)
]
put_fault_counts s None (Some whole.Incomplete) f p = quiet s s (Err f) refl refl refl (fault_quiet f (ap done_of p))
put_fault_counts s None (Some whole.BadHead) f p = quiet s s (Err f) refl refl refl (fault_quiet f (ap done_of p))
put_fault_counts s None (Some whole.BeforeEpoch) f p = quiet s s (Err f) refl refl refl (fault_quiet f (ap done_of p))
put_fault_counts s None (Some (whole.Uncacheable reason)) f p = absurd p
put_fault_counts s None (Some (whole.Stored body)) f p = absurd p
put_fault_counts s None None f p = absurd p

-- a finish that did nothing, or found its write removed
nothing_finished : (s : State) (r : ℕ) (q : Request) (f : TierFault) (v : Bool) → done_of f ≡ nothing_done
    → Counts s (cond v (after_finish (after_flight (has_stored (Err f)) s r q) q.write (finishing q s.shelf) (Err f)) s) (Err f)
nothing_finished s r q f false d = quiet s s (Err f) refl refl refl (fault_quiet f d)
nothing_finished s r q f true d =
    rw (quiet_undone (after_flight (has_stored (Err f)) s r q) (finishing q s.shelf) (done_of f) d) (quiet s (after_flight (has_stored (Err f)) s r q) (Err f) refl refl refl (fault_quiet f d))

finish_fault_counts : (s : State) (r : ℕ) (q : Request) (f : TierFault) (b : Option FinishedBody) → finishing q s.shelf ≡ b → IsFinishFault s b f → Counts s (finished_state s r q (Err f)) (Err f)
finish_fault_counts s r q f None e p =
    nothing_finished s r q f (is_landing (Err f)) (ap done_of p)
finish_fault_counts s r q f (Some b) e p = elim p [
  | inl m ↦ nothing_finished s r q f (is_landing (Err f)) (ap done_of m)
  | inr late ↦ by_landing (is_landing (Err f)) (landing-stored f (fault-stored s b f late))
      (subst (λ (x : Option FinishedBody). Counts s (undone (after_flight (has_stored (Err f)) s r q) x (done_of f)) (Err f)) (sym e) (back_counts s (after_flight (has_stored (Err f)) s r q) b f refl refl refl (fault-stored s b f late)))
]
  where
    by_landing : (v : Bool) → v ≡ true → Counts s (after_finish (after_flight (has_stored (Err f)) s r q) q.write (finishing q s.shelf) (Err f)) (Err f)
        → Counts s (cond v (after_finish (after_flight (has_stored (Err f)) s r q) q.write (finishing q s.shelf) (Err f)) s) (Err f)
    by_landing true l k = k
    by_landing false l k = absurd cc

finishes_fault_counts : (s : State) (r : ℕ) (x : Option Request) (f : TierFault) → MatchOption x ⊥ (λ q. IsFinishFault s (finishing q s.shelf) f)
    → Counts s (by_request s x (λ q. finished_state s r q (Err f))) (Err f)
finishes_fault_counts s r None f p = absurd p
finishes_fault_counts s r (Some q) f p = finish_fault_counts s r q f (finishing q s.shelf) refl p

finish_refused_counts : (s : State) (t : MomentValue) (r : ℕ) (c : Call) (f : TierFault) (o : Option TierFault) → refusal s (Finish r) ≡ o → AllowsBy o s t (Finish r) c (Err f)
    → Counts s (refused s (Finish r) c f) (Err f)
finish_refused_counts s t r c f (Some g) e p =
    let same : f ≡ g = cc in
    let d : done_of f ≡ nothing_done = ap done_of same ∙ refused_nothing s (Finish r) g e in
    request_quiet s (get s.requests r) (λ q. finished_state s r q (Err f)) (Err f) (fault_quiet f d) (λ q. nothing_finished s r q f (is_landing (Err f)) d)
finish_refused_counts s t r c f None e p = elim p [
  | inl m ↦ absurd m.1
  | inr late ↦ finishes_fault_counts s r (get s.requests r) f late
]

-- a revalidation that did nothing, and one that had renewed the body
nothing_renewed : (s : State) (r : ℕ) (q : Request) (j : Option Judged) (f : TierFault) → done_of f ≡ nothing_done → Counts s (undone_renewal s r q j (done_of f)) (Err f)
nothing_renewed s r q (Some (kept meta)) f d =
    subst (λ (x : Done). Counts s (undone_renewal s r q (Some (kept meta)) x) (Err f)) (sym d) (quiet s s (Err f) refl refl refl (fault_quiet f d))
nothing_renewed s r q (Some _) f d = quiet s s (Err f) refl refl refl (fault_quiet f d)
nothing_renewed s r q None f d = quiet s s (Err f) refl refl refl (fault_quiet f d)

cut_renewal : (s : State) (r : ℕ) (q : Request) (meta : CacheMeta) (f : TierFault) (es : List CacheEntryKey) → f ≡ Memory (all_done es) → Counts s (undone_renewal s r q (Some (kept meta)) (done_of f)) (Err f)
cut_renewal s r q meta f es e =
    subst (λ (x : TierFault). Counts s (undone_renewal s r q (Some (kept meta)) (done_of x)) (Err x)) (sym e)
    (record { found = refl; absent = refl; evicted = λ k is. gone-count (shards_of s) k es (reweighed s q meta) is })

unconfirmed_counts : (s : State) (r : ℕ) (q : Request) (j : Judged) (f : TierFault) → IsRenewalFault s q j f → Counts s (undone_renewal s r q (Some j) (done_of f)) (Err f)
unconfirmed_counts s r q (kept meta) f p = elim p [
  | inl out ↦ nothing_renewed s r q (Some (kept meta)) f (kept_out-done s q.entry (weight_then q meta s.shelf) nothing_done f out)
  | inr cut ↦ cut_renewal s r q meta f cut.0 cut.1
]
unconfirmed_counts s r q too_early f p = nothing_renewed s r q (Some too_early) f (ap done_of p)
unconfirmed_counts s r q (not_kept reason) f p = absurd p
unconfirmed_counts s r q not_read f p = absurd p

unrenewed_counts : (v : Bool) (s : State) (r : ℕ) (q : Request) (j : Judged) (f : TierFault) → IsFaultBy v s q j f → Counts s (undone_renewal s r q (Some j) (done_of f)) (Err f)
unrenewed_counts true s r q j f p = unconfirmed_counts s r q j f p
unrenewed_counts false s r q j f p = nothing_renewed s r q (Some j) f (ap done_of p)

renewal_fault_counts : (s : State) (r : ℕ) (q : Request) (j : Option Judged) (f : TierFault) → IsRevalidateFault s q j f → Counts s (undone_renewal s r q j (done_of f)) (Err f)
renewal_fault_counts s r q (Some not_read) f p = nothing_renewed s r q (Some not_read) f (ap done_of p)
renewal_fault_counts s r q (Some (kept meta)) f p = unrenewed_counts (is_body_seen q s.shelf) s r q (kept meta) f p
renewal_fault_counts s r q (Some (not_kept reason)) f p = unrenewed_counts (is_body_seen q s.shelf) s r q (not_kept reason) f p
renewal_fault_counts s r q (Some too_early) f p = unrenewed_counts (is_body_seen q s.shelf) s r q too_early f p
renewal_fault_counts s r q None f p = absurd p

renewals_fault_counts : (s : State) (r : ℕ) (c : Call) (x : Option Request) (f : TierFault) → MatchOption x ⊥ (λ q. IsRevalidateFault s q (confirmed_for q c) f)
    → Counts s (by_request s x (λ q. undone_renewal s r q (confirmed_for q c) (done_of f))) (Err f)
renewals_fault_counts s r c None f p = absurd p
renewals_fault_counts s r c (Some q) f p = renewal_fault_counts s r q (confirmed_for q c) f p

renewal_refused_counts : (s : State) (t : MomentValue) (r : ℕ) (head : List ℕ) (given : Option GivenMeta) (c : Call) (f : TierFault) (o : Option TierFault) → refusal s (Revalidate r head given) ≡ o
    → AllowsBy o s t (Revalidate r head given) c (Err f) → Counts s (refused s (Revalidate r head given) c f) (Err f)
renewal_refused_counts s t r head given c f o e p = by_refusal o e p
  where
    did : done_of f ≡ nothing_done → Counts s (refused s (Revalidate r head given) c f) (Err f)
    did d = request_quiet s (get s.requests r) (λ q. undone_renewal s r q (confirmed_for q c) (done_of f)) (Err f) (fault_quiet f d) (λ q. nothing_renewed s r q (confirmed_for q c) f d)

    by_refusal : (o : Option TierFault) → refusal s (Revalidate r head given) ≡ o → AllowsBy o s t (Revalidate r head given) c (Err f) → Counts s (refused s (Revalidate r head given) c f) (Err f)
    by_refusal (Some g) e p = let same : f ≡ g = cc in did (ap done_of same ∙ refused_nothing s (Revalidate r head given) g e)
    by_refusal None e p = elim p [
      | inl m ↦ did (ap done_of m.0)
      | inr late ↦ renewals_fault_counts s r c (get s.requests r) f late
    ]

fault_counts : (s : State) (t : MomentValue) (action : Action) (c : Call) (f : TierFault) → AllowsBy (refusal s action) s t action c (Err f) → Counts s (refused s action c f) (Err f)
fault_counts s t (Finish r) c f p = finish_refused_counts s t r c f (refusal s (Finish r)) refl p
fault_counts s t (Revalidate r head given) c f p = renewal_refused_counts s t r head given c f (refusal s (Revalidate r head given)) refl p
fault_counts s t (Put key pieces given) c f p = elim p [
  | inl m ↦ rw (quiet_undone s (finished_by c) (done_of f) (ap done_of m.0)) (quiet s s (Err f) refl refl refl (fault_quiet f (ap done_of m.0)))
  | inr late ↦ put_fault_counts s (finished_by c) (read_by c) f late
]
fault_counts s t (Open r key asks) c f p = quiet s s (Err f) refl refl refl (fault_quiet f (did_nothing s t (Open r key asks) c f (refusal s (Open r key asks)) refl p refl))
fault_counts s t (LookUp r) c f p = quiet s s (Err f) refl refl refl (fault_quiet f (did_nothing s t (LookUp r) c f (refusal s (LookUp r)) refl p refl))
fault_counts s t (Poll r) c f p = quiet s s (Err f) refl refl refl (fault_quiet f (did_nothing s t (Poll r) c f (refusal s (Poll r)) refl p refl))
fault_counts s t (Begin r head given) c f p = quiet s s (Err f) refl refl refl (fault_quiet f (did_nothing s t (Begin r head given) c f (refusal s (Begin r head given)) refl p refl))
fault_counts s t (Piece r bytes last) c f p = quiet s s (Err f) refl refl refl (fault_quiet f (did_nothing s t (Piece r bytes last) c f (refusal s (Piece r bytes last)) refl p refl))
fault_counts s t (Read r) c f p = quiet s s (Err f) refl refl refl (fault_quiet f (did_nothing s t (Read r) c f (refusal s (Read r)) refl p refl))
fault_counts s t (Drop r) c f p = quiet s s (Err f) refl refl refl (fault_quiet f (did_nothing s t (Drop r) c f (refusal s (Drop r)) refl p refl))
fault_counts s t (Purge key) c f p = quiet s s (Err f) refl refl refl (fault_quiet f (did_nothing s t (Purge key) c f None refl p refl))

-- each lawful call keeps the counts
pub Tallies-after : (s : State) (c : Call) (h : History) → Allows s c → Tallies s h → Tallies (after s c) (c ∷ h)
Tallies-after s c h p tally =
    let k = by_outcome c.outcome p.outcome in
    Tallies-counted s (after s c) c h (record { found = k.found; absent = k.absent; evicted = k.evicted }) tally
  where
    i : Inside
    i = record { reading = c.reading; began = c.began; asked = c.asked }

    by_allowed : (o : Option TierFault) (a : Answer) → refusal s c.event.action ≡ o → AllowsBy o s c.event.moment c.event.action (call_at c.event.moment c.event.action i (Ok a)) (Ok a)
        → IsAnswer s c.event.moment c.event.action (call_at c.event.moment c.event.action i (Ok a)) a
    by_allowed (Some g) a e p = absurd cc
    by_allowed None a e p = p

    by_outcome : (o : Outcome) → AllowsBy (refusal s c.event.action) s c.event.moment c.event.action (call_at c.event.moment c.event.action i o) o
        → Counts s (after_outcome s c.event.moment c.event.action (call_at c.event.moment c.event.action i o) o) o
    by_outcome (Ok a) p = answer_counts s c.event.moment c.event.action (call_at c.event.moment c.event.action i (Ok a)) a (by_allowed (refusal s c.event.action) a refl p)
    by_outcome (Err f) p = fault_counts s c.event.moment c.event.action (call_at c.event.moment c.event.action i (Err f)) f p
