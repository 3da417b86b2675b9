-- What a revalidation changes leaves what the state after it holds.
use Rattle.cache_heads.specs.declared.given.GivenMeta.{GivenMeta}
use Rattle.std.proofs.Common.{◌≡◌, ℕ, refl, ap, sym, ◌∙◌, true, false, subst, cond, [], ◌∷◌, ◌++◌, ◌==◌, inl, inr}
use Rattle.std.specs.Prelude.{Bool, List, Option, Some, None, option_map, Ok, Err, MatchOption}
use Rattle.std.specs.FinMap.{get}
use Rattle.std.proofs.lemmas.Bool.{eqb-true}
use Rattle.cache_words.specs.Time.{MomentValue}
use Rattle.cache_heads.specs.declared.meta.CacheMeta.{CacheMeta}
use Rattle.cache_heads.specs.declared.reason.NoCacheReason.{NoCacheReason}
use Rattle.cache_entries.specs.declared.entry.CacheEntryKey.{CacheEntryKey}
use Rattle.cache_entries.specs.Entry.{key_of}
use Rattle.cache_changes.specs.Changes.{stored_key, Write, Change, Changes}
use Rattle.cache_changes.specs.Store.{Stored}
use Rattle.cache_changes.specs.Writes.{bytes_of, IsBody}
use Rattle.cache_changes.proofs.WriteLaws.{alive_began}
use Rattle.cache_evict.specs.Managed.{Managed, weighed_anew, taken_out}
use Rattle.tier_model.specs.declared.state.Body.{Body}
use Rattle.tier_model.specs.declared.event.Action.TheVariants.{Revalidate}
use Rattle.tier_model.specs.declared.event.Answer.{Answer}
use Rattle.tier_model.specs.declared.event.Answer.TheVariants.{Revalidated}
use Rattle.tier_model.specs.declared.event.Answer.TheVariants as answer
use Rattle.tier_model.specs.declared.event.Done.{Done}
use Rattle.tier_model.specs.declared.event.TierFault.{TierFault}
use Rattle.tier_model.specs.declared.event.TierFault.TheVariants.{Memory}
use Rattle.tier_model.specs.Evictions.{all_gone, GoInTurn}
use Rattle.tier_model.specs.Keys.{Entry, alone}
use Rattle.tier_model.specs.Response.{Judged, kept, not_kept, too_early, not_read}
use Rattle.tier_model.specs.Calls.{Call, History, Outcome, extended, nothing_done, done_of, confirmed_of, opened_for, writes_after}
use Rattle.tier_model.specs.Histories.{Kept, Opening, writes_begun, changes_of, seen_by, renewal_by, renewal_from, write_renewed, renewal_changes, renews_body, clears}
use Rattle.tier_model.specs.Rows.{Numbered, number_at, weight_for}
use Rattle.tier_model.specs.State.{Seen, Request, State, shards_of}
use Rattle.tier_model.specs.Answers.{key_for, all_done, confirmed_for, is_that_write, is_body_seen, weight_with, weight_then, reweighed, IsRevalidateAnswer, IsRenewalFault, IsFaultBy, IsRevalidateFault}
use Rattle.tier_model.specs.Checks.{refusal}
use Rattle.tier_model.specs.Step.{AllowsBy}
use Rattle.tier_model.specs.After.{by_request, after_confirmed, undone_renewal}
use Rattle.tier_model.specs.Past.{plain_seen}
use Rattle.tier_model.proofs.ShownLaws.{Shows, shows}
use Rattle.tier_model.proofs.SeenLaws.{one_begun, IsSeenOf, seen-of}
use Rattle.tier_model.proofs.BoundLaws.{Keeps, keeps-later}
use Rattle.tier_model.proofs.RenewLaws.{keeps-renewed, keeps-undone}
use Rattle.tier_model.proofs.OpenLaws.{Holds, HoldsNext, no-fewer, extended-append, kept_out-done, IsOpen, seen_alone}
use Rattle.tier_model.proofs.CallLaws.{Inside, call_at}
use Rattle.tier_model.proofs.StoredLaws.{idle}
use Rattle.tier_model.proofs.ReportLaws.{refused_nothing}

-- what a refusal that had done nothing changes
nothing_changed : (o : Option (Write Kept)) (f : TierFault) (before : Changes Kept) → done_of f ≡ nothing_done → renewal_changes o (Err f) before ≡ []
nothing_changed None f before d = refl
nothing_changed (Some w) f before d = ap (λ (x : Done). cond x.stored (renews_body w x.evicted before ++ clears (key_of w.meta.entry)) []) d

pub nothing_undone : (s : State) (r : ℕ) (q : Request) (j : Option Judged) (done : Done) → done ≡ nothing_done → undone_renewal s r q j done ≡ s
nothing_undone s r q (Some (kept meta)) done d = rw d refl
nothing_undone s r q (Some _) done d = refl
nothing_undone s r q None done d = refl

module _ (start : Opening) (s : State) (h : History) (l : Holds start s h) (r : ℕ) (q : Request) (opens : IsOpen start r q h) where
  abbrev N : ℕ
  N = shards_of s

  abbrev n : ℕ
  n = writes_begun start h

  abbrev changes : Changes Kept
  changes = changes_of start h

  abbrev e : Entry
  e = key_of q.entry

  -- what it has seen is the body of its key
  pub record SeenBody : Type 0 where
    pub stored : Stored Kept
    pub seen : seen_by start r h ≡ Some stored
    pub body : IsBody (stored_key e) stored.write changes
    pub weighs : (meta : CacheMeta) → weight_then q meta s.shelf ≡ weight_for (record { bytes = bytes_of stored.write.number changes; meta = meta })

  seen_write : (x : Stored Kept) → seen_by start r h ≡ Some x → IsSeenOf (Some x) (Some e) changes
  seen_write x is =
      subst (λ (o : Option Entry). IsSeenOf (Some x) o changes) opens.key
      (subst (λ (o : Option (Stored Kept)). IsSeenOf o (opened_for r h) changes) is (seen-of start r h l.leaves.orderly))

  shown_body : (x : Stored Kept) → seen_by start r h ≡ Some x → (b : Numbered) → get s.shelf.bodies (stored_key e) ≡ Some b → (x.write.number == b.number) ≡ true → SeenBody
  shown_body x is b there same = record {
    stored = x;
    seen = is;
    body = body;
    weighs = λ meta.
        ap (λ (o : Option Numbered). weight_with (option_map (λ y. y.body) o) meta) there
        ∙ ap (λ (y : Body). weight_for (record y { meta = meta })) (sym shown.tells)
        ∙ ap (λ (w : Write Kept). weight_for (record { bytes = bytes_of w.number changes; meta = meta })) (sym one);
  }
    where
      shown : Shows (stored_key e) b changes
      shown = shows N n s.shelf.bodies s.shelf.flying s.managed changes l.leaves (stored_key e) b there

      one : x.write ≡ shown.write
      one = one_begun x.write shown.write changes l.leaves.orderly (seen_write x is).0 (alive_began shown.write changes shown.body.alive) (eqb-true x.write.number b.number same ∙ sym shown.number)

      body : IsBody (stored_key e) x.write changes
      body = subst (λ (w : Write Kept). IsBody (stored_key e) w changes) (sym one) shown.body

  pub seen_body : is_body_seen q s.shelf ≡ true → SeenBody
  seen_body t = by_seen (seen_by start r h) refl (get s.shelf.bodies (stored_key e)) refl (ap (λ (o : Option Seen). is_that_write o (number_at (key_for q) s.shelf.bodies)) (sym opens.seen) ∙ t)
    where
      by_seen : (x : Option (Stored Kept)) → seen_by start r h ≡ x → (b : Option Numbered) → get s.shelf.bodies (stored_key e) ≡ b
          → is_that_write (option_map plain_seen x) (option_map (λ y. y.number) b) ≡ true → SeenBody
      by_seen None is b there t = absurd cc
      by_seen (Some x) is None there t = absurd cc
      by_seen (Some x) is (Some b) there t = shown_body x is b there t

  -- what the head gave, by what was seen
  pub confirmed-is : (c : Call) (x : Stored Kept) → seen_by start r h ≡ Some x → confirmed_for q c ≡ confirmed_of (Some x.meta.meta) c
  confirmed-is c x is = ap (λ (o : Option CacheMeta). confirmed_of o c) (seen_alone q.seen (seen_by start r h) opens.seen ∙ ap (option_map (λ (y : Stored Kept). y.meta.meta)) is)

  abbrev pub write_then : SeenBody → CacheMeta → Write Kept
  write_then x meta = record x.stored.write { meta = record { entry = alone e; meta = meta } }

  pub renewed-is : (c : Call) (x : SeenBody) (meta : CacheMeta) → confirmed_for q c ≡ Some (kept meta) → renewal_by start r c h ≡ Some (write_then x meta)
  renewed-is c x meta is =
      ap (λ (o : Option Entry). renewal_from o (seen_by start r h) c) opens.key ∙ ap (λ (o : Option (Stored Kept)). renewal_from (Some e) o c) x.seen
      ∙ ap (write_renewed e x.stored.write) (sym (confirmed-is c x.stored x.seen) ∙ is)

  pub reweighed-is : (x : SeenBody) (meta : CacheMeta) → weighed_anew N (alone e) (weight_for (record { bytes = bytes_of x.stored.write.number changes; meta = meta })) s.managed ≡ reweighed s q meta
  reweighed-is x meta = sym (ap (λ (y : CacheEntryKey). weighed_anew N y (weight_then q meta s.shelf) s.managed) opens.entry ∙ ap (λ (v : ℕ). weighed_anew N (alone e) v s.managed) (x.weighs meta))

  module _ (c : Call) (began : Bool) where
    abbrev Next : State → List (Change Kept) → Type 0
    Next new cs = HoldsNext s n began new (extended changes cs)

    abbrev renewal : Answer → List (Change Kept)
    renewal a = renewal_changes (renewal_by start r c h) (Ok a) changes

    abbrev undoing : TierFault → List (Change Kept)
    undoing f = renewal_changes (renewal_by start r c h) (Err f) changes

    still : HoldsNext s n began s changes
    still = idle s n changes l began

    uncacheable : (o : Option (Write Kept)) (reason : NoCacheReason) → renewal_changes o (Ok (answer.Uncacheable reason)) changes ≡ []
    uncacheable None reason = refl
    uncacheable (Some w) reason = refl

    pub confirmed_holds : (a : Answer) (j : Option Judged) → confirmed_for q c ≡ j → IsRevalidateAnswer s q j a → Next (after_confirmed s r q j a) (renewal a)
    confirmed_holds (Revalidated es) (Some (kept meta)) is p = renewed_holds es meta is (seen_body p.0) p.1.1
      where
        renewed_holds : (es : List CacheEntryKey) (meta : CacheMeta) → confirmed_for q c ≡ Some (kept meta) → SeenBody → GoInTurn N false es (reweighed s q meta)
            → Next (after_confirmed s r q (Some (kept meta)) (Revalidated es)) (renewal (Revalidated es))
        renewed_holds es meta is x go =
            let new = after_confirmed s r q (Some (kept meta)) (Revalidated es) in
            let all = extended changes (renews_body (write_then x meta) es changes) in
            let kept_all : Keeps N n new.shelf.bodies new.shelf.flying new.managed all =
            subst (λ (m : Managed). GoInTurn N false es m → Keeps N n new.shelf.bodies new.shelf.flying (all_gone N es m) all) (reweighed-is x meta)
            (keeps-renewed N n e x.stored.write meta s.shelf.bodies s.shelf.flying s.managed changes l.leaves.orderly x.body l es) go in
            subst (λ (o : Option (Write Kept)). Next new (renewal_changes o (Ok (Revalidated es)) changes)) (sym (renewed-is c x meta is))
            (keeps-later N n new.shelf.bodies new.shelf.flying new.managed all kept_all (writes_after n began) (no-fewer n began))
    confirmed_holds _ (Some (kept meta)) is p = absurd p.1
    confirmed_holds a (Some (not_kept reason)) is p =
        rw p.1 (subst (λ (cs : List (Change Kept)). Next s cs) (sym (uncacheable (renewal_by start r c h) reason)) still)
    confirmed_holds a (Some too_early) is p = absurd p.1
    confirmed_holds a (Some not_read) is p = absurd p.1
    confirmed_holds a None is p = absurd p.1

    -- a refusal that had done nothing
    pub quiet_renewal : (f : TierFault) (j : Option Judged) → done_of f ≡ nothing_done → Next (undone_renewal s r q j (done_of f)) (undoing f)
    quiet_renewal f j d =
        subst (λ (x : State). Next x (undoing f)) (sym (nothing_undone s r q j (done_of f) d)) (subst (λ (cs : List (Change Kept)). Next s cs) (sym (nothing_changed (renewal_by start r c h) f changes d)) still)

    -- one that had renewed the body
    cut_renewal : (f : TierFault) (meta : CacheMeta) (es : List CacheEntryKey) → confirmed_for q c ≡ Some (kept meta) → SeenBody → f ≡ Memory (all_done es) → GoInTurn N true es (reweighed s q meta)
        → Next (undone_renewal s r q (Some (kept meta)) (done_of f)) (undoing f)
    cut_renewal f meta es is x cut go =
        subst (λ (g : TierFault). Next (undone_renewal s r q (Some (kept meta)) (done_of g)) (undoing g)) (sym cut)
        (subst (λ (o : Option (Write Kept)). Next new (renewal_changes o (Err (Memory (all_done es))) changes)) (sym (renewed-is c x meta is))
        (subst (λ (all : Changes Kept). HoldsNext s n began new all) (sym (extended-append changes (renews_body (write_then x meta) es changes) (clears e)))
        (keeps-later N n new.shelf.bodies new.shelf.flying new.managed last undone (writes_after n began) (no-fewer n began))))
      where
        new : State
        new = undone_renewal s r q (Some (kept meta)) (all_done es)

        last : Changes Kept
        last = extended (extended changes (renews_body (write_then x meta) es changes)) (clears e)

        undone : Keeps N n new.shelf.bodies new.shelf.flying new.managed last
        undone = subst (λ (m : Managed). GoInTurn N true es m → Keeps N n new.shelf.bodies new.shelf.flying (taken_out N (alone e) (all_gone N es m)) last) (reweighed-is x meta)
            (keeps-undone N n e x.stored.write meta s.shelf.bodies s.shelf.flying s.managed changes l.leaves.orderly x.body l true es) go

    unconfirmed_holds : (f : TierFault) (j : Judged) → confirmed_for q c ≡ Some j → SeenBody → IsRenewalFault s q j f → Next (undone_renewal s r q (Some j) (done_of f)) (undoing f)
    unconfirmed_holds f (kept meta) is x p = elim p [
      | inl out ↦ quiet_renewal f (Some (kept meta)) (kept_out-done s q.entry (weight_then q meta s.shelf) nothing_done f out)
      | inr cut ↦ cut_renewal f meta cut.0 is x cut.1 cut.3
    ]
    unconfirmed_holds f too_early is x p = quiet_renewal f (Some too_early) (ap done_of p)
    unconfirmed_holds f (not_kept reason) is x p = absurd p
    unconfirmed_holds f not_read is x p = absurd p

    unrenewed_holds : (f : TierFault) (j : Judged) (v : Bool) → is_body_seen q s.shelf ≡ v → confirmed_for q c ≡ Some j → IsFaultBy v s q j f → Next (undone_renewal s r q (Some j) (done_of f)) (undoing f)
    unrenewed_holds f j true t is p = unconfirmed_holds f j is (seen_body t) p
    unrenewed_holds f j false t is p = quiet_renewal f (Some j) (ap done_of p)

    pub renewal_fault_holds : (f : TierFault) (j : Option Judged) → confirmed_for q c ≡ j → IsRevalidateFault s q j f → Next (undone_renewal s r q j (done_of f)) (undoing f)
    renewal_fault_holds f (Some not_read) is p = quiet_renewal f (Some not_read) (ap done_of p)
    renewal_fault_holds f (Some (kept meta)) is p = unrenewed_holds f (kept meta) (is_body_seen q s.shelf) refl is p
    renewal_fault_holds f (Some (not_kept reason)) is p = unrenewed_holds f (not_kept reason) (is_body_seen q s.shelf) refl is p
    renewal_fault_holds f (Some too_early) is p = unrenewed_holds f too_early (is_body_seen q s.shelf) refl is p
    renewal_fault_holds f None is p = absurd p

module _ (start : Opening) (s : State) (h : History) (l : Holds start s h) (opened : (r : ℕ) (q : Request) → get s.requests r ≡ Some q → IsOpen start r q h) (t : MomentValue) (i : Inside)
    (r : ℕ) (head : List ℕ) (given : Option GivenMeta) where
  abbrev call : Outcome → Call
  call o = call_at t (Revalidate r head given) i o

  abbrev NextBy : Option Request → Outcome → (Request → State) → Type 0
  NextBy x o f = HoldsNext s (writes_begun start h) i.began (by_request s x f) (changes_of start (call o ∷ h))

  pub renewal_answered : (a : Answer) (x : Option Request) → get s.requests r ≡ x → MatchOption x ⊥ (λ q. IsRevalidateAnswer s q (confirmed_for q (call (Ok a))) a)
      → NextBy x (Ok a) (λ q. after_confirmed s r q (confirmed_for q (call (Ok a))) a)
  renewal_answered a None e p = absurd p
  renewal_answered a (Some q) e p = confirmed_holds start s h l r q (opened r q e) (call (Ok a)) i.began a (confirmed_for q (call (Ok a))) refl p

  -- a refusal that had done nothing
  quiet_by : (f : TierFault) (x : Option Request) → done_of f ≡ nothing_done → NextBy x (Err f) (λ q. undone_renewal s r q (confirmed_for q (call (Err f))) (done_of f))
  quiet_by f x d =
      subst (λ (y : State). HoldsNext s (writes_begun start h) i.began y (changes_of start (call (Err f) ∷ h))) (sym (state x))
      (subst (λ (cs : List (Change Kept)). HoldsNext s (writes_begun start h) i.began s (extended (changes_of start h) cs)) (sym (nothing_changed (renewal_by start r (call (Err f)) h) f (changes_of start h) d))
      (idle s (writes_begun start h) (changes_of start h) l i.began))
    where
      state : (x : Option Request) → by_request s x (λ q. undone_renewal s r q (confirmed_for q (call (Err f))) (done_of f)) ≡ s
      state None = refl
      state (Some q) = nothing_undone s r q (confirmed_for q (call (Err f))) (done_of f) d

  late_by : (f : TierFault) (x : Option Request) → get s.requests r ≡ x → MatchOption x ⊥ (λ q. IsRevalidateFault s q (confirmed_for q (call (Err f))) f)
      → NextBy x (Err f) (λ q. undone_renewal s r q (confirmed_for q (call (Err f))) (done_of f))
  late_by f None e p = absurd p
  late_by f (Some q) e p = renewal_fault_holds start s h l r q (opened r q e) (call (Err f)) i.began f (confirmed_for q (call (Err f))) refl p

  pub renewal_refused : (f : TierFault) (o : Option TierFault) → refusal s (Revalidate r head given) ≡ o → AllowsBy o s t (Revalidate r head given) (call (Err f)) (Err f)
      → NextBy (get s.requests r) (Err f) (λ q. undone_renewal s r q (confirmed_for q (call (Err f))) (done_of f))
  renewal_refused f (Some g) n p = let same : f ≡ g = cc in quiet_by f (get s.requests r) (ap done_of same ∙ refused_nothing s (Revalidate r head given) g n)
  renewal_refused f None n p = elim p [
    | inl m ↦ quiet_by f (get s.requests r) (ap done_of m.0)
    | inr late ↦ late_by f (get s.requests r) refl late
  ]
