-- A body that is stored, or taken back, by a put or a finish.
use Rattle.std.proofs.Common.{◌≡◌, ℕ, ◌+◌, refl, ap, sym, ◌∙◌, true, false, subst, cond, [], ◌∷◌, inl, inr}
use Rattle.std.specs.Prelude.{Bool, List, Option, Some, None, is_some, Ok, Err, not, filter}
use Rattle.std.specs.FinMap.{FinMap}
use Rattle.std.specs.Ordering.{nat_cmp}
use Rattle.cache_changes.specs.Changes.{stored_key, Write, Changes, finishes}
use Rattle.cache_changes.specs.Writes.{IsInFlight, IsAlive}
use Rattle.cache_entries.specs.declared.entry.CacheEntryKey.{CacheEntryKey}
use Rattle.cache_entries.specs.Entry.{key_of}
use Rattle.tier_model.specs.declared.whole.PutVerdict.{PutVerdict}
use Rattle.tier_model.specs.declared.event.Answer.{Answer}
use Rattle.tier_model.specs.declared.event.Answer.TheVariants.{Finished}
use Rattle.tier_model.specs.declared.event.Done.{Done}
use Rattle.tier_model.specs.declared.event.TierFault.{TierFault}
use Rattle.tier_model.specs.declared.event.TierFault.TheVariants.{NoRequest, WrongPhase, WriteRemoved}
use Rattle.tier_model.specs.Keys.{Entry, alone}
use Rattle.tier_model.specs.Evictions.{GoInTurn}
use Rattle.tier_model.specs.Calls.{extended, nothing_done, done_of, has_stored, is_begun, writes_after}
use Rattle.tier_model.specs.Histories.{Kept, settles, stores, clears, put_changes, is_landing, finished_of, settles_back, finish_changes}
use Rattle.tier_model.specs.Rows.{FinishedBody, with_body, weight_for}
use Rattle.tier_model.specs.Shelf.{InFlight, has_number, landed}
use Rattle.tier_model.specs.State.{Request, State, shards_of}
use Rattle.tier_model.specs.Checks.{unless, unless_open}
use Rattle.tier_model.specs.Answers.{admitted, stored_alone, all_done, IsStored, IsPutAnswer, IsStoreFault, IsPutFault}
use Rattle.tier_model.specs.Step.{BeginsWrite}
use Rattle.tier_model.specs.After.{after_put, undone}
use Rattle.tier_model.proofs.ChangeLaws.{Leaves}
use Rattle.tier_model.proofs.WrittenLaws.{leaves-stored, leaves-finished}
use Rattle.tier_model.proofs.BoundLaws.{Keeps, keeps-later, keeps-cleared, keeps-left, keeps-room, keeps-back, keeps-withdrawn, put_changes_key, finish_changes_key}
use Rattle.tier_model.proofs.OpenLaws.{HoldsNext, no-fewer, begun-told, extended-append, kept_out-done}

-- ---- a body that is stored, or taken back

module _ (s : State) (n : ℕ) (changes : Changes Kept) (l : Keeps (shards_of s) n s.shelf.bodies s.shelf.flying s.managed changes) where
  pub idle : (began : Bool) → HoldsNext s n began s changes
  idle began = keeps-later (shards_of s) n s.shelf.bodies s.shelf.flying s.managed changes l (writes_after n began) (no-fewer n began)

  -- a put's
  pub put_stored : (b : FinishedBody) → Leaves (shards_of s) (n + 1) (with_body n b s.shelf.bodies) s.shelf.flying (admitted s b) (extended changes (stores n b []))
  put_stored b = leaves-stored (shards_of s) n b s.shelf.bodies s.shelf.flying s.managed changes l.leaves

  pub put_holds : (g : Option FinishedBody) (w : Option PutVerdict) (a : Answer) (began may : Bool) → IsPutAnswer s g w a → BeginsWrite s may (cond (is_some g) (has_stored (Ok a)) (is_begun (Ok a))) began
      → HoldsNext s n began (after_put s (Some n) g a) (extended changes (put_changes n g (Ok a)))
  put_holds (Some b) w (Finished m es) began may p x =
      subst (λ (v : Bool). HoldsNext s n v (after_put s (Some n) (Some b) (Finished m es)) (extended changes (stores n b es))) (sym (begun-told s may true began x refl))
      (keeps-room (shards_of s) n s.shelf.bodies s.shelf.flying s.managed changes l (n + 1) n b s.shelf.flying (extended changes (stores n b [])) (put_stored b) es p.2)
  put_holds (Some b) w _ began may p x = absurd p
  put_holds None w a began may p x = idle began

  -- a refused put
  abbrev BackHolds : Option FinishedBody → TierFault → Bool → Type 0
  BackHolds g f began = HoldsNext s n began (undone s g (done_of f)) (extended changes (put_changes n g (Err f)))

  pub quiet_holds : (g : Option FinishedBody) (f : TierFault) (began : Bool) → done_of f ≡ nothing_done → BackHolds g f began
  quiet_holds (Some b) f began d = rw d (idle began)
  quiet_holds None f began d = idle began

  alone_holds : (b : FinishedBody) (f : TierFault) (began : Bool) → done_of f ≡ stored_alone → BackHolds (Some b) f began
  alone_holds b f began d = rw d (keeps-cleared (shards_of s) (writes_after n began) s.shelf.bodies s.shelf.flying s.managed changes (idle began) b.entry)

  cut_holds : (b : FinishedBody) (f : TierFault) (es : List CacheEntryKey) (began may : Bool) → done_of f ≡ all_done es → GoInTurn (shards_of s) true es (admitted s b)
      → BeginsWrite s may (has_stored (Err f)) began → BackHolds (Some b) f began
  cut_holds b f es began may d h x =
      subst (λ (v : Bool). BackHolds (Some b) f v) (sym (begun-told s may (has_stored (Err f)) began x (ap (λ (done : Done). done.stored) d)))
      (rw (d, extended-append changes (stores n b es) (clears b.entry))
      (keeps-back (shards_of s) n s.shelf.bodies s.shelf.flying s.managed changes l (n + 1) n b s.shelf.flying (extended changes (stores n b [])) (put_stored b)
      (put_changes_key (shards_of s) n s.shelf.bodies s.shelf.flying s.managed changes l b) true es h))

  pub put_fault_holds : (g : Option FinishedBody) (w : Option PutVerdict) (f : TierFault) (began may : Bool) → IsPutFault s g w f
      → BeginsWrite s may (cond (is_some g) (has_stored (Err f)) (is_begun (Err f))) began → BackHolds g f began
  put_fault_holds (Some b) w f began may p x = elim p [
    | inl spent ↦ quiet_holds (Some b) f began (ap done_of spent.0)
    | inr late ↦ elim late [
      | inl out ↦ alone_holds b f began (kept_out-done s (alone b.entry) (weight_for b.body) stored_alone f out)
      | inr cut ↦ cut_holds b f cut.0 began may (ap done_of cut.1) cut.3 x
    ]
  ]
  put_fault_holds None w f began may p x = idle began

  -- ---- a finish

  module _ (w : Write Kept) (e : Entry) (flies : IsInFlight w changes) (of_key : w.key ≡ stored_key e) (of_entry : w.meta.entry ≡ alone e) where
    under : w.key ≡ stored_key (key_of w.meta.entry)
    under = of_key ∙ ap (λ (x : CacheEntryKey). stored_key (key_of x)) (sym of_entry)

    abbrev the_body : FinishedBody
    the_body = finished_of changes w

    abbrev without_flight : List InFlight
    without_flight = filter (λ f. not (has_number w.number f)) s.shelf.flying

    pub finish_stored : IsAlive w changes → Leaves (shards_of s) n (with_body w.number the_body s.shelf.bodies) without_flight (admitted s the_body) (extended changes (finishes w ∷ settles the_body []))
    finish_stored alive = leaves-finished (shards_of s) n w s.shelf.bodies s.shelf.flying s.managed changes flies alive under l.leaves

    abbrev landed_state : Bool → FinMap nat_cmp Request → State
    landed_state v rs = record s { shelf = landed v w.number s.shelf; requests = rs }

    pub finish_holds : (v : Bool) (rs : FinMap nat_cmp Request) (a : Answer) (began : Bool) → IsAlive w changes → IsStored s the_body a
        → HoldsNext s n began (after_put (landed_state v rs) (Some w.number) (Some the_body) a) (extended changes (finish_changes (Some w) (Ok a) changes))
    finish_holds v rs (Finished m es) began alive p =
        later (keeps-room (shards_of s) n s.shelf.bodies s.shelf.flying s.managed changes l n w.number the_body without_flight (extended changes (finishes w ∷ settles the_body [])) (finish_stored alive) es p.2)
      where
        later : HoldsNext s n false (after_put (landed_state v rs) (Some w.number) (Some the_body) (Finished m es)) (extended changes (finishes w ∷ settles the_body es))
            → HoldsNext s n began (after_put (landed_state v rs) (Some w.number) (Some the_body) (Finished m es)) (extended changes (finishes w ∷ settles the_body es))
        later k = keeps-later (shards_of s) n (after_put (landed_state v rs) (Some w.number) (Some the_body) (Finished m es)).shelf.bodies (after_put (landed_state v rs) (Some w.number) (Some the_body) (Finished m es)).shelf.flying
            (after_put (landed_state v rs) (Some w.number) (Some the_body) (Finished m es)).managed (extended changes (finishes w ∷ settles the_body es)) k (writes_after n began) (no-fewer n began)
    finish_holds v rs _ began alive p = absurd p

    -- it was removed
    pub gone_holds : (began v : Bool) (rs : FinMap nat_cmp Request) → HoldsNext s n began (landed_state v rs) (extended changes (finish_changes (Some w) (Err WriteRemoved) changes))
    gone_holds began v rs = keeps-left (shards_of s) (writes_after n began) s.shelf.bodies s.shelf.flying s.managed changes (idle began) w flies

    -- it was stored, and is taken back
    back_changes : (f : TierFault) → (done_of f).stored ≡ true → finish_changes (Some w) (Err f) changes ≡ finishes w ∷ settles_back the_body (done_of f)
    back_changes WriteRemoved e = absurd cc
    back_changes f e = ap (λ v. cond v (finishes w ∷ settles_back the_body (done_of f)) []) e

    withdrawn_holds : (f : TierFault) (began v : Bool) (rs : FinMap nat_cmp Request) → IsAlive w changes → done_of f ≡ stored_alone
        → HoldsNext s n began (undone (landed_state v rs) (Some the_body) (done_of f)) (extended changes (finish_changes (Some w) (Err f) changes))
    withdrawn_holds f began v rs alive d =
        rw (back_changes f (ap (λ (x : Done). x.stored) d), d) (keeps-withdrawn (shards_of s) (writes_after n began) s.shelf.bodies s.shelf.flying s.managed changes (idle began) w flies alive (key_of w.meta.entry) under)

    cut_back_holds : (f : TierFault) (es : List CacheEntryKey) (began v : Bool) (rs : FinMap nat_cmp Request) → IsAlive w changes → done_of f ≡ all_done es
        → GoInTurn (shards_of s) true es (admitted s the_body)
        → HoldsNext s n began (undone (landed_state v rs) (Some the_body) (done_of f)) (extended changes (finish_changes (Some w) (Err f) changes))
    cut_back_holds f es began v rs alive d h =
        rw (back_changes f (ap (λ (x : Done). x.stored) d), d, extended-append (finishes w ∷ changes) (settles the_body es) (clears the_body.entry))
        (keeps-later (shards_of s) n (undone (landed_state v rs) (Some the_body) (all_done es)).shelf.bodies (undone (landed_state v rs) (Some the_body) (all_done es)).shelf.flying
        (undone (landed_state v rs) (Some the_body) (all_done es)).managed (extended (extended changes (finishes w ∷ settles the_body es)) (clears the_body.entry))
        (keeps-back (shards_of s) n s.shelf.bodies s.shelf.flying s.managed changes l n w.number the_body without_flight (extended changes (finishes w ∷ settles the_body [])) (finish_stored alive)
        (finish_changes_key (shards_of s) n s.shelf.bodies s.shelf.flying s.managed changes l w (key_of w.meta.entry) under the_body) true es h) (writes_after n began) (no-fewer n began))

    pub back_holds : (f : TierFault) (began v : Bool) (rs : FinMap nat_cmp Request) → IsAlive w changes → IsStoreFault s the_body f
        → HoldsNext s n began (undone (landed_state v rs) (Some the_body) (done_of f)) (extended changes (finish_changes (Some w) (Err f) changes))
    back_holds f began v rs alive late = elim late [
      | inl out ↦ withdrawn_holds f began v rs alive (kept_out-done s (alone the_body.entry) (weight_for the_body.body) stored_alone f out)
      | inr cut ↦ cut_back_holds f cut.0 began v rs alive (ap done_of cut.1) cut.3
    ]

-- a store fault had stored a body
pub fault-stored : (s : State) (b : FinishedBody) (f : TierFault) → IsStoreFault s b f → (done_of f).stored ≡ true
fault-stored s b f late = elim late [
  | inl out ↦ ap (λ (x : Done). x.stored) (kept_out-done s (alone b.entry) (weight_for b.body) stored_alone f out)
  | inr cut ↦ ap (λ (x : TierFault). (done_of x).stored) cut.1
]

pub landing-stored : (f : TierFault) → (done_of f).stored ≡ true → is_landing (Err f) ≡ true
landing-stored WriteRemoved e = refl
landing-stored f e = e

-- what a check of a finish refuses ends no flight
pub finish_check : (o : Option Request) (c : TierFault) → unless_open o (λ q. unless (is_some q.write) WrongPhase) ≡ Some c → is_landing (Err c) ≡ false
finish_check None c e = let same : NoRequest ≡ c = cc in ap (λ (x : TierFault). is_landing (Err x)) (sym same)
finish_check (Some q) c e = by_test (is_some q.write) e
  where
    by_test : (v : Bool) → unless v WrongPhase ≡ Some c → is_landing (Err c) ≡ false
    by_test true e = absurd cc
    by_test false e = let same : WrongPhase ≡ c = cc in ap (λ (x : TierFault). is_landing (Err x)) (sym same)
