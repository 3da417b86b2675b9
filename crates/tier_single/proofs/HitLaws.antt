-- A hit is taken as four calls of a request that is open for them alone, or as three where its look-up is refused.
use Rattle.std.proofs.Common.{◌≡◌, ℕ, ◌+◌, ◌≤◌, ◌==◌, refl, ap, sym, ◌∙◌, Bool, true, false, subst, cond, inl, inr, Some, None, Option, List, [], ◌∷◌, ◌++◌, arith}
use Rattle.std.specs.Prelude.{Ok, Err, is_some}
use Rattle.std.specs.FinMap.{FinMap, get, insert, remove, entries, get-entries, find, same_map, nat_cmp-IsAntisymmetric}
use Rattle.std.specs.Ordering.{nat_cmp, eq_by_cmp}
use Rattle.std.specs.Cmp.{unsigned_tied}
use Rattle.std.proofs.lemmas.Cmp.{nat_cmp_total}
use Rattle.std.proofs.lemmas.Bool.{eqb-true}
use Rattle.rand_core.specs.Stream.{Stream}
use Rattle.cache_words.specs.Time.{MomentValue, DurationValue}
use Rattle.cache_words.specs.Key.{CacheKeyValue}
use Rattle.cache_entries.specs.declared.entry.CacheEntryKey.{CacheEntryKey}
use Rattle.cache_evict.specs.Managed.{Fits, IsSharded, use_first}
use Rattle.cache_lock.specs.State.{after_all}
use Rattle.tier_model.specs.declared.event.Action.{Action}
use Rattle.tier_model.specs.declared.event.Action.TheVariants.{Open, LookUp, Read, Drop}
use Rattle.tier_model.specs.declared.event.Answer.TheVariants.{Opened, Found, Bytes, Dropped}
use Rattle.tier_model.specs.declared.event.LockGiven.TheVariants as given
use Rattle.tier_model.specs.declared.event.Event.{Event}
use Rattle.tier_model.specs.declared.event.TierFault.{TierFault}
use Rattle.tier_model.specs.declared.event.TierFault.TheVariants.{IdInUse}
use Rattle.tier_model.specs.Calls.{Outcome}
use Rattle.tier_model.specs.Keys.{alone, entry_of, stored_key_of}
use Rattle.tier_model.specs.Rows.{Numbered, size_of}
use Rattle.tier_model.specs.Shelf.{Look, look, finished}
use Rattle.tier_model.specs.State.{Request, State, spent}
use Rattle.tier_model.specs.Answers.{is_fresh, lock_given, look_answer, used}
use Rattle.tier_model.specs.Step.{UseFits}
use Rattle.tier_model.specs.After.{opened_request, looked, after_look, given_changes, counted}
use Rattle.tier_model.proofs.CallLaws.{at-insert, at-remove, itself}
use Rattle.tier_requests.specs.Faults.{out_of_memory}
use Rattle.tier_requests.specs.Looks.{UseRefused}
use Rattle.tier_single.specs.Acts.{Took}
use Rattle.tier_single.specs.Hits.{at_moment}
use Rattle.tier_single.specs.Takes.{Takes}
use Rattle.tier_single.proofs.OpenLaws.{Took-open, Took-open-memory, Took-open-used, Took-drop}
use Rattle.tier_single.proofs.LookLaws.{least_one, Took-looked, Took-look-fault, use_fits, why_of}
use Rattle.tier_single.proofs.ReadLaws.{answered_read}
use Rattle.tier_single.proofs.RunLaws.{IsDrawless, Steps-took, Takes-step, Takes-more}
use Rattle.tier_single.proofs.KeptState.{IsKept, kept-took}

-- ---- a request that is open for a while

abbrev pub Table : Type 0
Table = FinMap nat_cmp Request

-- another request stays
other : (m : Table) (id j : ℕ) (q : Request) → (id == j) ≡ false → get (insert m id q) j ≡ get m j
other m id j q e = at-insert m id q j ∙ ap (λ (v : Bool). cond v (Some q) (get m j)) e

-- one that was put in, and taken out again
pub taken-back : (m : Table) (id : ℕ) (q : Request) → get m id ≡ None → remove (insert m id q) id ≡ m
taken-back m id q none = same_map nat_cmp_total nat_cmp-IsAntisymmetric (remove (insert m id q) id) m (λ j. at-remove (insert m id q) id j ∙ by_id j (id == j) refl)
  where
    by_id : (j : ℕ) (t : Bool) → (id == j) ≡ t → cond t None (get (insert m id q) j) ≡ get m j
    by_id j true e = sym (subst (λ (x : ℕ). get m x ≡ None) (eqb-true id j e) none)
    by_id j false e = other m id j q e

-- the last that is put in stays
pub put-twice : (m : Table) (id : ℕ) (p q : Request) → insert (insert m id p) id q ≡ insert m id q
put-twice m id p q = same_map nat_cmp_total nat_cmp-IsAntisymmetric (insert (insert m id p) id q) (insert m id q) (λ j. at-insert (insert m id p) id q j ∙ by_id j (id == j) refl ∙ sym (at-insert m id q j))
  where
    by_id : (j : ℕ) (t : Bool) → (id == j) ≡ t → cond t (Some q) (get (insert m id p) j) ≡ cond t (Some q) (get m j)
    by_id j true e = refl
    by_id j false e = other m id j p e

pub put-there : (m : Table) (id : ℕ) (q : Request) → get (insert m id q) id ≡ Some q
put-there m id q = at-insert m id q id ∙ ap (λ (v : Bool). cond v (Some q) (get m id)) (itself id)

module _ (s : State) (t : MomentValue) (id : ℕ) (key : CacheKeyValue) (none : get s.requests id ≡ None) where
  abbrev pub e : CacheEntryKey
  e = alone (entry_of key)

  abbrev pub q : Request
  q = opened_request s.wait (entry_of key) false

  abbrev pub opened : State
  opened = record s { requests = insert s.requests id q }

  here : get opened.requests id ≡ Some q
  here = put-there s.requests id q

  took-open : Took s t (Open id key false) (Ok Opened) opened
  took-open = Took-open s t id key false none

  opens : (w : Stream) → Takes s w (at_moment t (Open id key false) ∷ []) (Ok Opened ∷ []) opened w
  opens w = Takes-step s w _ _ opened w (Steps-took s w (at_moment t (Open id key false)) (Open id key false) (Ok Opened) opened refl tt took-open)

  -- one call more of them, which draws no word
  more : (w : Stream) (es : List Event) (os : List Outcome) (mid new : State) (action : Action) (o : Outcome) → IsDrawless action → Takes s w es os mid w → Took mid t action o new
      → Takes s w (es ++ at_moment t action ∷ []) (os ++ o ∷ []) new w
  more w es os mid new action o quiet before took =
      Takes-more s w es os mid w (at_moment t action) o new w before (Takes-step mid w (at_moment t action) o new w (Steps-took mid w (at_moment t action) action o new refl quiet took))

  -- ---- what is whole and fresh is handed out

  module _ (n : ℕ) (k : IsSharded n s.managed) (x : Numbered) (is : look (stored_key_of key) s.shelf ≡ finished x) where
    abbrev pub to : State
    to = record s { managed = used s e x.body; found = counted s.found 1 }

    abbrev q2 : Request
    q2 = looked t q (finished x) s.lock

    abbrev found : State
    found = record to { requests = insert opened.requests id q2 }

    abbrev q3 : Request
    q3 = record q2 { reader = spent }

    abbrev read : State
    read = record to { requests = insert found.requests id q3 }

    abbrev Looks : Look → Type 0
    Looks l = UseFits opened q l
        → Took opened t (LookUp id) (Ok (look_answer t (lock_given t q l s.lock) l)) (record (after_look opened t id q l) { lock = after_all (given_changes t q l s.lock) s.lock })

    looks : Looks (finished x)
    looks = subst Looks is (Took-looked opened t id q here refl)

    module _ (fresh : is_fresh t x.body.meta ≡ true) (fits : Fits n (use_first n e (least_one (size_of x.body)) s.managed)) where
      took-look : Took opened t (LookUp id) (Ok (Found true true given.None)) found
      took-look = subst (λ (v : Bool). Took opened t (LookUp id) (Ok (Found v true given.None)) found) fresh (looks (use_fits opened t id q here refl n k (finished x) fits))

      took-read : Took found t (Read id) (Ok (Bytes x.body.bytes)) read
      took-read = answered_read found t id q2 (put-there opened.requests id q2) refl

      gone : remove read.requests id ≡ s.requests
      gone =
          ap (λ (m : Table). remove m id) (put-twice opened.requests id q2 q3 ∙ put-twice s.requests id q q3) ∙ taken-back s.requests id q3 none

      took-drop : Took read t (Drop id) (Ok Dropped) to
      took-drop = subst (λ (m : Table). Took read t (Drop id) (Ok Dropped) (record to { requests = m })) gone (Took-drop read t id q3 (put-there found.requests id q3))

      pub hit-takes : (w : Stream)
          → Takes s w (at_moment t (Open id key false) ∷ at_moment t (LookUp id) ∷ at_moment t (Read id) ∷ at_moment t (Drop id) ∷ []) (Ok Opened ∷ Ok (Found true true given.None) ∷ Ok (Bytes x.body.bytes) ∷ Ok Dropped ∷ []) to w
      hit-takes w =
          let a = opens w in
          let b = more w _ _ opened found (LookUp id) (Ok (Found true true given.None)) tt a took-look in
          let c = more w _ _ found read (Read id) (Ok (Bytes x.body.bytes)) tt b took-read in
          more w _ _ read to (Drop id) (Ok Dropped) tt c took-drop

      -- what is so of each state stays so
      pub hit-kept : (mark : Option ℕ) (age : DurationValue) → IsKept n mark age s → IsKept n mark age to
      hit-kept mark age kept =
          let a = kept-took n mark age s t (Open id key false) (Ok Opened) opened kept took-open in
          let b = kept-took n mark age opened t (LookUp id) (Ok (Found true true given.None)) found a took-look in
          let c = kept-took n mark age found t (Read id) (Ok (Bytes x.body.bytes)) read b took-read in
          kept-took n mark age read t (Drop id) (Ok Dropped) to c took-drop

    -- ---- its entry is kept out

    module _ (f : TierFault) (unused : UseRefused n least_one q (finished x) s.managed f) where
      took-fault : Took opened t (LookUp id) (Err f) opened
      took-fault =
          let why = subst (λ (l : Look). UseRefused n least_one q l s.managed f) (sym is) unused in
          Took-look-fault opened t id q here refl f (why_of opened t id q here refl n k f (inr (inl why))) s.lock (record { asked = false; due = λ no. absurd cc; lock = refl })

      back : Took opened t (Drop id) (Ok Dropped) s
      back = subst (λ (m : Table). Took opened t (Drop id) (Ok Dropped) (record s { requests = m })) (taken-back s.requests id q none) (Took-drop opened t id q here)

      pub refused-takes : (w : Stream) → Takes s w (at_moment t (Open id key false) ∷ at_moment t (LookUp id) ∷ at_moment t (Drop id) ∷ []) (Ok Opened ∷ Err f ∷ Ok Dropped ∷ []) s w
      refused-takes w =
          let b = more w _ _ opened opened (LookUp id) (Err f) tt (opens w) took-fault in
          more w _ _ opened s (Drop id) (Ok Dropped) tt b back

  -- ---- there is no memory

  pub memory-takes : (w : Stream) → Takes s w (at_moment t (Open id key false) ∷ []) (Err out_of_memory ∷ []) s w
  memory-takes w =
      Takes-step s w _ _ s w (Steps-took s w (at_moment t (Open id key false)) (Open id key false) (Err out_of_memory) s refl tt (Took-open-memory s t id key false none))

-- a request of that number is open
pub in-use-takes : (s : State) (t : MomentValue) (id : ℕ) (key : CacheKeyValue) → is_some (get s.requests id) ≡ true → (w : Stream) → Takes s w (at_moment t (Open id key false) ∷ []) (Err IdInUse ∷ []) s w
in-use-takes s t id key used w =
    Takes-step s w _ _ s w (Steps-took s w (at_moment t (Open id key false)) (Open id key false) (Err IdInUse) s refl tt (Took-open-used s t id key false used))

-- ---- some number is free

apart-above : (n m : ℕ) → n + 1 ≤ m → eq_by_cmp nat_cmp m n ≡ false
apart-above n m above = unsigned_tied m n ∙ by_test (m == n) refl
  where
    by_test : (v : Bool) → (m == n) ≡ v → v ≡ false
    by_test true e = let same = eqb-true m n e in absurd (omega (arith, above, same))
    by_test false e = refl

above-all : (rows : List (ℕ × Request)) → (n : ℕ) × ((m : ℕ) → n ≤ m → find nat_cmp m rows ≡ None)
above-all [] = (0, λ m _. refl)
above-all (r ∷ rows) =
    let rest = above-all rows in (
      r.0 + 1 + rest.0,
      λ m above. ap (λ (v : Bool). cond v (Some r.1) (find nat_cmp m rows)) (apart-above r.0 m (omega (arith, above))) ∙ rest.1 m (omega (arith, above)),
    )

pub free-number : (m : Table) → (id : ℕ) × (get m id ≡ None)
free-number m = let free = above-all (entries m) in (free.0, get-entries m free.0 ∙ free.1 free.0 (omega arith))
