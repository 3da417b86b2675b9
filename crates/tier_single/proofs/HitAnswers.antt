-- What a hit answers, by what its key shows.
use Rattle.std.proofs.Common.{◌≡◌, ℕ, ◌+◌, refl, ap, sym, ◌∙◌, Bool, true, false, subst, cond, inl, inr, Some, None, Option, [], ◌∷◌}
use Rattle.std.specs.Prelude.{Ok, Err, Result, option_map, IfOk}
use Rattle.std.specs.FinMap.{get}
use Rattle.rand_core.specs.Stream.{Stream}
use Rattle.cache_words.specs.Time.{MomentValue, DurationValue}
use Rattle.cache_words.specs.Key.{CacheKeyValue}
use Rattle.cache_entries.specs.declared.entry.CacheEntryKey.{CacheEntryKey}
use Rattle.cache_evict.specs.declared.fault.EvictFault.{EvictFault}
use Rattle.cache_evict.specs.declared.fault.EvictFault.TheVariants as evict
use Rattle.cache_evict.specs.Faults.{IsPutRefused}
use Rattle.cache_evict.specs.Managed.{Managed, Fits, IsSharded, use_first}
use Rattle.tier_model.specs.declared.event.Action.TheVariants.{Open, LookUp, Read, Drop}
use Rattle.tier_model.specs.declared.event.Answer.TheVariants.{Opened, Found, Bytes, Dropped}
use Rattle.tier_model.specs.declared.event.LockGiven.TheVariants as given
use Rattle.tier_model.specs.declared.event.TierFault.{TierFault}
use Rattle.tier_model.specs.declared.state.Body.{Body}
use Rattle.tier_model.specs.Calls.{History, nothing_done}
use Rattle.tier_model.specs.Histories.{Opening}
use Rattle.tier_model.specs.Past.{HasPast}
use Rattle.tier_model.specs.Keys.{alone, entry_of, stored_key_of}
use Rattle.tier_model.specs.Rows.{Numbered, size_of}
use Rattle.tier_model.specs.Shelf.{Look, look, absent, in_flight, finished}
use Rattle.tier_model.specs.State.{State}
use Rattle.tier_model.specs.Answers.{is_fresh, used}
use Rattle.tier_model.specs.After.{counted}
use Rattle.tier_promise.specs.Promise.{Whether}
use Rattle.tier_promise.proofs.Hits.{hit-past}
use Rattle.tier_promise.proofs.NowPromise.{Promise-lawful}
use Rattle.tier_requests.specs.Faults.{fault_for}
use Rattle.tier_requests.specs.Looks.{UseRefused}
use Rattle.tier_single.specs.declared.found.Hit.{Hit}
use Rattle.tier_single.specs.Hits.{is_of_open, at_moment, body_in, weighed_hit, weighed_body, hit_at, IsHitOf, OneHit, HitTakes, HitAnswer, UseIsRefused, UsesEntry, handed, found_by_hit}
use Rattle.tier_single.specs.Takes.{Takes}
use Rattle.tier_single.proofs.KeptState.{IsKept}
use Rattle.tier_single.proofs.LookLaws.{least_one, used_same}
use Rattle.tier_single.proofs.HitLaws.{q, opened, to, put-there, hit-takes, hit-kept, refused-takes, memory-takes, free-number}

-- a body that is whole and fresh is what was found
pub hit-found : (t : MomentValue) (l : Look) (b : Body) → hit_at t l ≡ Some b → (x : Numbered) × (l ≡ finished x) × (is_fresh t x.body.meta ≡ true) × (x.body ≡ b)
hit-found t absent b e = absurd cc
hit-found t (in_flight f) b e = absurd cc
hit-found t (finished x) b e = by_test (is_fresh t x.body.meta) refl e
  where
    by_test : (v : Bool) → is_fresh t x.body.meta ≡ v → cond v (Some x.body) None ≡ Some b → (y : Numbered) × (finished x ≡ finished y) × (is_fresh t y.body.meta ≡ true) × (y.body ≡ b)
    by_test true f e = (x, refl, f, cc)
    by_test false f e = absurd cc

-- what was used is what is handed out
pub used-hit : (n : ℕ) (weighed : ℕ → ℕ) (e : CacheEntryKey) (b : Option Body) (h : Hit) (weight : ℕ) (m : Managed) (o : Result (Unit {0}) TierFault) (m' : Managed)
    → Some (weighed_hit (h, weight)) ≡ option_map weighed_body b → UsesEntry n weighed e weight m o m' → HitAnswer n weighed e b m (handed h o) m'
used-hit n weighed e None h weight m o m' is u = absurd cc
used-hit n weighed e (Some x) h weight m o m' is u =
    let pair : weighed_hit (h, weight) ≡ weighed_body x = cc in
    by_result o (ap (λ (p : Body × ℕ). p.0) pair) (ap (λ (p : Body × ℕ). p.1) pair) u
  where
    by_result : (o : Result (Unit {0}) TierFault) → body_in h ≡ x → weight ≡ size_of x → UsesEntry n weighed e weight m o m' → HitAnswer n weighed e (Some x) m (handed h o) m'
    by_result (Ok v) same heavy u = (ap (λ (b : Body). Some b) (sym same), u ∙ ap (λ (w : ℕ). use_first n e (weighed w) m) (heavy ∙ ap size_of (sym same)))
    by_result (Err f) same heavy u =
        (u.0, inr (x, refl, (u.1, (u.2.0, subst (λ (w : ℕ). IsPutRefused n e (weighed w) m u.2.0) heavy u.2.1, u.2.2))))

module _ (s : State) (t : MomentValue) (key : CacheKeyValue) (n : ℕ) (k : IsSharded n s.managed) where
  abbrev e : CacheEntryKey
  e = alone (entry_of key)

  abbrev l : Look
  l = look (stored_key_of key) s.shelf

  -- with that order of use, and the count
  abbrev pub hit_to : Managed → Result (Option Hit) TierFault → State
  hit_to m o = record s { managed = m; found = found_by_hit o s.found }

  abbrev Answers : Result (Option Hit) TierFault → Managed → Type 0
  Answers o m = HitAnswer n least_one e (hit_at t l) s.managed o m

  unchanged : (m : Managed) → m ≡ s.managed → record s { managed = m } ≡ s
  unchanged m same = ap (λ (x : Managed). record s { managed = x }) same

  -- the body that is handed out, in the order of use
  sized : (x : Numbered) (h : Hit) (m : Managed) → x.body ≡ body_in h → m ≡ use_first n e (least_one (size_of (body_in h))) s.managed → m ≡ use_first n e (least_one (size_of x.body)) s.managed
  sized x h m same is = is ∙ ap (λ (b : Body). use_first n e (least_one (size_of b)) s.managed) (sym same)

  module _ (id : ℕ) (none : get s.requests id ≡ None) where
    reached : (x : Numbered) (h : Hit) (m : Managed) → x.body ≡ body_in h → m ≡ use_first n e (least_one (size_of (body_in h))) s.managed → hit_to m (Ok (Some h)) ≡ record s { managed = used s e x.body; found = counted s.found 1 }
    reached x h m same is =
        ap (λ (y : Managed). record s { managed = y; found = counted s.found 1 })
        (sized x h m same is ∙ used_same (opened s t id key none) t id (q s t id key none) (put-there s.requests id (q s t id key none)) refl n k (finished x))

    refusal : (f : TierFault) (x : Body) (y : Numbered) → y.body ≡ x → UseIsRefused n least_one e x s.managed f → UseRefused n least_one (q s t id key none) (finished y) s.managed f
    refusal f x y same u = (u.0, (u.1.0, subst (λ (b : Body). IsPutRefused n e (least_one (size_of b)) s.managed u.1.0) (sym same) u.1.1, u.1.2))

    late : (f : TierFault) (y : Numbered) → l ≡ finished y → UseRefused n least_one (q s t id key none) (finished y) s.managed f → (w : Stream) → is_of_open f ≡ false → HitTakes s w t id key (Err f) s
    late f y is u w e =
        subst (λ (v : Bool). Whether v (Takes s w (at_moment t (Open id key false) ∷ []) (Err f ∷ []) s w)
        (Takes s w (at_moment t (Open id key false) ∷ at_moment t (LookUp id) ∷ at_moment t (Drop id) ∷ []) (Ok Opened ∷ Err f ∷ Ok Dropped ∷ []) s w)) (sym e) (refused-takes s t id key none n k y is f u w)

    -- memory that the use of an entry has not is told as that of the opening
    by_cause : (f : TierFault) (y : Numbered) → l ≡ finished y → UseRefused n least_one (q s t id key none) (finished y) s.managed f → (cause : EvictFault) (weight : ℕ) → IsPutRefused n e weight s.managed cause → f ≡ fault_for cause nothing_done
        → (w : Stream) → HitTakes s w t id key (Err f) s
    by_cause f y is u (evict.Memory v) weight refused told w = subst (λ (g : TierFault). HitTakes s w t id key (Err g) s) (sym told) (memory-takes s t id key none w)
    by_cause f y is u (evict.Weight v) weight refused told w = late f y is u w (ap is_of_open told)
    by_cause f y is u (evict.Length v) weight refused told w = late f y is u w (ap is_of_open told)
    by_cause f y is u (evict.NumbersSpent v) weight refused told w = late f y is u w (ap is_of_open told)
    by_cause f y is u (evict.File v) weight refused told w = absurd refused

    pub takes-hit : (o : Result (Option Hit) TierFault) (m : Managed) → Fits n m → Answers o m → (w : Stream) → HitTakes s w t id key o (hit_to m o)
    takes-hit (Ok (Some h)) m fits p w =
        let there = hit-found t l (body_in h) p.0 in
        let x = there.0 in
        let all = hit-takes s t id key none n k x there.1 there.2 (subst (λ (y : Managed). Fits n y) (sized x h m there.3 p.1) fits) w in
        subst (λ (y : State). HitTakes s w t id key (Ok (Some h)) y) (sym (reached x h m there.3 p.1))
        (subst (λ (b : Body). Takes s w (at_moment t (Open id key false) ∷ at_moment t (LookUp id) ∷ at_moment t (Read id) ∷ at_moment t (Drop id) ∷ [])
        (Ok Opened ∷ Ok (Found true true given.None) ∷ Ok (Bytes b.bytes) ∷ Ok Dropped ∷ []) (to s t id key none n k x there.1) w) there.3 all)
    takes-hit (Ok None) m fits p w = unchanged m p.1
    takes-hit (Err f) m fits p w = subst (λ (y : State). HitTakes s w t id key (Err f) y) (sym (unchanged m p.0)) (elim p.1 [
      | inl memory ↦ subst (λ (g : TierFault). HitTakes s w t id key (Err g) s) (sym memory) (memory-takes s t id key none w)
      | inr kept_out ↦
          let there = hit-found t l kept_out.0 kept_out.1 in
          let unused = refusal f kept_out.0 there.0 there.3 kept_out.2 in
          by_cause f there.0 there.1 unused kept_out.2.1.0 (least_one (size_of kept_out.0)) kept_out.2.1.1 kept_out.2.1.2 w
    ])

    kept-by : (o : Result (Option Hit) TierFault) (m : Managed) → Fits n m → Answers o m → (mark : Option ℕ) (age : DurationValue) → IsKept n mark age s → IsKept n mark age (hit_to m o)
    kept-by (Ok (Some h)) m fits p mark age kept =
        let there = hit-found t l (body_in h) p.0 in
        let x = there.0 in
        subst (λ (y : State). IsKept n mark age y) (sym (reached x h m there.3 p.1))
        (hit-kept s t id key none n k x there.1 there.2 (subst (λ (y : Managed). Fits n y) (sized x h m there.3 p.1) fits) mark age kept)
    kept-by (Ok None) m fits p mark age kept = subst (λ (y : State). IsKept n mark age y) (sym (unchanged m p.1)) kept
    kept-by (Err f) m fits p mark age kept = subst (λ (y : State). IsKept n mark age y) (sym (unchanged m p.0)) kept

  -- what is so of each state stays so
  pub kept-hit : (o : Result (Option Hit) TierFault) (m : Managed) → Fits n m → Answers o m → (mark : Option ℕ) (age : DurationValue) → IsKept n mark age s → IsKept n mark age (hit_to m o)
  kept-hit o m fits p mark age kept = let free = free-number s.requests in kept-by free.0 free.1 o m fits p mark age kept

  -- what is handed out is what each past shows
  pub is-hit : (o : Result (Option Hit) TierFault) (m : Managed) → Answers o m → IfOk o (λ (r : Option Hit). IsHitOf s t (stored_key_of key) (option_map body_in r))
  is-hit (Ok (Some h)) m p = λ start past had. sym p.0 ∙ hit-past start s past had t (stored_key_of key)
  is-hit (Ok None) m p = λ start past had. sym p.0 ∙ hit-past start s past had t (stored_key_of key)
  is-hit (Err f) m p = tt

  -- and by one of them
  pub one-hit : (o : Result (Option Hit) TierFault) (m : Managed) → Answers o m → (start : Opening) (past : History) → HasPast start s past → IfOk o (λ (r : Option Hit). OneHit t (stored_key_of key) (option_map body_in r))
  one-hit o m p start past had = by_result o (is-hit o m p)
    where
      by_result : (o : Result (Option Hit) TierFault) → IfOk o (λ (r : Option Hit). IsHitOf s t (stored_key_of key) (option_map body_in r)) → IfOk o (λ (r : Option Hit). OneHit t (stored_key_of key) (option_map body_in r))
      by_result (Ok r) is = record {
        settings = start.settings;
        used = start.first + start.first_core;
        loaded = start.loaded;
        before = past;
        promise = Promise-lawful start past had.lawful;
        hit = is start past had;
      }
      by_result (Err f) is = tt
