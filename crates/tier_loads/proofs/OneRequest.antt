-- What is held after one request.
use Rattle.std.proofs.Common.{◌≡◌, ℕ, Bool, true, false, List, ◌∷◌, Option, Some, None, refl, ap, sym, ◌∙◌, subst, inl, inr}
use Rattle.std.specs.Prelude.{is_some, MatchOption}
use Rattle.cache_entries.specs.declared.entry.CacheEntryKey.{CacheEntryKey}
use Rattle.cache_entries.specs.declared.rows.Tracked.{Tracked}
use Rattle.cache_entries.specs.Rows.{without_row, admitted, used}
use Rattle.cache_changes.specs.Changes.{stored_key}
use Rattle.cache_evict.specs.Managed.{Managed, put_first, use_first, taken_out}
use Rattle.curve_loads.specs.Steps.{Step, has_row, held}
use Rattle.curve_loads.specs.Steps as steps
use Rattle.curve_loads.proofs.Present.{weighed-held, held-stay}
use Rattle.curve_loads.proofs.Twice.{held-twice}
use Rattle.tier_loads.specs.Calls.{IsOne}
use Rattle.tier_loads.proofs.OneShard.{changed, weight_of-held}
use Rattle.tier_model.specs.declared.state.Body.{Body}
use Rattle.tier_model.specs.Keys.{Entry, alone}
use Rattle.tier_model.specs.Rows.{Bodies, FinishedBody, body_of, with_body, without_body, without_bodies, weight_for}
use Rattle.tier_model.specs.Evictions.{all_gone, GoInTurn}
use Rattle.tier_loads.specs.Holds.{AreApart, Agrees, HoldsAfter}
use Rattle.tier_loads.specs.Requests.{PlainRequest, asks, purges, entry_of, step_of, Stores, Uses, ServesRequest}
use Rattle.tier_loads.specs.Uniform.{IsWeighed}
use Rattle.tier_loads.proofs.Distinct.{without-absent, distinct-put, distinct-held}
use Rattle.tier_loads.proofs.Agreeing.{agrees-put, agrees-use, agrees-remove}
use Rattle.tier_loads.proofs.Turns.{turns-kept}

module _ (in_use : Entry → Bool) (apart : AreApart in_use) (weight : CacheEntryKey → ℕ) (limit : ℕ) (watermark : Option ℕ) where
  abbrev list : List Step → List Tracked
  list before = held weight limit watermark before

  -- what is found is tracked
  pub found-row : (before : List Step) (m : Managed) (bodies : Bodies) (k : Entry) (found : Body) → HoldsAfter in_use weight limit watermark before m bodies → in_use k ≡ true
      → body_of (stored_key k) bodies ≡ Some found → has_row (alone k) (list before) ≡ true
  found-row before m bodies k found h u b = sym (h.agrees.both k u) ∙ ap (λ (o : Option Body). is_some o) b

  pub missed-row : (before : List Step) (m : Managed) (bodies : Bodies) (k : Entry) → HoldsAfter in_use weight limit watermark before m bodies → in_use k ≡ true
      → body_of (stored_key k) bodies ≡ None → has_row (alone k) (list before) ≡ false
  missed-row before m bodies k h u b = sym (h.agrees.both k u) ∙ ap (λ (o : Option Body). is_some o) b

  pub holds-found : (before : List Step) (m : Managed) (bodies : Bodies) (k : Entry) (found : Body) → HoldsAfter in_use weight limit watermark before m bodies → in_use k ≡ true
      → body_of (stored_key k) bodies ≡ Some found → HoldsAfter in_use weight limit watermark (steps.asks (alone k) ∷ before) (use_first 1 (alone k) (weight_for found) m) bodies
  holds-found before m bodies k found h u b =
      let e : CacheEntryKey = alone k in
      let w : ℕ = weight_for found in
      let there : has_row e (list before) ≡ true = found-row before m bodies k found h u b in
      let stays : list (steps.asks e ∷ before) ≡ steps.put_first weight e (list before) = held-stay weight limit watermark e before there in
      let weighs = weight_of-held weight e (list before) w (weighed-held weight limit watermark before) there in
      let same : used e w (list before) ≡ list (steps.asks e ∷ before) = ap (λ (v : ℕ). admitted e v (list before)) weighs ∙ sym stays in
      record {
        one = subst (λ (l : List Tracked). IsOne limit watermark l (use_first 1 e w m)) same (changed limit watermark (used e w) e (list before) m h.one);
        agrees = subst (λ (l : List Tracked). Agrees in_use l bodies) (sym stays) (agrees-use in_use apart weight k (list before) bodies u there h.agrees);
      }

  pub holds-put : (before : List Step) (m : Managed) (bodies : Bodies) (n : ℕ) (b : FinishedBody) (es : List CacheEntryKey) → HoldsAfter in_use weight limit watermark before m bodies → in_use b.entry ≡ true
      → weight_for b.body ≡ weight (alone b.entry) → GoInTurn 1 false es (put_first 1 (alone b.entry) (weight_for b.body) m)
      → HoldsAfter in_use weight limit watermark (steps.asks (alone b.entry) ∷ before) (all_gone 1 es (put_first 1 (alone b.entry) (weight_for b.body) m)) (without_bodies es (with_body n b bodies))
  holds-put before m bodies n b es h u w g =
      let e : CacheEntryKey = alone b.entry in
      let new : Managed = put_first 1 e (weight_for b.body) m in
      let put : IsOne limit watermark (admitted e (weight_for b.body) (list before)) new = changed limit watermark (admitted e (weight_for b.body)) e (list before) m h.one in
      let first : IsOne limit watermark (steps.put_first weight e (list before)) new = subst (λ (v : ℕ). IsOne limit watermark (admitted e v (list before)) new) w put in
      let left = turns-kept in_use apart limit watermark es (steps.put_first weight e (list before)) new (with_body n b bodies) first (distinct-put weight e (list before) (distinct-held weight limit watermark before))
      (agrees-put in_use apart weight n b (list before) bodies u h.agrees) g in
      record { one = left.0; agrees = left.1 }

  pub holds-purged : (before : List Step) (m : Managed) (bodies : Bodies) (k : Entry) → HoldsAfter in_use weight limit watermark before m bodies → in_use k ≡ true
      → HoldsAfter in_use weight limit watermark (steps.removes (alone k) ∷ before) (taken_out 1 (alone k) m) (without_body (stored_key k) bodies)
  holds-purged before m bodies k h u = record {
    one = changed limit watermark (without_row (alone k)) (alone k) (list before) m h.one;
    agrees = agrees-remove in_use apart k (list before) bodies u h.agrees;
  }

  pub holds-missed : (before : List Step) (m : Managed) (bodies : Bodies) (k : Entry) → HoldsAfter in_use weight limit watermark before m bodies → in_use k ≡ true
      → body_of (stored_key k) bodies ≡ None → HoldsAfter in_use weight limit watermark (steps.removes (alone k) ∷ before) m bodies
  holds-missed before m bodies k h u b =
      let same : list before ≡ list (steps.removes (alone k) ∷ before) = sym (without-absent (alone k) (list before) (missed-row before m bodies k h u b)) in
      record { one = subst (λ (l : List Tracked). IsOne limit watermark l m) same h.one; agrees = subst (λ (l : List Tracked). Agrees in_use l bodies) same h.agrees }

  -- ---- a request

  stored : (before : List Step) (b : FinishedBody) (es : List CacheEntryKey) (m new : Managed) (bodies after : Bodies) → HoldsAfter in_use weight limit watermark before m bodies → in_use b.entry ≡ true
      → weight_for b.body ≡ weight (alone b.entry) → Stores b es m bodies new after → HoldsAfter in_use weight limit watermark (steps.asks (alone b.entry) ∷ before) new after
  stored before b es m new bodies after h u w s =
      let left = holds-put before m bodies s.2.0 b es h u w s.0 in
      subst (λ (x : Managed). HoldsAfter in_use weight limit watermark (steps.asks (alone b.entry) ∷ before) x after) (sym s.1)
      (subst (λ (x : Bodies). HoldsAfter in_use weight limit watermark (steps.asks (alone b.entry) ∷ before) (all_gone 1 es (put_first 1 (alone b.entry) (weight_for b.body) m)) x) (sym s.2.1) left)

  -- two asks of one entry at once are one
  once : (before : List Step) (e : CacheEntryKey) (m : Managed) (bodies : Bodies) → HoldsAfter in_use weight limit watermark (steps.asks e ∷ steps.asks e ∷ before) m bodies
      → HoldsAfter in_use weight limit watermark (steps.asks e ∷ before) m bodies
  once before e m bodies h =
      let same = held-twice weight limit watermark e before in
      record { one = subst (λ (l : List Tracked). IsOne limit watermark l m) same h.one; agrees = subst (λ (l : List Tracked). Agrees in_use l bodies) same h.agrees }

  found-used : (before : List Step) (b : FinishedBody) (found : Body) (m new : Managed) (bodies after : Bodies) → HoldsAfter in_use weight limit watermark before m bodies → in_use b.entry ≡ true
      → weight_for b.body ≡ weight (alone b.entry) → body_of (stored_key b.entry) bodies ≡ Some found → Uses b found m bodies new after
      → HoldsAfter in_use weight limit watermark (steps.asks (alone b.entry) ∷ before) new after
  found-used before b found m new bodies after h u w f d =
      let k : Entry = b.entry in
      let mid : Managed = use_first 1 (alone k) (weight_for found) m in
      let used' = holds-found before m bodies k found h u f in
      elim d [
        | inl fresh ↦
            subst (λ (x : Managed). HoldsAfter in_use weight limit watermark (steps.asks (alone k) ∷ before) x after) (sym fresh.0)
            (subst (λ (x : Bodies). HoldsAfter in_use weight limit watermark (steps.asks (alone k) ∷ before) mid x) (sym fresh.1) used')
        | inr stale ↦ once before (alone k) new after (stored (steps.asks (alone k) ∷ before) b stale.0 mid new bodies after used' u w stale.1)
      ]

  pub holds-request : (r : PlainRequest) (before : List Step) (m new : Managed) (bodies after : Bodies) → HoldsAfter in_use weight limit watermark before m bodies → in_use (entry_of r) ≡ true → IsWeighed weight r
      → ServesRequest r m bodies new after → HoldsAfter in_use weight limit watermark (step_of r ∷ before) new after
  holds-request (asks b) before m new bodies after h u w d = by_body (body_of (stored_key b.entry) bodies) refl d
    where
      by_body : (o : Option Body) → body_of (stored_key b.entry) bodies ≡ o
          → MatchOption o ((es : List CacheEntryKey) × Stores b es m bodies new after) (λ found. Uses b found m bodies new after) → HoldsAfter in_use weight limit watermark (steps.asks (alone b.entry) ∷ before) new after
      by_body None i d = stored before b d.0 m new bodies after h u w d.1
      by_body (Some found) i d = found-used before b found m new bodies after h u w i d
  holds-request (purges k) before m new bodies after h u w d = by_body (body_of (stored_key k) bodies) refl d
    where
      by_body : (o : Option Body) → body_of (stored_key k) bodies ≡ o
          → MatchOption o ((new ≡ m) × (after ≡ bodies)) (λ found. (new ≡ taken_out 1 (alone k) m) × (after ≡ without_body (stored_key k) bodies))
          → HoldsAfter in_use weight limit watermark (steps.removes (alone k) ∷ before) new after
      by_body None i d =
          subst (λ (x : Managed). HoldsAfter in_use weight limit watermark (steps.removes (alone k) ∷ before) x after) (sym d.0)
          (subst (λ (x : Bodies). HoldsAfter in_use weight limit watermark (steps.removes (alone k) ∷ before) m x) (sym d.1) (holds-missed before m bodies k h u i))
      by_body (Some found) i d =
          subst (λ (x : Managed). HoldsAfter in_use weight limit watermark (steps.removes (alone k) ∷ before) x after) (sym d.0)
          (subst (λ (x : Bodies). HoldsAfter in_use weight limit watermark (steps.removes (alone k) ∷ before) (taken_out 1 (alone k) m) x) (sym d.1) (holds-purged before m bodies k h u))
