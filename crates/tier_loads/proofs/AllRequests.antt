-- What is held after all requests, and what the next one finds.
use Rattle.std.proofs.Common.{◌≡◌, ℕ, ◌≤◌, Bool, true, List, [], ◌∷◌, Option, refl, ap, sym, ◌∙◌, subst}
use Rattle.std.specs.Prelude.{◌↔◌, is_some, option_map}
use Rattle.std.specs.List.{AllByRecursion}
use Rattle.std.specs.Ordering.{nat_cmp}
use Rattle.std.specs.Cmp.Lexicographic.{slice_cmp}
use Rattle.std.specs.FinMap.{empty, get-empty}
use Rattle.cache_entries.specs.declared.entry.CacheEntryKey.{CacheEntryKey}
use Rattle.cache_changes.specs.Changes.{stored_key}
use Rattle.cache_evict.specs.Managed.{Managed, fresh, rows_at}
use Rattle.curve_loads.specs.Steps.{has_row, held}
use Rattle.curve_loads.specs.Loads.{Stays}
use Rattle.curve_loads.specs.Finds.{IsFront, IsAtMost}
use Rattle.curve_loads.proofs.Held.{held-stays}
use Rattle.curve_loads.proofs.Places.{places-of, test-of}
use Rattle.curve_loads.proofs.Fronts.{found-held}
use Rattle.tier_loads.proofs.InTurn.{front-two}
use Rattle.tier_model.specs.Keys.{Entry, alone}
use Rattle.tier_model.specs.Rows.{Numbered, Bodies, body_of}
use Rattle.tier_loads.specs.Holds.{AreApart, HoldsAfter}
use Rattle.tier_loads.specs.Requests.{PlainRequest, entry_of, steps_of, AreServed}
use Rattle.tier_loads.specs.Uniform.{IsWeighed, AreUniform}
use Rattle.tier_loads.proofs.OneRequest.{holds-request}

module _ (in_use : Entry → Bool) (weight : CacheEntryKey → ℕ) where
  holds-empty : (limit : ℕ) (watermark : Option ℕ) → HoldsAfter in_use weight limit watermark [] (fresh 1 limit watermark) empty
  holds-empty limit watermark = record { one = record { shards = refl; limit_is = refl; watermark_is = refl }; agrees = record { both = λ k u. ap (λ (o : Option Numbered). is_some (option_map (λ x. x.body) o)) (get-empty (slice_cmp nat_cmp) (stored_key k)); own = tt } }

  module _ (apart : AreApart in_use) (limit : ℕ) (watermark : Option ℕ) where
    all-held : (requests : List PlainRequest) (m : Managed) (bodies : Bodies) → AllByRecursion (λ r. in_use (entry_of r) ≡ true) requests → AllByRecursion (λ r. IsWeighed weight r) requests
        → AreServed limit watermark requests m bodies → HoldsAfter in_use weight limit watermark (steps_of requests) m bodies
    all-held [] m bodies u w l =
        subst (λ (x : Managed). HoldsAfter in_use weight limit watermark [] x bodies) (sym l.0)
        (subst (λ (x : Bodies). HoldsAfter in_use weight limit watermark [] (fresh 1 limit watermark) x) (sym l.1) (holds-empty limit watermark))
    all-held (r ∷ before) m bodies u w l = holds-request in_use apart weight limit watermark r (steps_of before) l.0 m l.1 bodies (all-held before l.0 l.1 u.1 w.1 l.2) u.0 w.0 l.3

  pub uniform-held : (limit : ℕ) (watermark : Option ℕ) (requests : List PlainRequest) (m : Managed) (bodies : Bodies) → AreUniform in_use weight requests → AreServed limit watermark requests m bodies
      → HoldsAfter in_use weight limit watermark (steps_of requests) m bodies
  uniform-held limit watermark requests m bodies u l = all-held u.apart limit watermark requests m bodies u.used u.weighed l

  before-held : (limit : ℕ) (watermark : Option ℕ) (r : PlainRequest) (before : List PlainRequest) (m : Managed) (bodies : Bodies) → AreUniform in_use weight (r ∷ before) → AreServed limit watermark before m bodies
      → HoldsAfter in_use weight limit watermark (steps_of before) m bodies
  before-held limit watermark r before m bodies u l = all-held u.apart limit watermark before m bodies u.used.1 u.weighed.1 l

  found-row : (limit : ℕ) (watermark : Option ℕ) (r : PlainRequest) (before : List PlainRequest) (m : Managed) (bodies : Bodies) → AreUniform in_use weight (r ∷ before) → AreServed limit watermark before m bodies
      → is_some (body_of (stored_key (entry_of r)) bodies) ≡ has_row (alone (entry_of r)) (held weight limit watermark (steps_of before))
  found-row limit watermark r before m bodies u l = (before-held limit watermark r before m bodies u l).agrees.both (entry_of r) u.used.0

  pub found-stays : (limit : ℕ) (watermark : Option ℕ) (r : PlainRequest) (before : List PlainRequest) (m : Managed) (bodies : Bodies) → AreUniform in_use weight (r ∷ before) → AreServed limit watermark before m bodies
      → (is_some (body_of (stored_key (entry_of r)) bodies) ≡ true) ↔ Stays weight limit watermark (alone (entry_of r)) (steps_of before)
  found-stays limit watermark r before m bodies u l =
      let e : CacheEntryKey = alone (entry_of r) in
      let same = found-row limit watermark r before m bodies u l ∙ held-stays weight limit watermark e (steps_of before) in
      (λ h. places-of weight limit watermark e (steps_of before) (sym same ∙ h), λ o. same ∙ test-of weight limit watermark e (steps_of before) o)

  module _ (limit limit' : ℕ) (watermark watermark' : Option ℕ) (l : limit ≤ limit') (a : IsAtMost watermark watermark') where
    pub found-greater : (r : PlainRequest) (before : List PlainRequest) (m m' : Managed) (bodies bodies' : Bodies) → AreUniform in_use weight (r ∷ before) → AreServed limit watermark before m bodies
        → AreServed limit' watermark' before m' bodies' → is_some (body_of (stored_key (entry_of r)) bodies) ≡ true → is_some (body_of (stored_key (entry_of r)) bodies') ≡ true
    found-greater r before m m' bodies bodies' u s s' h =
        found-row limit' watermark' r before m' bodies' u s'
        ∙ found-held limit limit' watermark watermark' l a weight (steps_of before) (alone (entry_of r)) (sym (found-row limit watermark r before m bodies u s) ∙ h)

    pub front-greater : (requests : List PlainRequest) (m m' : Managed) (bodies bodies' : Bodies) → AreUniform in_use weight requests → AreServed limit watermark requests m bodies
        → AreServed limit' watermark' requests m' bodies' → IsFront (rows_at m.shards 0) (rows_at m'.shards 0)
    front-greater requests m m' bodies bodies' u s s' =
        front-two weight limit limit' watermark watermark' l a (steps_of requests) m m' (uniform-held limit watermark requests m bodies u s).one (uniform-held limit' watermark' requests m' bodies' u s').one
