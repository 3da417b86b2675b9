-- Gets that found their key are counted as the finds of the steps.
use Rattle.std.proofs.Common.{◌≡◌, ℕ, ◌+◌, Bool, true, false, cond, ◌&&◌, List, [], ◌∷◌, Option, refl, ap, sym, ◌∙◌, subst, arith, length}
use Rattle.std.specs.Prelude.{◌↔◌}
use Rattle.std.proofs.lemmas.Bool.{false≢true}
use Rattle.cache_entries.specs.declared.entry.CacheEntryKey.{CacheEntryKey}
use Rattle.rand_core.specs.Stream.{Stream}
use Rattle.curve_loads.specs.Steps.{Step, asks, removes, has_row, held}
use Rattle.curve_loads.specs.Loads.{Stays}
use Rattle.curve_loads.specs.Finds.{finds}
use Rattle.tier_model.specs.State.{Settings, State}
use Rattle.tier_served.specs.declared.request.Request.{Request}
use Rattle.tier_served.specs.declared.request.Method.{Method}
use Rattle.tier_served.specs.declared.request.Method.TheVariants.{Get, Purge}
use Rattle.tier_served.specs.Requests.{entry_for, step_by, step_for}
use Rattle.tier_pairs.specs.declared.side_by_side.Pair.{Pair}
use Rattle.tier_pairs.specs.Two.{ServesBoth, AreFound, found_by}
use Rattle.curve_laws.specs.Served.{is_get, gets_found, steps_after}

-- each request was answered
pub as-many : (l g : State) (s : Stream) (requests : List Request) (pairs : List Pair) (l' g' : State) (rest : Stream) → ServesBoth l g s requests pairs l' g' rest → length pairs ≡ length requests
as-many l g s [] [] l' g' rest h = refl
as-many l g s [] (p ∷ pairs) l' g' rest h = absurd h
as-many l g s (r ∷ requests) [] l' g' rest h = absurd h
as-many l g s (r ∷ requests) (p ∷ pairs) l' g' rest (l1, g1, left, right, one, two, more) = let n = as-many l1 g1 right requests pairs l' g' rest more in omega (arith, n)

both-ways : (x y : Bool) → (x ≡ true → y ≡ true) → (y ≡ true → x ≡ true) → x ≡ y
both-ways true y f g = sym (f refl)
both-ways false true f g = absurd (false≢true (g refl))
both-ways false false f g = refl

module _ (weight : CacheEntryKey → ℕ) (limit : ℕ) (mark : Option ℕ) where
  -- one more step
  step-finds : (e : CacheEntryKey) (m : Method) (found : Bool) (before : List Step) → found ≡ has_row e (held weight limit mark before)
      → cond (is_get m && found) 1 0 + finds weight limit mark before ≡ finds weight limit mark (step_by e m ∷ before)
  step-finds e (Get response) found before q = ap (λ (b : Bool). cond b 1 0 + finds weight limit mark before) q
  step-finds e Purge found before q = omega arith

  pub all-found : (places : (e : CacheEntryKey) (before : List Step) → (has_row e (held weight limit mark before) ≡ true) ↔ Stays weight limit mark e before)
      → (a b : Settings) → a.limit ≡ limit → a.watermark ≡ mark → (before : List Step) (requests : List Request) (pairs : List Pair) → length pairs ≡ length requests → AreFound weight a b before requests pairs
      → gets_found requests pairs + finds weight limit mark before ≡ finds weight limit mark (steps_after before requests)
  all-found places a b p q before [] pairs n h = omega arith
  all-found places a b p q before (r ∷ requests) [] n h = absurd (omega (arith, n))
  all-found places a b p q before (r ∷ requests) (pair ∷ pairs) n h =
      let s : (found_by pair.lesser ≡ true) ↔ Stays weight limit mark (entry_for r) before
      = subst (λ (o : Option ℕ). (found_by pair.lesser ≡ true) ↔ Stays weight limit o (entry_for r) before) q
      (subst (λ (k : ℕ). (found_by pair.lesser ≡ true) ↔ Stays weight k a.watermark (entry_for r) before) p h.0) in
      let t = places (entry_for r) before in
      let found = both-ways (found_by pair.lesser) (has_row (entry_for r) (held weight limit mark before)) (λ x. t.1 (s.0 x)) (λ x. s.1 (t.0 x)) in
      let one = step-finds (entry_for r) r.method (found_by pair.lesser) before found in
      let m : length pairs ≡ length requests = omega (arith, n) in
      let more = all-found places a b p q (step_for r ∷ before) requests pairs m h.3 in
      omega (arith, one, more)
