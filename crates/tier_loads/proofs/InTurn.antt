-- Calls in turn, of a manager of one shard.
use Rattle.std.proofs.Common.{◌≡◌, ℕ, ◌≤◌, List, [], ◌∷◌, ◌++◌, Option, None, Some, refl, ap, sym, ◌∙◌, subst, true}
use Rattle.std.specs.Prelude.{◌↔◌, is_some, option_map}
use Rattle.rand_core.specs.Stream.{Stream}
use Rattle.cache_entries.specs.declared.entry.CacheEntryKey.{CacheEntryKey}
use Rattle.cache_entries.specs.declared.rows.Tracked.{Tracked}
use Rattle.cache_entries.specs.Rows.{row_of, weight_of}
use Rattle.cache_evict.specs.Managed.{Managed, fresh, rows_at, rows_of, shard_of}
use Rattle.cache_evict.specs.Runs.{ManagerCall, Runs}
use Rattle.lru_core.proofs.Fronts.{modulo_one}
use Rattle.curve_loads.specs.Steps.{Step, has_row, held}
use Rattle.curve_loads.specs.Loads.{Stays}
use Rattle.curve_loads.specs.Finds.{IsFront, IsAtMost}
use Rattle.curve_loads.proofs.Held.{held-stays}
use Rattle.curve_loads.proofs.Fronts.{front-held, found-held}
use Rattle.curve_loads.proofs.Places.{places-of, test-of}
use Rattle.tier_loads.specs.Calls.{step_of, after_calls, AreUniform, AreOfHeld, IsOne, IsRun}
use Rattle.tier_loads.proofs.OneShard.{one_call}

module _ (pick : List (List Tracked) → Stream → ℕ × Stream) (first : (shards : List (List Tracked)) (s : Stream) → (pick shards s).0 ≡ 0)
    (weighed : ℕ → ℕ) (weight : CacheEntryKey → ℕ) (limit : ℕ) (watermark : Option ℕ) where
  calls_in_turn : (calls : List ManagerCall) (gone : List (List CacheEntryKey)) (old new : Managed) (s rest : Stream) (before : List Step) → AreUniform weight weighed calls
      → AreOfHeld weight limit watermark calls before → IsOne limit watermark (held weight limit watermark before) old → Runs pick 1 weighed old s calls gone new rest
      → IsOne limit watermark (held weight limit watermark (after_calls calls before)) new
  calls_in_turn [] [] old new s rest before u h o r = subst (λ (m : Managed). IsOne limit watermark (held weight limit watermark before) m) (sym r.0) o
  calls_in_turn [] (g ∷ gs) old new s rest before u h o r = absurd r
  calls_in_turn (c ∷ cs) [] old new s rest before u h o r = absurd r
  calls_in_turn (c ∷ cs) (g ∷ gs) old new s rest before u h o r =
      calls_in_turn cs gs r.0 new r.1 rest (step_of c ∷ before) u.1 h.1 (one_call limit watermark pick first weight weighed c old r.0 g s r.1 before u.0 h.0 o r.2) r.3

  pub run-one : (steps : List Step) (m : Managed) → IsRun pick weighed weight limit watermark steps m → IsOne limit watermark (held weight limit watermark steps) m
  run-one steps m r =
      subst (λ (l : List Step). IsOne limit watermark (held weight limit watermark l) m) (sym r.steps_are)
      (calls_in_turn r.calls r.gone (fresh 1 limit watermark) m r.draws r.rest [] r.uniform r.of_held (record { shards = refl; limit_is = refl; watermark_is = refl }) r.runs)

-- what a manager of one shard tracks
tracked-row : (e : CacheEntryKey) (rows : List Tracked) → is_some (weight_of e rows) ≡ has_row e rows
tracked-row e rows = by_row (row_of e rows)
  where
    by_row : (o : Option Tracked) → is_some (option_map (λ r. r.weight) o) ≡ is_some o
    by_row None = refl
    by_row (Some r) = refl

pub tracked-one : (limit : ℕ) (watermark : Option ℕ) (e : CacheEntryKey) (rows : List Tracked) (m : Managed) → IsOne limit watermark rows m → is_some (weight_of e (rows_of 1 e m)) ≡ has_row e rows
tracked-one limit watermark e rows m o =
    let first : shard_of 1 e ≡ 0 = modulo_one _ in
    (λ i. is_some (weight_of e (rows_at (o.shards i) (first i)))) ∙ tracked-row e rows

pub tracked-stays : (weight : CacheEntryKey → ℕ) (limit : ℕ) (watermark : Option ℕ) (e : CacheEntryKey) (steps : List Step) (m : Managed) → IsOne limit watermark (held weight limit watermark steps) m
    → (is_some (weight_of e (rows_of 1 e m)) ≡ true) ↔ Stays weight limit watermark e steps
tracked-stays weight limit watermark e steps m o =
    let same = tracked-one limit watermark e (held weight limit watermark steps) m o ∙ held-stays weight limit watermark e steps in (
      λ h. places-of weight limit watermark e steps (sym same ∙ h),
      λ p. same ∙ test-of weight limit watermark e steps p,
    )

-- two runs of the same steps, where each leaves what loads report
module _ (weight : CacheEntryKey → ℕ) (limit limit' : ℕ) (watermark watermark' : Option ℕ) (l : limit ≤ limit') (a : IsAtMost watermark watermark') (steps : List Step) (m m' : Managed)
    (o : IsOne limit watermark (held weight limit watermark steps) m) (o' : IsOne limit' watermark' (held weight limit' watermark' steps) m') where
  pub front-two : IsFront (rows_at m.shards 0) (rows_at m'.shards 0)
  front-two =
      let front = front-held limit limit' watermark watermark' l a weight steps in
      let less : rows_at m.shards 0 ≡ held weight limit watermark steps = ap (λ (s : List (List Tracked)). rows_at s 0) o.shards in
      let more : rows_at m'.shards 0 ≡ held weight limit' watermark' steps = ap (λ (s : List (List Tracked)). rows_at s 0) o'.shards in
      (front.0, more ∙ front.1 ∙ ap (λ (r : List Tracked). r ++ front.0) (sym less))

  pub tracked-two : (e : CacheEntryKey) → is_some (weight_of e (rows_of 1 e m)) ≡ true → is_some (weight_of e (rows_of 1 e m')) ≡ true
  tracked-two e h =
      tracked-one limit' watermark' e (held weight limit' watermark' steps) m' o'
      ∙ found-held limit limit' watermark watermark' l a weight steps e (sym (tracked-one limit watermark e (held weight limit watermark steps) m o) ∙ h)
