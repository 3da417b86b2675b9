-- Evictions in turn: the rows that are kept, and their bodies.
use Rattle.std.proofs.Common.{◌≡◌, ℕ, Bool, true, false, List, [], ◌∷◌, ◌++◌, Option, ap, sym, ◌∙◌, subst}
use Rattle.cache_entries.specs.declared.entry.CacheEntryKey.{CacheEntryKey}
use Rattle.cache_entries.specs.declared.rows.Tracked.{Tracked}
use Rattle.cache_entries.specs.Rows.{without_row, AreDistinct, is_over}
use Rattle.cache_changes.specs.Changes.{key_alone}
use Rattle.cache_evict.specs.Managed.{Managed, rows_at, rows_of, shard_of, taken_out, IsLast}
use Rattle.curve_loads.specs.Steps.{kept}
use Rattle.curve_loads.proofs.Kept.{kept-all, kept-push}
use Rattle.tier_loads.specs.Calls.{IsOne}
use Rattle.tier_loads.proofs.OneShard.{one-over, changed}
use Rattle.lru_core.proofs.Fronts.{modulo_one}
use Rattle.tier_model.specs.Keys.{Entry}
use Rattle.tier_model.specs.Rows.{Bodies, without_bodies, without_key}
use Rattle.tier_model.specs.Evictions.{gone, all_gone, GoInTurn}
use Rattle.tier_loads.specs.Holds.{AreApart, Agrees}
use Rattle.tier_loads.proofs.Distinct.{without-last, distinct-front}
use Rattle.tier_loads.proofs.Agreeing.{agrees-evict}

rows-one : (limit : ℕ) (watermark : Option ℕ) (e : CacheEntryKey) (rows : List Tracked) (m : Managed) → IsOne limit watermark rows m → rows_of 1 e m ≡ rows
rows-one limit watermark e rows m o = let first : shard_of 1 e ≡ 0 = modulo_one _ in λ i. rows_at (o.shards i) (first i)

module _ (in_use : Entry → Bool) (apart : AreApart in_use) (limit : ℕ) (watermark : Option ℕ) where
  -- one goes: the last
  gone-one : (e : CacheEntryKey) (rows : List Tracked) (m : Managed) → IsOne limit watermark rows m → AreDistinct rows → (l : IsLast (rows_of 1 e m) e)
      → (rows ≡ l.0 ++ record { entry = e; weight = l.1 } ∷ []) × IsOne limit watermark l.0 (gone 1 e m)
  gone-one e rows m o d l =
      let r : Tracked = record { entry = e; weight = l.1 } in
      let parts : rows ≡ l.0 ++ r ∷ [] = sym (rows-one limit watermark e rows m o) ∙ l.2 in
      let out : IsOne limit watermark (without_row e rows) (taken_out 1 e m) = changed limit watermark (without_row e) e rows m o in
      let left : without_row e rows ≡ l.0 = ap (without_row e) parts ∙ without-last l.0 r (subst AreDistinct parts d) in
      (parts, record { shards = out.shards ∙ ap (λ (x : List Tracked). x ∷ []) left; limit_is = out.limit_is; watermark_is = out.watermark_is })

  pub turns-kept : (es : List CacheEntryKey) (rows : List Tracked) (m : Managed) (bodies : Bodies) → IsOne limit watermark rows m → AreDistinct rows → Agrees in_use rows bodies → GoInTurn 1 false es m
      → IsOne limit watermark (kept limit watermark rows) (all_gone 1 es m) × Agrees in_use (kept limit watermark rows) (without_bodies es bodies)
  turns-kept [] rows m bodies o d a g =
      let all : rows ≡ kept limit watermark rows = sym (kept-all limit watermark rows (sym (one-over limit watermark rows m o) ∙ g)) in
      (subst (λ (l : List Tracked). IsOne limit watermark l m) all o, subst (λ (l : List Tracked). Agrees in_use l bodies) all a)
  turns-kept (e ∷ es) rows m bodies o d a g =
      let one = gone-one e rows m o d g.1 in
      let front : List Tracked = g.1.0 in
      let r : Tracked = record { entry = e; weight = g.1.1 } in
      let d' : AreDistinct (front ++ r ∷ []) = subst AreDistinct one.0 d in
      let a' : Agrees in_use (front ++ r ∷ []) bodies = subst (λ (l : List Tracked). Agrees in_use l bodies) one.0 a in
      let past : is_over limit watermark (front ++ r ∷ []) ≡ true = subst (λ (l : List Tracked). is_over limit watermark l ≡ true) one.0 (sym (one-over limit watermark rows m o) ∙ g.0) in
      let same : kept limit watermark front ≡ kept limit watermark rows = sym (ap (kept limit watermark) one.0 ∙ kept-push limit watermark r front past) in
      let more = turns-kept es front (gone 1 e m) (without_key (key_alone e) bodies) one.1 (distinct-front front r d') (agrees-evict in_use apart front r bodies d' a') g.2 in (
        subst (λ (l : List Tracked). IsOne limit watermark l (all_gone 1 es (gone 1 e m))) same more.0,
        subst (λ (l : List Tracked). Agrees in_use l (without_bodies es (without_key (key_alone e) bodies))) same more.1,
      )
