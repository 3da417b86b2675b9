-- What one call does to the rows of one shard.
use Rattle.std.proofs.Common.{◌≡◌, ℕ, ◌+◌, ◌||◌, Bool, true, false, ltb, List, [], ◌∷◌, ◌++◌, length, set, get_or, Option, Some, None, refl, ap, sym, ◌∙◌, subst, arith}
use Rattle.std.specs.Prelude.{unwrap_or}
use Rattle.std.specs.List.{sum_by}
use Rattle.std.proofs.lemmas.Bool.{false≢true}
use Rattle.rand_core.specs.Stream.{Stream}
use Rattle.cache_entries.specs.declared.entry.CacheEntryKey.{CacheEntryKey}
use Rattle.cache_entries.specs.declared.rows.Tracked.{Tracked}
use Rattle.cache_entries.specs.Entry.{same_entry}
use Rattle.cache_entries.specs.Rows.{all_weights, weight_of, without_row, admitted, used, is_over}
use Rattle.cache_evict.specs.Managed.{Managed, rows_at, rows_of, with_rows, shard_of, put_first, use_first, taken_out, GoesLast, Evicts}
use Rattle.cache_evict.specs.Managed as managed
use Rattle.cache_evict.specs.Runs.{ManagerCall, Admit, Access, Remove, DoesManagerCall}
use Rattle.lru_core.specs.Cores as cores
use Rattle.lru_core.proofs.Fronts.{modulo_one}
use Rattle.curve_loads.specs.Steps.{Step, asks, removes, passes, has_row, kept, held}
use Rattle.curve_loads.specs.Steps as steps
use Rattle.curve_loads.specs.Loads.{AreWeighed}
use Rattle.curve_loads.proofs.Entries.{same-is}
use Rattle.curve_loads.proofs.Rows.{has-further}
use Rattle.curve_loads.proofs.Kept.{kept-all, kept-push}
use Rattle.curve_loads.proofs.Present.{weighed-held, held-stay}
use Rattle.tier_loads.specs.Calls.{step_of, IsUniform, IsOfHeld, IsOne}

-- ---- one shard

passes-same : (watermark : Option ℕ) (n : ℕ) → cores.passes watermark n ≡ passes watermark n
passes-same None n = refl
passes-same (Some mark) n = refl

from_zero : (n : ℕ) → 0 + n ≡ n
from_zero n = omega arith

-- what is held weighs what its entry weighs
pub weight_of-held : (weight : CacheEntryKey → ℕ) (e : CacheEntryKey) (rows : List Tracked) (w : ℕ) → AreWeighed weight rows → has_row e rows ≡ true → unwrap_or (weight_of e rows) w ≡ weight e
weight_of-held weight e [] w a h = absurd (false≢true h)
weight_of-held weight e (r ∷ rows) w a h = by_test (same_entry r.entry e) refl (weight_of-held weight e rows w a.1)
  where
    by_test : (t : Bool) → same_entry r.entry e ≡ t → (has_row e rows ≡ true → unwrap_or (weight_of e rows) w ≡ weight e) → unwrap_or (weight_of e (r ∷ rows)) w ≡ weight e
    by_test true t ih = rw t (a.0 ∙ ap weight (same-is r.entry e t))
    by_test false t ih = rw t (ih (sym (has-further e r rows t) ∙ h))

module _ (limit : ℕ) (watermark : Option ℕ) where
  -- the manager is over its limits where the rows are
  pub one-over : (rows : List Tracked) (m : Managed) → IsOne limit watermark rows m → managed.is_over m ≡ is_over limit watermark rows
  one-over rows m o =
      let size : sum_by all_weights m.shards ≡ all_weights rows = ap (sum_by all_weights) o.shards ∙ from_zero (all_weights rows) in
      let items : sum_by length m.shards ≡ length rows = ap (sum_by length) o.shards ∙ from_zero (length rows) in
      (λ i. ltb (o.limit_is i) (size i) || cores.passes (o.watermark_is i) (items i)) ∙ ap (λ (b : Bool). ltb limit (all_weights rows) || b) (passes-same watermark (length rows))

  -- a change of the rows of the shard
  pub changed : (f : List Tracked → List Tracked) (e : CacheEntryKey) (rows : List Tracked) (m : Managed) → IsOne limit watermark rows m → IsOne limit watermark (f rows) (with_rows 1 e (f (rows_of 1 e m)) m)
  changed f e rows m o =
      let first : shard_of 1 e ≡ 0 = modulo_one _ in
      record { shards = λ i. set (o.shards i) (first i) (f (get_or (o.shards i) (first i) [])); limit_is = o.limit_is; watermark_is = o.watermark_is }

  -- ---- evictions

  module _ (pick : List (List Tracked) → Stream → ℕ × Stream) (first : (shards : List (List Tracked)) (s : Stream) → (pick shards s).0 ≡ 0) where
    gone-front : (old new : Managed) (e : CacheEntryKey) (rows : List Tracked) → IsOne limit watermark rows old → (g : GoesLast old 0 e new) → (rows ≡ g.0 ++ record { entry = e; weight = g.1 } ∷ []) × IsOne limit watermark g.0 new
    gone-front old new e rows o g =
        let last : rows_at old.shards 0 ≡ rows = ap (λ (l : List (List Tracked)). rows_at l 0) o.shards in
        let left : new.shards ≡ set old.shards 0 g.0 = ap (λ (m : Managed). m.shards) g.3 in (
          sym last ∙ g.2,
          record {
            shards = left ∙ ap (λ (l : List (List Tracked)). set l 0 g.0) o.shards;
            limit_is = ap (λ (m : Managed). m.limit) g.3 ∙ o.limit_is;
            watermark_is = ap (λ (m : Managed). m.watermark) g.3 ∙ o.watermark_is;
          },
        )

    -- evictions while a limit is passed leave the rows that are kept
    evicted-kept : (old new : Managed) (es : List CacheEntryKey) (s rest : Stream) (rows : List Tracked) → IsOne limit watermark rows old → Evicts pick old es s new rest → managed.is_over new ≡ false
        → IsOne limit watermark (kept limit watermark rows) new
    evicted-kept old new [] s rest rows o g h =
        let within : is_over limit watermark rows ≡ false = sym (one-over rows old o) ∙ ap managed.is_over (sym g.0) ∙ h in
        subst (λ (m : Managed). IsOne limit watermark (kept limit watermark rows) m) (sym g.0) (subst (λ (l : List Tracked). IsOne limit watermark l old) (sym (kept-all limit watermark rows within)) o)
    evicted-kept old new (e ∷ es) s rest rows o g h =
        let last : GoesLast old 0 e g.0 = subst (λ (i : ℕ). GoesLast old i e g.0) (first old.shards s) g.2 in
        let left = gone-front old g.0 e rows o last in
        let row : Tracked = record { entry = e; weight = last.1 } in
        let past : is_over limit watermark (last.0 ++ row ∷ []) ≡ true = subst (λ (l : List Tracked). is_over limit watermark l ≡ true) left.0 (sym (one-over rows old o) ∙ g.1) in
        let same : kept limit watermark rows ≡ kept limit watermark last.0 = ap (kept limit watermark) left.0 ∙ kept-push limit watermark row last.0 past in
        let more = evicted-kept g.0 new es (pick old.shards s).1 rest last.0 left.1 g.3 h in
        subst (λ (l : List Tracked). IsOne limit watermark l new) (sym same) more

    -- ---- one call

    module _ (weight : CacheEntryKey → ℕ) (weighed : ℕ → ℕ) where
      pub one_call : (call : ManagerCall) (old new : Managed) (gone : List CacheEntryKey) (s rest : Stream) (before : List Step) → IsUniform weight weighed call → IsOfHeld weight limit watermark call before
          → IsOne limit watermark (held weight limit watermark before) old → DoesManagerCall pick 1 weighed old s call gone new rest
          → IsOne limit watermark (held weight limit watermark (step_of call ∷ before)) new
      one_call (Admit e size) old new gone s rest before u h o d =
          let rows : List Tracked = held weight limit watermark before in
          let put : IsOne limit watermark (admitted e (weighed size) rows) (put_first 1 e (weighed size) old) = changed (admitted e (weighed size)) e rows old o in
          let same : IsOne limit watermark (steps.put_first weight e rows) (put_first 1 e (weighed size) old) = subst (λ (w : ℕ). IsOne limit watermark (admitted e w rows) (put_first 1 e (weighed size) old)) u put in
          evicted-kept (put_first 1 e (weighed size) old) new gone s rest (steps.put_first weight e rows) same d.0 d.1
      one_call (Access e size) old new gone s rest before u h o d =
          let rows : List Tracked = held weight limit watermark before in
          let use' : IsOne limit watermark (used e (weighed size) rows) (use_first 1 e (weighed size) old) = changed (used e (weighed size)) e rows old o in
          let w : unwrap_or (weight_of e rows) (weighed size) ≡ weight e = weight_of-held weight e rows (weighed size) (weighed-held weight limit watermark before) h in
          let same : used e (weighed size) rows ≡ held weight limit watermark (asks e ∷ before) = ap (λ (v : ℕ). admitted e v rows) w ∙ sym (held-stay weight limit watermark e before h) in
          subst (λ (m : Managed). IsOne limit watermark (held weight limit watermark (asks e ∷ before)) m) (sym d.1) (subst (λ (l : List Tracked). IsOne limit watermark l (use_first 1 e (weighed size) old)) same use')
      one_call (Remove e) old new gone s rest before u h o d =
          let out : IsOne limit watermark (without_row e (held weight limit watermark before)) (taken_out 1 e old) = changed (without_row e) e (held weight limit watermark before) old o in
          subst (λ (m : Managed). IsOne limit watermark (without_row e (held weight limit watermark before)) m) (sym d.1) out
