-- Texts of shards, one after another.
use Rattle.std.proofs.Common.{◌≡◌, ◌<◌, ℕ, ◌+◌, List, [], ◌∷◌, ◌++◌, length, inl, inr, subst, sym, ◌∙◌, arith}
use Rattle.std.specs.Prelude.{slice_index_or}
use Rattle.std.proofs.lemmas.Bool.{cases_eq}
use Rattle.std.proofs.lemmas.List.{get_or_push, get_or_append_left}
use Rattle.cache_entries.specs.declared.rows.Tracked.{Tracked}
use Rattle.cache_evict.specs.Managed.{rows_at}
use Rattle.cache_evict.specs.Stored.{IsText}

-- the texts of the first n shards, and the next one
pub texts-more : (shards : List (List Tracked)) (texts : List (List ℕ)) (n : ℕ) (text : List ℕ) → length texts ≡ n
    → ((i : ℕ) → i < n → IsText (rows_at shards i) (slice_index_or texts i [])) → IsText (rows_at shards n) text
    → (i : ℕ) → i < n + 1 → IsText (rows_at shards i) (slice_index_or (texts ++ text ∷ []) i [])
texts-more shards texts n text long before next i within = elim (cases_eq n i) [
  | inl is ↦ subst (λ (k : ℕ). IsText (rows_at shards k) (slice_index_or (texts ++ text ∷ []) k [])) is
      (subst (IsText (rows_at shards n)) (sym (get_or_push texts text [] n long)) next)
  | inr other ↦ (let below : i < n = omega (arith, within, other) in
      subst (IsText (rows_at shards i)) (sym (get_or_append_left texts (text ∷ []) [] i (omega (arith, below, long)))) (before i below))
]
