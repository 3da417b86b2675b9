-- Bodies that are stored whole.
use Rattle.std.proofs.Common.{◌≡◌, ℕ, refl, ap, ◌∙◌, cond, nat_eq}
use Rattle.std.specs.Prelude.{◌+◌, true, false, List, Some, find}
use Rattle.std.specs.Map.{lookup}
use Rattle.std.specs.Cmp.Lexicographic.{pointwise}
use Rattle.cache_heads.specs.declared.meta.CacheMeta.{CacheMeta}
use Rattle.head_metas.specs.Internal.{IsWritable}
use Rattle.cache_changes.specs.Changes.{StoredKey}
use Rattle.cache_changes.specs.Store.{Flying, is_of, with_body}
use Rattle.cache_store.specs.StoreState.{Reading, left_with}
use Rattle.cache_store.specs.Wholes.{Stores}
use Rattle.cache_store.proofs.BodyLaws.{agree-by}
use Rattle.store_memory.specs.declared.flight.Body.{Body}
use Rattle.store_memory.specs.Kept.{bodies_of}
use Rattle.store_memory.proofs.BodyLaws.{kept-put}
use Rattle.store_memory.proofs.HeldLaws.{held}

-- a body was put under the next number, and readers of that number, if there are any, are left with its bytes
pub stored-whole : (key : StoredKey) (b : Body) (olds news : List (StoredKey × Body)) (flying : List (Flying CacheMeta)) (next : ℕ) (rs after_rs : List Reading) → b.number ≡ next → IsWritable b.meta.internal
    → ((k : StoredKey) → lookup (pointwise nat_eq k) news ≡ cond (pointwise nat_eq key k) (Some b) (lookup (pointwise nat_eq k) olds)) → after_rs ≡ left_with b.number b.bytes true rs
    → Stores false key b.meta b.bytes (held (bodies_of olds) flying next rs) (held (bodies_of news) flying (b.number + 1) after_rs)
stored-whole key b olds news flying next rs after_rs e written put leaving = record {
  numbered = refl;
  written = written;
  store = agree-by _ _ (λ k. kept-put olds news key b put k ∙ ap (λ (n : ℕ). find (is_of k) (with_body (Some (record { write = record { number = n; key = key; meta = b.meta }; meta = b.meta; bytes = b.bytes })) (bodies_of olds))) e) refl;
  next = ap (λ (n : ℕ). n + 1) e;
  readings = leaving ∙ ap (λ (n : ℕ). left_with n b.bytes true rs) e;
}
