-- What finishes, removals and other metas do to the bodies that are kept.
use Rattle.std.proofs.Common.{◌≡◌, refl, ap, sym, ◌∙◌, true, false, cond, nat_eq}
use Rattle.std.specs.Prelude.{Bool, List, Option, Some, None, option_map, is_some, not, find, filter}
use Rattle.std.specs.Map.{lookup}
use Rattle.std.specs.Cmp.Lexicographic.{pointwise}
use Rattle.cache_heads.specs.declared.meta.CacheMeta.{CacheMeta}
use Rattle.cache_entries.specs.Keys.{same_bytes}
use Rattle.cache_entries.specs.SameEntry.{same_bytes-tells}
use Rattle.cache_changes.specs.Changes.{StoredKey, is_key}
use Rattle.cache_changes.specs.Store.{is_of, with_body}
use Rattle.store_memory.specs.declared.flight.Body.{Body}
use Rattle.store_memory.specs.Kept.{body_of, bodies_of}
use Rattle.cache_store.specs.Renewals.{stored_with}
use Rattle.store_memory.specs.Renewals.{body_with}
use Rattle.cache_store.proofs.BodyLaws.{body-put, body-removed}
use Rattle.store_memory.proofs.FirstLaws.{body-found}

-- the same of what is kept
put_option : (k key : StoredKey) (b : Body) (v : Bool) (o : Option Body) → same_bytes key k ≡ v
    → option_map (λ x. body_of (k, x)) (cond v (Some b) o) ≡ cond v (Some (body_of (key, b))) (option_map (λ x. body_of (k, x)) o)
put_option k key b true o e = ap (λ (i : StoredKey). Some (body_of (i, b))) (sym (same_bytes-tells.equal key k e))
put_option k key b false o e = refl

pub kept-put : (old new : List (StoredKey × Body)) (key : StoredKey) (b : Body) → ((k : StoredKey) → lookup (pointwise nat_eq k) new ≡ cond (pointwise nat_eq key k) (Some b) (lookup (pointwise nat_eq k) old))
    → (k : StoredKey) → find (is_of k) (bodies_of new) ≡ find (is_of k) (with_body (Some (body_of (key, b))) (bodies_of old))
kept-put old new key b h k =
    body-found k new ∙ ap (option_map (λ x. body_of (k, x))) (h k) ∙ put_option k key b (same_bytes key k) (lookup (pointwise nat_eq k) old) refl
    ∙ ap (cond (same_bytes key k) (Some (body_of (key, b)))) (sym (body-found k old)) ∙ sym (body-put (body_of (key, b)) (bodies_of old) k)

none_option : (k : StoredKey) (v : Bool) (o : Option Body) → option_map (λ x. body_of (k, x)) (cond v None o) ≡ cond v None (option_map (λ x. body_of (k, x)) o)
none_option k true o = refl
none_option k false o = refl

pub kept-removed : (old new : List (StoredKey × Body)) (key : StoredKey) → ((k : StoredKey) → lookup (pointwise nat_eq k) new ≡ cond (pointwise nat_eq key k) None (lookup (pointwise nat_eq k) old))
    → (k : StoredKey) → find (is_of k) (bodies_of new) ≡ find (is_of k) (filter (λ x. not (is_key x.write.key (Some key))) (bodies_of old))
kept-removed old new key h k =
    body-found k new ∙ ap (option_map (λ x. body_of (k, x))) (h k) ∙ none_option k (same_bytes key k) (lookup (pointwise nat_eq k) old)
    ∙ ap (cond (same_bytes key k) None) (sym (body-found k old)) ∙ sym (body-removed key (bodies_of old) k)

-- a body's meta changes
pub has-body : (k : StoredKey) (es : List (StoredKey × Body)) → is_some (lookup (pointwise nat_eq k) es) ≡ is_some (find (is_of k) (bodies_of es))
has-body k es = by_option (lookup (pointwise nat_eq k) es) ∙ sym (ap is_some (body-found k es))
  where
    by_option : (o : Option Body) → is_some o ≡ is_some (option_map (λ b. body_of (k, b)) o)
    by_option None = refl
    by_option (Some b) = refl

changed-option : (k : StoredKey) (change : CacheMeta → CacheMeta) (o : Option Body) → option_map (λ b. body_of (k, b)) (option_map (body_with change) o) ≡ option_map (stored_with change) (option_map (λ b. body_of (k, b)) o)
changed-option k change None = refl
changed-option k change (Some b) = refl

pub kept-renewed : (key : StoredKey) (change : CacheMeta → CacheMeta) (old new : List (StoredKey × Body))
    → ((k : StoredKey) → lookup (pointwise nat_eq k) new ≡ cond (pointwise nat_eq key k) (option_map (body_with change) (lookup (pointwise nat_eq key) old)) (lookup (pointwise nat_eq k) old))
    → (k : StoredKey) → find (is_of k) (bodies_of new) ≡ cond (same_bytes key k) (option_map (stored_with change) (find (is_of key) (bodies_of old))) (find (is_of k) (bodies_of old))
kept-renewed key change old new h k = body-found k new ∙ ap (option_map (λ b. body_of (k, b))) (h k) ∙ by_test (same_bytes key k) refl
  where
    by_test : (v : Bool) → same_bytes key k ≡ v → option_map (λ b. body_of (k, b)) (cond v (option_map (body_with change) (lookup (pointwise nat_eq key) old)) (lookup (pointwise nat_eq k) old))
        ≡ cond v (option_map (stored_with change) (find (is_of key) (bodies_of old))) (find (is_of k) (bodies_of old))
    by_test true e =
        ap (λ (j : StoredKey). option_map (λ b. body_of (j, b)) (option_map (body_with change) (lookup (pointwise nat_eq key) old))) (sym (same_bytes-tells.equal key k e))
        ∙ changed-option key change (lookup (pointwise nat_eq key) old) ∙ ap (option_map (stored_with change)) (sym (body-found key old))
    by_test false e = sym (body-found k old)
