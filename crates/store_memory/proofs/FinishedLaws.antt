-- Lists of what is kept of finished bodies.
use Rattle.std.proofs.Common.{◌≡◌, refl, ap, sym, ◌∙◌, [], ◌∷◌, nat_eq, Bor}
use Rattle.std.specs.Option.{option_copied}
use Rattle.std.specs.Prelude.{◌+◌, List, Option, Some, None, length, map, option_map, find}
use Rattle.std.specs.Map.{lookup, keys_of, values_of}
use Rattle.std.specs.List.{sum_by}
use Rattle.std.specs.Cmp.Lexicographic.{pointwise}
use Rattle.std.proofs.lemmas.List.Folds.{fold-map}
use Rattle.cache_heads.specs.Meta.{meta_length}
use Rattle.cache_heads.specs.declared.meta.CacheMeta.{CacheMeta}
use Rattle.cache_changes.specs.Changes.{StoredKey}
use Rattle.cache_changes.specs.Store.{Stored, is_of}
use Rattle.store_memory.specs.declared.flight.Body.{Body}
use Rattle.store_memory.specs.Kept.{body_of, bodies_of}
use Rattle.store_memory.proofs.FirstLaws.{body-found}

-- what is lent of the body of a key
pub kept-lent : (k : StoredKey) (es : List (StoredKey × Body)) (o : Option (Bor Body)) → option_copied o ≡ lookup (pointwise nat_eq k) es → option_map (λ b. body_of (k, b.now)) o ≡ find (is_of k) (bodies_of es)
kept-lent k es None e = ap (option_map (λ b. body_of (k, b))) e ∙ sym (body-found k es)
kept-lent k es (Some b) e = ap (option_map (λ b. body_of (k, b))) e ∙ sym (body-found k es)

pub keys-kept : (es : List (StoredKey × Body)) → map (λ x. x.write.key) (bodies_of es) ≡ keys_of es
keys-kept [] = refl
keys-kept (e ∷ es) = ap (λ (ks : List StoredKey). e.0 ∷ ks) (keys-kept es)

pub bytes-kept : (es : List (StoredKey × Body)) → sum_by (λ b. length b.bytes) (values_of es) ≡ sum_by (λ x. length x.bytes) (bodies_of es)
bytes-kept es =
    fold-map (λ a (b : Body). a + length b.bytes) (λ (e : StoredKey × Body). e.1) 0 es
    ∙ sym (fold-map (λ a (x : Stored CacheMeta). a + length x.bytes) body_of 0 es)

pub metas-kept : (es : List (StoredKey × Body)) → sum_by (λ b. meta_length b.meta) (values_of es) ≡ sum_by (λ x. meta_length x.meta) (bodies_of es)
metas-kept es =
    fold-map (λ a (b : Body). a + meta_length b.meta) (λ (e : StoredKey × Body). e.1) 0 es
    ∙ sym (fold-map (λ a (x : Stored CacheMeta). a + meta_length x.meta) body_of 0 es)

pub outside-kept : (es : List (StoredKey × Body)) → sum_by (λ b. b.meta.external) (values_of es) ≡ sum_by (λ x. x.meta.external) (bodies_of es)
outside-kept es =
    fold-map (λ a (b : Body). a + b.meta.external) (λ (e : StoredKey × Body). e.1) 0 es
    ∙ sym (fold-map (λ a (x : Stored CacheMeta). a + x.meta.external) body_of 0 es)
