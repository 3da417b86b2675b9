-- What there is to read of a write.
use Rattle.std.proofs.Common.{◌≡◌, ℕ, refl, ap, sym, ◌∙◌, true, false, cond, [], ◌∷◌}
use Rattle.std.specs.Prelude.{◌==◌, ◌-◌, nat_lt, Bool, List, Option, Some, None, option_map, option_and_then, find}
use Rattle.std.specs.Map.{lookup}
use Rattle.std.specs.BTreeMap as tree
use Rattle.std.specs.BTreeMap.{BTreeMap, is_at}
use Rattle.std.specs.Ordering.{nat_cmp}
use Rattle.std.proofs.lemmas.Bool.{eqb-true}
use Rattle.cache_heads.specs.declared.meta.CacheMeta.{CacheMeta}
use Rattle.cache_changes.specs.Store.{Flying, has_number}
use Rattle.store_memory.specs.declared.flight.Flight.{Flight}
use Rattle.store_memory.specs.declared.flight.Readers.{Readers}
use Rattle.cache_store.specs.StoreState.{Reading}
use Rattle.cache_store.specs.Readers.{left_at, readable_of, reading_at, one_more, one_less}
use Rattle.store_memory.specs.Kept.{bytes_in, flights_of, reading_of, readings_of, counted, joined, parted}
use Rattle.store_memory.proofs.RowLaws.{at_is}
use Rattle.store_memory.proofs.SeenLaws.{Alive}
use Rattle.store_memory.proofs.FinishLaws.{seen-at, not-seen-at}

pub reading-found : (n : ℕ) (es : List (ℕ × Readers)) → find (λ (r : Reading). n == r.number) (readings_of es) ≡ option_map (λ v. reading_of (n, v)) (lookup (is_at (nat_cmp n)) es)
reading-found n [] = refl
reading-found n (e ∷ es) = rw (at_is n e.0) (by_test (n == e.0) refl (reading-found n es))
  where
    by_test : (t : Bool) → (n == e.0) ≡ t → find (λ (r : Reading). n == r.number) (readings_of es) ≡ option_map (λ v. reading_of (n, v)) (lookup (is_at (nat_cmp n)) es)
        → cond t (Some (reading_of e)) (find (λ (r : Reading). n == r.number) (readings_of es)) ≡ option_map (λ v. reading_of (n, v)) (cond t (Some e.1) (lookup (is_at (nat_cmp n)) es))
    by_test true t ih = ap (λ (m : ℕ). Some (reading_of (m, e.1))) (sym (eqb-true n e.0 t))
    by_test false t ih = ih

pub left-here : (n : ℕ) (v : Readers) (readers : BTreeMap ℕ Readers) → tree.get nat_cmp readers n ≡ Some v → left_at n (readings_of readers.entries) ≡ option_map bytes_in v.left
left-here n v readers e = ap (option_and_then (λ (r : Reading). r.left)) (reading-found n readers.entries ∙ ap (option_map (λ x. reading_of (n, x))) e)

pub left-nowhere : (n : ℕ) (readers : BTreeMap ℕ Readers) → tree.get nat_cmp readers n ≡ None → left_at n (readings_of readers.entries) ≡ None
left-nowhere n readers e = ap (option_and_then (λ (r : Reading). r.left)) (reading-found n readers.entries ∙ ap (option_map (λ x. reading_of (n, x))) e)

pub readable-flight : (alive : Alive) (n : ℕ) (f : Flight) (flights : BTreeMap ℕ Flight) (left : Option (List ℕ)) → tree.get nat_cmp flights n ≡ Some f
    → readable_of (find (has_number n) (flights_of alive flights.entries)) left ≡ Some (f.pieces, f.ended)
readable-flight alive n f flights left e = ap (λ (o : Option (Flying CacheMeta)). readable_of o left) (seen-at alive n f flights e)

pub readable-left : (alive : Alive) (n : ℕ) (flights : BTreeMap ℕ Flight) (left o : Option (List ℕ)) → tree.get nat_cmp flights n ≡ None → left ≡ o
    → readable_of (find (has_number n) (flights_of alive flights.entries)) left ≡ option_map (λ bytes. (bytes, true)) o
readable-left alive n flights left o e h = ap (λ (f : Option (Flying CacheMeta)). readable_of f left) (not-seen-at alive n flights e) ∙ ap (option_map (λ (bytes : List ℕ). (bytes, true))) h

-- one reader more, and one less
joined-one : (n : ℕ) (o : Option Readers) → reading_of (n, joined o) ≡ one_more n (option_map (λ r. reading_of (n, r)) o)
joined-one n None = refl
joined-one n (Some r) = refl

parted-one : (n : ℕ) (o : Option Readers) → option_map (λ r. reading_of (n, r)) (parted o) ≡ one_less (option_map (λ r. reading_of (n, r)) o)
parted-one n None = refl
parted-one n (Some r) = by_test (nat_lt 0 r.others)
  where
    by_test : (v : Bool) → option_map (λ x. reading_of (n, x)) (cond v (Some (counted (r.others - 1) r)) None) ≡ cond v (Some (record (reading_of (n, r)) { others = r.others - 1 })) None
    by_test true = refl
    by_test false = refl

pub reading-joined : (n : ℕ) (old new : BTreeMap ℕ Readers) → ((m : ℕ) → tree.get nat_cmp new m ≡ cond (n == m) (Some (joined (tree.get nat_cmp old n))) (tree.get nat_cmp old m))
    → (m : ℕ) → reading_at m (readings_of new.entries) ≡ cond (n == m) (Some (one_more n (reading_at n (readings_of old.entries)))) (reading_at m (readings_of old.entries))
reading-joined n old new h m =
    reading-found m new.entries ∙ ap (option_map (λ r. reading_of (m, r))) (h m) ∙ by_test (n == m) refl
  where
    by_test : (v : Bool) → (n == m) ≡ v → option_map (λ r. reading_of (m, r)) (cond v (Some (joined (tree.get nat_cmp old n))) (tree.get nat_cmp old m)) ≡ cond v (Some (one_more n (reading_at n (readings_of old.entries)))) (reading_at m (readings_of old.entries))
    by_test true e = ap (λ (i : ℕ). Some (reading_of (i, joined (tree.get nat_cmp old n)))) (sym (eqb-true n m e)) ∙ ap (λ (r : Reading). Some r) (joined-one n (tree.get nat_cmp old n)) ∙ ap (λ (o : Option Reading). Some (one_more n o)) (sym (reading-found n old.entries))
    by_test false e = sym (reading-found m old.entries)

pub reading-parted : (n : ℕ) (old new : BTreeMap ℕ Readers) → ((m : ℕ) → tree.get nat_cmp new m ≡ cond (n == m) (parted (tree.get nat_cmp old n)) (tree.get nat_cmp old m))
    → (m : ℕ) → reading_at m (readings_of new.entries) ≡ cond (n == m) (one_less (reading_at n (readings_of old.entries))) (reading_at m (readings_of old.entries))
reading-parted n old new h m =
    reading-found m new.entries ∙ ap (option_map (λ r. reading_of (m, r))) (h m) ∙ by_test (n == m) refl
  where
    by_test : (v : Bool) → (n == m) ≡ v → option_map (λ r. reading_of (m, r)) (cond v (parted (tree.get nat_cmp old n)) (tree.get nat_cmp old m)) ≡ cond v (one_less (reading_at n (readings_of old.entries))) (reading_at m (readings_of old.entries))
    by_test true e = ap (λ (i : ℕ). option_map (λ r. reading_of (i, r)) (parted (tree.get nat_cmp old n))) (sym (eqb-true n m e)) ∙ parted-one n (tree.get nat_cmp old n) ∙ ap one_less (sym (reading-found n old.entries))
    by_test false e = sym (reading-found m old.entries)
