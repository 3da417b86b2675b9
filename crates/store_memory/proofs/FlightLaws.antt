-- A write in flight that is changed through a borrow: the others are as before.
use Rattle.std.proofs.Common.{◌≡◌, ℕ, refl, ap, sym, ◌∙◌, true, false, cond, [], ◌∷◌, ◌++◌}
use Rattle.std.specs.Prelude.{Bool, List, Some, option_map}
use Rattle.std.specs.Map.{lookup, keys_of, set_value}
use Rattle.std.specs.BTreeMap as tree
use Rattle.std.specs.BTreeMap.{BTreeMap, is_at}
use Rattle.std.specs.Ordering.{nat_cmp}
use Rattle.std.proofs.lemmas.Map.{keys-set_value}
use Rattle.cache_heads.specs.declared.meta.CacheMeta.{CacheMeta}
use Rattle.cache_changes.specs.Changes.{StoredKey}
use Rattle.cache_changes.specs.Store.{Flying, has_number, on_flying, with_bytes, ended}
use Rattle.store_memory.specs.declared.flight.Flight.{Flight}
use Rattle.store_memory.specs.Kept.{seen, flights_of, written, ChangesAt}
use Rattle.store_memory.proofs.RowLaws.{ascends, seen-set}

key-set : (n : ℕ) (v w : Flight) → w.key ≡ v.key → (m : ℕ) (es : List (ℕ × Flight)) → lookup (is_at (nat_cmp n)) es ≡ Some v
    → option_map (λ f. f.key) (lookup (is_at (nat_cmp m)) (set_value (is_at (nat_cmp n)) es w)) ≡ option_map (λ f. f.key) (lookup (is_at (nat_cmp m)) es)
key-set n v w h m [] e = refl
key-set n v w h m (x ∷ xs) e = by_test (is_at (nat_cmp n) x.0) (is_at (nat_cmp m) x.0) refl e (key-set n v w h m xs)
  where
    by_test : (t u : Bool) → is_at (nat_cmp m) x.0 ≡ u → cond t (Some x.1) (lookup (is_at (nat_cmp n)) xs) ≡ Some v
        → (lookup (is_at (nat_cmp n)) xs ≡ Some v → option_map (λ f. f.key) (lookup (is_at (nat_cmp m)) (set_value (is_at (nat_cmp n)) xs w)) ≡ option_map (λ f. f.key) (lookup (is_at (nat_cmp m)) xs))
        → option_map (λ f. f.key) (lookup (is_at (nat_cmp m)) (cond t ((x.0, w) ∷ xs) (x ∷ set_value (is_at (nat_cmp n)) xs w))) ≡ option_map (λ f. f.key) (cond u (Some x.1) (lookup (is_at (nat_cmp m)) xs))
    by_test true true t e ih = rw t (let value : x.1 ≡ v = cc in ap (λ (k : StoredKey). Some k) (h ∙ ap (λ (f : Flight). f.key) (sym value)))
    by_test true false t e ih = rw t refl
    by_test false true t e ih = rw t refl
    by_test false false t e ih = rw t (ih e)

pub changes_at : (n : ℕ) (change : Flying CacheMeta → Flying CacheMeta) (old new : BTreeMap ℕ Flight) (v w : Flight) → tree.IsOrdered nat_cmp old → tree.get nat_cmp old n ≡ Some v
    → new.entries ≡ set_value (is_at (nat_cmp n)) old.entries w → w.key ≡ v.key → ((alive : StoredKey → ℕ → Bool) → seen alive (n, w) ≡ change (seen alive (n, v))) → ChangesAt n change old new
changes_at n change old new v w o e s k h = record {
  keys = ap (λ (es : List (ℕ × Flight)). keys_of es) s ∙ keys-set_value (is_at (nat_cmp n)) old.entries w;
  known = λ m. ap (λ (es : List (ℕ × Flight)). option_map (λ f. f.key) (lookup (is_at (nat_cmp m)) es)) s ∙ key-set n v w k m old.entries e;
  seen = λ alive. ap (flights_of alive) s ∙ seen-set (seen alive) n (has_number n) (λ x. refl) change v w (h alive) old.entries (ascends old.entries o) e;
}

-- the same write put back, and with more bytes
pub put_back : (n : ℕ) (old new : BTreeMap ℕ Flight) (v : Flight) → tree.IsOrdered nat_cmp old → tree.get nat_cmp old n ≡ Some v
    → new.entries ≡ set_value (is_at (nat_cmp n)) old.entries v → ChangesAt n (λ f. f) old new
put_back n old new v o e s = changes_at n (λ f. f) old new v v o e s refl (λ alive. refl)

pub appended : (n : ℕ) (more : List ℕ) (eof : Bool) (old new : BTreeMap ℕ Flight) (v : Flight) → tree.IsOrdered nat_cmp old → tree.get nat_cmp old n ≡ Some v → v.ended ≡ false
    → new.entries ≡ set_value (is_at (nat_cmp n)) old.entries (record v { pieces = v.pieces ++ more; ended = eof }) → ChangesAt n (written more eof) old new
appended n more true old new v o e t s = changes_at n (written more true) old new v (record v { pieces = v.pieces ++ more; ended = true }) o e s refl (λ alive. refl)
appended n more false old new v o e t s =
    changes_at n (written more false) old new v (record v { pieces = v.pieces ++ more; ended = false }) o e s refl (λ alive i. record (seen alive (n, v)) { stored = record (seen alive (n, v)).stored { bytes = v.pieces ++ more }; ended = sym t i })

-- nothing changed
same_list : (n : ℕ) (fs : List (Flying CacheMeta)) → on_flying n (λ f. f) fs ≡ fs
same_list n [] = refl
same_list n (f ∷ fs) = by_test (has_number n f) (same_list n fs)
  where
    by_test : (t : Bool) → on_flying n (λ g. g) fs ≡ fs → cond t f f ∷ on_flying n (λ g. g) fs ≡ f ∷ fs
    by_test true ih = ap (λ (l : List (Flying CacheMeta)). f ∷ l) ih
    by_test false ih = ap (λ (l : List (Flying CacheMeta)). f ∷ l) ih

pub changes_nothing : (n : ℕ) (old : BTreeMap ℕ Flight) → ChangesAt n (λ f. f) old old
changes_nothing n old = record { keys = refl; known = λ m. refl; seen = λ alive. sym (same_list n (flights_of alive old.entries)) }

pub seen-unchanged : (n : ℕ) (old new : BTreeMap ℕ Flight) → ChangesAt n (λ f. f) old new → (alive : StoredKey → ℕ → Bool) → flights_of alive new.entries ≡ flights_of alive old.entries
seen-unchanged n old new h alive = h.seen alive ∙ same_list n (flights_of alive old.entries)

-- bytes and then the end
written-list : (n : ℕ) (more : List ℕ) (fs : List (Flying CacheMeta)) → on_flying n (written more true) fs ≡ on_flying n ended (on_flying n (with_bytes more) fs)
written-list n more [] = refl
written-list n more (f ∷ fs) = by_test (has_number n f) refl (written-list n more fs)
  where
    by_test : (t : Bool) → has_number n f ≡ t → on_flying n (written more true) fs ≡ on_flying n ended (on_flying n (with_bytes more) fs)
        → cond t (written more true f) f ∷ on_flying n (written more true) fs
        ≡ cond (has_number n (cond t (with_bytes more f) f)) (ended (cond t (with_bytes more f) f)) (cond t (with_bytes more f) f) ∷ on_flying n ended (on_flying n (with_bytes more) fs)
    by_test true e ih = rw e (ap (λ (l : List (Flying CacheMeta)). written more true f ∷ l) ih)
    by_test false e ih = rw e (ap (λ (l : List (Flying CacheMeta)). f ∷ l) ih)

pub seen-written : (n : ℕ) (more : List ℕ) (fs : List (Flying CacheMeta)) → on_flying n (written more true) fs ≡ on_flying n ended (on_flying n (with_bytes more) fs)
seen-written n more fs = written-list n more fs
