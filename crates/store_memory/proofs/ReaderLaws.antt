-- Readers that are left with bytes.
use Rattle.std.proofs.Common.{◌≡◌, ℕ, refl, ap, sym, ◌∙◌, true, false, cond, [], ◌∷◌}
use Rattle.std.specs.Prelude.{◌==◌, Bool, List, Some, is_some}
use Rattle.std.specs.Map.{lookup, set_value}
use Rattle.std.specs.BTreeMap as tree
use Rattle.std.specs.BTreeMap.{BTreeMap, is_at}
use Rattle.std.specs.Ordering.{nat_cmp}
use Rattle.store_memory.specs.declared.flight.Buffer.{Buffer}
use Rattle.store_memory.specs.declared.flight.Readers.{Readers}
use Rattle.cache_store.specs.StoreState.{Reading, left_with}
use Rattle.store_memory.specs.Kept.{bytes_in, reading_of, readings_of}
use Rattle.store_memory.proofs.RowLaws.{ascends, at_is, seen-set}

pub left-set : (n : ℕ) (v : Readers) (b : Buffer) (whole : Bool) (old new : BTreeMap ℕ Readers) → tree.IsOrdered nat_cmp old → tree.get nat_cmp old n ≡ Some v
    → new.entries ≡ set_value (is_at (nat_cmp n)) old.entries (record v { left = Some b; whole = whole }) → readings_of new.entries ≡ left_with n (bytes_in b) whole (readings_of old.entries)
left-set n v b whole old new o e s =
    ap readings_of s ∙ seen-set reading_of n (λ r. n == r.number) (λ x. refl) (λ r. record r { left = Some (bytes_in b); whole = whole }) v (record v { left = Some b; whole = whole }) refl old.entries (ascends old.entries o) e

left-list : (n : ℕ) (bytes : List ℕ) (whole : Bool) (es : List (ℕ × Readers)) → is_some (lookup (is_at (nat_cmp n)) es) ≡ false → left_with n bytes whole (readings_of es) ≡ readings_of es
left-list n bytes whole [] h = refl
left-list n bytes whole (e ∷ es) h = by_test (n == e.0) (ap (λ (t : Bool). is_some (cond t (Some e.1) (lookup (is_at (nat_cmp n)) es))) (sym (at_is n e.0)) ∙ h) (left-list n bytes whole es)
  where
    by_test : (t : Bool) → is_some (cond t (Some e.1) (lookup (is_at (nat_cmp n)) es)) ≡ false → (is_some (lookup (is_at (nat_cmp n)) es) ≡ false → left_with n bytes whole (readings_of es) ≡ readings_of es)
        → cond t (record (reading_of e) { left = Some bytes; whole = whole }) (reading_of e) ∷ left_with n bytes whole (readings_of es) ≡ reading_of e ∷ readings_of es
    by_test true h ih = absurd cc
    by_test false h ih = ap (λ (l : List Reading). reading_of e ∷ l) (ih h)

pub left-none : (n : ℕ) (bytes : List ℕ) (whole : Bool) (old : BTreeMap ℕ Readers) → is_some (tree.get nat_cmp old n) ≡ false → left_with n bytes whole (readings_of old.entries) ≡ readings_of old.entries
left-none n bytes whole old h = left-list n bytes whole old.entries h
