-- The readers of writes as a state has them: a finite map by the writes' numbers.
use Rattle.std.proofs.Common.{◌≡◌, ℕ, ◌+◌, ◌-◌, refl, ap, sym, ◌∙◌, true, false, cond, [], ◌∷◌, arith, subst}
use Rattle.std.specs.Prelude.{◌==◌, Bool, List, Option, Some, None, option_map, map, nat_eq, nat_lt, nat_le}
use Rattle.std.specs.FinMap.{FinMap, get, insert, remove, from_entries, same_map, get-insert, get-remove, nat_cmp-IsAntisymmetric}
use Rattle.std.specs.Ordering.{nat_cmp, eq_by_cmp}
use Rattle.std.specs.Cmp.{unsigned_tied}
use Rattle.std.proofs.lemmas.Cmp.{nat_cmp_total, eq_by_cmp_equiv}
use Rattle.std.specs.Map.{lookup}
use Rattle.std.proofs.lemmas.Bool.{eqb-true}
use Rattle.cache_store.specs.StoreState.{Reading, left_with}
use Rattle.cache_store.specs.Readers.{reading_at, one_more, one_less}
use Rattle.tier_model.specs.Shelf as shelf
use Rattle.tier_model.specs.Shelf.{Readers, joined, parted}
use Rattle.tier_model.proofs.Tables.{get-table}
use Rattle.tier_requests.specs.Shelves.{readers_of, reading_row}

abbrev pub Table : Type 0
Table = FinMap nat_cmp Readers

abbrev pub table_of : List Reading → Table
table_of rs = from_entries (map reading_row rs)

-- tables that answer alike are one
pub same-table : (m n : Table) → ((q : ℕ) → get m q ≡ get n q) → m ≡ n
same-table = same_map nat_cmp_total nat_cmp-IsAntisymmetric

found-row : (n : ℕ) (rs : List Reading) → lookup (nat_eq n) (map reading_row rs) ≡ option_map readers_of (reading_at n rs)
found-row n [] = refl
found-row n (r ∷ rs) = by_test (n == r.number) (found-row n rs)
  where
    by_test : (t : Bool) → lookup (nat_eq n) (map reading_row rs) ≡ option_map readers_of (reading_at n rs)
        → cond t (Some (readers_of r)) (lookup (nat_eq n) (map reading_row rs)) ≡ option_map readers_of (cond t (Some r) (reading_at n rs))
    by_test true ih = refl
    by_test false ih = ih

pub reading-found : (n : ℕ) (rs : List Reading) → get (table_of rs) n ≡ option_map readers_of (reading_at n rs)
reading-found n rs = get-table (map reading_row rs) n ∙ found-row n rs

-- what an insertion and a removal leave at a number
at_key : (q k : ℕ) (v o : Option Readers) → cond (eq_by_cmp nat_cmp q k) v o ≡ cond (k == q) v o
at_key q k v o = ap (λ t. cond t v o) ((eq_by_cmp_equiv nat_cmp_total).symm q k ∙ unsigned_tied k q)

pub at-insert : (m : Table) (k : ℕ) (v : Readers) (q : ℕ) → get (insert m k v) q ≡ cond (k == q) (Some v) (get m q)
at-insert m k v q = get-insert nat_cmp_total m k v q ∙ at_key q k (Some v) (get m q)

pub at-remove : (m : Table) (k q : ℕ) → get (remove m k) q ≡ cond (k == q) None (get m q)
at-remove m k q = get-remove nat_cmp_total m k q ∙ at_key q k None (get m q)

-- tables with the same readers of each write
pub table-same : (rs old : List Reading) → ((n : ℕ) → reading_at n rs ≡ reading_at n old) → table_of rs ≡ table_of old
table-same rs old e = same-table (table_of rs) (table_of old) (λ n. reading-found n rs ∙ ap (option_map readers_of) (e n) ∙ sym (reading-found n old))

mapped : (t : Bool) (a b : Option Reading) → option_map readers_of (cond t a b) ≡ cond t (option_map readers_of a) (option_map readers_of b)
mapped true a b = refl
mapped false a b = refl

-- one reader more
more_of : (n : ℕ) (o : Option Reading) → readers_of (one_more n o) ≡ shelf.one_more (option_map readers_of o)
more_of n None = refl
more_of n (Some r) = refl

pub table-joined : (n : ℕ) (rs old : List Reading) → ((m : ℕ) → reading_at m rs ≡ cond (n == m) (Some (one_more n (reading_at n old))) (reading_at m old)) → table_of rs ≡ joined n (table_of old)
table-joined n rs old e =
    same-table (table_of rs) (joined n (table_of old))
    (λ m. reading-found m rs ∙ ap (option_map readers_of) (e m) ∙ mapped (n == m) (Some (one_more n (reading_at n old))) (reading_at m old)
    ∙ ap (λ (r : Readers). cond (n == m) (Some r) (option_map readers_of (reading_at m old))) (more_of n (reading_at n old) ∙ ap shelf.one_more (sym (reading-found n old)))
    ∙ ap (cond (n == m) (Some (shelf.one_more (get (table_of old) n)))) (sym (reading-found m old))
    ∙ sym (at-insert (table_of old) n (shelf.one_more (get (table_of old) n)) m))

-- one reader less
pub table-parted : (n : ℕ) (rs old : List Reading) → ((m : ℕ) → reading_at m rs ≡ cond (n == m) (one_less (reading_at n old)) (reading_at m old)) → table_of rs ≡ parted n (table_of old)
table-parted n rs old e = by_reading (reading_at n old) refl
  where
    -- where all but the readers of n stay
    others : (o : Option Reading) (left : Table) → reading_at n old ≡ o → ((m : ℕ) → get left m ≡ cond (n == m) (option_map readers_of (one_less o)) (get (table_of old) m)) → table_of rs ≡ left
    others o left is h =
        same-table (table_of rs) left
        (λ m. reading-found m rs ∙ ap (option_map readers_of) (e m) ∙ mapped (n == m) (one_less (reading_at n old)) (reading_at m old)
        ∙ ap (λ (x : Option Reading). cond (n == m) (option_map readers_of (one_less x)) (option_map readers_of (reading_at m old))) is
        ∙ ap (cond (n == m) (option_map readers_of (one_less o))) (sym (reading-found m old)) ∙ sym (h m))

    found : (o : Option Reading) → reading_at n old ≡ o → get (table_of old) n ≡ option_map readers_of o
    found o is = reading-found n old ∙ ap (option_map readers_of) is

    absent : (m : ℕ) → get (table_of old) n ≡ None → get (table_of old) m ≡ cond (n == m) None (get (table_of old) m)
    absent m none = by_key (n == m) refl
      where
        by_key : (t : Bool) → (n == m) ≡ t → get (table_of old) m ≡ cond t None (get (table_of old) m)
        by_key true e = subst (λ (x : ℕ). get (table_of old) x ≡ None) (eqb-true n m e) none
        by_key false e = refl

    fewer : (r : Reading) → nat_lt 0 r.others ≡ true → r.others + 1 - 1 ≡ r.others - 1 + 1
    fewer r more = grind (arith, more)

    by_others : (r : Reading) (v : Bool) → nat_lt 0 r.others ≡ v → reading_at n old ≡ Some r → table_of rs ≡ shelf.one_less n (Some (readers_of r)) (table_of old)
    by_others r true more is =
        let last : nat_le (r.others + 1) 1 ≡ false = grind (arith, more) in
        rw last
        (others (Some r) (insert (table_of old) n (record (readers_of r) { count = r.others + 1 - 1 })) is (λ m. at-insert (table_of old) n (record (readers_of r) { count = r.others + 1 - 1 }) m
        ∙ rw more (ap (λ (c : ℕ). cond (n == m) (Some (record (readers_of r) { count = c })) (get (table_of old) m)) (fewer r more))))
    by_others r false none is =
        let last : nat_le (r.others + 1) 1 ≡ true = grind (arith, none) in
        rw last (others (Some r) (remove (table_of old) n) is (λ m. at-remove (table_of old) n m ∙ rw none refl))

    by_reading : (o : Option Reading) → reading_at n old ≡ o → table_of rs ≡ parted n (table_of old)
    by_reading None is = rw (found None is) (others None (table_of old) is (λ m. absent m (found None is)))
    by_reading (Some r) is = rw (found (Some r) is) (by_others r (nat_lt 0 r.others) refl is)

abbrev nobody : Option Readers
nobody = None

-- the readers of a write are left with its bytes, which are all of it or not
found-left : (n : ℕ) (bytes : List ℕ) (whole : Bool) (m : ℕ) (rs : List Reading)
    → option_map readers_of (reading_at m (left_with n bytes whole rs)) ≡ cond (n == m) (option_map {T = Readers} (λ r. record r { left = Some bytes; whole = whole }) (option_map readers_of (reading_at m rs))) (option_map readers_of (reading_at m rs))
found-left n bytes whole m [] = by_test (n == m)
  where
    by_test : (t : Bool) → nobody ≡ cond t nobody nobody
    by_test true = refl
    by_test false = refl
found-left n bytes whole m (r ∷ rs) = by_tests (n == r.number) refl (m == r.number) refl (found-left n bytes whole m rs)
  where
    left : Reading
    left = record r { left = Some bytes; whole = whole }

    by_tests : (t : Bool) → (n == r.number) ≡ t → (u : Bool) → (m == r.number) ≡ u
        → option_map readers_of (reading_at m (left_with n bytes whole rs)) ≡ cond (n == m) (option_map {T = Readers} (λ r. record r { left = Some bytes; whole = whole }) (option_map readers_of (reading_at m rs))) (option_map readers_of (reading_at m rs))
        → option_map readers_of (reading_at m (cond t left r ∷ left_with n bytes whole rs))
        ≡ cond (n == m) (option_map {T = Readers} (λ r. record r { left = Some bytes; whole = whole }) (option_map readers_of (reading_at m (r ∷ rs)))) (option_map readers_of (reading_at m (r ∷ rs)))
    by_tests true e true u ih = let same : (n == m) ≡ true = grind (arith, e, u) in rw (same, u) refl
    by_tests false e true u ih = let other : (n == m) ≡ false = grind (arith, e, u) in rw (other, u) refl
    by_tests true e false u ih = rw u ih
    by_tests false e false u ih = rw u ih

pub table-left : (n : ℕ) (bytes : List ℕ) (whole : Bool) (rs : List Reading) → table_of (left_with n bytes whole rs) ≡ shelf.left_with n bytes whole (get (table_of rs) n) (table_of rs)
table-left n bytes whole rs = by_readers (get (table_of rs) n) refl
  where
    found : (m : ℕ) → get (table_of (left_with n bytes whole rs)) m ≡ cond (n == m) (option_map {T = Readers} (λ r. record r { left = Some bytes; whole = whole }) (get (table_of rs) m)) (get (table_of rs) m)
    found m = reading-found m (left_with n bytes whole rs) ∙ found-left n bytes whole m rs ∙ rw (reading-found m rs) refl

    by_readers : (o : Option Readers) → get (table_of rs) n ≡ o → table_of (left_with n bytes whole rs) ≡ shelf.left_with n bytes whole o (table_of rs)
    by_readers None none = same-table _ _ (λ m. found m ∙ by_key m (n == m) refl)
      where
        by_key : (m : ℕ) (t : Bool) → (n == m) ≡ t → cond t (option_map {T = Readers} (λ r. record r { left = Some bytes; whole = whole }) (get (table_of rs) m)) (get (table_of rs) m) ≡ get (table_of rs) m
        by_key m true e = let same : n ≡ m = eqb-true n m e in let gone : get (table_of rs) m ≡ None = subst (λ (x : ℕ). get (table_of rs) x ≡ None) same none in rw gone refl
        by_key m false e = refl
    by_readers (Some r) some = same-table _ _ (λ m. found m ∙ by_key m (n == m) refl ∙ sym (at-insert (table_of rs) n (record r { left = Some bytes; whole = whole }) m))
      where
        by_key : (m : ℕ) (t : Bool) → (n == m) ≡ t
            → cond t (option_map {T = Readers} (λ r. record r { left = Some bytes; whole = whole }) (get (table_of rs) m)) (get (table_of rs) m) ≡ cond t (Some (record r { left = Some bytes; whole = whole })) (get (table_of rs) m)
        by_key m true e = let same : n ≡ m = eqb-true n m e in let here : get (table_of rs) m ≡ Some r = subst (λ (x : ℕ). get (table_of rs) x ≡ Some r) same some in rw here refl
        by_key m false e = refl
