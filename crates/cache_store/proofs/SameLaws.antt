-- A reader of a write that is counted, and then spent.
use Rattle.std.proofs.Common.{arith, ◌≡◌, ℕ, refl, ap, ◌∙◌, true, false, cond}
use Rattle.std.specs.Prelude.{◌==◌, ◌+◌, ◌-◌, nat_lt, Bool, Option, Some, None}
use Rattle.std.proofs.lemmas.Bool.{eqb-true}
use Rattle.std.proofs.lemmas.Bool.Decides.{nat_tests}
use Rattle.cache_store.specs.StoreState.{Reading, StoreState}
use Rattle.cache_store.specs.Readers.{reading_at, one_more, one_less, IsJoined, IsParted, SameStoreState}

same-number : (n : ℕ) → (n == n) ≡ true
same-number n = grind (arith, nat_tests)

some-more : (n : ℕ) → nat_lt 0 (n + 1) ≡ true
some-more n = grind (arith, nat_tests)

undone : (n : ℕ) (o : Option Reading) → one_less (Some (one_more n o)) ≡ o
undone n None = refl
undone n (Some r) = by_parts (nat_lt 0 (r.others + 1)) (r.others + 1 - 1) (some-more r.others) (omega arith)
  where
    by_parts : (v : Bool) (k : ℕ) → v ≡ true → k ≡ r.others → cond v (Some (record r { others = k })) None ≡ Some r
    by_parts true k t e = λ i. Some (record r { others = e i })
    by_parts false k t e = absurd cc

pub joined-parted : (n : ℕ) (old mid new : StoreState) → IsJoined n old mid → IsParted n mid new → SameStoreState old new
joined-parted n old mid new j p = record { store = p.store ∙ j.store; next = p.next ∙ j.next; readings = λ m. p.readings m ∙ by_test m (n == m) refl }
  where
    one : reading_at n mid.readings ≡ Some (one_more n (reading_at n old.readings))
    one = j.readings n ∙ ap (λ (v : Bool). cond v (Some (one_more n (reading_at n old.readings))) (reading_at n old.readings)) (same-number n)

    by_test : (m : ℕ) (v : Bool) → (n == m) ≡ v → cond v (one_less (reading_at n mid.readings)) (reading_at m mid.readings) ≡ reading_at m old.readings
    by_test m true t = ap one_less one ∙ undone n (reading_at n old.readings) ∙ ap (λ (i : ℕ). reading_at i old.readings) (eqb-true n m t)
    by_test m false t = j.readings m ∙ ap (λ (v : Bool). cond v (Some (one_more n (reading_at n old.readings))) (reading_at m old.readings)) t
