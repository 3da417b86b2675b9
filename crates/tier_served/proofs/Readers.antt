-- A reader that comes to a write and goes again leaves its readers as they were.
use Rattle.std.proofs.Common.{◌≡◌, ℕ, ◌+◌, ◌-◌, ◌<◌, Bool, false, cond, Option, Some, None, refl, ap, ◌∙◌, arith}
use Rattle.std.specs.Prelude.{nat_le}
use Rattle.std.specs.Ordering.{nat_cmp}
use Rattle.std.specs.FinMap.{FinMap, get, insert, remove}
use Rattle.std.proofs.lemmas.Bool.{lt-leb}
use Rattle.tier_model.specs.Shelf.{Readers, Look, absent, in_flight, finished, one_more, one_less, joined, parted}
use Rattle.tier_model.specs.State.{State}
use Rattle.tier_model.specs.Past.{HasAPast}
use Rattle.tier_served.specs.Leaves.{came_and_went}
use Rattle.tier_served.proofs.Requests.{put_twice, there, come_and_gone, put_again}

module _ (m : FinMap nat_cmp Readers) (n : ℕ) (some : (r : Readers) → get m n ≡ Some r → 0 < r.count) where
  by_readers : (o : Option Readers) → get m n ≡ o → one_less n (Some (one_more o)) (insert m n (one_more o)) ≡ m
  by_readers None is = come_and_gone m n (one_more None) is
  by_readers (Some r) is =
      let more : Readers = record r { count = r.count + 1 } in
      let some_left : nat_le (r.count + 1) 1 ≡ false = lt-leb (r.count + 1) 1 (more_than (some r is)) in
      let back : r.count + 1 - 1 ≡ r.count = omega arith in
      ap (λ (t : Bool). cond t (remove (insert m n more) n) (insert (insert m n more) n (record r { count = r.count + 1 - 1 }))) some_left
      ∙ ap (λ (k : ℕ). insert (insert m n more) n (record r { count = k })) back ∙ put_twice m n more r ∙ put_again m n r is
    where
      more_than : 0 < r.count → 1 < r.count + 1
      more_than h = omega (arith, h)

  pub came_and_parted : parted n (joined n m) ≡ m
  came_and_parted = ap (λ (o : Option Readers). one_less n o (joined n m)) (there m n (one_more (get m n))) ∙ by_readers (get m n) refl

pub went-same : (s : State) (l : Look) → HasAPast s → came_and_went l s.shelf ≡ s.shelf
went-same s absent past = refl
went-same s (finished x) past = refl
went-same s (in_flight f) past =
    ap (λ (m : FinMap nat_cmp Readers). record s.shelf { readers = m }) (came_and_parted s.shelf.readers f.number (λ r is. past.2.matches.kept f.number r is))
