-- Limits that are added one after another, none less than the one before.
use Rattle.std.proofs.Common.{◌≡◌, ℕ, ◌+◌, ◌-◌, ◌<◌, ◌≤◌, List, [], ◌∷◌, ◌++◌, refl, ap, sym, ◌∙◌, arith, length, get_or}
use Rattle.std.proofs.lemmas.List.{length_push, get_or_push, get_or_append_left}
use Rattle.std.proofs.lemmas.List.Sorted.{IsNonDecreasingBy-push}
use Rattle.std.specs.List.Sorted.{IsNonDecreasing}
use Rattle.curve_words.specs.Sizes.{IsBetween}

-- the first limits, before that with the number `next`
pub record IsBegun (from last next : ℕ) (xs : List ℕ) : Type 0 where
  pub rising : IsNonDecreasing xs
  pub count : length xs + 1 ≡ next
  pub first : get_or xs 0 0 ≡ from
  pub end : (d : ℕ) → get_or xs (length xs - 1) d ≡ last

pub begun : (from : ℕ) (xs : List ℕ) → xs ≡ from ∷ [] → IsBegun from from 2 xs
begun from xs e = rw e one
  where
    one : IsBegun from from 2 (from ∷ [])
    one = record {
      rising = IsNonDecreasingBy-push (λ x. x) [] from (λ i j d a b. absurd (omega (arith, b))) (λ d l. absurd (omega (arith, l)));
      count = refl;
      first = refl;
      end = λ d. refl;
    }

pub begun-more : (from last next y : ℕ) (xs ys : List ℕ) → ys ≡ xs ++ y ∷ [] → 2 ≤ next → last ≤ y → IsBegun from last next xs → IsBegun from y (next + 1) ys
begun-more from last next y xs ys e two le b = rw e more
  where
    long : length (xs ++ y ∷ []) ≡ length xs + 1
    long = let n = length_push xs y in omega (arith, n)

    end_at : (d m : ℕ) → length xs ≡ m → get_or (xs ++ y ∷ []) m d ≡ y
    end_at d m h = get_or_push xs y d m h

    more : IsBegun from y (next + 1) (xs ++ y ∷ [])
    more = record {
      rising = IsNonDecreasingBy-push (λ x. x) xs y b.rising (λ d l. let h = b.end d in omega (arith, h, le));
      count = let c = b.count in omega (arith, long, c);
      first = get_or_append_left xs (y ∷ []) 0 0 (let c = b.count in omega (arith, c, two)) ∙ b.first;
      end = λ d. end_at d (length (xs ++ y ∷ []) - 1) (omega (arith, long));
    }

pub between-all : (from to count : ℕ) (xs : List ℕ) → IsBegun from to (count + 1) xs → IsBetween from to count xs
between-all from to count xs b =
    let c = b.count in
    let same : length xs ≡ count = omega (arith, c) in
    record { long = same; first = b.first; last = ap (λ n. get_or xs (n - 1) 0) (sym same) ∙ b.end 0 }
