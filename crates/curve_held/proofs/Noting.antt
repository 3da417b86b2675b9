-- The limits that are passed.
use Rattle.std.proofs.Common.{◌≡◌, ℕ, ◌≤◌, ◌<◌, ◌⊎◌, inl, inr, true, false, List, [], ◌∷◌, ◌++◌, length, get_or, Option, Some, None, ap, sym, ◌∙◌, arith}
use Rattle.std.proofs.lemmas.Bool.{cases_lt, true≢false, false_from_ne_true}
use Rattle.std.proofs.lemmas.List.{length_push, get_or_push, get_or_append_left}
use Rattle.curve_loads.specs.Steps.{exceeds}
use Rattle.curve_loads.specs.Finds.{IsAtMost}
use Rattle.curve_loads.proofs.Limits.{at_most-exceeds}
use Rattle.curve_held.specs.declared.row.Full.{Full}
use Rattle.curve_held.specs.State.{AreRising, AreNoted, IsNoted}

at_most-self : (mark : Option ℕ) → IsAtMost mark mark
at_most-self None = tt
at_most-self (Some m) = omega arith

module _ (limits : List ℕ) (most : Option ℕ) (weight number : ℕ) (now : Full) where
  pub noted-none : (full : List Full) → length full ≤ length limits → AreNoted limits most weight number now full full
  noted-none full w = record {
    longer = omega arith;
    within = w;
    before = λ k d l. refl-of (get_or full k d);
    noted = λ k d l m. absurd (omega (arith, l, m));
    past = λ k l m. absurd (omega (arith, l, m));
  }
    where
      refl-of : (x : Full) → x ≡ x
      refl-of x = λ i. x

  pub noted-more : (old new : List Full) → AreNoted limits most weight number now old new → length new < length limits → exceeds (get_or limits (length new) 0) most weight number ≡ true
      → AreNoted limits most weight number now old (new ++ now ∷ [])
  noted-more old new a l e =
      let p = length_push new now in
      record {
        longer = omega (arith, p, a.longer);
        within = omega (arith, p, l);
        before = λ k d m. get_or_append_left new (now ∷ []) d k (omega (arith, m, a.longer)) ∙ a.before k d m;
        noted = λ k d m n. by_case k d m n (cases_lt k (length new));
        past = λ k m n. past-by k m n (cases_lt k (length new));
      }
    where
      by_case : (k : ℕ) (d : Full) → length old ≤ k → k < length (new ++ now ∷ []) → (k < length new) ⊎ (length new ≤ k) → get_or (new ++ now ∷ []) k d ≡ now
      by_case k d m n (inl j) = get_or_append_left new (now ∷ []) d k j ∙ a.noted k d m j
      by_case k d m n (inr j) =
          let p = length_push new now in
          get_or_push new now d k (omega (arith, j, n, p))

      past-by : (k : ℕ) → length old ≤ k → k < length (new ++ now ∷ []) → (k < length new) ⊎ (length new ≤ k) → exceeds (get_or limits k 0) most weight number ≡ true
      past-by k m n (inl j) = a.past k m j
      past-by k m n (inr j) =
          let p = length_push new now in
          let q : k ≡ length new = omega (arith, j, n, p) in
          ap (λ (i : ℕ). exceeds (get_or limits i 0) most weight number) q ∙ e

  -- a limit that isn't passed is the first of those that aren't
  pub noted-end : (old new : List Full) → AreRising limits → AreNoted limits most weight number now old new → exceeds (get_or limits (length new) 0) most weight number ≡ false
      → IsNoted limits most weight number now old new
  noted-end old new r a e = record {
    noted = a;
    rest = λ k l m. false_from_ne_true (exceeds (get_or limits k 0) most weight number)
        (λ t. true≢false (sym (at_most-exceeds (get_or limits (length new) 0) (get_or limits k 0) most most weight number (r (length new) k l m) (at_most-self most) t) ∙ e));
  }

  pub noted-all : (old new : List Full) → AreNoted limits most weight number now old new → length limits ≤ length new → IsNoted limits most weight number now old new
  noted-all old new a l = record { noted = a; rest = λ k m n. absurd (omega (arith, l, m, n)) }
