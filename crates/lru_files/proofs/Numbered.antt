-- Lists of failures by number.
use Rattle.std.proofs.Common.{◌≡◌, ◌≢◌, ℕ, ◌+◌, ◌<◌, ◌≤◌, List, [], ◌∷◌, ◌++◌, Ok, Err, refl, arith}
use Rattle.std.proofs.lemmas.Bool.Decides.{nat_tests}
use Rattle.lru_files.specs.Save.{outcome_of, AreNumbered}

module _ {X : Type 0} where
  pub outcome-beyond : (first bound : ℕ) (failed : List (ℕ × X)) (i : ℕ) → AreNumbered first bound failed → bound ≤ i → outcome_of failed i ≡ Ok tt
  outcome-beyond first bound [] i numbered above = refl
  outcome-beyond first bound (entry ∷ rest) i numbered above =
      let later : outcome_of rest i ≡ Ok tt = outcome-beyond (entry.0 + 1) bound rest i numbered.2 above in
      let apart : entry.0 < i = omega (arith, numbered.1) in
      grind (arith, nat_tests, later, apart)

  pub outcome-append : (failed : List (ℕ × X)) (n : ℕ) (x : X) (i : ℕ) → i ≢ n → outcome_of (failed ++ (n, x) ∷ []) i ≡ outcome_of failed i
  outcome-append [] n x i apart = grind (arith, nat_tests, apart)
  outcome-append (entry ∷ rest) n x i apart =
      let later : outcome_of (rest ++ (n, x) ∷ []) i ≡ outcome_of rest i = outcome-append rest n x i apart in
      grind (arith, nat_tests, later)

  pub outcome-here : (first bound : ℕ) (failed : List (ℕ × X)) (n : ℕ) (x : X) → AreNumbered first bound failed → bound ≤ n → outcome_of (failed ++ (n, x) ∷ []) n ≡ Err x
  outcome-here first bound [] n x numbered above = grind (arith, nat_tests)
  outcome-here first bound (entry ∷ rest) n x numbered above =
      let later : outcome_of (rest ++ (n, x) ∷ []) n ≡ Err x = outcome-here (entry.0 + 1) bound rest n x numbered.2 above in
      let apart : entry.0 < n = omega (arith, numbered.1) in
      grind (arith, nat_tests, later, apart)

  pub numbered-more : (first bound more : ℕ) (failed : List (ℕ × X)) → AreNumbered first bound failed → bound ≤ more → AreNumbered first more failed
  numbered-more first bound more [] numbered above = tt
  numbered-more first bound more (entry ∷ rest) numbered above =
      (numbered.0, omega (arith, numbered.1), numbered-more (entry.0 + 1) bound more rest numbered.2 above)

  pub numbered-append : (first n : ℕ) (failed : List (ℕ × X)) (x : X) → AreNumbered first n failed → first ≤ n → AreNumbered first (n + 1) (failed ++ (n, x) ∷ [])
  numbered-append first n [] x numbered above = (above, omega arith, tt)
  numbered-append first n (entry ∷ rest) x numbered above =
      (numbered.0, omega (arith, numbered.1), numbered-append (entry.0 + 1) n rest x numbered.2 (omega (arith, numbered.1)))
