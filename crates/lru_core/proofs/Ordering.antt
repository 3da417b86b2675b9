-- Rows of distinct keys, inserted one after another.
use Rattle.std.proofs.Common.{◌≡◌, ◌≢◌, ℕ, inl, inr, List, [], ◌∷◌, ◌++◌, cond, is_some, slice_get, sym, refl, ap, ◌∙◌}
use Rattle.std.proofs.lemmas.Bool.{cases_eq, eq-eqb, ne_eqb}
use Rattle.std.proofs.lemmas.List.{append-nil}
use Rattle.lru_core.specs.declared.rows.Row.{Row}
use Rattle.lru_core.specs.Rows.{only}
use Rattle.lru_core.specs.Orders.{Distinct, with_last, with_all_last}

module _ {T : Type 0} where
  met : (k : ℕ) (r : Row T) (xs ys : List (Row T)) → r.key ≡ k → only k (xs ++ r ∷ ys) ≢ []
  met k r [] ys e h = let f = rw (eq-eqb r.key k e) at h in cc
  met k r (x ∷ xs) ys e h = elim (cases_eq x.key k) [
    | inl s ↦ let f = rw (eq-eqb x.key k s) at h in cc
    | inr n ↦ met k r xs ys e (rw (ne_eqb x.key k n) at h)
  ]

  -- a row after rows of other keys is new to them
  new_after : (r : Row T) (xs ys : List (Row T)) → Distinct (xs ++ r ∷ ys) → only r.key xs ≡ []
  new_after r [] ys d = refl
  new_after r (x ∷ xs) ys d = elim (cases_eq x.key r.key) [
    | inl e ↦ absurd (met x.key r xs ys (sym e) d.0)
    | inr n ↦ rw (ne_eqb x.key r.key n) (new_after r xs ys d.1)
  ]

  inserted_last : (r : Row T) (xs : List (Row T)) → only r.key xs ≡ [] → with_last xs r ≡ xs ++ r ∷ []
  inserted_last r xs e = ap (λ l. cond (is_some (slice_get l 0)) xs (xs ++ r ∷ [])) e

  -- a row whose key is there is not taken
  pub left_as_is : (r : Row T) (xs : List (Row T)) → only r.key xs ≢ [] → xs ≡ with_last xs r
  left_as_is r xs n = elim (only r.key xs) as (λ l. l ≢ [] → xs ≡ cond (is_some (slice_get l 0)) xs (xs ++ r ∷ [])) [
    | [] ↦ λ m. absurd (m refl)
    | x ∷ l ↦ λ m. refl
  ] n

  one_more : (xs : List (Row T)) (r : Row T) (ys : List (Row T)) → (xs ++ r ∷ []) ++ ys ≡ xs ++ r ∷ ys
  one_more [] r ys = refl
  one_more (x ∷ xs) r ys = ap (λ l. x ∷ l) (one_more xs r ys)

  pub in_turn : (xs ys : List (Row T)) → Distinct (xs ++ ys) → with_all_last xs ys ≡ xs ++ ys
  in_turn xs [] d = sym (append-nil xs)
  in_turn xs (r ∷ ys) d =
      let t = inserted_last r xs (new_after r xs ys d) in
      let s = one_more xs r ys in
      ap (λ l. with_all_last l ys) t ∙ (in_turn (xs ++ r ∷ []) ys (rw (← s) at d) ∙ s)
