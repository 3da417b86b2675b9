-- Numbers with one rest.
use Rattle.std.proofs.Common.{true, is_some, true≢false, ◌≡◌, ◌≢◌, ℕ, ◌+◌, ◌/◌, ◌%◌, ◌<◌, ◌≤◌, inl, inr, Option, None, sym, ap, ◌∙◌, subst, arith}
use Rattle.std.proofs.lemmas.Bool.{cases_lt}
use Rattle.std.proofs.Math.Nat.{mod-add-div, mul-le-mul_left, mul-add, mul-one}

-- two numbers with one rest modulo n that are less than n apart are one
pub one_rest : (n j k : ℕ) → k ≤ j → j < k + n → j % n ≡ k % n → j ≡ k
one_rest n j k a b e =
    let p = mod-add-div j n in
    let q = mod-add-div k n in
    elim (cases_lt (k / n) (j / n)) [
      | inl h ↦ absurd (let m = mul-le-mul_left n (let h' : k / n + 1 ≤ j / n = omega arith in h') in let s = mul-add n (k / n) 1 in let o = mul-one n in omega (arith, p, q, m, e, s, o))
      | inr h ↦ let m = mul-le-mul_left n h in omega (arith, p, q, m, e)
    ]

module _ {X : Type 0} (n : ℕ) (at : ℕ → Option X) (from k : ℕ) (taken : (j : ℕ) → from ≤ j → j < k → j % n ≡ from % n → at j ≢ None) (rest : k % n ≡ from % n) (here : at k ≢ None) where
  -- one step further, all are taken before it
  pub taken_more : (j : ℕ) → from ≤ j → j < k + n → j % n ≡ from % n → at j ≢ None
  taken_more j a b e = elim (cases_lt j k) [
    | inl h ↦ taken j a h e
    | inr h ↦ let same = one_rest n j k h b (e ∙ sym rest) in subst (λ (i : ℕ). at i ≢ None) (sym same) here
  ]

pub not_none : {X : Type 0} (o : Option X) → is_some o ≡ true → o ≢ None
not_none o t n = true≢false (sym t ∙ ap is_some n)
