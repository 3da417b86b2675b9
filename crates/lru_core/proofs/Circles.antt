-- The walk first_nonempty_from the circle of shards.
use Rattle.std.proofs.Common.{◌≡◌, ℕ, zero, suc, ◌+◌, ◌<◌, ◌≤◌, ◌⊎◌, inl, inr, List, [], length, refl, arith}
use Rattle.std.proofs.lemmas.Bool.{cases_eq, eq-eqb, ne_eqb, cases_lt}
use Rattle.std.proofs.lemmas.List.Sums.{sum_by-le}
use Rattle.std.proofs.lemmas.List.{get_or_default}
use Rattle.lru_core.specs.declared.rows.Row.{Row}
use Rattle.lru_core.specs.Cores.{rows_at, core_len, next_of, first_nonempty_from}

module _ {T : Type 0} where
  pub first_nonempty_more : (n m i k : ℕ) (shards : List (List (Row T))) → k ≡ suc m → length (rows_at shards i) ≡ 0 → first_nonempty_from n shards m (next_of n i) ≡ first_nonempty_from n shards k i
  first_nonempty_more n m i k shards e h = rw (e, eq-eqb (length (rows_at shards i)) 0 h) refl

  -- Where the walk of `steps` from i ends at an empty shard, all that it looked at are empty: those from i on, and
  -- those from the start of the circle.
  pub first_nonempty_none : (n steps i : ℕ) (shards : List (List (Row T))) → length (rows_at shards (first_nonempty_from n shards steps i)) ≡ 0 → i < n
      → (s : ℕ) → s < n → ((i ≤ s) × (s < i + steps)) ⊎ (s + n < i + steps) → length (rows_at shards s) ≡ 0
  first_nonempty_none n zero i shards e h s l p = elim p [ inl a ↦ absurd (let b = a.0 in let c = a.1 in omega arith) | inr a ↦ absurd (omega arith) ]
  first_nonempty_none n (suc steps) i shards e h s l p = elim (cases_eq (length (rows_at shards i)) 0) [
    | inr d ↦ absurd (d (rw (ne_eqb (length (rows_at shards i)) 0 d) at e))
    | inl z ↦ elim (cases_eq s i) [
      | inl q ↦ rw q z
      | inr d ↦ elim (cases_eq (i + 1) n) [
        | inl w ↦
            let f : length (rows_at shards (first_nonempty_from n shards steps 0)) ≡ 0 = rw (eq-eqb (length (rows_at shards i)) 0 z, eq-eqb (i + 1) n w) at e in
            first_nonempty_none n steps 0 shards f (omega arith) s l (elim p [ inl a ↦ absurd (let b = a.0 in let c = a.1 in omega arith) | inr a ↦ inl (omega arith, omega arith) ])
        | inr v ↦
            let f : length (rows_at shards (first_nonempty_from n shards steps (i + 1))) ≡ 0 = rw (eq-eqb (length (rows_at shards i)) 0 z, ne_eqb (i + 1) n v) at e in
            first_nonempty_none n steps (i + 1) shards f (omega arith) s l (elim p [ inl a ↦ (let b = a.0 in let c = a.1 in inl (omega arith, omega arith)) | inr a ↦ inr (omega arith) ])
      ]
    ]
  ]

  -- a whole turn that ends at an empty shard has met no row
  pub all_empty : (n i : ℕ) (shards : List (List (Row T))) → length shards ≡ n → i < n → length (rows_at shards (first_nonempty_from n shards n i)) ≡ 0 → core_len shards ≡ 0
  all_empty n i shards e h z =
      let s = sum_by-le length 0 shards (λ k d l.
      let m : k < n = rw e at l in
      let q = first_nonempty_none n n i shards z h k m (elim (cases_lt k i) [ inl a ↦ inr (omega arith) | inr a ↦ inl (a, omega arith) ]) in
      rw (get_or_default shards k d [] l) (omega arith)) in
      omega arith
