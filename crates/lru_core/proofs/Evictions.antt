-- Steps of eviction, one after another.
use Rattle.std.proofs.Common.{◌≡◌, ℕ, true, false, ◌⊎◌, inl, inr, List, [], ◌∷◌, ◌++◌, length, Option, Some, None, IsSome, sym, refl, ap, ◌∙◌, arith, subst}
use Rattle.std.specs.Option.{IfNone, IfSome}
use Rattle.std.proofs.lemmas.Bool.{true≢false, le-ltb}
use Rattle.std.proofs.lemmas.List.Sums.{sum_by-cons}
use Rattle.std.proofs.lemmas.List.{nil_from_length}
use Rattle.rand_core.specs.Stream.{Stream, next_u64}
use Rattle.lru_core.specs.declared.rows.Row.{Row}
use Rattle.lru_core.specs.Rows.{total_weight}
use Rattle.lru_core.specs.Cores.{Core, core_weight, core_len, passes, is_over, IsStep, Evicts}

pub none_weaker : {X : Type 0} → (o : Option X) (P Q : Type 0) → IfNone o P → (P → Q) → IfNone o Q
none_weaker None P Q h f = f h
none_weaker (Some x) P Q h f = tt

not_passed : (mark : Option ℕ) → passes mark 0 ≡ false
not_passed None = refl
not_passed (Some m) = le-ltb m 0 (omega arith)

module _ {T : Type 0} where
  -- shards without a row weigh nothing
  pub weightless : (shards : List (List (Row T))) → core_len shards ≡ 0 → core_weight shards ≡ 0
  weightless [] h = refl
  weightless (rows ∷ shards) h =
      let l = sum_by-cons length rows shards in
      let r : rows ≡ [] = nil_from_length rows (omega arith) in
      let t = weightless shards (omega arith) in
      let w : total_weight rows ≡ 0 = ap total_weight r in
      sum_by-cons total_weight rows shards ∙ omega (arith, w, t)

  pub not_over : (c : Core T) → core_len c.shards ≡ 0 → is_over c ≡ false
  not_over c h = rw (weightless c.shards h, h, le-ltb c.limit 0 (omega arith)) (not_passed c.watermark)

  -- where a limit is passed a step gives a pair
  pub step_gives : (o : Option (T × ℕ)) (c : Core T) (A : Type 0) → IfNone o (A × ((is_over c ≡ false) ⊎ (core_len c.shards ≡ 0))) → is_over c ≡ true → IsSome o
  step_gives (Some p) c A h t = refl
  step_gives None c A h t = elim h.1 [ inl f ↦ absurd (true≢false (sym t ∙ f)) | inr e ↦ absurd (true≢false (sym t ∙ not_over c e)) ]

  -- one more step
  pub evicts_push : (n : ℕ) (old mid new : Core T) (pairs : List (T × ℕ)) (pair : T × ℕ) (s r : Stream) → Evicts n old pairs s mid r
      → IsStep n mid (next_u64 r).0 (next_u64 (next_u64 r).1).0 pair new → Evicts n old (pairs ++ pair ∷ []) s new (next_u64 (next_u64 r).1).1
  evicts_push n old mid new [] pair s r e st = (new, rw (← e.0, ← e.1) st, (refl, rw e.1 refl))
  evicts_push n old mid new (p ∷ pairs) pair s r e st = (e.0, e.1, evicts_push n e.0 mid new pairs pair (next_u64 (next_u64 s).1).1 r e.2 st)

  -- the same by the words and streams that the draws gave
  pub evicts_more : (n : ℕ) (old mid new : Core T) (pairs all : List (T × ℕ)) (pair : T × ℕ) (s r r1 r2 : Stream) (a b : ℕ) (o : Option (T × ℕ))
      → Evicts n old pairs s mid r → (a, r1) ≡ next_u64 r → (b, r2) ≡ next_u64 r1 → IfSome o (λ p. IsStep n mid a b p new) → o ≡ Some pair → all ≡ pairs ++ pair ∷ []
      → Evicts n old all s new r2
  evicts_more n old mid new pairs all pair s r r1 r2 a b o e f g h oe ae =
      let p0 : a ≡ (next_u64 r).0 = ap (λ p. p.0) f in
      let p1 : r1 ≡ (next_u64 r).1 = ap (λ p. p.1) f in
      let q0 : b ≡ (next_u64 r1).0 = ap (λ p. p.0) g in
      let q1 : r2 ≡ (next_u64 r1).1 = ap (λ p. p.1) g in
      let st : IsStep n mid a b pair new = rw oe at h in
      let one : IsStep n mid (next_u64 r).0 (next_u64 (next_u64 r).1).0 pair new =
      subst (λ x. IsStep n mid x (next_u64 (next_u64 r).1).0 pair new) p0 (subst (λ x. IsStep n mid a x pair new) (q0 ∙ ap (λ t. (next_u64 t).0) p1) st) in
      let last : r2 ≡ (next_u64 (next_u64 r).1).1 = q1 ∙ ap (λ t. (next_u64 t).1) p1 in
      rw (ae, last) (evicts_push n old mid new pairs pair s r e one)
