-- Two levels, of which the higher has the sums of blocks of the lower.
use Rattle.std.proofs.Common.{◌≡◌, ◌≢◌, ℕ, zero, suc, ◌+◌, ◌*◌, ◌/◌, ◌≤◌, ◌<◌, List, refl, ap, ◌∙◌, arith, length, set, sum, inl, inr}
use Rattle.std.proofs.lemmas.Bool.{cases_lt, cases_order}
use Rattle.std.proofs.lemmas.Grind.{get_or-set_at}
use Rattle.std.proofs.lemmas.List.{length-set, get_or-set_other}
use Rattle.curve_sums.specs.Levels.{AreBlockSums}
use Rattle.curve_sums.proofs.Fronts.{at, front, front-next, front-le, number-le, front-all, front-before, front-changed, at-past}

module _ (below above : List ℕ) (s : AreBlockSums below above) where
  -- whole blocks
  pub blocks-front : (b : ℕ) → front below (64 * b) ≡ front above b
  blocks-front zero = refl
  blocks-front (suc b) =
      let more = blocks-front b in
      let one = s.blocks b in
      let next = front-next above b in
      let e : suc b ≡ b + 1 = omega arith in
      let f : front below (64 * suc b) ≡ front below (64 * (b + 1)) = ap (λ (n : ℕ). front below (64 * n)) e in
      let g : front above (suc b) ≡ front above (b + 1) = ap (front above) e in
      omega (arith, more, one, next, f, g)

  pub same-sum : sum above ≡ sum below
  same-sum =
      let a = blocks-front (length above) in
      let b = front-all above (length above) (omega arith) in
      let c = front-all below (64 * length above) (omega (arith, s.enough)) in
      omega (arith, a, b, c)

  -- a block that has a number
  pub block-within : (i : ℕ) → i < length below → i / 64 < length above
  block-within i l = omega (arith, s.enough)

  -- a block whose sum isn't 0
  pub block-begins : (b : ℕ) → 0 < at above b → 64 * b < length below
  block-begins b p = elim (cases_lt (64 * b) (length below)) [
    | inl l ↦ l
    | inr l ↦ absurd (
        let one = s.blocks b in
        let a = front-all below (64 * b) l in
        let c = front-all below (64 * (b + 1)) (omega (arith, l)) in
        omega (arith, one, a, c, p))
  ]

  -- the first block whose sum isn't 0 begins where all before are 0
  pub descends : (b : ℕ) → (b < length above) × (front above b ≡ 0) × (0 < at above b) → (64 * b < length below) × (front below (64 * b) ≡ 0)
  descends b h = (block-begins b h.2, blocks-front b ∙ h.1)

  -- a number is within its block's sum
  pub number-in-block : (i : ℕ) → at below i ≤ at above (i / 64)
  number-in-block i =
      let b = i / 64 in
      let one = s.blocks b in
      let a = front-le below (64 * b) i (omega arith) in
      let c = number-le below i (64 * (b + 1)) (omega arith) in
      omega (arith, one, a, c)

  -- a number changes, and its block's sum
  pub blocks-changed : (i v w : ℕ) → i < length below → w + at below i ≡ at above (i / 64) + v → AreBlockSums (set below i v) (set above (i / 64) w)
  blocks-changed i v w l e = record {
    enough = simp length-set s.enough;
    blocks = λ b. elim (cases_order b (i / 64)) [
      | inl q ↦
          let one = s.blocks b in
          let f = front-before below i v (64 * b) (omega (arith, q)) in
          let g = front-changed below i v (64 * (b + 1)) l (omega (arith, q)) in
          let h : at (set above (i / 64) w) b ≡ w = get_or-set_at above (i / 64) b w 0 q (block-within i l) in
          let k : at above b ≡ at above (i / 64) = ap (at above) q in
          omega (arith, e, one, f, g, h, k)
      | inr (inl q) ↦
          let one = s.blocks b in
          let f = front-before below i v (64 * b) (omega (arith, q)) in
          let g = front-before below i v (64 * (b + 1)) (omega (arith, q)) in
          let ne : b ≢ i / 64 = omega (arith, q) in
          let h : at (set above (i / 64) w) b ≡ at above b = get_or-set_other above (i / 64) b w 0 ne in
          omega (arith, one, f, g, h)
      | inr (inr q) ↦
          let one = s.blocks b in
          let f = front-changed below i v (64 * b) l (omega (arith, q)) in
          let g = front-changed below i v (64 * (b + 1)) l (omega (arith, q)) in
          let ne : b ≢ i / 64 = omega (arith, q) in
          let h : at (set above (i / 64) w) b ≡ at above b = get_or-set_other above (i / 64) b w 0 ne in
          omega (arith, one, f, g, h)
    ];
  }

-- numbers and levels that were summed one block after another
pub blocks-made : (below above : List ℕ) → length above ≡ length below / 64 + 1
    → ((b : ℕ) → b < length above → front below (64 * b) + at above b ≡ front below (64 * (b + 1))) → AreBlockSums below above
blocks-made below above n h = record {
  enough = omega (arith, n);
  blocks = λ b. elim (cases_lt b (length above)) [
    | inl l ↦ h b l
    | inr l ↦
        let a = front-all below (64 * b) (omega (arith, n, l)) in
        let c = front-all below (64 * (b + 1)) (omega (arith, n, l)) in
        let z = at-past above b l in
        omega (arith, a, c, z)
  ];
}
