-- All levels.
use Rattle.std.proofs.Common.{◌≡◌, ℕ, ◌+◌, ◌-◌, ◌*◌, ◌/◌, ◌≤◌, ◌<◌, List, arith, length, set, sum}
use Rattle.std.proofs.lemmas.List.Sums.{sum_by-set, get_or-le-sum_by}
use Rattle.curve_sums.specs.Levels.{AreLevels}
use Rattle.curve_sums.proofs.Fronts.{at, number, front, front-le, front-within}
use Rattle.curve_sums.proofs.Blocks.{blocks-front, same-sum, block-within, number-in-block, blocks-changed}

module _ (cells blocks seconds thirds fourths : List ℕ) (total : ℕ) (a : AreLevels cells blocks seconds thirds fourths total) where
  pub record Totals : Type 0 where
    pub one : sum blocks ≡ total
    pub two : sum seconds ≡ total
    pub three : sum thirds ≡ total
    pub four : sum fourths ≡ total

  pub totals : Totals
  totals =
      let one = same-sum cells blocks a.first in
      let two = same-sum blocks seconds a.second in
      let three = same-sum seconds thirds a.third in
      let four = same-sum thirds fourths a.fourth in
      record {
        one = omega (arith, one, a.all);
        two = omega (arith, one, two, a.all);
        three = omega (arith, one, two, three, a.all);
        four = omega (arith, one, two, three, four, a.all);
      }

  pub record Enough (i less : ℕ) : Type 0 where
    pub one : less ≤ at blocks (i / 64)
    pub two : less ≤ at seconds (i / 64 / 64)
    pub three : less ≤ at thirds (i / 64 / 64 / 64)
    pub four : less ≤ at fourths (i / 64 / 64 / 64 / 64)

  pub enough : (i less : ℕ) → less ≤ at cells i → Enough i less
  enough i less l =
      let one = number-in-block cells blocks a.first i in
      let two = number-in-block blocks seconds a.second (i / 64) in
      let three = number-in-block seconds thirds a.third (i / 64 / 64) in
      let four = number-in-block thirds fourths a.fourth (i / 64 / 64 / 64) in
      record {
        one = omega (arith, one, l);
        two = omega (arith, one, two, l);
        three = omega (arith, one, two, three, l);
        four = omega (arith, one, two, three, four, l);
      }

  -- a number changes, and the sums of its blocks
  changed : (i v w x y z t : ℕ) → i < length cells → w + at cells i ≡ at blocks (i / 64) + v → x + at blocks (i / 64) ≡ at seconds (i / 64 / 64) + w
      → y + at seconds (i / 64 / 64) ≡ at thirds (i / 64 / 64 / 64) + x → z + at thirds (i / 64 / 64 / 64) ≡ at fourths (i / 64 / 64 / 64 / 64) + y → t + at cells i ≡ total + v
      → AreLevels (set cells i v) (set blocks (i / 64) w) (set seconds (i / 64 / 64) x) (set thirds (i / 64 / 64 / 64) y) (set fourths (i / 64 / 64 / 64 / 64) z) t
  changed i v w x y z t l one two three four all =
      let k = block-within cells blocks a.first i l in
      let m = block-within blocks seconds a.second (i / 64) k in
      let n = block-within seconds thirds a.third (i / 64 / 64) m in
      let s = sum_by-set number cells i v 0 l in
      record {
        first = blocks-changed cells blocks a.first i v w l one;
        second = blocks-changed blocks seconds a.second (i / 64) w x k two;
        third = blocks-changed seconds thirds a.third (i / 64 / 64) x y m three;
        fourth = blocks-changed thirds fourths a.fourth (i / 64 / 64 / 64) y z n four;
        all = omega (arith, s, all, a.all);
      }

  pub raised : (i d : ℕ) → i < length cells
      → AreLevels (set cells i (at cells i + d)) (set blocks (i / 64) (at blocks (i / 64) + d)) (set seconds (i / 64 / 64) (at seconds (i / 64 / 64) + d))
      (set thirds (i / 64 / 64 / 64) (at thirds (i / 64 / 64 / 64) + d)) (set fourths (i / 64 / 64 / 64 / 64) (at fourths (i / 64 / 64 / 64 / 64) + d)) (total + d)
  raised i d l = changed i (at cells i + d) (at blocks (i / 64) + d) (at seconds (i / 64 / 64) + d) (at thirds (i / 64 / 64 / 64) + d) (at fourths (i / 64 / 64 / 64 / 64) + d) (total + d) l (omega arith) (omega arith) (omega arith) (omega arith) (omega arith)

  pub lowered : (i d : ℕ) → i < length cells → d ≤ at cells i
      → AreLevels (set cells i (at cells i - d)) (set blocks (i / 64) (at blocks (i / 64) - d)) (set seconds (i / 64 / 64) (at seconds (i / 64 / 64) - d))
      (set thirds (i / 64 / 64 / 64) (at thirds (i / 64 / 64 / 64) - d)) (set fourths (i / 64 / 64 / 64 / 64) (at fourths (i / 64 / 64 / 64 / 64) - d)) (total - d)
  lowered i d l m =
      let e = enough i d m in
      let k = get_or-le-sum_by number cells i 0 l in
      let t : d ≤ total = omega (arith, k, m, a.all) in
      changed i (at cells i - d) (at blocks (i / 64) - d) (at seconds (i / 64 / 64) - d) (at thirds (i / 64 / 64 / 64) - d) (at fourths (i / 64 / 64 / 64 / 64) - d) (total - d) l (omega (arith, m, e.one)) (omega (arith, e.one, e.two)) (omega (arith, e.two, e.three)) (omega (arith, e.three, e.four)) (omega (arith, m, t))

  -- the sums of fronts that end with a block
  pub record Fronts (i : ℕ) : Type 0 where
    pub one : front cells (64 * (i / 64)) ≡ front blocks (i / 64)
    pub two : front blocks (64 * (i / 64 / 64)) ≡ front seconds (i / 64 / 64)
    pub three : front seconds (64 * (i / 64 / 64 / 64)) ≡ front thirds (i / 64 / 64 / 64)
    pub four : front thirds (64 * (i / 64 / 64 / 64 / 64)) ≡ front fourths (i / 64 / 64 / 64 / 64)
    pub most : front cells (i + 1) ≤ total
    pub least : front cells (64 * (i / 64)) ≤ front cells (i + 1)
    pub second : front blocks (64 * (i / 64 / 64)) ≤ front blocks (i / 64)
    pub third : front seconds (64 * (i / 64 / 64 / 64)) ≤ front seconds (i / 64 / 64)
    pub fourth : front thirds (64 * (i / 64 / 64 / 64 / 64)) ≤ front thirds (i / 64 / 64 / 64)

  pub fronts : (i : ℕ) → Fronts i
  fronts i =
      let k = front-within cells (i + 1) in
      record {
        one = blocks-front cells blocks a.first (i / 64);
        two = blocks-front blocks seconds a.second (i / 64 / 64);
        three = blocks-front seconds thirds a.third (i / 64 / 64 / 64);
        four = blocks-front thirds fourths a.fourth (i / 64 / 64 / 64 / 64);
        most = omega (arith, k, a.all);
        least = front-le cells (64 * (i / 64)) (i + 1) (omega arith);
        second = front-le blocks (64 * (i / 64 / 64)) (i / 64) (omega arith);
        third = front-le seconds (64 * (i / 64 / 64 / 64)) (i / 64 / 64) (omega arith);
        fourth = front-le thirds (64 * (i / 64 / 64 / 64 / 64)) (i / 64 / 64 / 64) (omega arith);
      }
