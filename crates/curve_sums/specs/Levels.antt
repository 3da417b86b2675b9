-- Levels of sums: the lowest has the numbers, and each above it the sums of blocks of 64 numbers of the one below.
use Rattle.std.specs.Prelude.{◌≡◌, ℕ, ◌+◌, ◌*◌, ◌≤◌, List, length, sum, take, slice_index}

-- Each number above is the sum of a block below: what the front of all blocks before it lacks to the front with it.
pub record AreBlockSums (below above : List ℕ) : Type 0 where
  pub enough : length below ≤ 64 * length above
  pub blocks : (b : ℕ) → sum (take (64 * b) below) + slice_index above b ≡ sum (take (64 * (b + 1)) below)

pub record AreLevels (cells blocks seconds thirds fourths : List ℕ) (total : ℕ) : Type 0 where
  pub first : AreBlockSums cells blocks
  pub second : AreBlockSums blocks seconds
  pub third : AreBlockSums seconds thirds
  pub fourth : AreBlockSums thirds fourths
  pub all : sum cells ≡ total
