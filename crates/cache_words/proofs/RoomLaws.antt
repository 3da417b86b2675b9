-- How much room the shortest forms want.
use Rattle.std.proofs.Common.{ℕ, ◌<◌, ◌≤◌, length, arith, inl, inr}
use Rattle.std.proofs.lemmas.Bool.{cases_lt, lt-ltb, le-ltb}
use Rattle.cache_words.specs.Forms.{shortest, numbers}

pub byte_room : (b : ℕ) → b < 256 → length (shortest numbers b) ≤ 2
byte_room b lt =
    elim (cases_lt b 128) [
      | inl small ↦ rw (lt-ltb b 128 small) (omega arith)
      | inr great ↦ rw (le-ltb b 128 great, lt-ltb b 256 lt) (omega arith)
    ]
