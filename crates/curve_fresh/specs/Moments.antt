-- Moments and lifetimes of requests, the latest first.
use Rattle.std.specs.Prelude.{◌≡◌, ℕ, ◌≤◌, List, [], ◌∷◌}
use Rattle.curve_fresh.specs.Fresh.{Timed, asks, removes}

-- each request that asks has this lifetime
abbrev pub HasLifetime : ℕ → List Timed → Type 0
HasLifetime lifetime [] = Unit {0}
HasLifetime lifetime (asks e m l ∷ before) = (l ≡ lifetime) × HasLifetime lifetime before
HasLifetime lifetime (removes e ∷ before) = HasLifetime lifetime before

-- no request came after a moment
abbrev pub AreUpTo : ℕ → List Timed → Type 0
AreUpTo moment [] = Unit {0}
AreUpTo moment (asks e m l ∷ before) = (m ≤ moment) × AreUpTo moment before
AreUpTo moment (removes e ∷ before) = AreUpTo moment before

-- moments don't go back
abbrev pub AreInOrder : List Timed → Type 0
AreInOrder [] = Unit {0}
AreInOrder (asks e m l ∷ before) = AreUpTo m before × AreInOrder before
AreInOrder (removes e ∷ before) = AreInOrder before
