-- The alive writes in flight, by stored key.
use Rattle.std.specs.Prelude.{ℕ, ◌==◌, Bool, false, ◌&&◌, List, Option, Some, None, nat_eq}
use Rattle.std.specs.Ordering.{nat_cmp}
use Rattle.std.specs.Cmp.Lexicographic.{pointwise}
use Rattle.std.specs.HashMap as hash
use Rattle.std.specs.HashMap.{HashMap}
use Rattle.std.specs.BTreeSet as sorted
use Rattle.store_memory.specs.declared.alive.numbers.Numbers.{Numbers}
use Rattle.store_memory.specs.declared.alive.numbers.Numbers.TheVariants.{One, Several}

abbrev pub is_among : Numbers → ℕ → Bool
is_among (One m) n = m == n
is_among (Several s) n = sorted.contains nat_cmp s n

-- the numbers, if there are some, have n
abbrev pub is_in : Option Numbers → ℕ → Bool
is_in None n = false
is_in (Some s) n = is_among s n

-- the number n is among those of k
abbrev pub has : {S : Type 0} → HashMap (List ℕ) Numbers S → List ℕ → ℕ → Bool
has m k n = is_in (hash.get (pointwise nat_eq) m k) n

-- it is the number n of the key k
abbrev pub is_pair : List ℕ → ℕ → List ℕ → ℕ → Bool
is_pair k n j m = pointwise nat_eq k j && (n == m)
