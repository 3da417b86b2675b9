-- The first free number in its turn.
use Rattle.std.proofs.Common.{◌≡◌, ℕ, ◌+◌, ◌-◌, ◌%◌, ◌^◌, ◌<◌, ◌≤◌, inl, inr, cond, Option, Some, None, sym, ap, ◌∙◌, arith, lt-ltb, le-ltb}
use Rattle.std.proofs.lemmas.Bool.{cases_lt}
use Rattle.std.proofs.Math.Nat.{mod-le, mod-mod}
use Rattle.std.specs.Prelude.{List, IfNone}
use Rattle.cache_entries.specs.declared.entry.CacheEntryKey.{CacheEntryKey}
use Rattle.lru_numbers.specs.Names.{name_at, turn, IsFirstFree, IsSpent}
use Rattle.lru_numbers.specs.Places.{IsPlaced, IsNextFree, HasNoneFree}
use Rattle.lru_numbers.proofs.PlaceLaws.{no_name, no_place}
use Rattle.lru_numbers.proofs.RestLaws.{one_rest}

turn_above : (hash k : ℕ) → hash ≤ k → turn hash k ≡ k
turn_above hash k h = ap (λ b. cond b (k + 2 ^ 64) k) (le-ltb k hash h)

turn_below : (hash k : ℕ) → k < hash → turn hash k ≡ k + 2 ^ 64
turn_below hash k h = ap (λ b. cond b (k + 2 ^ 64) k) (lt-ltb k hash h)

module _ {X : Type 0} (n : ℕ) (at : ℕ → Option X) (hash : ℕ) (fits : hash < 2 ^ 64) where
  pub first_above : (k : ℕ) → IsNextFree n at hash (2 ^ 64 - 1) k → IsFirstFree n at hash k
  first_above k h = record {
    free = h.free;
    rest = h.rest;
    below = omega (arith, h.below);
    first = λ j b r f. elim (cases_lt j hash) [
      | inl a ↦ rw (turn_above hash k h.above, turn_below hash j a) (omega (arith, h.below))
      | inr a ↦ rw (turn_above hash k h.above, turn_above hash j a) (elim (cases_lt j k) [ inl c ↦ absurd (h.least j a c r f) | inr c ↦ c ])
    ];
  }

  module _ (none : HasNoneFree n at hash (2 ^ 64 - 1)) where
    -- below the hash no number has its rest
    pub spent_low : 0 < n → hash < n → IsSpent n at hash
    spent_low p low j b r = elim (cases_lt j hash) [
      | inl a ↦ absurd (let s = one_rest n hash j (omega arith) (omega (arith, low)) (sym r) in omega (arith, s, a))
      | inr a ↦ none j a (omega (arith, b)) r
    ]

    module _ (high : n ≤ hash) where
      twice : hash % n % n ≡ hash % n
      twice = mod-mod hash n

      low_bound : (j : ℕ) → j % n ≡ hash % n → hash % n ≤ j
      low_bound j r = let m = mod-le j n in omega (arith, r, m)

      pub spent_high : 0 < n → HasNoneFree n at (hash % n) (hash - n) → IsSpent n at hash
      spent_high p low j b r = elim (cases_lt j hash) [
        | inl a ↦ elim (cases_lt (hash - n) j) [
          | inl c ↦ absurd (let s = one_rest n hash j (omega arith) (omega (arith, c, high)) (sym r) in omega (arith, s, a))
          | inr c ↦ low j (low_bound j r) c (r ∙ sym twice)
        ]
        | inr a ↦ none j a (omega (arith, b)) r
      ]

      pub first_below : (k : ℕ) → 0 < n → IsNextFree n at (hash % n) (hash - n) k → IsFirstFree n at hash k
      first_below k p h =
          let under : k < hash = omega (arith, h.below, high, p) in
          record {
            free = h.free;
            rest = h.rest ∙ twice;
            below = omega (arith, under, fits);
            first = λ j b r f. elim (cases_lt j hash) [
              | inl a ↦ rw (turn_below hash k under, turn_below hash j a) (elim (cases_lt j k) [ inl c ↦ absurd (h.least j (low_bound j r) c (r ∙ sym twice) f) | inr c ↦ omega (arith, c) ])
              | inr a ↦ absurd (none j a (omega (arith, b)) r f)
            ];
          }

-- what has no place has no name, so both have one first free number
module _ (n : ℕ) (at : ℕ → Option ℕ) (pairs : List (CacheEntryKey × ℕ)) (hash : ℕ) (h : IsPlaced at pairs) where
  pub first_named : (k : ℕ) → IsFirstFree n at hash k → IsFirstFree n (name_at pairs) hash k
  first_named k f = record { free = no_name at pairs h k f.free; rest = f.rest; below = f.below; first = λ j b r p. f.first j b r (no_place at pairs h j p) }

  pub spent_named : IsSpent n at hash → IsSpent n (name_at pairs) hash
  spent_named s j b r p = s j b r (no_place at pairs h j p)

pub none_below : {X : Type 0} (n : ℕ) (at : ℕ → Option X) (hash : ℕ) → hash < 2 ^ 64 → 0 < n → n ≤ hash → HasNoneFree n at hash (2 ^ 64 - 1) → (o : Option ℕ)
    → IfNone o (HasNoneFree n at (hash % n) (hash - n)) → IfNone o (IsSpent n at hash)
none_below n at hash fits p high none None low = spent_high n at hash fits none high p low
none_below n at hash fits p high none (Some k) low = tt
