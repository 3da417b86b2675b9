-- What exceeds limits exceeds them with more, and exceeds lesser ones.
use Rattle.std.proofs.Common.{◌≡◌, ℕ, ◌+◌, ◌≤◌, true, false, ltb, List, [], ◌∷◌, length, Option, Some, None, refl, sym, ◌∙◌, inl, inr, arith}
use Rattle.std.proofs.lemmas.Bool.{true≢false, false≢true, ltb-true, lt-ltb, le-ltb, or_cases, or_from, or_left, or_right, false_from_ne_true}
use Rattle.std.proofs.lemmas.List.Sums.{sum_by-cons}
use Rattle.cache_entries.specs.declared.rows.Tracked.{Tracked}
use Rattle.cache_entries.specs.Rows.{all_weights, is_over}
use Rattle.curve_loads.specs.Steps.{passes, exceeds}
use Rattle.curve_loads.specs.Finds.{IsAtMost}

more-ltb : (m a b : ℕ) → a ≤ b → ltb m a ≡ true → ltb m b ≡ true
more-ltb m a b h t = let u = ltb-true m a t in lt-ltb m b (omega (arith, u, h))

more-passes : (watermark : Option ℕ) (n n' : ℕ) → n ≤ n' → passes watermark n ≡ true → passes watermark n' ≡ true
more-passes None n n' h t = t
more-passes (Some mark) n n' h t = more-ltb mark n n' h t

pub more-exceeds : (limit : ℕ) (watermark : Option ℕ) (w w' n n' : ℕ) → w ≤ w' → n ≤ n' → exceeds limit watermark w n ≡ true → exceeds limit watermark w' n' ≡ true
more-exceeds limit watermark w w' n n' u v h = elim (or_cases (ltb limit w) (passes watermark n) h) [
  | inl a ↦ or_left (ltb limit w') (passes watermark n') (more-ltb limit w w' u a)
  | inr b ↦ or_right (ltb limit w') (passes watermark n') (more-passes watermark n n' v b)
]

pub less-exceeds : (limit : ℕ) (watermark : Option ℕ) (w w' n n' : ℕ) → w ≤ w' → n ≤ n' → exceeds limit watermark w' n' ≡ false → exceeds limit watermark w n ≡ false
less-exceeds limit watermark w w' n n' u v h = false_from_ne_true (exceeds limit watermark w n) (λ t. true≢false (sym (more-exceeds limit watermark w w' n n' u v t) ∙ h))

less-ltb : (m m' a : ℕ) → m ≤ m' → ltb m' a ≡ true → ltb m a ≡ true
less-ltb m m' a h t = let u = ltb-true m' a t in lt-ltb m a (omega (arith, u, h))

at_most-passes : (less more : Option ℕ) (n : ℕ) → IsAtMost less more → passes more n ≡ true → passes less n ≡ true
at_most-passes less None n h t = absurd (false≢true t)
at_most-passes None (Some more) n h t = absurd h
at_most-passes (Some less) (Some more) n h t = less-ltb less more n h t

-- what exceeds the greater limits exceeds the lesser
pub at_most-exceeds : (limit limit' : ℕ) (watermark watermark' : Option ℕ) (w n : ℕ) → limit ≤ limit' → IsAtMost watermark watermark' → exceeds limit' watermark' w n ≡ true
    → exceeds limit watermark w n ≡ true
at_most-exceeds limit limit' watermark watermark' w n l m h = elim (or_cases (ltb limit' w) (passes watermark' n) h) [
  | inl a ↦ or_left (ltb limit w) (passes watermark n) (less-ltb limit limit' w l a)
  | inr b ↦ or_right (ltb limit w) (passes watermark n) (at_most-passes watermark watermark' n m b)
]

passes-nothing : (watermark : Option ℕ) → passes watermark 0 ≡ false
passes-nothing None = refl
passes-nothing (Some mark) = le-ltb mark 0 (omega arith)

pub nothing-exceeds : (limit : ℕ) (watermark : Option ℕ) → exceeds limit watermark 0 0 ≡ false
nothing-exceeds limit watermark = or_from (ltb limit 0) (passes watermark 0) (le-ltb limit 0 (omega arith)) (passes-nothing watermark)

-- ---- rows after others

pub weights-cons : (r : Tracked) (rows : List Tracked) → all_weights (r ∷ rows) ≡ r.weight + all_weights rows
weights-cons r rows = sum_by-cons (λ (x : Tracked). x.weight) r rows

weighs-nil : (w : ℕ) → w + all_weights [] ≡ w
weighs-nil w = omega arith

counts-nil : (n : ℕ) → n + length {A = Tracked} [] ≡ n
counts-nil n = omega arith

weighs-cons : (w : ℕ) (r : Tracked) (rows : List Tracked) → w + all_weights (r ∷ rows) ≡ w + r.weight + all_weights rows
weighs-cons w r rows = let c = weights-cons r rows in omega (arith, c)

counts-cons : (n : ℕ) (r : Tracked) (rows : List Tracked) → n + length (r ∷ rows) ≡ n + 1 + length rows
counts-cons n r rows = omega arith

pub exceeds-nil : (limit : ℕ) (watermark : Option ℕ) (w n : ℕ) → exceeds limit watermark (w + all_weights []) (n + length {A = Tracked} []) ≡ exceeds limit watermark w n
exceeds-nil limit watermark w n = λ i. exceeds limit watermark (weighs-nil w i) (counts-nil n i)

pub exceeds-cons : (limit : ℕ) (watermark : Option ℕ) (w n : ℕ) (r : Tracked) (rows : List Tracked)
    → exceeds limit watermark (w + all_weights (r ∷ rows)) (n + length (r ∷ rows)) ≡ exceeds limit watermark (w + r.weight + all_weights rows) (n + 1 + length rows)
exceeds-cons limit watermark w n r rows = λ i. exceeds limit watermark (weighs-cons w r rows i) (counts-cons n r rows i)

from_zero : (n : ℕ) → 0 + n ≡ n
from_zero n = omega arith

pub exceeds-first : (limit : ℕ) (watermark : Option ℕ) (rows : List Tracked) → exceeds limit watermark (0 + all_weights rows) (0 + length rows) ≡ is_over limit watermark rows
exceeds-first limit watermark rows = λ i. exceeds limit watermark (from_zero (all_weights rows) i) (from_zero (length rows) i)
