-- What is at a place of a list after a write or a push.
use Rattle.std.proofs.Common.{◌≡◌, ◌≢◌, ℕ, zero, suc, Bool, false, ◌+◌, ◌-◌, ◌<◌, take, List, [], ◌∷◌, ◌++◌, length, set, refl, ap, arith, Some, slice_get}
use Rattle.std.specs.List.{list_any}

pub slice_get-set_same : {X : Type 0} → (xs : List X) (i : ℕ) (a : X) → i < length xs → slice_get (set xs i a) i ≡ Some a
slice_get-set_same [] i a h = absurd (omega arith)
slice_get-set_same (x ∷ xs) zero a h = refl
slice_get-set_same (x ∷ xs) (suc i) a h = slice_get-set_same xs i a (omega arith)

pub slice_get-set_other : {X : Type 0} → (xs : List X) (i j : ℕ) (a : X) → j ≢ i → slice_get (set xs i a) j ≡ slice_get xs j
slice_get-set_other [] i j a n = refl
slice_get-set_other (x ∷ xs) zero zero a n = absurd (n refl)
slice_get-set_other (x ∷ xs) zero (suc j) a n = refl
slice_get-set_other (x ∷ xs) (suc i) zero a n = refl
slice_get-set_other (x ∷ xs) (suc i) (suc j) a n = slice_get-set_other xs i j a (λ e. n (ap suc e))

pub slice_get-append_left : {X : Type 0} → (xs ys : List X) (j : ℕ) → j < length xs → slice_get (xs ++ ys) j ≡ slice_get xs j
slice_get-append_left [] ys j h = absurd (omega arith)
slice_get-append_left (x ∷ xs) ys zero h = refl
slice_get-append_left (x ∷ xs) ys (suc j) h = slice_get-append_left xs ys j (omega arith)

pub slice_get_push : {X : Type 0} → (xs : List X) (a : X) → slice_get (xs ++ a ∷ []) (length xs) ≡ Some a
slice_get_push [] a = refl
slice_get_push (x ∷ xs) a = slice_get_push xs a

-- what a slot that was taken holds, and what the others hold: it is the one that was freed last, or a new one
pub taken_here : {X : Type 0} → (items now : List X) (free left : List ℕ) (i : ℕ) (a : X) (A B : Type 0) → ((0 < length free) → i < length items)
    → (0 < length free → A × (now ≡ set items i a)) → (free ≡ [] → (i ≡ length items) × B × (now ≡ items ++ a ∷ [])) → slice_get now i ≡ Some a
taken_here items now [] left i a A B w r m = let t = m refl in rw (t.2, t.0) (slice_get_push items a)
taken_here items now (x ∷ xs) left i a A B w r m = let t = r (omega arith) in rw t.1 (slice_get-set_same items i a (w (omega arith)))

pub taken_other : {X : Type 0} → (items now : List X) (free left : List ℕ) (i j : ℕ) (a : X) (A B : Type 0) → j ≢ i → j < length items
    → (0 < length free → A × (now ≡ set items i a)) → (free ≡ [] → (i ≡ length items) × B × (now ≡ items ++ a ∷ [])) → slice_get now j ≡ slice_get items j
taken_other items now [] left i j a A B n h r m = let t = m refl in rw t.2 (slice_get-append_left items (a ∷ []) j h)
taken_other items now (x ∷ xs) left i j a A B n h r m = let t = r (omega arith) in rw t.1 (slice_get-set_other items i j a n)

-- a search among the first that has passed one item more
pub any_rest : {X : Type 0} → (p : X → Bool) (xs ys : List X) (x : X) (n k : ℕ) → k < n → xs ≡ x ∷ ys → p x ≡ false → list_any p (take (n - k) xs) ≡ list_any p (take (n - (k + 1)) ys)
any_rest p xs ys x n k l e f =
    let m : n - k ≡ suc (n - (k + 1)) = omega arith in
    rw (e, m, f) refl
