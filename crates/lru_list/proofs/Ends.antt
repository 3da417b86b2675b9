-- The two ends of a walk over an order, and what a step of either gives.
use Rattle.std.proofs.Common.{◌≡◌, ◌≢◌, ℕ, zero, suc, true, ◌+◌, ◌-◌, ◌<◌, List, [], ◌∷◌, ◌++◌, length, take, drop, get_or, sym, ap, refl, ◌∙◌, arith, Some, slice_get}
use Rattle.std.proofs.lemmas.List.{take_more, drop_more, get_or-drop, length-drop, get_or_append_left, get_or_push}
use Rattle.std.proofs.lemmas.List.Elements.{filter_map-append}
use Rattle.lru_list.specs.Slots.{has, listed, IsBetween}
use Rattle.lru_list.specs.Links.{IsChained}
use Rattle.lru_list.proofs.Indexes.{has_at, has_here, has_rest}
use Rattle.lru_list.proofs.Chains.{prev_at_place}

-- a list of the items that some indexes name, one index more in front
pub listed_first : {K : Type 0} → (items : List K) (i : ℕ) (is : List ℕ) (x : K) → slice_get items i ≡ Some x → listed items (i ∷ is) ≡ x ∷ listed items is
listed_first items i is x e = rw e refl

-- the same at the back
pub listed_last : {K : Type 0} → (items : List K) (i : ℕ) (is : List ℕ) (x : K) → slice_get items i ≡ Some x → listed items (is ++ i ∷ []) ≡ listed items is ++ x ∷ []
listed_last items i is x e = filter_map-append (slice_get items) is (i ∷ []) ∙ ap (λ r. listed items is ++ r) (listed_first items i [] x e)

-- an index within a list has an item
has_item : {K : Type 0} → (items : List K) (i : ℕ) → i < length items → (x : K) × (slice_get items i ≡ Some x)
has_item [] i l = absurd (omega arith)
has_item (x ∷ items) zero l = (x, refl)
has_item (x ∷ items) (suc i) l = has_item items i (omega arith)

-- where each index has an item, there are as many of both
pub length-listed : {K : Type 0} → (items : List K) (is : List ℕ) → ((i : ℕ) → has is i ≡ true → i < length items) → length (listed items is) ≡ length is
length-listed items [] w = refl
length-listed items (i ∷ is) w =
    let x = has_item items i (w i (has_here i is)) in
    ap length (listed_first items i is x.0 x.1) ∙ ap suc (length-listed items is (λ j h. w j (has_rest i is j h)))

module _ (is : List ℕ) (front back from left : ℕ) (b : IsBetween is front back from left) (n : left ≢ 0) where
  pub front_place : (from < length is) × (get_or is from 0 ≡ front)
  front_place =
      let w = b.within in
      let l : from < length is = omega (arith, n) in
      (l, sym (b.first ∙ get_or_append_left is (1 ∷ []) 0 from l))

  pub back_place : (from + (left - 1) < length is) × (get_or is (from + (left - 1)) 0 ≡ back)
  back_place =
      let w = b.within in
      let l : from + (left - 1) < length is = omega (arith, n) in
      let e : from + left ≡ suc (from + (left - 1)) = omega (arith, n) in
      (l, sym (rw e at b.last))

  pub front_has : has is front ≡ true
  front_has = rw (front_place.1) at (has_at is from 0 front_place.0)

  pub back_has : has is back ≡ true
  back_has = rw (back_place.1) at (has_at is (from + (left - 1)) 0 back_place.0)

  pub front_gives : {K : Type 0} → (items : List K) (x : K) → slice_get items front ≡ Some x → listed items (take left (drop from is)) ≡ x ∷ listed items (take (left - 1) (drop (from + 1) is))
  front_gives items x h =
      let e : left ≡ suc (left - 1) = omega (arith, n) in
      let d : take left (drop from is) ≡ front ∷ take (left - 1) (drop (from + 1) is) =
      ap (λ k. take k (drop from is)) e ∙ ap (take (suc (left - 1))) (drop_more is from 0 front_place.0 ∙ ap (λ i. i ∷ drop (from + 1) is) front_place.1) in
      ap (listed items) d ∙ listed_first items front (take (left - 1) (drop (from + 1) is)) x h

  pub back_gives : {K : Type 0} → (items : List K) (x : K) → slice_get items back ≡ Some x → listed items (take left (drop from is)) ≡ listed items (take (left - 1) (drop from is)) ++ x ∷ []
  back_gives items x h =
      let w = b.within in
      let e : left ≡ left - 1 + 1 = omega (arith, n) in
      let l : left - 1 < length (drop from is) = rw length-drop (omega (arith, n)) in
      let d : take left (drop from is) ≡ take (left - 1) (drop from is) ++ back ∷ [] =
      ap (λ k. take k (drop from is)) e ∙ take_more (drop from is) (left - 1) 0 l ∙ ap (λ i. take (left - 1) (drop from is) ++ i ∷ []) (get_or-drop from is (left - 1) 0 ∙ back_place.1) in
      ap (listed items) d ∙ listed_last items back (take (left - 1) (drop from is)) x h

  -- the ends after a step of the front
  pub front_moves : (i : ℕ) → ((k : ℕ) → k < length is → get_or is k 0 ≡ front → i ≡ get_or (is ++ 1 ∷ []) (k + 1) 0) → IsBetween is i back (from + 1) (left - 1)
  front_moves i h =
      let w = b.within in
      let s = b.small in
      let e : from + 1 + (left - 1) ≡ from + left = omega (arith, n) in
      record { within = omega (arith, n); small = omega (arith, n); first = h from front_place.0 front_place.1; last = rw e b.last }

  -- and after one of the back
  pub back_moves : (i : ℕ) → ((k : ℕ) → k < length is → get_or is k 0 ≡ back → i ≡ get_or (0 ∷ is) k 0) → IsBetween is front i from (left - 1)
  back_moves i h =
      let w = b.within in
      let s = b.small in
      record { within = omega (arith, n); small = omega (arith, n); first = b.first; last = h (from + (left - 1)) back_place.0 back_place.1 }

-- the index before the sentinel after the last
pub at_back : (N P is free : List ℕ) → IsChained N P is free [] → get_or P 1 0 ≡ get_or (0 ∷ is) (0 + length is) 0
at_back N P is free w =
    let e = prev_at_place N P is 0 1 (length is) w.linked (omega arith) in
    let l : length is < length (0 ∷ is) = omega arith in
    let z : 0 + length is ≡ length is = omega arith in
    rw z ((rw (get_or_push is 1 0 (length is) refl) at e) ∙ get_or_append_left (0 ∷ is) (1 ∷ []) 0 (length is) l)

-- a link back by the places of the items alone
pub at_previous : (N P is free : List ℕ) (k : ℕ) → IsChained N P is free [] → k < length is → get_or P (get_or is k 0) 0 ≡ get_or (0 ∷ is) k 0
at_previous N P is free k w l =
    let m : k < length (0 ∷ is) = omega arith in
    rw (← get_or_append_left is (1 ∷ []) 0 k l) (prev_at_place N P is 0 1 k w.linked (omega arith)) ∙ get_or_append_left (0 ∷ is) (1 ∷ []) 0 k m
