-- A walk along the links from the front: after k steps it is at the k-th index, or at the sentinel after the last.
use Rattle.std.proofs.Common.{◌≡◌, ◌≢◌, ℕ, suc, true, false, ◌+◌, ◌<◌, ◌≤◌, inl, inr, List, [], ◌∷◌, ◌++◌, length, take, get_or, sym, ap, ◌∙◌, arith}
use Rattle.std.proofs.lemmas.Bool.{cases_eq, true≢false}
use Rattle.std.proofs.lemmas.List.{take_all, take_more, length-take, get_or_append_left, get_or_push, get_or-take}
use Rattle.lru_list.specs.Slots.{has}
use Rattle.lru_list.specs.Links.{IsChained}
use Rattle.lru_list.proofs.Indexes.{has_at, has_push_none}
use Rattle.lru_list.proofs.Chains.{next_at_place}
use Rattle.lru_list.proofs.Linked.{order_high}

module _ (N P is free : List ℕ) (w : IsChained N P is free []) where
  pub at_start : get_or N 0 0 ≡ get_or (is ++ 1 ∷ []) 0 0
  at_start = next_at_place N P is 0 1 0 w.linked (omega arith)

  -- the walk is at the sentinel just after the last
  pub at_end : (k : ℕ) → k ≤ length is → get_or (is ++ 1 ∷ []) k 0 ≡ 1 → k ≡ length is
  at_end k h e = elim (cases_eq k (length is)) [
    | inl s ↦ s
    | inr n ↦ absurd (
        let l : k < length is = omega arith in
        let m : get_or is k 0 ≡ 1 = sym (get_or_append_left is (1 ∷ []) 0 k l) ∙ e in
        true≢false (sym (has_at is k 0 l) ∙ (ap (has is) m ∙ order_high N P is free [] 1 w (omega arith))))
  ]

  pub at_item : (k : ℕ) → k ≤ length is → get_or (is ++ 1 ∷ []) k 0 ≢ 1 → (k < length is) × (get_or (is ++ 1 ∷ []) k 0 ≡ get_or is k 0)
  at_item k h n = elim (cases_eq k (length is)) [
    | inl s ↦ absurd (n (get_or_push is 1 0 k (sym s)))
    | inr d ↦ let l : k < length is = omega arith in (l, get_or_append_left is (1 ∷ []) 0 k l)
  ]

  pub at_next : (k : ℕ) → k < length is → get_or N (get_or is k 0) 0 ≡ get_or (is ++ 1 ∷ []) (suc k) 0
  at_next k l = rw (← get_or_append_left is (1 ∷ []) 0 k l) (next_at_place N P is 0 1 (suc k) w.linked (omega arith))

-- what is among the first is among more of them
pub has_take : (is : List ℕ) (k n i : ℕ) → k < n → k < length is → get_or is k 0 ≡ i → has (take n is) i ≡ true
has_take is k n i h l e =
    let m : k < length (take n is) = rw length-take (omega arith) in
    rw (← e, ← get_or-take n is k 0 h) (has_at (take n is) k 0 m)

pub has_take_more : (is : List ℕ) (k i : ℕ) → k < length is → has (take k is) i ≡ false → get_or is k 0 ≢ i → has (take (k + 1) is) i ≡ false
has_take_more is k i l h n = rw (take_more is k 0 l) (has_push_none (take k is) (get_or is k 0) i h n)

pub has_take_all : (is : List ℕ) (k n i : ℕ) → k ≡ length is → k ≤ n → has (take k is) i ≡ false → has (take n is) i ≡ false
has_take_all is k n i e h f = rw (take_all n is (omega arith)) (rw (take_all k is (omega arith)) at f)
