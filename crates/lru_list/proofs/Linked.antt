-- What each change of the links leaves of the whole. N and P are the columns of links before it.
use Rattle.std.proofs.Common.{◌≡◌, ◌≢◌, ℕ, true, false, ◌+◌, ◌-◌, ◌^◌, ◌<◌, ◌≤◌, inl, inr, List, [], ◌∷◌, ◌++◌, length, get_or, set, sym, refl, ap, ◌∙◌, arith, get_or-set_same, get_or-set_other, length-set, not, eqb}
use Rattle.std.proofs.lemmas.Bool.{cases_eq, true≢false, false≢true, eqb-false, ne_eqb, not-true}
use Rattle.std.proofs.lemmas.List.{length_push, get_or_append_left}
use Rattle.std.specs.List.{All}
use Rattle.lru_list.specs.Slots.{has, without}
use Rattle.lru_list.specs.Links.{IsChained, order_of}
use Rattle.lru_list.proofs.Indexes.{has_at, has_here, has_rest, has_cases, has_none, has_apart, has_more, has_push_cases, has_push_here, has_left, has-without_same, has-without_other, Apart-without, Apart_push, Apart_front, length-without}
use Rattle.lru_list.proofs.Chains.{walk_is, frame, rehead, retail, first_in, last_in, prev_in, next_in, chain_push, unlink}

-- the links give the order back
pub settled : (N P is free : List ℕ) → IsChained N P is free [] → order_of N (length free) ≡ is
settled N P is free w =
    let e : length N - 2 - length free ≡ length is = omega (arith, w.counted) in
    rw e (walk_is N P is 0 1 w.linked)

-- what is held is not below 2, and what is in the order neither
pub order_high : (N P is free held : List ℕ) (i : ℕ) → IsChained N P is free held → i < 2 → has is i ≡ false
order_high N P is free held i w h = elim (has is i) as (λ b. has is i ≡ b → b ≡ false) [
  | true ↦ λ e. absurd (let k = (w.within i e).0 in omega arith)
  | false ↦ λ e. refl
] refl

-- a freed slot is not in the order
pub free_not_live : (N P is free held : List ℕ) (i : ℕ) → IsChained N P is free held → has free i ≡ true → has is i ≡ false
free_not_live N P is free held i w h = elim (has is i) as (λ b. has is i ≡ b → b ≡ false) [
  | true ↦ λ e. absurd (
      let f = w.freed i h in
      elim (next_in N P is 0 1 i w.linked e) [
        | inl one ↦ let k : 2 ^ 32 - 1 ≡ 1 = sym f.2 ∙ one in omega arith
        | inr r ↦ let k = (w.within (get_or N i 0) r).1 in let s = w.small in let m = f.2 in omega arith
      ])
  | false ↦ λ e. refl
] refl

-- the neighbours of an index of the order are slots, and none that is outside of the order
module _ (N P is free held : List ℕ) (w : IsChained N P is free held) where
  pub head_within : get_or N 0 0 < length N
  head_within = elim (first_in N P is 0 1 w.linked) [
    | inl e ↦ let c = w.counted in rw e (omega arith)
    | inr r ↦ (w.within (get_or N 0 0) r).1
  ]

  pub tail_within : get_or P 1 0 < length N
  tail_within = elim (has_cases 0 is (get_or P 1 0) (last_in N P is 0 1 w.linked)) [
    | inl z ↦ let c = w.counted in rw (← z) (omega arith)
    | inr k ↦ (w.within (get_or P 1 0) k).1
  ]

  pub prev_within : (i : ℕ) → has is i ≡ true → get_or P i 0 < length N
  prev_within i h = elim (has_cases 0 is (get_or P i 0) (prev_in N P is 0 1 i w.linked h)) [
    | inl z ↦ let c = w.counted in rw (← z) (omega arith)
    | inr k ↦ (w.within (get_or P i 0) k).1
  ]

  pub next_within : (i : ℕ) → has is i ≡ true → get_or N i 0 < length N
  next_within i h = elim (next_in N P is 0 1 i w.linked h) [
    | inl e ↦ let c = w.counted in rw e (omega arith)
    | inr k ↦ (w.within (get_or N i 0) k).1
  ]

  head_other : (j : ℕ) → j ≢ 1 → has is j ≡ false → j ≢ get_or N 0 0
  head_other j n h e = elim (first_in N P is 0 1 w.linked) [ inl z ↦ n (e ∙ z) | inr k ↦ has_apart is (get_or N 0 0) j k h (sym e) ]

  tail_other : (j : ℕ) → j ≢ 0 → has is j ≡ false → j ≢ get_or P 1 0
  tail_other j n h e = elim (has_cases 0 is (get_or P 1 0) (last_in N P is 0 1 w.linked)) [
    | inl z ↦ n (e ∙ sym z)
    | inr k ↦ has_apart is (get_or P 1 0) j k h (sym e)
  ]

  prev_other : (i j : ℕ) → has is i ≡ true → j ≢ 0 → has is j ≡ false → j ≢ get_or P i 0
  prev_other i j l n h e = elim (has_cases 0 is (get_or P i 0) (prev_in N P is 0 1 i w.linked l)) [
    | inl z ↦ n (e ∙ sym z)
    | inr k ↦ has_apart is (get_or P i 0) j k h (sym e)
  ]

  next_other : (i j : ℕ) → has is i ≡ true → j ≢ 1 → has is j ≡ false → j ≢ get_or N i 0
  next_other i j l n h e = elim (next_in N P is 0 1 i w.linked l) [ inl z ↦ n (e ∙ z) | inr k ↦ has_apart is (get_or N i 0) j k h (sym e) ]

  not_held : (i j : ℕ) → has held i ≡ true → has free j ≡ true → j ≢ i
  not_held i j h f e = true≢false (sym (ap (has held) e ∙ h) ∙ (w.freed j f).4)

-- what two writes leave of a column
two_same : (xs : List ℕ) (i a k b : ℕ) → k < length xs → get_or (set (set xs i a) k b) k 0 ≡ b
two_same xs i a k b h = get_or-set_same (set xs i a) k b 0 (rw length-set h)

two_first : (xs : List ℕ) (i a k b : ℕ) → i ≢ k → i < length xs → get_or (set (set xs i a) k b) i 0 ≡ a
two_first xs i a k b n h = get_or-set_other (set xs i a) k i b 0 n ∙ get_or-set_same xs i a 0 h

two_other : (xs : List ℕ) (i a k b j : ℕ) → j ≢ i → j ≢ k → get_or (set (set xs i a) k b) j 0 ≡ get_or xs j 0
two_other xs i a k b j n m = get_or-set_other (set xs i a) k j b 0 m ∙ get_or-set_other xs i j a 0 n

two_length : (xs : List ℕ) (i a k b : ℕ) → length (set (set xs i a) k b) ≡ length xs
two_length xs i a k b = length-set (set xs i a) k b ∙ length-set xs i a

only_one : (i j : ℕ) → has (i ∷ []) j ≡ true → i ≡ j
only_one i j h = elim (has_cases i [] j h) [ inl e ↦ e | inr n ↦ absurd (false≢true n) ]

low : (a b : ℕ) → a < b → a ≢ b
low a b h e = omega arith

high : (a b : ℕ) → b < a → a ≢ b
high a b h e = omega arith

-- the slot that is held goes in front
pub link_head : (N P is free : List ℕ) (i : ℕ) → IsChained N P is free (i ∷ []) → IsChained (set (set N i (get_or N 0 0)) 0 i) (set (set P i 0) (get_or N 0 0) i) (i ∷ is) free []
link_head N P is free i w =
    let a : ℕ = get_or N 0 0 in
    let hold = w.holds i (has_here i []) in
    let c = w.counted in
    let p = w.paired in
    let len : 1 < length N = omega arith in
    let len_p : a < length P = rw p (head_within N P is free (i ∷ []) w) in
    let not_zero : i ≢ 0 = high i 0 (omega arith) in
    let not_one : i ≢ 1 = high i 1 (omega arith) in
    let in_n : (j : ℕ) → j ≢ 0 → j ≢ i → get_or (set (set N i a) 0 i) j 0 ≡ get_or N j 0 = λ j x y. two_other N i a 0 i j y x in
    let in_p : (j : ℕ) → j ≢ i → j ≢ a → get_or (set (set P i 0) a i) j 0 ≡ get_or P j 0 = λ j x y. two_other P i 0 a i j x y in
    let i_p : i < length P = rw p hold.1 in
    record {
      linked = (
        two_same N i a 0 i (omega arith),
        two_first P i 0 a i (head_other N P is free (i ∷ []) w i not_one hold.2) i_p,
        rehead N P (set (set N i a) 0 i) (set (set P i 0) a i) is 0 i 1 w.linked w.apart (order_high N P is free (i ∷ []) 1 w (omega arith))
            (two_first N i a 0 i not_zero hold.1) (two_same P i 0 a i len_p)
            (λ j h. in_n j (high j 0 (let k = (w.within j h).0 in omega arith)) (has_apart is j i h hold.2))
            (λ j h. in_p j (elim h [ inl e ↦ (λ f. not_one (sym f ∙ e)) | inr k ↦ has_apart is j i k hold.2 ])),
      );
      apart = (hold.2, w.apart);
      within = λ j h. elim (has_cases i is j h) [ inl e ↦ rw (two_length, ← e) (hold.0, hold.1) | inr r ↦ rw two_length (w.within j r) ];
      live = λ j two l m. elim (cases_eq i j) [
        | inl e ↦ inl (rw e (has_here j is))
        | inr n ↦
            let e : get_or (set (set N i a) 0 i) j 0 ≡ get_or N j 0 = in_n j (high j 0 (omega arith)) (λ f. n (sym f)) in
            elim (w.live j two (rw two_length at l) (rw e at m)) [ inl r ↦ inl (has_rest i is j r) | inr r ↦ absurd (n (only_one i j r)) ]
      ];
      freed = λ j h.
          let f = w.freed j h in
          let n : j ≢ i = not_held N P is free (i ∷ []) w i j (has_here i []) h in
          let o = head_other N P is free (i ∷ []) w j (high j 1 (let k = f.0 in omega arith)) (free_not_live N P is free (i ∷ []) j w h) in
          (f.0, rw two_length f.1, in_n j (high j 0 (let k = f.0 in omega arith)) n ∙ f.2, in_p j n o ∙ f.3, refl);
      free_apart = w.free_apart;
      holds = λ j h. absurd (false≢true h);
      counted = rw two_length (omega arith);
      paired = two_length P i 0 a i ∙ p ∙ sym (two_length N i a 0 i);
      small = rw two_length w.small;
      ends = (
        in_p 0 (λ e. not_zero (sym e)) (head_other N P is free (i ∷ []) w 0 (low 0 1 (omega arith)) (order_high N P is free (i ∷ []) 0 w (omega arith))) ∙ w.ends.0,
        in_n 1 (high 1 0 (omega arith)) (λ e. not_one (sym e)) ∙ w.ends.1,
      );
    }

-- the slot that is held goes to the back
pub link_tail : (N P is free : List ℕ) (i : ℕ) → IsChained N P is free (i ∷ []) → IsChained (set (set N i 1) (get_or P 1 0) i) (set (set P i (get_or P 1 0)) 1 i) (is ++ i ∷ []) free []
link_tail N P is free i w =
    let a : ℕ = get_or P 1 0 in
    let hold = w.holds i (has_here i []) in
    let c = w.counted in
    let p = w.paired in
    let len_n : a < length N = tail_within N P is free (i ∷ []) w in
    let one_p : 1 < length P = omega arith in
    let not_zero : i ≢ 0 = high i 0 (omega arith) in
    let not_one : i ≢ 1 = high i 1 (omega arith) in
    let i_p : i < length P = rw p hold.1 in
    let in_n : (j : ℕ) → j ≢ i → j ≢ a → get_or (set (set N i 1) a i) j 0 ≡ get_or N j 0 = λ j x y. two_other N i 1 a i j x y in
    let in_p : (j : ℕ) → j ≢ i → j ≢ 1 → get_or (set (set P i a) 1 i) j 0 ≡ get_or P j 0 = λ j x y. two_other P i a 1 i j x y in
    let i_off : i ≢ a = tail_other N P is free (i ∷ []) w i not_zero hold.2 in
    let zero_off : has is 0 ≡ false = order_high N P is free (i ∷ []) 0 w (omega arith) in
    record {
      linked =
          chain_push (set (set N i 1) a i) (set (set P i a) 1 i) is 0 i 1
          (retail N P (set (set N i 1) a i) (set (set P i a) 1 i) is 0 1 i w.linked (zero_off, w.apart)
          (two_first P i a 1 i not_one i_p) (two_same N i 1 a i len_n)
          (λ j h. in_p j (has_apart is j i h hold.2) (high j 1 (let k = (w.within j h).0 in omega arith)))
          (λ j h. in_n j (elim (has_cases 0 is j h) [ inl e ↦ (λ f. not_zero (sym f ∙ sym e)) | inr k ↦ has_apart is j i k hold.2 ])))
          (two_first N i 1 a i i_off hold.1)
          (two_same P i a 1 i one_p);
      apart = Apart_push is i w.apart hold.2;
      within = λ j h. elim (has_push_cases is i j h) [ inr e ↦ rw (two_length, ← e) (hold.0, hold.1) | inl r ↦ rw two_length (w.within j r) ];
      live = λ j two l m. elim (cases_eq i j) [
        | inl e ↦ inl (rw e (has_push_here is j))
        | inr n ↦ elim (cases_eq j a) [
          | inl e ↦ elim (has_cases 0 is j (rw (← e) at (last_in N P is 0 1 w.linked))) [
            | inl z ↦ absurd (omega arith)
            | inr k ↦ inl (has_more is i j k)
          ]
          | inr d ↦
              let e : get_or (set (set N i 1) a i) j 0 ≡ get_or N j 0 = in_n j (λ f. n (sym f)) d in
              elim (w.live j two (rw two_length at l) (rw e at m)) [ inl r ↦ inl (has_more is i j r) | inr r ↦ absurd (n (only_one i j r)) ]
        ]
      ];
      freed = λ j h.
          let f = w.freed j h in
          let n : j ≢ i = not_held N P is free (i ∷ []) w i j (has_here i []) h in
          let o = tail_other N P is free (i ∷ []) w j (high j 0 (let k = f.0 in omega arith)) (free_not_live N P is free (i ∷ []) j w h) in
          (f.0, rw two_length f.1, in_n j n o ∙ f.2, in_p j n (high j 1 (let k = f.0 in omega arith)) ∙ f.3, refl);
      free_apart = w.free_apart;
      holds = λ j h. absurd (false≢true h);
      counted = rw (two_length, length_push is i) (omega arith);
      paired = two_length P i a 1 i ∙ p ∙ sym (two_length N i 1 a i);
      small = rw two_length w.small;
      ends = (
        in_p 0 (λ e. not_zero (sym e)) (low 0 1 (omega arith)) ∙ w.ends.0,
        in_n 1 (λ e. not_one (sym e)) (tail_other N P is free (i ∷ []) w 1 (high 1 0 (omega arith)) (order_high N P is free (i ∷ []) 1 w (omega arith))) ∙ w.ends.1,
      );
    }

-- an index leaves the order, and its slot is held
pub unlinked : (N P is free : List ℕ) (i : ℕ) → IsChained N P is free [] → has is i ≡ true → IsChained (set N (get_or P i 0) (get_or N i 0)) (set P (get_or N i 0) (get_or P i 0)) (without i is) free (i ∷ [])
unlinked N P is free i w h =
    let a : ℕ = get_or P i 0 in
    let b : ℕ = get_or N i 0 in
    let c = w.counted in
    let p = w.paired in
    let a_n : a < length N = prev_within N P is free [] w i h in
    let b_p : b < length P = rw p (next_within N P is free [] w i h) in
    let in_n : (j : ℕ) → j ≢ a → get_or (set N a b) j 0 ≡ get_or N j 0 = λ j x. get_or-set_other N a j b 0 x in
    let in_p : (j : ℕ) → j ≢ b → get_or (set P b a) j 0 ≡ get_or P j 0 = λ j x. get_or-set_other P b j a 0 x in
    let zero_off : has is 0 ≡ false = order_high N P is free [] 0 w (omega arith) in
    let one_off : has is 1 ≡ false = order_high N P is free [] 1 w (omega arith) in
    record {
      linked = unlink N P (set N a b) (set P b a) is 0 1 i w.linked (zero_off, w.apart) one_off h
          (get_or-set_same N a b 0 a_n) (get_or-set_same P b a 0 b_p) in_n in_p;
      apart = Apart-without i is w.apart;
      within = λ j k. rw length-set (w.within j (has_left i j is k).1);
      live = λ j two l m. elim (cases_eq i j) [
        | inl e ↦ inr (rw e (has_here j []))
        | inr n ↦ elim (cases_eq j a) [
          | inl e ↦ elim (has_cases 0 is j (rw (← e) at (prev_in N P is 0 1 i w.linked h))) [
            | inl z ↦ absurd (omega arith)
            | inr k ↦ inl (has-without_other i j is n ∙ k)
          ]
          | inr d ↦
              elim (w.live j two (rw length-set at l) (rw (in_n j d) at m)) [ inl r ↦ inl (has-without_other i j is n ∙ r) | inr r ↦ absurd (false≢true r) ]
        ]
      ];
      freed = λ j k.
          let f = w.freed j k in
          let off = free_not_live N P is free [] j w k in
          let x = prev_other N P is free [] w i j h (high j 0 (let k = f.0 in omega arith)) off in
          let y = next_other N P is free [] w i j h (high j 1 (let k = f.0 in omega arith)) off in
          (f.0, rw length-set f.1, in_n j x ∙ f.2, in_p j y ∙ f.3, has_none i [] j (has_apart is i j h off) refl);
      free_apart = w.free_apart;
      holds = λ j k.
          let e = only_one i j k in
          let l = w.within i h in
          (rw (← e) l.0, rw (length-set, ← e) l.1, rw (← e) (has-without_same i is));
      counted = let s = length-without i is w.apart h in rw length-set (omega arith);
      paired = length-set P b a ∙ p ∙ sym (length-set N a b);
      small = rw length-set w.small;
      ends = (
        in_p 0 (next_other N P is free [] w i 0 h (low 0 1 (omega arith)) zero_off) ∙ w.ends.0,
        in_n 1 (prev_other N P is free [] w i 1 h (high 1 0 (omega arith)) one_off) ∙ w.ends.1,
      );
    }

-- the slot that is held is freed
pub let_go : (N P is free : List ℕ) (i : ℕ) → IsChained N P is free (i ∷ []) → IsChained (set N i (2 ^ 32 - 1)) (set P i (2 ^ 32 - 1)) is (free ++ i ∷ []) []
let_go N P is free i w =
    let hold = w.holds i (has_here i []) in
    let c = w.counted in
    let p = w.paired in
    let i_p : i < length P = rw p hold.1 in
    let in_n : (j : ℕ) → j ≢ i → get_or (set N i (2 ^ 32 - 1)) j 0 ≡ get_or N j 0 = λ j x. get_or-set_other N i j (2 ^ 32 - 1) 0 x in
    let in_p : (j : ℕ) → j ≢ i → get_or (set P i (2 ^ 32 - 1)) j 0 ≡ get_or P j 0 = λ j x. get_or-set_other P i j (2 ^ 32 - 1) 0 x in
    let new : has free i ≡ false = elim (has free i) as (λ b. has free i ≡ b → b ≡ false) [
      | true ↦ λ e. absurd (not_held N P is free (i ∷ []) w i i (has_here i []) e refl)
      | false ↦ λ e. refl
    ] refl in
    record {
      linked = frame N P (set N i (2 ^ 32 - 1)) (set P i (2 ^ 32 - 1)) is 0 1 w.linked (in_n 0 (low 0 i (omega arith))) (in_p 1 (low 1 i (omega arith)))
          (λ j h. in_n j (has_apart is j i h hold.2)) (λ j h. in_p j (has_apart is j i h hold.2));
      apart = w.apart;
      within = λ j h. rw length-set (w.within j h);
      live = λ j two l m. elim (cases_eq i j) [
        | inl e ↦ absurd (let k : 2 ^ 32 - 1 < 2 ^ 32 - 1 = rw (← e, get_or-set_same N i (2 ^ 32 - 1) 0 hold.1) at m in omega arith)
        | inr n ↦ elim (w.live j two (rw length-set at l) (rw (in_n j (λ f. n (sym f))) at m)) [ inl r ↦ inl r | inr r ↦ absurd (n (only_one i j r)) ]
      ];
      freed = λ j h. elim (has_push_cases free i j h) [
        | inl k ↦
            let f = w.freed j k in
            let n : j ≢ i = not_held N P is free (i ∷ []) w i j (has_here i []) k in
            (f.0, rw length-set f.1, in_n j n ∙ f.2, in_p j n ∙ f.3, refl)
        | inr e ↦ rw (← e) (hold.0, rw length-set hold.1, get_or-set_same N i (2 ^ 32 - 1) 0 hold.1, get_or-set_same P i (2 ^ 32 - 1) 0 i_p, refl)
      ];
      free_apart = Apart_push free i w.free_apart new;
      holds = λ j h. absurd (false≢true h);
      counted = rw (length-set, length_push free i) (omega arith);
      paired = length-set P i (2 ^ 32 - 1) ∙ p ∙ sym (length-set N i (2 ^ 32 - 1));
      small = rw length-set w.small;
      ends = (in_p 0 (low 0 i (omega arith)) ∙ w.ends.0, in_n 1 (low 1 i (omega arith)) ∙ w.ends.1);
    }

-- the slot that was freed last is held
pub take_back : (N P is free : List ℕ) (i : ℕ) → IsChained N P is (free ++ i ∷ []) [] → IsChained N P is free (i ∷ [])
take_back N P is free i w =
    let c = w.counted in
    let s = Apart_front free i w.free_apart in
    record {
      linked = w.linked;
      apart = w.apart;
      within = w.within;
      live = λ j two l m. elim (w.live j two l m) [ inl r ↦ inl r | inr r ↦ absurd (false≢true r) ];
      freed = λ j h.
          let f = w.freed j (has_more free i j h) in
          (f.0, f.1, f.2, f.3, has_none i [] j (λ e. has_apart free j i h s.1 (sym e)) refl);
      free_apart = s.0;
      holds = λ j h.
          let e = only_one i j h in
          let f = w.freed i (has_push_here free i) in
          rw (← e) (f.0, f.1, free_not_live N P is (free ++ i ∷ []) [] i w (has_push_here free i));
      counted = let l = length_push free i in omega arith;
      paired = w.paired;
      small = w.small;
      ends = w.ends;
    }

-- a new slot is held
pub take_new : (N P is : List ℕ) → IsChained N P is [] [] → length N < 2 ^ 32 - 1 → IsChained (N ++ (2 ^ 32 - 1) ∷ []) (P ++ (2 ^ 32 - 1) ∷ []) is [] (length N ∷ [])
take_new N P is w room =
    let c = w.counted in
    let p = w.paired in
    let in_n : (j : ℕ) → j < length N → get_or (N ++ (2 ^ 32 - 1) ∷ []) j 0 ≡ get_or N j 0 = λ j x. get_or_append_left N ((2 ^ 32 - 1) ∷ []) 0 j x in
    let in_p : (j : ℕ) → j < length N → get_or (P ++ (2 ^ 32 - 1) ∷ []) j 0 ≡ get_or P j 0 = λ j x. get_or_append_left P ((2 ^ 32 - 1) ∷ []) 0 j (rw p x) in
    record {
      linked = frame N P (N ++ (2 ^ 32 - 1) ∷ []) (P ++ (2 ^ 32 - 1) ∷ []) is 0 1 w.linked (in_n 0 (omega arith)) (in_p 1 (omega arith))
          (λ j h. in_n j (w.within j h).1) (λ j h. in_p j (w.within j h).1);
      apart = w.apart;
      within = λ j h. let k = w.within j h in (k.0, rw (length_push N (2 ^ 32 - 1)) (omega arith));
      live = λ j two l m. elim (cases_eq (length N) j) [
        | inl e ↦ inr (rw e (has_here j []))
        | inr n ↦
            let k : j < length N = let g : j < length N + 1 = rw (length_push N (2 ^ 32 - 1)) at l in omega arith in
            elim (w.live j two k (rw (in_n j k) at m)) [ inl r ↦ inl r | inr r ↦ absurd (false≢true r) ]
      ];
      freed = λ j h. absurd (false≢true h);
      free_apart = tt;
      holds = λ j h.
          let e = only_one (length N) j h in
          let off : has is (length N) ≡ false = elim (has is (length N)) as (λ b. has is (length N) ≡ b → b ≡ false) [
            | true ↦ λ t. absurd (let k = (w.within (length N) t).1 in omega arith)
            | false ↦ λ t. refl
          ] refl in
          rw (← e) (omega arith, rw (length_push N (2 ^ 32 - 1)) (omega arith), off);
      counted = rw (length_push N (2 ^ 32 - 1)) (omega arith);
      paired = length_push P (2 ^ 32 - 1) ∙ ap (λ n. n + 1) p ∙ sym (length_push N (2 ^ 32 - 1));
      small = rw (length_push N (2 ^ 32 - 1)) (omega arith);
      ends = (in_p 0 (omega arith) ∙ w.ends.0, in_n 1 (omega arith) ∙ w.ends.1);
    }

-- the two sentinels alone
pub empty_chain : IsChained (1 ∷ (2 ^ 32 - 1) ∷ []) ((2 ^ 32 - 1) ∷ 0 ∷ []) [] [] []
empty_chain =
    record {
      linked = (refl, refl);
      apart = tt;
      within = λ j h. absurd (false≢true h);
      live = λ j two l m. absurd (omega arith);
      freed = λ j h. absurd (false≢true h);
      free_apart = tt;
      holds = λ j h. absurd (false≢true h);
      counted = refl;
      paired = refl;
      small = omega arith;
      ends = (refl, refl);
    }

-- what a call that takes a slot leaves: the slot that was freed last, or a new one, is held
pub took : (N P is free M Q left : List ℕ) (i n : ℕ) (A B : Type 0) → IsChained N P is free [] → n ≡ length N
    → (0 < length free → (free ≡ left ++ i ∷ []) × A) → (0 < length free → (M ≡ N) × (Q ≡ P))
    → (free ≡ [] → (i ≡ n) × (left ≡ []) × B) → (free ≡ [] → (M ≡ N ++ (2 ^ 32 - 1) ∷ []) × (Q ≡ P ++ (2 ^ 32 - 1) ∷ []))
    → i < 2 ^ 32 - 1 → IsChained M Q is left (i ∷ [])
took N P is [] M Q left i n A B w e r k m u l =
    let t = m refl in
    let v = u refl in
    let h : length N < 2 ^ 32 - 1 = rw (← e, ← t.0) l in
    rw (v.0, v.1, t.1, t.0, e) (take_new N P is w h)
took N P is (x ∷ xs) M Q left i n A B w e r k m u l =
    let t = r (omega arith) in
    let v = k (omega arith) in
    rw (v.0, v.1) (take_back N P is left i (rw t.0 at w))

-- what is freed is a slot
pub freed_within : (N P is free : List ℕ) (n : ℕ) → IsChained N P is free [] → n ≡ length N → All (λ i. i < n) free
freed_within N P is free n w e k d h = rw e (w.freed (get_or free k d) (has_at free k d h)).1

-- a slot is live where its link leads somewhere
pub live_is : (N P is free : List ℕ) (i : ℕ) → IsChained N P is free [] → 2 ≤ i → i < length N → get_or N i 0 < 2 ^ 32
    → (not (eqb (get_or N i 0) (2 ^ 32 - 1)) ≡ true → has is i ≡ true) × (has is i ≡ true → not (eqb (get_or N i 0) (2 ^ 32 - 1)) ≡ true)
live_is N P is free i w two l f = (
  λ t. let n : get_or N i 0 ≡ 2 ^ 32 - 1 → ⊥ = eqb-false (get_or N i 0) (2 ^ 32 - 1) (not-true _ t) in
      elim (w.live i two l (omega (arith, n))) [ inl h ↦ h | inr h ↦ absurd (false≢true h) ],
  λ h. let k = next_within N P is free [] w i h in
      let s = w.small in
      let n : get_or N i 0 ≡ 2 ^ 32 - 1 → ⊥ = λ e. omega arith in
      rw (ne_eqb (get_or N i 0) (2 ^ 32 - 1) n),
)
