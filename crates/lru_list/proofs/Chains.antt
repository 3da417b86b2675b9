-- Chains of links, and what a change of a few links leaves of them. N and P are the columns before, M and Q after.
use Rattle.std.proofs.Common.{◌≡◌, ◌≢◌, ℕ, zero, suc, true, false, ◌≤◌, ◌⊎◌, inl, inr, List, [], ◌∷◌, ◌++◌, length, get_or, sym, refl, ap, ◌∙◌, arith, ◌-◌, Some, None, slice_get}
use Rattle.std.proofs.lemmas.Bool.{cases_eq, eq-eqb, ne_eqb, false≢true}
use Rattle.lru_list.specs.Slots.{has, without, Apart}
use Rattle.lru_list.specs.Links.{walk, Chain}
use Rattle.lru_list.proofs.Indexes.{has_here, has_rest, has_cases, has_not, has_apart, without_absent}

pub walk_is : (N P : List ℕ) (is : List ℕ) (p t : ℕ) → Chain N P p is t → walk N (length is) p ≡ is
walk_is N P [] p t c = refl
walk_is N P (i ∷ is) p t c = rw c.0 (ap (λ r. i ∷ r) (walk_is N P is i t c.2))

-- the same links at the indexes of a chain make the same chain
pub frame : (N P M Q : List ℕ) (is : List ℕ) (p t : ℕ) → Chain N P p is t → get_or M p 0 ≡ get_or N p 0 → get_or Q t 0 ≡ get_or P t 0
    → ((j : ℕ) → has is j ≡ true → get_or M j 0 ≡ get_or N j 0) → ((j : ℕ) → has is j ≡ true → get_or Q j 0 ≡ get_or P j 0) → Chain M Q p is t
frame N P M Q [] p t c m q ms qs = (m ∙ c.0, q ∙ c.1)
frame N P M Q (i ∷ is) p t c m q ms qs = (
  m ∙ c.0,
  qs i (has_here i is) ∙ c.1,
  frame N P M Q is i t c.2 (ms i (has_here i is)) q (λ j h. ms j (has_rest i is j h)) (λ j h. qs j (has_rest i is j h)),
)

-- the same chain after another index q
pub rehead : (N P M Q : List ℕ) (is : List ℕ) (p q t : ℕ) → Chain N P p is t → Apart is → has is t ≡ false
    → get_or M q 0 ≡ get_or N p 0 → get_or Q (get_or N p 0) 0 ≡ q
    → ((j : ℕ) → has is j ≡ true → get_or M j 0 ≡ get_or N j 0)
    → ((j : ℕ) → (j ≡ t) ⊎ (has is j ≡ true) → j ≢ get_or N p 0 → get_or Q j 0 ≡ get_or P j 0) → Chain M Q q is t
rehead N P M Q [] p q t c a n m r ms qs = (m ∙ c.0, rw c.0 at r)
rehead N P M Q (i ∷ is) p q t c a n m r ms qs =
    let out = has_not i is t n in
    let away : (j : ℕ) → i ≢ j → j ≢ get_or N p 0 = λ j d e. d (sym (e ∙ c.0)) in (
      m ∙ c.0,
      rw c.0 at r,
      frame N P M Q is i t c.2 (ms i (has_here i is)) (qs t (inl refl) (away t out.0)) (λ j h. ms j (has_rest i is j h))
          (λ j h. qs j (inr (has_rest i is j h)) (away j (λ e. has_apart is j i h a.0 (sym e)))),
    )

-- the index after a chain's start is its end or one of its indexes
pub first_in : (N P : List ℕ) (is : List ℕ) (p t : ℕ) → Chain N P p is t → (get_or N p 0 ≡ t) ⊎ (has is (get_or N p 0) ≡ true)
first_in N P [] p t c = inl c.0
first_in N P (i ∷ is) p t c = inr (rw c.0 (has_here i is))

-- the index in front of a chain's end is its first or one of its indexes
pub last_in : (N P : List ℕ) (is : List ℕ) (p t : ℕ) → Chain N P p is t → has (p ∷ is) (get_or P t 0) ≡ true
last_in N P [] p t c = rw c.1 (has_here p [])
last_in N P (i ∷ is) p t c = has_rest p (i ∷ is) (get_or P t 0) (last_in N P is i t c.2)

-- a neighbour of one of a chain's indexes is another of them, or an end
pub prev_in : (N P : List ℕ) (is : List ℕ) (p t i : ℕ) → Chain N P p is t → has is i ≡ true → has (p ∷ is) (get_or P i 0) ≡ true
prev_in N P [] p t i c h = absurd (false≢true h)
prev_in N P (x ∷ is) p t i c h = elim (has_cases x is i h) [
  | inl e ↦ rw (← e, c.1) (has_here p (x ∷ is))
  | inr r ↦ has_rest p (x ∷ is) (get_or P i 0) (prev_in N P is x t i c.2 r)
]

pub next_in : (N P : List ℕ) (is : List ℕ) (p t i : ℕ) → Chain N P p is t → has is i ≡ true → (get_or N i 0 ≡ t) ⊎ (has is (get_or N i 0) ≡ true)
next_in N P [] p t i c h = absurd (false≢true h)
next_in N P (x ∷ is) p t i c h = elim (has_cases x is i h) [
  | inl e ↦ rw (← e) (elim (first_in N P is x t c.2) [ inl f ↦ inl f | inr k ↦ inr (has_rest x is (get_or N x 0) k) ])
  | inr r ↦ elim (next_in N P is x t i c.2 r) [ inl e ↦ inl e | inr k ↦ inr (has_rest x is (get_or N i 0) k) ]
]

-- the same chain up to another index u
pub retail : (N P M Q : List ℕ) (is : List ℕ) (p t u : ℕ) → Chain N P p is t → Apart (p ∷ is)
    → get_or Q u 0 ≡ get_or P t 0 → get_or M (get_or P t 0) 0 ≡ u
    → ((j : ℕ) → has is j ≡ true → get_or Q j 0 ≡ get_or P j 0) → ((j : ℕ) → has (p ∷ is) j ≡ true → j ≢ get_or P t 0 → get_or M j 0 ≡ get_or N j 0) → Chain M Q p is u
retail N P M Q [] p t u c a q r qs ms = (rw c.1 at r, q ∙ c.1)
retail N P M Q (i ∷ is) p t u c a q r qs ms =
    let away : p ≢ get_or P t 0 = λ e. has_apart (i ∷ is) (get_or P t 0) p (last_in N P is i t c.2) a.0 (sym e) in (
      ms p (has_here p (i ∷ is)) away ∙ c.0,
      qs i (has_here i is) ∙ c.1,
      retail N P M Q is i t u c.2 a.1 q r (λ j h. qs j (has_rest i is j h)) (λ j h. ms j (has_rest p (i ∷ is) j h)),
    )

-- one more index after a chain
pub chain_push : (N P : List ℕ) (is : List ℕ) (p i t : ℕ) → Chain N P p is i → get_or N i 0 ≡ t → get_or P t 0 ≡ i → Chain N P p (is ++ i ∷ []) t
chain_push N P [] p i t c n q = (c.0, c.1, (n, q))
chain_push N P (x ∷ is) p i t c n q = (c.0, c.1, chain_push N P is x i t c.2 n q)

-- the neighbours of i are linked to one another, and the rest is as it was: the chain without i
pub unlink : (N P M Q : List ℕ) (is : List ℕ) (p t i : ℕ) → Chain N P p is t → Apart (p ∷ is) → has is t ≡ false → has is i ≡ true
    → get_or M (get_or P i 0) 0 ≡ get_or N i 0 → get_or Q (get_or N i 0) 0 ≡ get_or P i 0
    → ((j : ℕ) → j ≢ get_or P i 0 → get_or M j 0 ≡ get_or N j 0) → ((j : ℕ) → j ≢ get_or N i 0 → get_or Q j 0 ≡ get_or P j 0)
    → Chain M Q p (without i is) t
unlink N P M Q [] p t i c a n h m q ms qs = absurd (false≢true h)
unlink N P M Q (x ∷ is) p t i c a n h m q ms qs =
    let out = has_not x is t n in
    elim (cases_eq x i) [
      | inl e ↦
          let back : get_or P i 0 ≡ p = rw e at c.1 in
          let ahead : Chain N P i is t = rw e at c.2 in
          let off : has is i ≡ false = rw e at a.1.0 in
          let front : has is p ≡ false = (has_not x is p a.0).1 in
          rw (eq-eqb x i e, without_absent i is off)
          (rehead N P M Q is i p t ahead a.1.1 out.1 (rw back at m) (rw back at q)
          (λ j k. ms j (λ f. has_apart is j p k front (f ∙ back))) (λ j k. qs j))
      | inr d ↦
          let r : has is i ≡ true = rw (ne_eqb x i d) at h in
          let far : p ≢ get_or P i 0 = λ f. has_apart (x ∷ is) (get_or P i 0) p (prev_in N P is x t i c.2 r) a.0 (sym f) in
          let near : x ≢ get_or N i 0 = λ f. elim (next_in N P is x t i c.2 r) [
            | inl e ↦ out.0 (f ∙ e)
            | inr k ↦ has_apart is (get_or N i 0) x k a.1.0 (sym f)
          ] in
          rw (ne_eqb x i d) (ms p far ∙ c.0, qs x near ∙ c.1, unlink N P M Q is x t i c.2 a.1 out.1 r m q ms qs)
    ]

-- links by places: the k-th of the start and the indexes is linked to the k-th of the indexes and the end
pub next_at_place : (N P : List ℕ) (is : List ℕ) (p t k : ℕ) → Chain N P p is t → k ≤ length is → get_or N (get_or (p ∷ (is ++ t ∷ [])) k 0) 0 ≡ get_or (is ++ t ∷ []) k 0
next_at_place N P [] p t zero c h = c.0
next_at_place N P [] p t (suc k) c h = absurd (omega arith)
next_at_place N P (i ∷ is) p t zero c h = c.0
next_at_place N P (i ∷ is) p t (suc k) c h = next_at_place N P is i t k c.2 (omega arith)

pub prev_at_place : (N P : List ℕ) (is : List ℕ) (p t k : ℕ) → Chain N P p is t → k ≤ length is → get_or P (get_or (is ++ t ∷ []) k 0) 0 ≡ get_or (p ∷ (is ++ t ∷ [])) k 0
prev_at_place N P [] p t zero c h = c.1
prev_at_place N P [] p t (suc k) c h = absurd (omega arith)
prev_at_place N P (i ∷ is) p t zero c h = c.1
prev_at_place N P (i ∷ is) p t (suc k) c h = prev_at_place N P is i t k c.2 (omega arith)

-- the first index of a chain, and the last
pub head_of : (N P : List ℕ) (is : List ℕ) (p t : ℕ) → Chain N P p is t → has is t ≡ false → (get_or N p 0 ≡ t → slice_get is 0 ≡ None) × (get_or N p 0 ≢ t → slice_get is 0 ≡ Some (get_or N p 0))
head_of N P [] p t c n = (λ e. refl, λ d. absurd (d c.0))
head_of N P (i ∷ is) p t c n = (λ e. absurd ((has_not i is t n).0 (sym c.0 ∙ e)), λ d. ap Some (sym c.0))

last_of : (N P : List ℕ) (i : ℕ) (is : List ℕ) (p t : ℕ) → Chain N P p (i ∷ is) t → slice_get (i ∷ is) (length is) ≡ Some (get_or P t 0)
last_of N P i [] p t c = ap Some (sym c.2.1)
last_of N P i (x ∷ is) p t c = last_of N P x is i t c.2

pub tail_of : (N P : List ℕ) (is : List ℕ) (p t : ℕ) → Chain N P p is t → has is p ≡ false → (get_or P t 0 ≡ p → slice_get is (length is - 1) ≡ None) × (get_or P t 0 ≢ p → slice_get is (length is - 1) ≡ Some (get_or P t 0))
tail_of N P [] p t c n = (λ e. refl, λ d. absurd (d c.1))
tail_of N P (i ∷ is) p t c n = (
  λ e. absurd (has_apart (i ∷ is) (get_or P t 0) p (last_in N P is i t c.2) n e),
  λ d. let e : suc (length is) - 1 ≡ length is = omega arith in rw e (last_of N P i is p t c),
)

-- nothing is between a start and an end whose neighbours they are
pub alone : (N P : List ℕ) (is : List ℕ) (p t : ℕ) → Chain N P p is t → Apart (p ∷ is) → get_or P t 0 ≡ p → is ≡ []
alone N P [] p t c a e = refl
alone N P (i ∷ is) p t c a e = absurd (has_apart (i ∷ is) (get_or P t 0) p (last_in N P is i t c.2) a.0 e)

-- a chain without the index in front of its end is its front
pub without_tail : (N P : List ℕ) (is : List ℕ) (p t : ℕ) → Chain N P p is t → Apart (p ∷ is) → get_or P t 0 ≢ p → (has is (get_or P t 0) ≡ true) × (without (get_or P t 0) is ++ get_or P t 0 ∷ [] ≡ is)
without_tail N P [] p t c a n = absurd (n c.1)
without_tail N P (i ∷ is) p t c a n = elim (cases_eq i (get_or P t 0)) [
  | inl e ↦
      let ends : is ≡ [] = alone N P is i t c.2 a.1 (sym e) in
      (rw (← e) (has_here i is), rw (← e, ends, eq-eqb i i refl) refl)
  | inr d ↦
      let r = without_tail N P is i t c.2 a.1 (λ f. d (sym f)) in
      (has_rest i is (get_or P t 0) r.0, rw (ne_eqb i (get_or P t 0) d) (ap (λ s. i ∷ s) r.1))
]
