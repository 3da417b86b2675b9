-- What runs give, one after another.
use Rattle.std.proofs.Common.{◌≡◌, ℕ, ◌≤◌, ◌<◌, ◌||◌, ◌⊎◌, inl, inr, ltb, leb, cond, Bool, true, false, List, [], ◌∷◌, ◌++◌, Option, Some, None, refl, ap, ap₂, sym, ◌∙◌, subst, arith, drop}
use Rattle.std.specs.Prelude.{unwrap_or}
use Rattle.std.proofs.lemmas.Bool.{lt-ltb, le-ltb, le-leb, ltb-true, ltb-false, cases_lt}
use Rattle.curve_runs.specs.declared.run.Run.{Run}
use Rattle.curve_runs.specs.declared.run.Load.{Load}
use Rattle.curve_runs.specs.Runs.{given, at, loaded}

-- the first of two, where there is one
abbrev pub first_of : Option ℕ → Option ℕ → Option ℕ
first_of (Some a) o = Some a
first_of None o = o

pub given-append : (i : ℕ) (xs ys : List Run) → given i (xs ++ ys) ≡ first_of (given i xs) (given i ys)
given-append i [] ys = refl
given-append i (x ∷ xs) ys = by_test (ltb i x.end) (given-append i xs ys)
  where
    by_test : (t : Bool) → given i (xs ++ ys) ≡ first_of (given i xs) (given i ys) → cond t (Some x.since) (given i (xs ++ ys)) ≡ first_of (cond t (Some x.since) (given i xs)) (given i ys)
    by_test true h = refl
    by_test false h = h

first-none : (o : Option ℕ) → first_of o None ≡ o
first-none (Some a) = refl
first-none None = refl

-- a run without sizes gives nothing
pub given-empty : (i : ℕ) (xs : List Run) (r : Run) → r.end ≤ 0 → given i xs ≡ given i (xs ++ r ∷ [])
given-empty i xs r l =
    let n : i < r.end → ⊥ = λ h. omega (arith, l, h) in
    sym (given-append i xs (r ∷ []) ∙ ap (first_of (given i xs)) (none (ltb i r.end) refl) ∙ first-none (given i xs))
  where
    none : (t : Bool) → ltb i r.end ≡ t → cond t (Some r.since) None ≡ None
    none true h = let g = ltb-true i r.end h in absurd (omega (arith, g, l))
    none false h = refl

-- a run that goes on with the same
pub given-on : (i : ℕ) (xs : List Run) (a b : Run) → a.end ≤ b.end → a.since ≡ b.since → given i (xs ++ b ∷ []) ≡ given i (xs ++ a ∷ b ∷ [])
given-on i xs a b l e =
    given-append i xs (b ∷ []) ∙ ap (first_of (given i xs)) (both (ltb i a.end) (ltb i b.end) refl refl) ∙ sym (given-append i xs (a ∷ b ∷ []))
  where
    both : (s t : Bool) → ltb i a.end ≡ s → ltb i b.end ≡ t → cond t (Some b.since) None ≡ cond s (Some a.since) (cond t (Some b.since) None)
    both true true p q = ap (λ (n : ℕ). Some n) (sym e)
    both true false p q = let g = ltb-true i a.end p in let h = ltb-false i b.end q in absurd (omega (arith, g, h, l))
    both false t p q = refl

-- after a run that was closed
pub given-closed : (i : ℕ) (xs ys : List Run) (a b : Run) → ((j : ℕ) → given j xs ≡ given j (ys ++ a ∷ [])) → given i (xs ++ b ∷ []) ≡ given i (ys ++ a ∷ b ∷ [])
given-closed i xs ys a b h =
    given-append i xs (b ∷ []) ∙ ap (λ (o : Option ℕ). first_of o (given i (b ∷ []))) (h i ∙ given-append i ys (a ∷ []))
    ∙ twice (given i ys) (ltb i a.end) ∙ sym (given-append i ys (a ∷ b ∷ []))
  where
    twice : (o : Option ℕ) (s : Bool) → first_of (first_of o (cond s (Some a.since) None)) (given i (b ∷ [])) ≡ first_of o (cond s (Some a.since) (given i (b ∷ [])))
    twice (Some n) s = refl
    twice None true = refl
    twice None false = refl

pub given-two : (i : ℕ) (xs : List Run) (a b : Run) → given i (xs ++ a ∷ b ∷ []) ≡ first_of (given i (xs ++ a ∷ [])) (given i (b ∷ []))
given-two i xs a b = sym (given-closed i (xs ++ a ∷ []) xs a b (λ j. refl)) ∙ given-append i (xs ++ a ∷ []) (b ∷ [])

-- what a request gives the sizes before some size
abbrev pub settled : Load → List Run → ℕ → ℕ → Option ℕ
settled l old done i = cond (ltb i done) (Some (loaded l i (at i old))) None

-- the first k runs were read: the runs made so far say what the sizes before the end of the last one get
pub record IsRenewed (l : Load) (old new : List Run) (k : ℕ) (last : Run) : Type 0 where
  pub made : (i : ℕ) → given i (new ++ last ∷ []) ≡ settled l old last.end i
  pub first : l.first ≤ last.end
  pub rest : (i : ℕ) → last.end ≤ i → given i (drop k old) ≡ given i old

pub renewed-none : (l : Load) (old : List Run) (last : Run) → last.end ≡ l.first → last.since ≡ l.since → IsRenewed l old [] 0 last
renewed-none l old last p q = record {
  made = λ i. by_test i (ltb i last.end) refl;
  first = omega (arith, p);
  rest = λ i h. refl;
}
  where
    by_test : (i : ℕ) (t : Bool) → ltb i last.end ≡ t → cond t (Some last.since) None ≡ cond t (Some (loaded l i (at i old))) None
    by_test i true h =
        let b : ltb i l.first ≡ true = ap (ltb i) (sym p) ∙ h in
        ap (λ (n : ℕ). Some n) (q ∙ sym (ap (λ (b : Bool). cond (b || leb (at i old) l.moment) l.since (at i old)) b))
    by_test i false h = refl

pub renewed-past : (l : Load) (old new : List Run) (k k' : ℕ) (last x : Run) → drop k old ≡ x ∷ drop k' old → x.end ≤ last.end → IsRenewed l old new k last → IsRenewed l old new k' last
renewed-past l old new k k' last x d le r = record {
  made = r.made;
  first = r.first;
  rest = λ i h.
      let b : ltb i x.end ≡ false = le-ltb i x.end (omega (arith, h, le)) in
      sym (ap (given i) d ∙ ap (λ (t : Bool). cond t (Some x.since) (given i (drop k' old))) b) ∙ r.rest i h;
}

kept_at : (l : Load) (i had : ℕ) → l.first ≤ i → loaded l i had ≡ cond (leb had l.moment) l.since had
kept_at l i had h = ap (λ (b : Bool). cond (b || leb had l.moment) l.since had) (le-ltb i l.first h)

pub renewed-more : (l : Load) (old new new' : List Run) (k k' : ℕ) (last next last' x : Run) → drop k old ≡ x ∷ drop k' old → last.end < x.end
    → next.end ≡ x.end → next.since ≡ cond (leb x.since l.moment) l.since x.since → last'.end ≡ next.end
    → ((i : ℕ) → given i (new' ++ last' ∷ []) ≡ given i (new ++ last ∷ next ∷ [])) → IsRenewed l old new k last → IsRenewed l old new' k' last'
renewed-more l old new new' k k' last next last' x d lt n1 n2 n3 g r = record {
  made = λ i. g i ∙ given-two i new last next ∙ ap (λ (o : Option ℕ). first_of o (given i (next ∷ []))) (r.made i) ∙ both i (ltb i last.end) (ltb i next.end) (ltb i last'.end) refl refl refl;
  first = let f = r.first in omega (arith, f, lt, n1, n3);
  rest = λ i h.
      let b : ltb i x.end ≡ false = le-ltb i x.end (omega (arith, h, n1, n3)) in
      sym (ap (given i) d ∙ ap (λ (t : Bool). cond t (Some x.since) (given i (drop k' old))) b) ∙ r.rest i (omega (arith, h, n1, n3, lt));
}
  where
    both : (i : ℕ) (s t u : Bool) → ltb i last.end ≡ s → ltb i next.end ≡ t → ltb i last'.end ≡ u
        → first_of (cond s (Some (loaded l i (at i old))) None) (cond t (Some next.since) None) ≡ cond u (Some (loaded l i (at i old))) None
    both i true t true p q v = refl
    both i true t false p q v = let a = ltb-true i last.end p in let b = ltb-false i last'.end v in absurd (omega (arith, a, b, n1, n3, lt))
    both i false true false p q v = let a = ltb-true i next.end q in let b = ltb-false i last'.end v in absurd (omega (arith, a, b, n3))
    both i false false true p q v = let a = ltb-false i next.end q in let b = ltb-true i last'.end v in absurd (omega (arith, a, b, n3))
    both i false false false p q v = refl
    both i false true true p q v =
        let a = ltb-false i last.end p in
        let b : ltb i x.end ≡ true = ap (ltb i) (sym n1) ∙ q in
        let f = r.first in
        let had : given i old ≡ Some x.since = sym (r.rest i a) ∙ ap (given i) d ∙ ap (λ (t : Bool). cond t (Some x.since) (given i (drop k' old))) b in
        let has : at i old ≡ x.since = ap (λ (o : Option ℕ). unwrap_or o 0) had in
        ap (λ (n : ℕ). Some n) (n2 ∙ sym (ap (loaded l i) has ∙ kept_at l i x.since (omega (arith, a, f))))

-- past all runs nothing was loaded
pub renewed-end : (l : Load) (old new : List Run) (k : ℕ) (last : Run) (i : ℕ) → drop k old ≡ [] → IsRenewed l old new k last → last.end ≤ i → loaded l i (at i old) ≡ l.since
renewed-end l old new k last i d r h =
    let f = r.first in
    let none : given i old ≡ None = sym (r.rest i h) ∙ ap (given i) d in
    let zero : at i old ≡ 0 = ap (λ (o : Option ℕ). unwrap_or o 0) none in
    ap (loaded l i) zero ∙ kept_at l i 0 (omega (arith, f, h)) ∙ ap (λ (b : Bool). cond b l.since 0) (le-leb 0 l.moment (omega arith))

-- a run after the request says what one of before it becomes
abbrev pub becomes : Load → Run → Run
becomes l x = record { end = x.end; since = cond (leb x.since l.moment) l.since x.since }

pub record IsContinued (l : Load) (old new : List Run) (last x last' : Run) : Type 0 where
  pub past : x.end ≤ last.end → new ≡ old
  pub same : x.end ≤ last.end → last' ≡ last
  pub ends : last.end < x.end → last'.end ≡ x.end
  pub gives : last.end < x.end → (i : ℕ) → given i (new ++ last' ∷ []) ≡ given i (old ++ last ∷ becomes l x ∷ [])

pub renewed-next : (l : Load) (old new new' : List Run) (k k' : ℕ) (last last' x : Run) → drop k old ≡ x ∷ drop k' old → IsContinued l new new' last x last'
    → IsRenewed l old new k last → IsRenewed l old new' k' last'
renewed-next l old new new' k k' last last' x d c r = by_case (cases_lt last.end x.end)
  where
    by_case : (last.end < x.end) ⊎ (x.end ≤ last.end) → IsRenewed l old new' k' last'
    by_case (inl lt) = renewed-more l old new new' k k' last (becomes l x) last' x d lt refl refl (c.ends lt) (c.gives lt) r
    by_case (inr le) =
        subst (λ (n : List Run). IsRenewed l old n k' last') (sym (c.past le))
        (subst (λ (m : Run). IsRenewed l old new k' m) (sym (c.same le)) (renewed-past l old new k k' last x d le r))

-- past all runs the sizes that are left are loaded
pub renewed-all : (l : Load) (old new new' made : List Run) (k sizes : ℕ) (last last' x : Run) → drop k old ≡ [] → IsRenewed l old new k last
    → x.end ≡ sizes → x.since ≡ 0 → IsContinued l new new' last x last' → ((i : ℕ) → given i made ≡ given i (new' ++ last' ∷ [])) → (i : ℕ) → i < sizes
    → at i made ≡ loaded l i (at i old)
renewed-all l old new new' made k sizes last last' x d r n1 n2 c m i h = ap (λ (o : Option ℕ). unwrap_or o 0) (m i ∙ by_case (cases_lt last.end x.end))
  where
    by_test : (s : Bool) → ltb i last.end ≡ s → first_of (cond s (Some (loaded l i (at i old))) None) (given i (becomes l x ∷ [])) ≡ Some (loaded l i (at i old))
    by_test true p = refl
    by_test false p =
        let b : ltb i x.end ≡ true = lt-ltb i x.end (omega (arith, h, n1)) in
        let z : leb x.since l.moment ≡ true = le-leb x.since l.moment (omega (arith, n2)) in
        ap (λ (t : Bool). cond t (Some (cond (leb x.since l.moment) l.since x.since)) None) b
        ∙ ap (λ (n : ℕ). Some n) (ap (λ (t : Bool). cond t l.since x.since) z ∙ sym (renewed-end l old new k last i d r (ltb-false i last.end p)))

    by_case : (last.end < x.end) ⊎ (x.end ≤ last.end) → given i (new' ++ last' ∷ []) ≡ Some (loaded l i (at i old))
    by_case (inl lt) =
        c.gives lt i ∙ given-two i new last (becomes l x) ∙ ap (λ (o : Option ℕ). first_of o (given i (becomes l x ∷ []))) (r.made i) ∙ by_test (ltb i last.end) refl
    by_case (inr le) =
        let b : ltb i last.end ≡ true = lt-ltb i last.end (omega (arith, h, le, n1)) in
        ap₂ (λ (n : List Run) (a : Run). given i (n ++ a ∷ [])) (c.past le) (c.same le) ∙ r.made i ∙ ap (λ (t : Bool). cond t (Some (loaded l i (at i old))) None) b
