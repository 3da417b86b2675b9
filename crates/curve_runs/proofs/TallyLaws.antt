-- What is counted of one run after another.
use Rattle.std.proofs.Common.{◌≡◌, ℕ, ◌+◌, ◌≤◌, ◌<◌, ◌&&◌, ◌⊎◌, inl, inr, ltb, cond, Bool, true, false, List, [], ◌∷◌, Option, Some, None, refl, ap, sym, ◌∙◌, subst, arith, length, drop}
use Rattle.std.specs.Prelude.{unwrap_or}
use Rattle.std.proofs.lemmas.Bool.{lt-ltb, le-ltb, lt-leb, le-leb, ltb-true, cases_lt}
use Rattle.curve_runs.specs.declared.run.Run.{Run}
use Rattle.curve_runs.specs.declared.run.Load.{Load}
use Rattle.curve_runs.specs.declared.spans.Spans.{Spans}
use Rattle.curve_runs.specs.Runs.{given, at}
use Rattle.curve_runs.specs.Counts.{counted, added, fresh}

-- the first k runs were counted, which end at `begin`
pub record IsTallied (l : Load) (old : List Run) (value k begin : ℕ) (before counts : Spans) : Type 0 where
  pub first : l.first ≤ begin
  pub rest : (i : ℕ) → begin ≤ i → given i (drop k old) ≡ given i old
  pub done : (i : ℕ) → i < length before.begun.items → counted i counts ≡ counted i before + cond (ltb i begin) (fresh l value i (at i old)) 0
  pub sizes : length counts.begun.items ≡ length before.begun.items

fresh-before : (l : Load) (value i had : ℕ) → i < l.first → fresh l value i had ≡ 0
fresh-before l value i had h = ap (λ (b : Bool). cond (b && ltb l.moment had) value 0) (lt-leb l.first i h)

fresh-after : (l : Load) (value i had : ℕ) → l.first ≤ i → fresh l value i had ≡ cond (ltb l.moment had) value 0
fresh-after l value i had h = ap (λ (b : Bool). cond (b && ltb l.moment had) value 0) (le-leb l.first i h)

added-before : (from to value i : ℕ) → i < from → added from to value i ≡ 0
added-before from to value i h = ap (λ (b : Bool). cond (b && ltb i to) value 0) (lt-leb from i h)

added-within : (from to value i : ℕ) → from ≤ i → i < to → added from to value i ≡ value
added-within from to value i h k = ap (λ (b : Bool). cond (b && ltb i to) value 0) (le-leb from i h) ∙ ap (λ (b : Bool). cond b value 0) (lt-ltb i to k)

added-past : (from to value i : ℕ) → from ≤ i → to ≤ i → added from to value i ≡ 0
added-past from to value i h k = ap (λ (b : Bool). cond (b && ltb i to) value 0) (le-leb from i h) ∙ ap (λ (b : Bool). cond b value 0) (le-ltb i to k)

pub tallied-none : (l : Load) (old : List Run) (value : ℕ) (before : Spans) → IsTallied l old value 0 l.first before before
tallied-none l old value before = record {
  first = omega arith;
  rest = λ i h. refl;
  done = λ i h. by_test i (ltb i l.first) refl;
  sizes = refl;
}
  where
    by_test : (i : ℕ) (t : Bool) → ltb i l.first ≡ t → counted i before ≡ counted i before + cond t (fresh l value i (at i old)) 0
    by_test i true p = let z = fresh-before l value i (at i old) (ltb-true i l.first p) in omega (arith, z)
    by_test i false p = omega arith

-- what counting one run does
pub record IsCounted (l : Load) (value begin : ℕ) (x : Run) (end : ℕ) (counts counts' : Spans) : Type 0 where
  pub past : x.end ≤ begin → end ≡ begin
  pub same : x.end ≤ begin → counts' ≡ counts
  pub ends : begin < x.end → end ≡ x.end
  pub more : begin < x.end → (i : ℕ) → i < length counts.begun.items → counted i counts' ≡ counted i counts + cond (ltb l.moment x.since) (added begin x.end value i) 0
  pub sizes : length counts'.begun.items ≡ length counts.begun.items

tallied-more : (l : Load) (old : List Run) (value k k' begin : ℕ) (before counts counts' : Spans) (x : Run) → drop k old ≡ x ∷ drop k' old → begin < x.end
    → ((i : ℕ) → i < length counts.begun.items → counted i counts' ≡ counted i counts + cond (ltb l.moment x.since) (added begin x.end value i) 0)
    → length counts'.begun.items ≡ length counts.begun.items
    → IsTallied l old value k begin before counts → IsTallied l old value k' x.end before counts'
tallied-more l old value k k' begin before counts counts' x d lt more sizes r = record {
  first = let f = r.first in omega (arith, f, lt);
  rest = λ i h.
      let b : ltb i x.end ≡ false = le-ltb i x.end h in
      sym (ap (given i) d ∙ ap (λ (t : Bool). cond t (Some x.since) (given i (drop k' old))) b) ∙ r.rest i (omega (arith, h, lt));
  done = λ i h.
      let m = more i (omega (arith, h, r.sizes)) in
      let p = r.done i h in
      by_case i m p (cases_lt i begin) (cases_lt i x.end);
  sizes = sizes ∙ r.sizes;
}
  where
    by_case : (i : ℕ) → counted i counts' ≡ counted i counts + cond (ltb l.moment x.since) (added begin x.end value i) 0
        → counted i counts ≡ counted i before + cond (ltb i begin) (fresh l value i (at i old)) 0
        → (i < begin) ⊎ (begin ≤ i) → (i < x.end) ⊎ (x.end ≤ i) → counted i counts' ≡ counted i before + cond (ltb i x.end) (fresh l value i (at i old)) 0
    by_case i m p (inl a) b =
        let z = ap (λ (n : ℕ). cond (ltb l.moment x.since) n 0) (added-before begin x.end value i a) in
        let y : ◌≡◌ {A = ℕ} (cond (ltb l.moment x.since) 0 0) 0 = either (ltb l.moment x.since) in
        let s = ap (λ (t : Bool). cond t (fresh l value i (at i old)) 0) (lt-ltb i begin a) in
        let t = ap (λ (t : Bool). cond t (fresh l value i (at i old)) 0) (lt-ltb i x.end (omega (arith, a, lt))) in
        omega (arith, m, p, z, y, s, t)
      where
        either : (b : Bool) → ◌≡◌ {A = ℕ} (cond b 0 0) 0
        either true = refl
        either false = refl
    by_case i m p (inr a) (inl b) =
        let c : ltb i x.end ≡ true = lt-ltb i x.end b in
        let had : given i old ≡ Some x.since = sym (r.rest i a) ∙ ap (given i) d ∙ ap (λ (t : Bool). cond t (Some x.since) (given i (drop k' old))) c in
        let has : at i old ≡ x.since = ap (λ (o : Option ℕ). unwrap_or o 0) had in
        let f = r.first in
        let z = ap (λ (n : ℕ). cond (ltb l.moment x.since) n 0) (added-within begin x.end value i a b) in
        let y = ap (fresh l value i) has ∙ fresh-after l value i x.since (omega (arith, a, f)) in
        let s = ap (λ (t : Bool). cond t (fresh l value i (at i old)) 0) (le-ltb i begin a) in
        let t = ap (λ (t : Bool). cond t (fresh l value i (at i old)) 0) c in
        omega (arith, m, p, z, y, s, t)
    by_case i m p (inr a) (inr b) =
        let z = ap (λ (n : ℕ). cond (ltb l.moment x.since) n 0) (added-past begin x.end value i a b) in
        let y : ◌≡◌ {A = ℕ} (cond (ltb l.moment x.since) 0 0) 0 = either (ltb l.moment x.since) in
        let s = ap (λ (t : Bool). cond t (fresh l value i (at i old)) 0) (le-ltb i begin a) in
        let t = ap (λ (t : Bool). cond t (fresh l value i (at i old)) 0) (le-ltb i x.end b) in
        omega (arith, m, p, z, y, s, t)
      where
        either : (b : Bool) → ◌≡◌ {A = ℕ} (cond b 0 0) 0
        either true = refl
        either false = refl

pub tallied-next : (l : Load) (old : List Run) (value k k' begin end : ℕ) (before counts counts' : Spans) (x : Run) → drop k old ≡ x ∷ drop k' old → IsCounted l value begin x end counts counts'
    → IsTallied l old value k begin before counts → IsTallied l old value k' end before counts'
tallied-next l old value k k' begin end before counts counts' x d c r = by_case (cases_lt begin x.end)
  where
    by_case : (begin < x.end) ⊎ (x.end ≤ begin) → IsTallied l old value k' end before counts'
    by_case (inl lt) = subst (λ (n : ℕ). IsTallied l old value k' n before counts') (sym (c.ends lt)) (tallied-more l old value k k' begin before counts counts' x d lt (c.more lt) c.sizes r)
    by_case (inr le) =
        subst (λ (n : ℕ). IsTallied l old value k' n before counts') (sym (c.past le))
        (subst (λ (s : Spans). IsTallied l old value k' begin before s) (sym (c.same le)) past)
      where
        past : IsTallied l old value k' begin before counts
        past = record {
          first = r.first;
          rest = λ i h.
              let b : ltb i x.end ≡ false = le-ltb i x.end (omega (arith, h, le)) in
              sym (ap (given i) d ∙ ap (λ (t : Bool). cond t (Some x.since) (given i (drop k' old))) b) ∙ r.rest i h;
          done = r.done;
          sizes = r.sizes;
        }

pub tallied-all : (l : Load) (old : List Run) (value k begin : ℕ) (before counts : Spans) → drop k old ≡ [] → IsTallied l old value k begin before counts
    → (i : ℕ) → i < length before.begun.items → counted i counts ≡ counted i before + fresh l value i (at i old)
tallied-all l old value k begin before counts d r i h = by_case (cases_lt i begin) (r.done i h)
  where
    by_case : (i < begin) ⊎ (begin ≤ i) → counted i counts ≡ counted i before + cond (ltb i begin) (fresh l value i (at i old)) 0 → counted i counts ≡ counted i before + fresh l value i (at i old)
    by_case (inl a) p =
        let s = ap (λ (t : Bool). cond t (fresh l value i (at i old)) 0) (lt-ltb i begin a) in
        omega (arith, p, s)
    by_case (inr a) p =
        let f = r.first in
        let none : given i old ≡ None = sym (r.rest i a) ∙ ap (given i) d in
        let zero : at i old ≡ 0 = ap (λ (o : Option ℕ). unwrap_or o 0) none in
        let y = ap (fresh l value i) zero ∙ fresh-after l value i 0 (omega (arith, a, f)) ∙ ap (λ (b : Bool). cond b value 0) (le-ltb l.moment 0 (omega arith)) in
        let s = ap (λ (t : Bool). cond t (fresh l value i (at i old)) 0) (le-ltb i begin a) in
        omega (arith, p, s, y)
