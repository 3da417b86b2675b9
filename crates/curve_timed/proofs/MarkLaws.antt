-- Marks while requests go on.
use Rattle.std.proofs.Common.{◌≡◌, ℕ, suc, ◌+◌, ◌*◌, ◌/◌, ◌≤◌, ◌<◌, ◌||◌, ltb, Bool, true, false, cond, List, [], ◌∷◌, ◌++◌, map, Option, Some, None, refl, ap, ap₂, sym, subst, ◌∙◌, arith}
use Rattle.std.specs.Prelude.{not, IfSome}
use Rattle.std.specs.List.{AllByRecursion}
use Rattle.std.proofs.Math.Nat.{le-div_iff_mul-le, div-mul-le_self, mod-lt, mod-eq-sub-div-mul, suc-mul, mul-le-mul_right}
use Rattle.std.proofs.lemmas.Bool.{ltb-true, ltb-false, lt-ltb, le-ltb, or_from}
use Rattle.std.proofs.lemmas.List.{append-nil}
use Rattle.cache_entries.specs.declared.entry.CacheEntryKey.{CacheEntryKey}
use Rattle.curve_sizes.specs.declared.when.When.{When}
use Rattle.curve_sizes.specs.Requests.{Request, asks, removes}
use Rattle.curve_sizes.specs.Numbers.{Agrees}
use Rattle.curve_timed.specs.declared.every.Every.{Every}
use Rattle.curve_timed.specs.declared.marks.Mark.{Mark}
use Rattle.curve_timed.specs.Spans.{span_from}
use Rattle.curve_timed.specs.Marks.{reached, until, is_past_span, span_after, span_of, marks_of, marks_by, IsSoFar, IsMark, AreMarks, HasMarkRows}
use Rattle.curve_timed.specs.Counting.{IsMarked}

some-equal : (m n : ℕ) → Some m ≡ Some n → m ≡ n
some-equal m n e = cc

or-true : (b : Bool) → (b || true) ≡ true
or-true true = refl
or-true false = refl

-- ---- moments

reached-less : (a b : ℕ) (requests : List Request) → a ≤ b → reached a requests ≡ false → reached b requests ≡ false
reached-less a b [] l h = refl
reached-less a b (removes e ∷ before) l h = reached-less a b before l h
reached-less a b (asks e w t ∷ before) l h = by_tests (ltb t.moment a) (reached a before) refl refl h (reached-less a b before l)
  where
    by_tests : (x y : Bool) → ltb t.moment a ≡ x → reached a before ≡ y → (not x || y) ≡ false → (reached a before ≡ false → reached b before ≡ false) → (not (ltb t.moment b) || reached b before) ≡ false
    by_tests true true p q n ih = absurd (true-false n)
      where
        true-false : true ≡ false → ⊥
        true-false e = cc
    by_tests false y p q n ih = absurd (true-false n)
      where
        true-false : true ≡ false → ⊥
        true-false e = cc
    by_tests true false p q n ih =
        let l' = ltb-true t.moment a p in
        or_from (not (ltb t.moment b)) (reached b before) (ap not (lt-ltb t.moment b (omega (arith, l, l')))) (ih q)

none-reached : (seconds at : ℕ) (requests : List Request) → span_of seconds requests ≡ None → reached at requests ≡ false
none-reached seconds at [] q = refl
none-reached seconds at (removes e ∷ before) q = none-reached seconds at before q
none-reached seconds at (asks e w t ∷ before) q = absurd (some-none q)
  where
    some-none : Some (span_after seconds t.moment (span_of seconds before)) ≡ None → ⊥
    some-none e = cc

in-span : (seconds moment : ℕ) → 0 < seconds → moment < span_from seconds moment + seconds
in-span seconds moment pos =
    let m = mod-lt moment pos in
    let e = mod-eq-sub-div-mul moment seconds in
    omega (arith, m, e)

-- no request asks past the span
span-bound : (seconds : ℕ) (requests : List Request) (span : ℕ) → 0 < seconds → span_of seconds requests ≡ Some span → reached (span + seconds) requests ≡ false
span-bound seconds [] span pos q = refl
span-bound seconds (removes e ∷ before) span pos q = span-bound seconds before span pos q
span-bound seconds (asks e w t ∷ before) span pos q = by_span (span_of seconds before) refl (some-equal _ _ q) (λ s p. span-bound seconds before s pos p)
  where
    by_span : (o : Option ℕ) → span_of seconds before ≡ o → span_after seconds t.moment (span_of seconds before) ≡ span
        → ((s : ℕ) → span_of seconds before ≡ Some s → reached (s + seconds) before ≡ false) → (not (ltb t.moment (span + seconds)) || reached (span + seconds) before) ≡ false
    by_span None i r ih =
        let b : span_from seconds t.moment ≡ span = sym (ap (span_after seconds t.moment) i) ∙ r in
        let n = in-span seconds t.moment pos in
        or_from (not (ltb t.moment (span + seconds))) (reached (span + seconds) before) (ap not (lt-ltb t.moment (span + seconds) (omega (arith, b, n)))) (none-reached seconds (span + seconds) before i)
    by_span (Some s) i r ih = by_test (ltb t.moment (s + seconds)) refl
      where
        by_test : (x : Bool) → ltb t.moment (s + seconds) ≡ x → (not (ltb t.moment (span + seconds)) || reached (span + seconds) before) ≡ false
        by_test true p =
            let b : s ≡ span = sym (ap (λ (x : Bool). cond x s (span_from seconds t.moment)) p) ∙ sym (ap (span_after seconds t.moment) i) ∙ r in
            let l = ltb-true t.moment (s + seconds) p in
            or_from (not (ltb t.moment (span + seconds))) (reached (span + seconds) before) (ap not (lt-ltb t.moment (span + seconds) (omega (arith, b, l))))
            (ap (λ (k : ℕ). reached (k + seconds) before) (sym b) ∙ ih s i)
        by_test false p =
            let b : span_from seconds t.moment ≡ span = sym (ap (λ (x : Bool). cond x s (span_from seconds t.moment)) p) ∙ sym (ap (span_after seconds t.moment) i) ∙ r in
            let l = ltb-false t.moment (s + seconds) p in
            let n = in-span seconds t.moment pos in
            or_from (not (ltb t.moment (span + seconds))) (reached (span + seconds) before) (ap not (lt-ltb t.moment (span + seconds) (omega (arith, b, n))))
            (reached-less (s + seconds) (span + seconds) before (omega (arith, b, n, l)) (ih s i))

-- spans begin at multiples of their length
span-multiple : (seconds : ℕ) (requests : List Request) (span : ℕ) → span_of seconds requests ≡ Some span → (k : ℕ) × (span ≡ k * seconds)
span-multiple seconds [] span q = absurd (none-some q)
  where
    none-some : None ≡ Some span → ⊥
    none-some e = cc
span-multiple seconds (removes e ∷ before) span q = span-multiple seconds before span q
span-multiple seconds (asks e w t ∷ before) span q = by_span (span_of seconds before) refl (some-equal _ _ q) (λ s p. span-multiple seconds before s p)
  where
    by_span : (o : Option ℕ) → span_of seconds before ≡ o → span_after seconds t.moment (span_of seconds before) ≡ span
        → ((s : ℕ) → span_of seconds before ≡ Some s → (k : ℕ) × (s ≡ k * seconds)) → (k : ℕ) × (span ≡ k * seconds)
    by_span None i r ih = (t.moment / seconds, sym r ∙ ap (span_after seconds t.moment) i)
    by_span (Some s) i r ih = by_test (ltb t.moment (s + seconds)) refl (ih s i)
      where
        by_test : (x : Bool) → ltb t.moment (s + seconds) ≡ x → (k : ℕ) × (s ≡ k * seconds) → (k : ℕ) × (span ≡ k * seconds)
        by_test true p h = (h.0, sym r ∙ ap (span_after seconds t.moment) i ∙ ap (λ (x : Bool). cond x s (span_from seconds t.moment)) p ∙ h.1)
        by_test false p h = (t.moment / seconds, sym r ∙ ap (span_after seconds t.moment) i ∙ ap (λ (x : Bool). cond x s (span_from seconds t.moment)) p)

-- a span that begins later begins past the span before it
past-from : (seconds moment span k : ℕ) → 0 < seconds → span ≡ k * seconds → span + seconds ≤ moment → span + seconds ≤ span_from seconds moment
past-from seconds moment span k pos e l =
    let more : suc k * seconds ≡ k * seconds + seconds = suc-mul k seconds in
    let q : suc k ≤ moment / seconds = (le-div_iff_mul-le pos).1 (omega (arith, more, e, l)) in
    let p : suc k * seconds ≤ moment / seconds * seconds = mul-le-mul_right seconds q in
    omega (arith, more, e, p)

-- ---- marks

so-far-at : (weight : CacheEntryKey → ℕ) (mark : Option ℕ) (m : Mark) (before after : List Request) → after ≡ before → IsSoFar weight mark before m → IsSoFar weight mark after m
so-far-at weight mark m before after e h = subst (λ (l : List Request). IsSoFar weight mark l m) (sym e) h

module _ (weight : CacheEntryKey → ℕ) (mark : Option ℕ) (requests : List Request) where
  mark-asked : (e : CacheEntryKey) (w : ℕ) (t : When) (m : Mark) → IsMark weight mark requests m → IsMark weight mark (asks e w t ∷ requests) m
  mark-asked e w t m h = record {
    is_reached = ap (λ (b : Bool). not (ltb t.moment m.at) || b) h.is_reached ∙ or-true (not (ltb t.moment m.at));
    found = so-far-at weight mark m (until m.at requests) (until m.at (asks e w t ∷ requests))
        (ap (λ (b : Bool). cond b (until m.at requests) (cond (ltb t.moment m.at) (asks e w t ∷ requests) requests)) h.is_reached) h.found;
  }

  mark-removed : (e : CacheEntryKey) (m : Mark) → IsMark weight mark requests m → IsMark weight mark (removes e ∷ requests) m
  mark-removed e m h = record {
    is_reached = h.is_reached;
    found = so-far-at weight mark m (until m.at requests) (until m.at (removes e ∷ requests))
        (ap (λ (b : Bool). cond b (until m.at requests) (removes e ∷ requests)) h.is_reached) h.found;
  }

  all-asked : (e : CacheEntryKey) (w : ℕ) (t : When) (marks : List Mark) → AllByRecursion (IsMark weight mark requests) marks → AllByRecursion (IsMark weight mark (asks e w t ∷ requests)) marks
  all-asked e w t [] h = tt
  all-asked e w t (m ∷ marks) h = (mark-asked e w t m h.0, all-asked e w t marks h.1)

  all-removed : (e : CacheEntryKey) (marks : List Mark) → AllByRecursion (IsMark weight mark requests) marks → AllByRecursion (IsMark weight mark (removes e ∷ requests)) marks
  all-removed e [] h = tt
  all-removed e (m ∷ marks) h = (mark-removed e m h.0, all-removed e marks h.1)

  -- the first request at a moment or later makes a mark of all before it
  new-mark : (e : CacheEntryKey) (w : ℕ) (t : When) (m : Mark) → reached m.at requests ≡ false → m.at ≤ t.moment → IsSoFar weight mark requests m → IsMark weight mark (asks e w t ∷ requests) m
  new-mark e w t m r l h =
      let late = le-ltb t.moment m.at l in
      record {
        is_reached = ap (λ (b : Bool). not b || reached m.at requests) late;
        found = so-far-at weight mark m requests (until m.at (asks e w t ∷ requests))
            (ap₂ (λ (x y : Bool). cond x (until m.at requests) (cond y (asks e w t ∷ requests) requests)) r late) h;
      }

pub all-one : (P : Mark → Type 0) (marks : List Mark) (m : Mark) → AllByRecursion P marks → P m → AllByRecursion P (marks ++ m ∷ [])
all-one P [] m h p = (p, tt)
all-one P (x ∷ marks) m h p = (h.0, all-one P marks m h.1 p)

ats-one : (marks : List Mark) (m : Mark) → map (λ (x : Mark). x.at) (marks ++ m ∷ []) ≡ map (λ (x : Mark). x.at) marks ++ m.at ∷ []
ats-one [] m = refl
ats-one (x ∷ marks) m = ap (λ (l : List ℕ). x.at ∷ l) (ats-one marks m)

-- ---- a request more

pub removed-marked : (ws ws' : List ℕ) (mark mark' : Option ℕ) (every : Option Every) (span : Option ℕ) (marks : List Mark) (requests : List Request) (e : CacheEntryKey) → ws' ≡ ws → mark' ≡ mark
    → IsMarked ws mark every span marks requests → IsMarked ws' mark' every span marks (removes e ∷ requests)
removed-marked ws ws' mark mark' every span marks requests e p q h = record {
  span_is = by_every every h.span_is;
  marks_are = λ weight a.
      let v = h.marks_are weight (subst (Agrees weight) p a) in
      subst (λ (k : Option ℕ). AreMarks weight k every (removes e ∷ requests) marks) (sym q)
      (record { moments = v.moments ∙ by-every every; each = all-removed weight mark requests e marks v.each });
}
  where
    by_every : (o : Option Every) → IfSome o (λ x. span ≡ span_of x.seconds requests) → IfSome o (λ x. span ≡ span_of x.seconds (removes e ∷ requests))
    by_every None h = tt
    by_every (Some x) h = h

    by-every : (o : Option Every) → marks_by o requests ≡ marks_by o (removes e ∷ requests)
    by-every None = refl
    by-every (Some x) = refl

-- without spans
pub none-marked : (ws : List ℕ) (mark : Option ℕ) (every : Option Every) (span : Option ℕ) (marks : List Mark) (requests : List Request) (e : CacheEntryKey) (w : ℕ) (t : When) → every ≡ None
    → IsMarked ws mark every span marks requests → IsMarked ws mark every span marks (asks e w t ∷ requests)
none-marked ws mark None span marks requests e w t p h = record {
  span_is = tt;
  marks_are = λ weight a. let v = h.marks_are weight a in record { moments = v.moments; each = all-asked weight mark requests e w t marks v.each };
}
none-marked ws mark (Some x) span marks requests e w t p h = absurd (some-none p)
  where
    some-none : Some x ≡ None → ⊥
    some-none e = cc

-- a request that isn't past the span, or is the first
pub within-marked : (ws : List ℕ) (mark : Option ℕ) (x : Every) (span span' : Option ℕ) (marks : List Mark) (requests : List Request) (e : CacheEntryKey) (w : ℕ) (t : When)
    → is_past_span x.seconds t.moment span ≡ false → span' ≡ Some (span_after x.seconds t.moment span)
    → IsMarked ws mark (Some x) span marks requests → IsMarked ws mark (Some x) span' marks (asks e w t ∷ requests)
within-marked ws mark x span span' marks requests e w t past next h = record {
  span_is = next ∙ ap (λ (o : Option ℕ). Some (span_after x.seconds t.moment o)) h.span_is;
  marks_are = λ weight a.
      let v = h.marks_are weight a in
      let no : is_past_span x.seconds t.moment (span_of x.seconds requests) ≡ false = sym (ap (is_past_span x.seconds t.moment) h.span_is) ∙ past in
      record {
        moments = v.moments ∙ sym (ap (λ (b : Bool). marks_of x.seconds requests ++ cond b (span_from x.seconds t.moment ∷ []) []) no ∙ append-nil (marks_of x.seconds requests));
        each = all-asked weight mark requests e w t marks v.each;
      };
}

-- one that is past it
pub past-marked : (ws : List ℕ) (mark : Option ℕ) (x : Every) (span : ℕ) (marks marks' : List Mark) (m : Mark) (requests : List Request) (e : CacheEntryKey) (w : ℕ) (t : When)
    → 0 < x.seconds → ltb t.moment (span + x.seconds) ≡ false → marks' ≡ marks ++ m ∷ [] → m.at ≡ span_from x.seconds t.moment
    → ((weight : CacheEntryKey → ℕ) → Agrees weight ws → IsSoFar weight mark requests m)
    → IsMarked ws mark (Some x) (Some span) marks requests → IsMarked ws mark (Some x) (Some (span_from x.seconds t.moment)) marks' (asks e w t ∷ requests)
past-marked ws mark x span marks marks' m requests e w t pos past new at far h =
    let s = x.seconds in
    let is : span_of s requests ≡ Some span = sym h.span_is in
    let l : span + s ≤ t.moment = ltb-false t.moment (span + s) past in
    let k = span-multiple s requests span is in
    let low : span + s ≤ m.at = (let p = past-from s t.moment span k.0 pos k.1 l in omega (arith, p, at)) in
    let r : reached m.at requests ≡ false = reached-less (span + s) m.at requests low (span-bound s requests span pos is) in
    let high : m.at ≤ t.moment = (let p = div-mul-le_self t.moment s in omega (arith, p, at)) in
    let yes : is_past_span s t.moment (span_of s requests) ≡ true = ap (is_past_span s t.moment) is ∙ ap not past in
    record {
      span_is = sym (ap (λ (b : Bool). Some (cond b span (span_from s t.moment))) past) ∙ ap (λ (o : Option ℕ). Some (span_after s t.moment o)) h.span_is;
      marks_are = λ weight a.
          let v = h.marks_are weight a in
          record {
            moments = ap (λ (ms : List Mark). map (λ (y : Mark). y.at) ms) new ∙ ats-one marks m ∙ ap₂ (λ (ns : List ℕ) (n : ℕ). ns ++ n ∷ []) v.moments at
                ∙ sym (ap (λ (b : Bool). marks_of s requests ++ cond b (span_from s t.moment ∷ []) []) yes);
            each = subst (AllByRecursion (IsMark weight mark (asks e w t ∷ requests))) (sym new)
                (all-one (IsMark weight mark (asks e w t ∷ requests)) marks m (all-asked weight mark requests e w t marks v.each) (new-mark weight mark requests e w t m r high (far weight a)));
          };
    }

-- weights that grow, and the same watermark
pub grown-marked : (ws ws' : List ℕ) (mark mark' : Option ℕ) (every : Option Every) (span : Option ℕ) (marks : List Mark) (requests : List Request)
    → ((weight : CacheEntryKey → ℕ) → Agrees weight ws' → Agrees weight ws) → mark' ≡ mark → IsMarked ws mark every span marks requests → IsMarked ws' mark' every span marks requests
grown-marked ws ws' mark mark' every span marks requests before q h = record {
  span_is = h.span_is;
  marks_are = λ weight a. subst (λ (k : Option ℕ). AreMarks weight k every requests marks) (sym q) (h.marks_are weight (before weight a));
}

-- the rows of marks at limits that stay the same
pub rows-same : (limits limits' : List ℕ) (b b' : Bool) (marks : List Mark) → limits' ≡ limits → b' ≡ b → AllByRecursion (HasMarkRows limits b) marks → AllByRecursion (HasMarkRows limits' b') marks
rows-same limits limits' b b' marks p q h =
    subst (λ (ls : List ℕ). AllByRecursion (HasMarkRows ls b') marks) (sym p) (subst (λ (x : Bool). AllByRecursion (HasMarkRows limits x) marks) (sym q) h)

-- ---- as the program tells it: the length, the span and the moment are known by their equations

pub first-marked : (ws : List ℕ) (mark : Option ℕ) (every : Option Every) (x : Every) (span : Option ℕ) (at moment : ℕ) (marks : List Mark) (requests : List Request) (e : CacheEntryKey) (w : ℕ) (t : When)
    → every ≡ Some x → span ≡ None → at ≡ span_from x.seconds moment → t.moment ≡ moment → IsMarked ws mark every span marks requests → IsMarked ws mark every (Some at) marks (asks e w t ∷ requests)
first-marked ws mark every x span at moment marks requests e w t p q a m h =
    let s = x.seconds in
    let start : at ≡ span_from s t.moment = a ∙ ap (span_from s) (sym m) in
    subst (λ (o : Option Every). IsMarked ws mark o (Some at) marks (asks e w t ∷ requests)) (sym p)
    (within-marked ws mark x span (Some at) marks requests e w t (ap (is_past_span s t.moment) q)
    (ap (λ (n : ℕ). Some n) start ∙ sym (ap (λ (o : Option ℕ). Some (span_after s t.moment o)) q))
    (subst (λ (o : Option Every). IsMarked ws mark o span marks requests) p h))

pub stays-marked : (ws : List ℕ) (mark : Option ℕ) (every : Option Every) (x : Every) (span : Option ℕ) (begun moment : ℕ) (marks : List Mark) (requests : List Request) (e : CacheEntryKey) (w : ℕ) (t : When)
    → every ≡ Some x → span ≡ Some begun → ltb moment (begun + x.seconds) ≡ true → t.moment ≡ moment → IsMarked ws mark every span marks requests → IsMarked ws mark every span marks (asks e w t ∷ requests)
stays-marked ws mark every x span begun moment marks requests e w t p q b m h =
    let s = x.seconds in
    let has : ltb t.moment (begun + s) ≡ true = ap (λ (n : ℕ). ltb n (begun + s)) m ∙ b in
    subst (λ (o : Option Every). IsMarked ws mark o span marks (asks e w t ∷ requests)) (sym p)
    (within-marked ws mark x span span marks requests e w t (ap (is_past_span s t.moment) q ∙ ap not has)
    (q ∙ sym (ap (λ (o : Option ℕ). Some (span_after s t.moment o)) q ∙ ap (λ (y : Bool). Some (cond y begun (span_from s t.moment))) has))
    (subst (λ (o : Option Every). IsMarked ws mark o span marks requests) p h))

pub later-marked : (ws : List ℕ) (mark : Option ℕ) (every : Option Every) (x : Every) (span : Option ℕ) (begun at moment : ℕ) (marks marks' : List Mark) (m : Mark) (requests : List Request) (e : CacheEntryKey) (w : ℕ) (t : When)
    → every ≡ Some x → span ≡ Some begun → 0 < x.seconds → ltb moment (begun + x.seconds) ≡ false → marks' ≡ marks ++ m ∷ [] → m.at ≡ at → at ≡ span_from x.seconds moment → t.moment ≡ moment
    → ((weight : CacheEntryKey → ℕ) → Agrees weight ws → IsSoFar weight mark requests m)
    → IsMarked ws mark every span marks requests → IsMarked ws mark every (Some at) marks' (asks e w t ∷ requests)
later-marked ws mark every x span begun at moment marks marks' m requests e w t p q pos b new here a when far h =
    let s = x.seconds in
    let has : ltb t.moment (begun + s) ≡ false = ap (λ (n : ℕ). ltb n (begun + s)) when ∙ b in
    let start : at ≡ span_from s t.moment = a ∙ ap (span_from s) (sym when) in
    let old : IsMarked ws mark (Some x) (Some begun) marks requests =
    subst (λ (o : Option ℕ). IsMarked ws mark (Some x) o marks requests) q (subst (λ (o : Option Every). IsMarked ws mark o span marks requests) p h) in
    subst (λ (o : Option Every). IsMarked ws mark o (Some at) marks' (asks e w t ∷ requests)) (sym p)
    (subst (λ (n : ℕ). IsMarked ws mark (Some x) (Some n) marks' (asks e w t ∷ requests)) (sym start)
    (past-marked ws mark x begun marks marks' m requests e w t pos has new (here ∙ start) far old))
