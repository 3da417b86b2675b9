-- One request more is told.
use Rattle.std.proofs.Common.{◌≡◌, ℕ, ◌+◌, ◌-◌, ◌≤◌, ◌<◌, ◌⊎◌, inl, inr, eqb, Bool, true, false, cond, List, ◌∷◌, length, get_or, set, Option, Some, None, refl, ap, ap₂, sym, subst, ◌∙◌, arith}
use Rattle.std.proofs.lemmas.Bool.{cases_lt, lt-ltb, le-ltb, eqb-true, eq-eqb, true≢false}
use Rattle.std.proofs.lemmas.List.{length_push, get_or-set_same, get_or-set_other}
use Rattle.cache_entries.specs.declared.entry.CacheEntryKey.{CacheEntryKey}
use Rattle.cache_entries.specs.declared.rows.Tracked.{Tracked}
use Rattle.cache_entries.specs.Entry.{same_entry}
use Rattle.cache_entries.specs.Rows.{all_weights, without_row, is_over}
use Rattle.curve_loads.specs.Steps.{Step, has_row, held, put_first, kept, row_for, exceeds}
use Rattle.curve_loads.specs.Steps as steps
use Rattle.curve_loads.proofs.Limits.{weights-cons}
use Rattle.curve_loads.proofs.Kept.{kept-all}
use Rattle.curve_sizes.specs.declared.when.When.{When}
use Rattle.curve_sizes.specs.Requests.{Request, asks, removes, steps_of, asked_in}
use Rattle.curve_sizes.specs.Numbers.{numbered}
use Rattle.curve_sizes.proofs.CellPlaces.{same-numbered}
use Rattle.curve_sizes.proofs.Feeding.{weighs}
use Rattle.curve_held.specs.declared.row.Full.{Full}
use Rattle.curve_held.specs.declared.filling.Filling.{Filling}
use Rattle.curve_held.specs.Held.{last_asked, full_at, first_of, puts_out}
use Rattle.curve_held.specs.State.{present, IsNoted, IsGrown, ShowsFilled, IsFilled}
use Rattle.curve_held.proofs.Present.{distinct-present, weighed-present, without-weighs, without-counts, without-none, there-first, there-without, over-fewer}

-- ---- an ask

pub record IsAsked (f f' : Filling) (entry weight : ℕ) (when : When) : Type 0 where
  pub whole : f'.is_broken ≡ f.is_broken
  pub limits : f'.limits ≡ f.limits
  pub most : f'.most ≡ f.most
  pub there : (n : ℕ) → get_or f'.there.items n false ≡ cond (eqb n entry) true (get_or f.there.items n false)
  pub latest : (n : ℕ) → get_or f'.latest.items n 0 ≡ cond (eqb n entry) when.moment (get_or f.latest.items n 0)
  pub known : entry < length f.there.items → length f'.there.items ≡ length f.there.items
  pub next : entry ≡ length f.there.items → length f'.there.items ≡ length f.there.items + 1
  pub even : length f'.latest.items ≡ length f'.there.items
  pub weighs : f'.weight ≡ f.weight + cond (get_or f.there.items entry false) 0 weight
  pub counts : f'.number ≡ f.number + cond (get_or f.there.items entry false) 0 1
  pub asks_are : f'.asks ≡ f.asks + 1
  pub noted : IsNoted f.limits.items f.most f'.weight f'.number (record { asks = f.asks + 1; moment = when.moment }) f.full.items f'.full.items

eqb-turned : (a b : ℕ) → eqb a b ≡ eqb b a
eqb-turned a b = by_tests (eqb a b) (eqb b a) refl refl
  where
    by_tests : (s t : Bool) → eqb a b ≡ s → eqb b a ≡ t → s ≡ t
    by_tests true true p q = refl
    by_tests false false p q = refl
    by_tests true false p q = absurd (true≢false (sym (eq-eqb b a (sym (eqb-true a b p))) ∙ q))
    by_tests false true p q = absurd (true≢false (sym (eq-eqb a b (sym (eqb-true b a q))) ∙ p))

same-turned : (n entry : ℕ) → same_entry (numbered entry) (numbered n) ≡ eqb n entry
same-turned n entry = same-numbered entry n ∙ eqb-turned entry n

-- an ask that puts nothing out: all stays, with the entry in front
stays-whole : (weight : CacheEntryKey → ℕ) (limit : ℕ) (mark : Option ℕ) (e : CacheEntryKey) (before : List Step) → held weight limit mark before ≡ present weight before
    → is_over limit mark (present weight (steps.asks e ∷ before)) ≡ false
    → (puts_out weight limit mark e before ≡ false) × (held weight limit mark (steps.asks e ∷ before) ≡ present weight (steps.asks e ∷ before))
stays-whole weight limit mark e before h o =
    let rows : List Tracked = put_first weight e (held weight limit mark before) in
    let same : rows ≡ present weight (steps.asks e ∷ before) = ap (put_first weight e) h in
    let whole : kept limit mark rows ≡ rows = kept-all limit mark rows (ap (is_over limit mark) same ∙ o) in
    let n = ap (λ (l : List Tracked). length l) whole in
    (le-ltb (length (kept limit mark rows)) (length rows) (omega (arith, n)), whole ∙ same)

-- one that passes the limits
is-put-out : (weight : CacheEntryKey → ℕ) (limit : ℕ) (mark : Option ℕ) (e : CacheEntryKey) (before : List Step) → held weight limit mark before ≡ present weight before
    → is_over limit mark (present weight (steps.asks e ∷ before)) ≡ true → puts_out weight limit mark e before ≡ true
is-put-out weight limit mark e before h o =
    let rows : List Tracked = put_first weight e (held weight limit mark before) in
    let same : rows ≡ present weight (steps.asks e ∷ before) = ap (put_first weight e) h in
    lt-ltb (length (kept limit mark rows)) (length rows) (over-fewer limit mark rows (ap (is_over limit mark) same ∙ o))

module _ (weight : CacheEntryKey → ℕ) (limits : List ℕ) (mark : Option ℕ) (f f' : Filling) (entry own w : ℕ) (when : When) (requests : List Request) (k : IsAsked f f' entry own when)
    (limits_are : f.limits.items ≡ limits) (most_is : f.most ≡ mark) (asks_are : f.asks ≡ asked_in requests) (o : own ≡ weight (numbered entry)) (s : ShowsFilled weight limits mark f requests) where
  abbrev before : List Step
  before = steps_of requests

  abbrev rows : List Tracked
  rows = present weight before

  abbrev now : Full
  now = record { asks = f.asks + 1; moment = when.moment }

  noted : IsNoted limits mark f'.weight f'.number now f.full.items f'.full.items
  noted =
      subst (λ (l : List ℕ). IsNoted l mark f'.weight f'.number now f.full.items f'.full.items) limits_are
      (subst (λ (m : Option ℕ). IsNoted f.limits.items m f'.weight f'.number now f.full.items f'.full.items) most_is k.noted)

  weighs-now : f'.weight ≡ all_weights (present weight (steps.asks (numbered entry) ∷ before))
  weighs-now = by_test (get_or f.there.items entry false) refl
    where
      by_test : (t : Bool) → get_or f.there.items entry false ≡ t → f'.weight ≡ all_weights (put_first weight (numbered entry) rows)
      by_test true i =
          let c = weights-cons (row_for weight (numbered entry)) (without_row (numbered entry) rows) in
          let e = k.weighs ∙ ap (λ (b : Bool). f.weight + cond b 0 own) i in
          let x = without-weighs weight (numbered entry) rows (weighed-present weight before) (distinct-present weight before) (sym (s.there entry) ∙ i) in
          omega (arith, e, x, c, s.weighs)
      by_test false i =
          let c = weights-cons (row_for weight (numbered entry)) (without_row (numbered entry) rows) in
          let e = k.weighs ∙ ap (λ (b : Bool). f.weight + cond b 0 own) i in
          let x = ap (λ (l : List Tracked). all_weights l) (without-none (numbered entry) rows (sym (s.there entry) ∙ i)) in
          omega (arith, e, x, c, s.weighs, o)

  counts-now : f'.number ≡ length (present weight (steps.asks (numbered entry) ∷ before))
  counts-now = by_test (get_or f.there.items entry false) refl
    where
      by_test : (t : Bool) → get_or f.there.items entry false ≡ t → f'.number ≡ length (put_first weight (numbered entry) rows)
      by_test true i =
          let e = k.counts ∙ ap (λ (b : Bool). f.number + cond b 0 1) i in
          let x = without-counts weight (numbered entry) rows (distinct-present weight before) (sym (s.there entry) ∙ i) in
          omega (arith, e, x, s.counts)
      by_test false i =
          let e = k.counts ∙ ap (λ (b : Bool). f.number + cond b 0 1) i in
          let x = ap (λ (l : List Tracked). length l) (without-none (numbered entry) rows (sym (s.there entry) ∙ i)) in
          omega (arith, e, x, s.counts)

  over-now : (limit : ℕ) → exceeds limit mark f'.weight f'.number ≡ is_over limit mark (present weight (steps.asks (numbered entry) ∷ before))
  over-now limit = ap₂ (exceeds limit mark) weighs-now counts-now

  now-is : now ≡ record { asks = asked_in (asks (numbered entry) w when ∷ requests); moment = when.moment }
  now-is = let e : f.asks + 1 ≡ 1 + asked_in requests = omega (arith, asks_are) in λ i. record { asks = e i; moment = when.moment }

  full-now : (i : ℕ) (d : Full) → i < length f'.full.items → full_at weight (get_or limits i 0) mark (asks (numbered entry) w when ∷ requests) ≡ Some (get_or f'.full.items i d)
  full-now i d l = by_case (cases_lt i (length f.full.items))
    where
      later : Option Full
      later = cond (puts_out weight (get_or limits i 0) mark (numbered entry) before) (Some (record { asks = asked_in (asks (numbered entry) w when ∷ requests); moment = when.moment })) None

      by_case : (i < length f.full.items) ⊎ (length f.full.items ≤ i) → first_of (full_at weight (get_or limits i 0) mark requests) later ≡ Some (get_or f'.full.items i d)
      by_case (inl m) = ap (λ (x : Option Full). first_of x later) (s.full i d m) ∙ ap (λ (x : Full). Some x) (sym (noted.noted.before i d m))
      by_case (inr m) =
          let r = s.rest i m (omega (arith, l, noted.noted.within)) in
          let p = is-put-out weight (get_or limits i 0) mark (numbered entry) before r.1 (sym (over-now (get_or limits i 0)) ∙ noted.noted.past i m l) in
          ap (λ (x : Option Full). first_of x later) r.0
          ∙ ap (λ (b : Bool). cond b (Some (record { asks = asked_in (asks (numbered entry) w when ∷ requests); moment = when.moment })) None) p
          ∙ ap (λ (x : Full). Some x) (sym now-is ∙ sym (noted.noted.noted i d m l))

  rest-now : (i : ℕ) → length f'.full.items ≤ i → i < length limits
      → (full_at weight (get_or limits i 0) mark (asks (numbered entry) w when ∷ requests) ≡ None)
      × (held weight (get_or limits i 0) mark (steps.asks (numbered entry) ∷ before) ≡ present weight (steps.asks (numbered entry) ∷ before))
  rest-now i m l =
      let r = s.rest i (omega (arith, m, noted.noted.longer)) l in
      let p = stays-whole weight (get_or limits i 0) mark (numbered entry) before r.1 (sym (over-now (get_or limits i 0)) ∙ noted.rest i m l) in (
        ap₂ (λ (x : Option Full) (b : Bool). first_of x (cond b (Some (record { asks = asked_in (asks (numbered entry) w when ∷ requests); moment = when.moment })) None)) r.0 p.0,
        p.1,
      )

  pub asked-shows : ShowsFilled weight limits mark f' (asks (numbered entry) w when ∷ requests)
  asked-shows = record {
    there = λ n. k.there n ∙ ap (λ (b : Bool). cond (eqb n entry) true b) (s.there n) ∙ sym (there-first weight n entry rows);
    weighs = weighs-now;
    counts = counts-now;
    full = full-now;
    rest = rest-now;
  }

pub asked-filled : (f f' : Filling) (entry own : ℕ) (when : When) → IsAsked f f' entry own when
    → (ws ws' limits : List ℕ) (mark : Option ℕ) (w : ℕ) (requests : List Request) → IsGrown ws ws' entry w → own ≡ get_or ws' entry 0
    → IsFilled ws limits mark f requests → IsFilled ws' limits mark f' (asks (numbered entry) w when ∷ requests)
asked-filled f f' entry own when k ws ws' limits mark w requests g o s =
    let v = weighs ws ws' entry w g.within g.known g.next in
    record {
      whole = k.whole ∙ s.whole;
      limits_are = ap (λ l. l.items) k.limits ∙ s.limits_are;
      most_is = k.most ∙ s.most_is;
      rising = s.rising;
      entries_are = by_case (cases_lt entry (length ws));
      latest_are = k.even ∙ by_case (cases_lt entry (length ws));
      latest = λ n. k.latest n ∙ ap (λ (m : ℕ). cond (eqb n entry) when.moment m) (s.latest n) ∙ ap (λ (b : Bool). cond b when.moment (last_asked (numbered n) requests)) (sym (same-turned n entry));
      asks = k.asks_are ∙ (let e = s.asks in omega (arith, e));
      few = few;
      shown = λ weight a. asked-shows weight limits mark f f' entry own w when requests k s.limits_are s.most_is s.asks (o ∙ sym (a entry v.below)) (s.shown weight (v.before weight a));
    }
  where
    by_case : (entry < length ws) ⊎ (length ws ≤ entry) → length f'.there.items ≡ length ws'
    by_case (inl l) =
        let n = ap (λ (x : List ℕ). length x) (g.known l) in
        let m = k.known (omega (arith, l, s.entries_are)) in
        omega (arith, n, m, s.entries_are)
    by_case (inr l) =
        let q : entry ≡ length ws = omega (arith, l, g.within) in
        let n = ap (λ (x : List ℕ). length x) (g.next q) in
        let p = length_push ws w in
        let m = k.next (omega (arith, q, s.entries_are)) in
        omega (arith, n, p, m, s.entries_are)

    few : length f'.full.items ≤ length limits
    few = let e = ap (λ (l : List ℕ). length l) s.limits_are in omega (arith, e, k.noted.noted.within)

-- ---- a removal

pub put-at : (xs : List Bool) (entry n : ℕ) (b : Bool) → entry < length xs → get_or (set xs entry b) n false ≡ cond (eqb n entry) b (get_or xs n false)
put-at xs entry n b l = by_test (eqb n entry) refl
  where
    by_test : (t : Bool) → eqb n entry ≡ t → get_or (set xs entry b) n false ≡ cond t b (get_or xs n false)
    by_test true i = ap (λ (k : ℕ). get_or (set xs entry b) k false) (eqb-true n entry i) ∙ get_or-set_same xs entry b false l
    by_test false i = get_or-set_other xs entry n b false (λ e. true≢false (sym (eq-eqb n entry e) ∙ i))

pub none-at : (xs : List Bool) (entry n : ℕ) → get_or xs entry false ≡ false → get_or xs n false ≡ cond (eqb n entry) false (get_or xs n false)
none-at xs entry n h = by_test (eqb n entry) refl
  where
    by_test : (t : Bool) → eqb n entry ≡ t → get_or xs n false ≡ cond t false (get_or xs n false)
    by_test true i = ap (λ (k : ℕ). get_or xs k false) (eqb-true n entry i) ∙ h
    by_test false i = refl

pub record IsRemoved (f f' : Filling) (entry weight : ℕ) : Type 0 where
  pub whole : f'.is_broken ≡ f.is_broken
  pub limits : f'.limits ≡ f.limits
  pub most : f'.most ≡ f.most
  pub there : (n : ℕ) → get_or f'.there.items n false ≡ cond (eqb n entry) false (get_or f.there.items n false)
  pub entries : length f'.there.items ≡ length f.there.items
  pub latest : f'.latest ≡ f.latest
  pub weighs : f'.weight ≡ cond (get_or f.there.items entry false) (f.weight - weight) f.weight
  pub counts : f'.number ≡ cond (get_or f.there.items entry false) (f.number - 1) f.number
  pub asks_are : f'.asks ≡ f.asks
  pub full : f'.full ≡ f.full

module _ (weight : CacheEntryKey → ℕ) (limits : List ℕ) (mark : Option ℕ) (f f' : Filling) (entry own : ℕ) (requests : List Request) (k : IsRemoved f f' entry own)
    (o : own ≡ weight (numbered entry)) (s : ShowsFilled weight limits mark f requests) where
  abbrev before' : List Step
  before' = steps_of requests

  abbrev rows' : List Tracked
  rows' = present weight before'

  weighs-less : f'.weight ≡ all_weights (without_row (numbered entry) rows')
  weighs-less = by_test (get_or f.there.items entry false) refl
    where
      by_test : (t : Bool) → get_or f.there.items entry false ≡ t → f'.weight ≡ all_weights (without_row (numbered entry) rows')
      by_test true i =
          let e = k.weighs ∙ ap (λ (b : Bool). cond b (f.weight - own) f.weight) i in
          let x = without-weighs weight (numbered entry) rows' (weighed-present weight before') (distinct-present weight before') (sym (s.there entry) ∙ i) in
          omega (arith, e, x, s.weighs, o)
      by_test false i =
          let e = k.weighs ∙ ap (λ (b : Bool). cond b (f.weight - own) f.weight) i in
          let x = ap (λ (l : List Tracked). all_weights l) (without-none (numbered entry) rows' (sym (s.there entry) ∙ i)) in
          omega (arith, e, x, s.weighs)

  counts-less : f'.number ≡ length (without_row (numbered entry) rows')
  counts-less = by_test (get_or f.there.items entry false) refl
    where
      by_test : (t : Bool) → get_or f.there.items entry false ≡ t → f'.number ≡ length (without_row (numbered entry) rows')
      by_test true i =
          let e = k.counts ∙ ap (λ (b : Bool). cond b (f.number - 1) f.number) i in
          let x = without-counts weight (numbered entry) rows' (distinct-present weight before') (sym (s.there entry) ∙ i) in
          omega (arith, e, x, s.counts)
      by_test false i =
          let e = k.counts ∙ ap (λ (b : Bool). cond b (f.number - 1) f.number) i in
          let x = ap (λ (l : List Tracked). length l) (without-none (numbered entry) rows' (sym (s.there entry) ∙ i)) in
          omega (arith, e, x, s.counts)

  pub removed-shows : ShowsFilled weight limits mark f' (removes (numbered entry) ∷ requests)
  removed-shows =
      let n = ap (λ x. length x.items) k.full in
      record {
        there = λ n. k.there n ∙ ap (λ (b : Bool). cond (eqb n entry) false b) (s.there n) ∙ sym (there-without n entry rows');
        weighs = weighs-less;
        counts = counts-less;
        full = λ i d l. s.full i d (omega (arith, l, n)) ∙ ap (λ x. Some (get_or x.items i d)) (sym k.full);
        rest = λ i m l. let r = s.rest i (omega (arith, m, n)) l in (r.0, ap (without_row (numbered entry)) r.1);
      }

pub removed-filled : (f f' : Filling) (entry own : ℕ) → IsRemoved f f' entry own → (ws limits : List ℕ) (mark : Option ℕ) (requests : List Request) → entry < length ws → own ≡ get_or ws entry 0
    → IsFilled ws limits mark f requests → IsFilled ws limits mark f' (removes (numbered entry) ∷ requests)
removed-filled f f' entry own k ws limits mark requests l o s =
    let n = ap (λ x. length x.items) k.full in
    let m = ap (λ x. length x.items) k.latest in
    record {
      whole = k.whole ∙ s.whole;
      limits_are = ap (λ x. x.items) k.limits ∙ s.limits_are;
      most_is = k.most ∙ s.most_is;
      rising = s.rising;
      entries_are = k.entries ∙ s.entries_are;
      latest_are = m ∙ s.latest_are;
      latest = λ n. ap (λ x. get_or x.items n 0) k.latest ∙ s.latest n;
      asks = k.asks_are ∙ s.asks;
      few = omega (arith, n, s.few);
      shown = λ weight a. removed-shows weight limits mark f f' entry own requests k (o ∙ sym (a entry l)) (s.shown weight a);
    }
