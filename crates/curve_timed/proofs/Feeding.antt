-- What the table shows once it was fed one request more.
use Rattle.std.proofs.Common.{◌≡◌, ℕ, ◌+◌, ◌≤◌, ◌<◌, ◌&&◌, ◌||◌, ◌⊎◌, inl, inr, ltb, leb, eqb, cond, Bool, true, false, List, [], ◌∷◌, ◌++◌, Option, Some, None, refl, ap, ap₂, sym, ◌∙◌, subst, arith, length, get_or}
use Rattle.std.specs.Prelude.{not, IfSome}
use Rattle.std.proofs.lemmas.Bool.{cases_lt, ltb-true, ltb-false, leb-true, leb-false, eqb-true, eq-eqb, true≢false}
use Rattle.std.proofs.lemmas.List.{length_push}
use Rattle.cache_entries.specs.declared.entry.CacheEntryKey.{CacheEntryKey}
use Rattle.curve_loads.specs.Steps.{Step, has_row, held}
use Rattle.curve_loads.specs.Steps as plain
use Rattle.curve_fresh.specs.Fresh.{Timed, stale_from, stale_in, fresh_finds, fresh_bytes}
use Rattle.curve_fresh.specs.Fresh as timed
use Rattle.curve_runs.specs.declared.run.Load.{Load}
use Rattle.curve_runs.specs.declared.table.FreshTable.{FreshTable}
use Rattle.curve_runs.specs.Runs.{since_of, loaded}
use Rattle.curve_runs.specs.Counts.{counted, fresh}
use Rattle.curve_sizes.specs.declared.when.When.{When}
use Rattle.curve_sizes.specs.Requests.{Request, asks, removes, steps_of}
use Rattle.curve_sizes.specs.Numbers.{numbered, Agrees}
use Rattle.curve_sizes.proofs.Feeding.{weighs}
use Rattle.curve_sizes.proofs.CellPlaces.{same-numbered}
use Rattle.curve_timed.specs.Timed.{timed_of}
use Rattle.curve_timed.specs.Counting.{IsCounted, ShowsFresh, IsFedFresh}

pub steps-timed : (requests : List Request) → timed.steps_of (timed_of requests) ≡ steps_of requests
steps-timed [] = refl
steps-timed (asks e w t ∷ before) = ap (λ (l : List Step). plain.asks e ∷ l) (steps-timed before)
steps-timed (removes e ∷ before) = ap (λ (l : List Step). plain.removes e ∷ l) (steps-timed before)

-- by the tests of one size: what is loaded
loaded-as : (first i moment since had : ℕ) (has : Bool) → leb first i ≡ has → cond (ltb i first || leb had moment) since had ≡ cond (false || (has && ltb moment had)) had since
loaded-as first i moment since had has h = by_tests (ltb i first) (leb had moment) has (ltb moment had) refl refl h refl
  where
    by_tests : (a b c d : Bool) → ltb i first ≡ a → leb had moment ≡ b → leb first i ≡ c → ltb moment had ≡ d → cond (a || b) since had ≡ cond (false || (c && d)) had since
    by_tests true b true d p q r s = let x = ltb-true i first p in let y = leb-true first i r in absurd (omega (arith, x, y))
    by_tests true b false d p q r s = refl
    by_tests false b false d p q r s = let x = ltb-false i first p in let y = leb-false first i r in absurd (omega (arith, x, y))
    by_tests false true true true p q r s = let x = leb-true had moment q in let y = ltb-true moment had s in absurd (omega (arith, x, y))
    by_tests false true true false p q r s = refl
    by_tests false false true true p q r s = refl
    by_tests false false true false p q r s = let x = leb-false had moment q in let y = ltb-false moment had s in absurd (omega (arith, x, y))

module _ (weight : CacheEntryKey → ℕ) (limit : ℕ) (mark : Option ℕ) (requests : List Request) (entry w : ℕ) (t : When) (first i : ℕ)
    (h : leb first i ≡ has_row (numbered entry) (held weight limit mark (steps_of requests))) where
  abbrev load : Load
  load = record { first = first; moment = t.moment; since = stale_from t.moment t.lifetime }

  abbrev before : List Timed
  before = timed_of requests

  h-timed : leb first i ≡ has_row (numbered entry) (held weight limit mark (timed.steps_of before))
  h-timed = h ∙ ap (λ (s : List Step). has_row (numbered entry) (held weight limit mark s)) (sym (steps-timed requests))

  stale-here : (had : ℕ) → had ≡ stale_in weight limit mark (numbered entry) before → loaded load i had ≡ stale_in weight limit mark (numbered entry) (timed_of (asks (numbered entry) w t ∷ requests))
  stale-here had q =
      ap (loaded load i) q ∙ loaded-as first i t.moment (stale_from t.moment t.lifetime) (stale_in weight limit mark (numbered entry) before) (has_row (numbered entry) (held weight limit mark (timed.steps_of before))) h-timed
      ∙ sym (ap (λ (b : Bool). cond (not b || (has_row (numbered entry) (held weight limit mark (timed.steps_of before)) && ltb t.moment (stale_in weight limit mark (numbered entry) before)))
      (stale_in weight limit mark (numbered entry) before) (stale_from t.moment t.lifetime)) (same-numbered entry entry ∙ eqb-self entry))
    where
      eqb-self : (n : ℕ) → eqb n n ≡ true
      eqb-self n = eq-eqb n n refl

  stale-there : (e had : ℕ) → eqb e entry ≡ false → had ≡ stale_in weight limit mark (numbered e) before → had ≡ stale_in weight limit mark (numbered e) (timed_of (asks (numbered entry) w t ∷ requests))
  stale-there e had n q =
      q ∙ sym (ap (λ (b : Bool). cond (not b || (has_row (numbered e) (held weight limit mark (timed.steps_of before)) && ltb t.moment (stale_in weight limit mark (numbered e) before)))
      (stale_in weight limit mark (numbered e) before) (stale_from t.moment t.lifetime)) (same-numbered entry e ∙ other (eqb entry e) refl))
    where
      other : (b : Bool) → eqb entry e ≡ b → eqb entry e ≡ false
      other true p = absurd (true≢false (sym (eq-eqb e entry (sym (eqb-true entry e p))) ∙ n))
      other false p = p

  finds-more : (had count : ℕ) → had ≡ stale_in weight limit mark (numbered entry) before → count ≡ fresh_finds weight limit mark before
      → count + fresh load 1 i had ≡ fresh_finds weight limit mark (timed_of (asks (numbered entry) w t ∷ requests))
  finds-more had count q c =
      let e = ap₂ {C = ℕ} (λ (b : Bool) (n : ℕ). cond (b && ltb t.moment n) 1 0) h-timed q in
      omega (arith, e, c)

  bytes-more : (had count own : ℕ) → own ≡ weight (numbered entry) → had ≡ stale_in weight limit mark (numbered entry) before → count ≡ fresh_bytes weight limit mark before
      → count + fresh load own i had ≡ fresh_bytes weight limit mark (timed_of (asks (numbered entry) w t ∷ requests))
  bytes-more had count own o q c =
      let e = ap₂ (λ (b : Bool) (n : ℕ). cond (b && ltb t.moment n) own 0) h-timed q in
      let f = ap (λ (n : ℕ). cond (has_row (numbered entry) (held weight limit mark (timed.steps_of before)) && ltb t.moment (stale_in weight limit mark (numbered entry) before)) n 0) o in
      omega (arith, e, f, c)

pub fresh-fed : (ws ws' limits : List ℕ) (mark : Option ℕ) (t t' : FreshTable) (requests : List Request) (entry w own first : ℕ) (when : When)
    → IsCounted t t' entry own (record { first = first; moment = when.moment; since = stale_from when.moment when.lifetime })
    → entry ≤ length ws → (entry < length ws → ws' ≡ ws) → (entry ≡ length ws → ws' ≡ ws ++ w ∷ []) → own ≡ get_or ws' entry 0
    → ((weight : CacheEntryKey → ℕ) → Agrees weight ws → (k : ℕ) → k < length limits → leb first k ≡ has_row (numbered entry) (held weight (get_or limits k 0) mark (steps_of requests)))
    → IsFedFresh ws limits mark t requests → IsFedFresh ws' limits mark t' (asks (numbered entry) w when ∷ requests)
fresh-fed ws ws' limits mark t t' requests entry w own first when c within old next owns holds f =
    let s = f.shape in
    let weighed = weighs ws ws' entry w within old next in
    record {
      shape = record {
        whole = c.whole ∙ s.whole;
        entries_are = by_case (cases_lt entry (length ws));
        sizes_are = c.sizes.0 ∙ s.sizes_are;
        finds_are = c.sizes.1 ∙ s.finds_are;
        bytes_are = c.sizes.2 ∙ s.bytes_are;
      };
      shown = λ weight a.
          let b = weighed.before weight a in
          let v = f.shown weight b in
          record {
            since = λ e i l. c.since e i (omega (arith, l, s.sizes_are)) ∙ since-by weight v e i l (holds weight b i l) (eqb e entry) refl;
            finds = λ i l. c.finds i (omega (arith, l, s.finds_are))
                ∙ finds-more weight (get_or limits i 0) mark requests entry w when first i (holds weight b i l) (since_of entry i t.runs.items) (counted i t.finds) (v.since entry i l) (v.finds i l);
            bytes = λ i l. c.bytes i (omega (arith, l, s.bytes_are))
                ∙ bytes-more weight (get_or limits i 0) mark requests entry w when first i (holds weight b i l) (since_of entry i t.runs.items) (counted i t.bytes) own
                (owns ∙ sym (a entry weighed.below)) (v.since entry i l) (v.bytes i l);
          };
    }
  where
    by_case : (entry < length ws) ⊎ (length ws ≤ entry) → length t'.runs.items ≡ length ws'
    by_case (inl l) =
        let n = f.shape.entries_are in
        let k = ap (λ (x : List ℕ). length x) (old l) in
        let m = c.old (omega (arith, l, n)) in
        omega (arith, k, m, n)
    by_case (inr l) =
        let n = f.shape.entries_are in
        let q : entry ≡ length ws = omega (arith, l, within) in
        let k = ap (λ (x : List ℕ). length x) (next q) in
        let p = length_push ws w in
        let m = c.next (omega (arith, q, n)) in
        omega (arith, k, p, m, n)

    since-by : (weight : CacheEntryKey → ℕ) → ShowsFresh weight limits mark t requests → (e i : ℕ) → i < length limits
        → leb first i ≡ has_row (numbered entry) (held weight (get_or limits i 0) mark (steps_of requests)) → (b : Bool) → eqb e entry ≡ b
        → cond b (loaded (record { first = first; moment = when.moment; since = stale_from when.moment when.lifetime }) i (since_of e i t.runs.items)) (since_of e i t.runs.items)
        ≡ stale_in weight (get_or limits i 0) mark (numbered e) (timed_of (asks (numbered entry) w when ∷ requests))
    since-by weight v e i l h true p =
        let q = eqb-true e entry p in
        subst (λ (n : ℕ). loaded (record { first = first; moment = when.moment; since = stale_from when.moment when.lifetime }) i (since_of n i t.runs.items)
        ≡ stale_in weight (get_or limits i 0) mark (numbered n) (timed_of (asks (numbered entry) w when ∷ requests))) (sym q)
        (stale-here weight (get_or limits i 0) mark requests entry w when first i h (since_of entry i t.runs.items) (v.since entry i l))
    since-by weight v e i l h false p = stale-there weight (get_or limits i 0) mark requests entry w when first i h e (since_of e i t.runs.items) p (v.since e i l)

-- the same where fresh finds are asked for
pub timed-fed : (o o' : Option FreshTable) (ws ws' limits limits' : List ℕ) (mark mark' : Option ℕ) (requests : List Request) (entry w own first : ℕ) (when : When)
    → (o ≡ None → o' ≡ None)
    → IfSome o (λ t. (t' : FreshTable) × (o' ≡ Some t') × IsCounted t t' entry own (record { first = first; moment = when.moment; since = stale_from when.moment when.lifetime }))
    → limits' ≡ limits → mark' ≡ mark → entry ≤ length ws → (entry < length ws → ws' ≡ ws) → (entry ≡ length ws → ws' ≡ ws ++ w ∷ []) → own ≡ get_or ws' entry 0
    → ((weight : CacheEntryKey → ℕ) → Agrees weight ws → (k : ℕ) → k < length limits → leb first k ≡ has_row (numbered entry) (held weight (get_or limits k 0) mark (steps_of requests)))
    → IfSome o (λ t. IsFedFresh ws limits mark t requests) → IfSome o' (λ t. IsFedFresh ws' limits' mark' t (asks (numbered entry) w when ∷ requests))
timed-fed None o' ws ws' limits limits' mark mark' requests entry w own first when n c l m within old next owns holds f =
    subst (λ (x : Option FreshTable). IfSome x (λ t. IsFedFresh ws' limits' mark' t (asks (numbered entry) w when ∷ requests))) (sym (n refl)) tt
timed-fed (Some t) o' ws ws' limits limits' mark mark' requests entry w own first when n c l m within old next owns holds f =
    subst (λ (x : Option FreshTable). IfSome x (λ t. IsFedFresh ws' limits' mark' t (asks (numbered entry) w when ∷ requests))) (sym c.1)
    (subst (λ (x : List ℕ). IsFedFresh ws' x mark' c.0 (asks (numbered entry) w when ∷ requests)) (sym l)
    (subst (λ (x : Option ℕ). IsFedFresh ws' limits x c.0 (asks (numbered entry) w when ∷ requests)) (sym m)
    (fresh-fed ws ws' limits mark t c.0 requests entry w own first when c.2 within old next owns holds f)))

pub new-fed : (o : Option FreshTable) (ws : List ℕ) (sizes : ℕ) (limits : List ℕ) (mark : Option ℕ) → ws ≡ [] → length limits ≡ sizes
    → IfSome o (λ t. (limits : List ℕ) (mark : Option ℕ) → length limits ≡ sizes → IsFedFresh [] limits mark t []) → IfSome o (λ t. IsFedFresh ws limits mark t [])
new-fed None ws sizes limits mark e l h = tt
new-fed (Some t) ws sizes limits mark e l h = subst (λ (n : List ℕ). IsFedFresh n limits mark t []) (sym e) (h limits mark l)

-- an entry that is asked for may have its own runs next
pub may-ask : (o : Option FreshTable) (ws : List ℕ) (entry : ℕ) (limits : List ℕ) (mark : Option ℕ) (requests : List Request) → entry ≤ length ws
    → IfSome o (λ t. IsFedFresh ws limits mark t requests) → IfSome o (λ t. entry ≤ length t.runs.items)
may-ask None ws entry limits mark requests l h = tt
may-ask (Some t) ws entry limits mark requests l h = let s = h.shape.entries_are in omega (arith, l, s)

-- a removal leaves what is found fresh
removed-table : (ws ws' limits limits' : List ℕ) (mark mark' : Option ℕ) (t : FreshTable) (requests : List Request) (entry : ℕ) → ws' ≡ ws → limits' ≡ limits → mark' ≡ mark
    → IsFedFresh ws limits mark t requests → IsFedFresh ws' limits' mark' t (removes (numbered entry) ∷ requests)
removed-table ws ws' limits limits' mark mark' t requests entry p q r f =
    subst (λ (x : List ℕ). IsFedFresh x limits' mark' t (removes (numbered entry) ∷ requests)) (sym p)
    (subst (λ (x : List ℕ). IsFedFresh ws x mark' t (removes (numbered entry) ∷ requests)) (sym q)
    (subst (λ (x : Option ℕ). IsFedFresh ws limits x t (removes (numbered entry) ∷ requests)) (sym r) (record {
      shape = f.shape;
      shown = λ weight a. let v = f.shown weight a in record { since = v.since; finds = v.finds; bytes = v.bytes };
    })))

pub removed-fresh : (o : Option FreshTable) (ws ws' limits limits' : List ℕ) (mark mark' : Option ℕ) (requests : List Request) (entry : ℕ) → ws' ≡ ws → limits' ≡ limits → mark' ≡ mark
    → IfSome o (λ t. IsFedFresh ws limits mark t requests) → IfSome o (λ t. IsFedFresh ws' limits' mark' t (removes (numbered entry) ∷ requests))
removed-fresh None ws ws' limits limits' mark mark' requests entry p q r f = tt
removed-fresh (Some t) ws ws' limits limits' mark mark' requests entry p q r f = removed-table ws ws' limits limits' mark mark' t requests entry p q r f
