-- What a walk over all entries finds.
use Rattle.std.proofs.Common.{◌≡◌, ℕ, zero, suc, ◌+◌, ◌≤◌, ◌<◌, ◌&&◌, leb, Bool, true, false, cond, List, [], ◌∷◌, length, get_or, replicate, Option, Some, None, refl, ap, ap₂, sym, subst, ◌∙◌, arith}
use Rattle.std.specs.List.{AllZip, slice_get}
use Rattle.std.proofs.lemmas.Bool.{lt-ltb}
use Rattle.std.proofs.lemmas.List.{length-map, length-replicate}
use Rattle.cache_entries.specs.declared.entry.CacheEntryKey.{CacheEntryKey}
use Rattle.cache_entries.specs.declared.rows.Tracked.{Tracked}
use Rattle.curve_loads.specs.Steps.{has_row, held}
use Rattle.curve_runs.specs.declared.spans.Spans.{Spans}
use Rattle.curve_runs.specs.Counts.{counted, added}
use Rattle.curve_sizes.specs.declared.curve.SizeCurve.{SizeCurve}
use Rattle.curve_sizes.specs.declared.row.CurveRow.{CurveRow}
use Rattle.curve_sizes.specs.Requests.{Request, steps_of}
use Rattle.curve_sizes.specs.Rows.{limits_of}
use Rattle.curve_sizes.specs.Numbers.{numbered, number_in, mark_of, Agrees, IsFed}
use Rattle.curve_held.specs.declared.row.Full.{Full}
use Rattle.curve_held.specs.declared.row.HeldRow.{HeldRow}
use Rattle.curve_held.specs.declared.filling.Filling.{Filling}
use Rattle.curve_held.specs.Held.{sooner, oldest, last_asked, IsHeld, AreHeld}
use Rattle.curve_held.specs.State.{running, noted_at, IsFilled}
use Rattle.curve_held.specs.Walks.{count_below, oldest_below, IsWalked, row_at}
use Rattle.curve_held.proofs.Folds.{HaveNumbers, rows-below, over_rows}
use Rattle.curve_held.proofs.Moments.{sooner-none, sooner-turn, running-noted, noted-length, running-none}
use Rattle.curve_held.proofs.Present.{distinct-held, numbers-held}

plus-left : (n : ℕ) → 0 + n ≡ n
plus-left n = omega arith

plus-turn : (x y z : ℕ) → x + (y + z) ≡ y + (x + z)
plus-turn x y z = omega arith

-- ---- the numbers below all entries are the rows

rows-count : (rows : List Tracked) → over_rows (λ (x y : ℕ). x + y) 0 plus-left plus-turn (λ (i : ℕ). 1) rows ≡ length rows
rows-count [] = refl
rows-count (r ∷ rows) = let e = rows-count rows in omega (arith, e)

count-all : (n : ℕ) (weight : CacheEntryKey → ℕ) (limit : ℕ) (mark : Option ℕ) (c : SizeCurve) (requests : List Request) → IsFed c requests → n ≡ length c.weights.items
    → count_below n (held weight limit mark (steps_of requests)) ≡ length (held weight limit mark (steps_of requests))
count-all n weight limit mark c requests f q =
    let rows = held weight limit mark (steps_of requests) in
    ap (λ (k : ℕ). count_below k rows) q
    ∙ rows-below (λ (x y : ℕ). x + y) 0 plus-left plus-turn (λ (i : ℕ). 1) (length c.weights.items) rows (distinct-held weight limit mark (steps_of requests)) (numbers-held weight limit mark (length c.weights.items) requests f.numbers)
    ∙ rows-count rows

rows-oldest : (latest : List ℕ) (requests : List Request) (n : ℕ) (rows : List Tracked) → ((i : ℕ) → get_or latest i 0 ≡ last_asked (numbered i) requests) → HaveNumbers n rows
    → over_rows sooner None sooner-none sooner-turn (λ (i : ℕ). Some (get_or latest i 0)) rows ≡ oldest requests rows
rows-oldest latest requests n [] l h = refl
rows-oldest latest requests n (r ∷ rows) l h =
    ap₂ (λ (m : ℕ) (o : Option ℕ). sooner (Some m) o) (l (number_in r.entry) ∙ ap (λ (e : CacheEntryKey). last_asked e requests) (sym h.0.0)) (rows-oldest latest requests n rows l h.1)

oldest-all : (latest : List ℕ) (weight : CacheEntryKey → ℕ) (limit : ℕ) (mark : Option ℕ) (c : SizeCurve) (requests : List Request) → IsFed c requests
    → ((i : ℕ) → get_or latest i 0 ≡ last_asked (numbered i) requests)
    → oldest_below latest (length c.weights.items) (held weight limit mark (steps_of requests)) ≡ oldest requests (held weight limit mark (steps_of requests))
oldest-all latest weight limit mark c requests f l =
    let rows = held weight limit mark (steps_of requests) in
    let numbers = numbers-held weight limit mark (length c.weights.items) requests f.numbers in
    rows-below sooner None sooner-none sooner-turn (λ (i : ℕ). Some (get_or latest i 0)) (length c.weights.items) rows (distinct-held weight limit mark (steps_of requests)) numbers
    ∙ rows-oldest latest requests (length c.weights.items) rows l numbers

-- ---- the walk

pub walked-none : (c : SizeCurve) (latest : List ℕ) (sizes : ℕ) (counts : Spans) (firsts : List (Option ℕ)) → sizes ≡ length c.table → ((i : ℕ) → counted i counts ≡ 0)
    → length counts.begun.items ≡ sizes → firsts ≡ replicate sizes None → IsWalked c latest 0 counts firsts
walked-none c latest sizes counts firsts s z l o = record {
  sizes = l ∙ s;
  places = ap (λ (x : List (Option ℕ)). length x) o ∙ length-replicate sizes None ∙ s;
  counts_are = λ requests f weight a k m. z k;
  oldest_are = λ requests f weight a k m. ap (λ (x : List (Option ℕ)). get_or (running None x) k None) o ∙ running-none sizes k;
}

added-one : (first sizes k : ℕ) (b : Bool) → k < sizes → leb first k ≡ b → added first sizes 1 k ≡ cond b 1 0
added-one first sizes k b l e = ap₂ (λ (x y : Bool). cond (x && y) 1 0) e (lt-ltb k sizes l) ∙ by_test b
  where
    by_test : (b : Bool) → ◌≡◌ {A = ℕ} (cond (b && true) 1 0) (cond b 1 0)
    by_test true = refl
    by_test false = refl

pub walked-next : (c : SizeCurve) (latest : List ℕ) (n first sizes moment : ℕ) (counts counts' : Spans) (firsts firsts' : List (Option ℕ)) → sizes ≡ length c.table → moment ≡ get_or latest n 0
    → ((requests : List Request) → IsFed c requests → (weight : CacheEntryKey → ℕ) → Agrees weight c.weights.items → (k : ℕ) → k < length c.table
    → leb first k ≡ has_row (numbered n) (held weight (get_or (limits_of c.table) k 0) (mark_of c.watermark) (steps_of requests)))
    → ((i : ℕ) → i < length counts.begun.items → counted i counts' ≡ counted i counts + added first sizes 1 i) → length counts'.begun.items ≡ length counts.begun.items
    → firsts' ≡ noted_at first moment firsts → IsWalked c latest n counts firsts → IsWalked c latest (suc n) counts' firsts'
walked-next c latest n first sizes moment counts counts' firsts firsts' s m h d l o w = record {
  sizes = l ∙ w.sizes;
  places = ap (λ (x : List (Option ℕ)). length x) o ∙ noted-length first moment firsts ∙ w.places;
  counts_are = λ requests f weight a k i.
      let e = d k (omega (arith, i, w.sizes)) in
      let v = w.counts_are requests f weight a k i in
      let x = added-one first sizes k (has_row (numbered n) (held weight (get_or (limits_of c.table) k 0) (mark_of c.watermark) (steps_of requests))) (omega (arith, i, s)) (h requests f weight a k i) in
      omega (arith, e, v, x);
  oldest_are = λ requests f weight a k i.
      let v = w.oldest_are requests f weight a k i in
      let has = has_row (numbered n) (held weight (get_or (limits_of c.table) k 0) (mark_of c.watermark) (steps_of requests)) in
      let rest = oldest_below latest n (held weight (get_or (limits_of c.table) k 0) (mark_of c.watermark) (steps_of requests)) in
      ap (λ (x : List (Option ℕ)). get_or (running None x) k None) o
      ∙ running-noted None firsts first moment k (omega (arith, i, w.places))
      ∙ (λ j. cond (h requests f weight a k i j) (sooner (Some (m j)) (v j)) (v j))
      ∙ by_test has (get_or latest n 0) rest;
}
  where
    by_test : (b : Bool) (t : ℕ) (rest : Option ℕ) → cond b (sooner (Some t) rest) rest ≡ sooner (cond b (Some t) None) rest
    by_test true t rest = refl
    by_test false t rest = refl

-- ---- rows

all-zip : (R : ℕ → HeldRow → Type 0) (limits : List ℕ) (rows : List HeldRow) → length rows ≡ length limits
    → ((k : ℕ) (d : HeldRow) → k < length limits → R (get_or limits k 0) (get_or rows k d)) → AllZip R limits rows
all-zip R [] [] l h = tt
all-zip R [] (r ∷ rows) l h = absurd (omega (arith, l))
all-zip R (x ∷ limits) [] l h = absurd (omega (arith, l))
all-zip R (x ∷ limits) (r ∷ rows) l h = (h 0 r (omega arith), all-zip R limits rows (omega (arith, l)) (λ k d m. h (suc k) d (omega (arith, m))))

full-in : (full : List Full) (k : ℕ) (o : Option Full) → ((d : Full) → k < length full → o ≡ Some (get_or full k d)) → (length full ≤ k → o ≡ None) → slice_get full k ≡ o
full-in [] k o h n = sym (n (omega arith))
full-in (f ∷ full) zero o h n = sym (h f (omega arith))
full-in (f ∷ full) (suc k) o h n = full-in full k o (λ d l. h d (omega (arith, l))) (λ l. n (omega (arith, l)))

pub rows-held : (c : SizeCurve) (f : Filling) (counts : Spans) (firsts : List (Option ℕ)) (rows : List HeldRow) (cs : List ℕ) (os : List (Option ℕ))
    → length f.latest.items ≡ length c.weights.items
    → IsWalked c f.latest.items (length c.weights.items) counts firsts
    → ((i : ℕ) → i < length cs → get_or cs i 0 ≡ counted i counts) → length cs ≡ length counts.begun.items → os ≡ running None firsts
    → length rows ≡ length cs → ((k : ℕ) (d : HeldRow) → k < length cs → get_or rows k d ≡ row_at cs os f.full.items k)
    → (requests : List Request) → IsFed c requests → IsFilled c.weights.items (limits_of c.table) (mark_of c.watermark) f requests
    → (weight : CacheEntryKey → ℕ) → Agrees weight c.weights.items → AreHeld weight (mark_of c.watermark) requests (limits_of c.table) rows
rows-held c f counts firsts rows cs os e w are size run len row requests fed filled weight a =
    let n = length-map c.table (λ (r : CurveRow). r.limit) in
    let s = filled.shown weight a in
    all-zip (IsHeld weight (mark_of c.watermark) requests) (limits_of c.table) rows (omega (arith, len, size, w.sizes, n)) (λ k d l.
    let i : k < length cs = omega (arith, l, n, size, w.sizes) in
    let j : k < length c.table = omega (arith, l, n) in
    subst (IsHeld weight (mark_of c.watermark) requests (get_or (limits_of c.table) k 0)) (sym (row k d i)) (record {
      entries = are k i ∙ w.counts_are requests fed weight a k j ∙ count-all (length c.weights.items) weight (get_or (limits_of c.table) k 0) (mark_of c.watermark) c requests fed refl;
      oldest = ap (λ (x : List (Option ℕ)). get_or x k None) run ∙ w.oldest_are requests fed weight a k j
          ∙ oldest-all f.latest.items weight (get_or (limits_of c.table) k 0) (mark_of c.watermark) c requests fed filled.latest;
      full = full-in f.full.items k _ (λ x m. s.full k x m) (λ m. (s.rest k m l).0);
    }))
