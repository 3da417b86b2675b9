-- A curve is fed one request more.
use Rattle.std.proofs.Common.{◌≡◌, ℕ, ◌+◌, ◌≤◌, ◌<◌, ◌||◌, ltb, leb, eqb, Bool, true, false, cond, List, [], ◌∷◌, ◌++◌, Option, Some, None, refl, ap, ap₂, sym, ◌∙◌, arith, subst, length, get_or}
use Rattle.std.specs.Prelude.{option_map, not, IfSome}
use Rattle.std.proofs.lemmas.Bool.{ltb-true, ltb-false}
use Rattle.std.proofs.lemmas.List.{length_push, get_or_push, get_or_append_left}
use Rattle.cache_entries.specs.declared.entry.CacheEntryKey.{CacheEntryKey}
use Rattle.curve_loads.specs.Steps.{Step, has_row, held, passes}
use Rattle.curve_loads.specs.Steps as plain
use Rattle.curve_loads.specs.Peaks.{peak, keeps}
use Rattle.curve_loads.proofs.PeakLaws.{held-keeps}
use Rattle.curve_loads.specs.Cells.{cells_of, one_each}
use Rattle.curve_loads.proofs.Heights.{high-peak}
use Rattle.curve_heights.specs.declared.place.Place.{Place}
use Rattle.curve_heights.specs.Places.{height, asked, removed}
use Rattle.curve_sizes.specs.declared.row.CurveRow.{CurveRow}
use Rattle.curve_sizes.specs.declared.curve.SizeCurve.{SizeCurve}
use Rattle.curve_sizes.specs.declared.watermark.Watermark.{Watermark}
use Rattle.curve_sizes.specs.declared.when.When.{When}
use Rattle.curve_sizes.specs.Requests.{Request, asks, removes, steps_of, is_among, AreFound}
use Rattle.curve_sizes.specs.Rows.{limits_of}
use Rattle.curve_sizes.specs.Numbers.{numbered, places_of, AreNumbered, Agrees, mark_of, is_past_mark, is_found, rows_after, Shows, IsFed}
use Rattle.curve_sizes.proofs.CellPlaces.{numbers-cells}
use Rattle.curve_sizes.proofs.EntryLaws.{entries-next, known-next}
use Rattle.curve_sizes.proofs.FedLaws.{rows-asked, height-at, removed-at, asked-at, numbers-steps, numbers-more, not-among, past-at}

-- ---- weights

agrees-before : (weight : CacheEntryKey → ℕ) (ws : List ℕ) (w : ℕ) → Agrees weight (ws ++ w ∷ []) → Agrees weight ws
agrees-before weight ws w a = λ n l.
    let p = length_push ws w in
    a n (omega (arith, l, p)) ∙ get_or_append_left ws (w ∷ []) 0 n l

agrees-push : (weight : CacheEntryKey → ℕ) (ws : List ℕ) (w : ℕ) → Agrees weight ws → weight (numbered (length ws)) ≡ w → Agrees weight (ws ++ w ∷ [])
agrees-push weight ws w a q = λ n l. by_test n (ltb n (length ws)) refl l
  where
    by_test : (n : ℕ) (t : Bool) → ltb n (length ws) ≡ t → n < length (ws ++ w ∷ []) → weight (numbered n) ≡ get_or (ws ++ w ∷ []) n 0
    by_test n true i l = let b = ltb-true n (length ws) i in a n b ∙ sym (get_or_append_left ws (w ∷ []) 0 n b)
    by_test n false i l =
        let b = ltb-false n (length ws) i in
        let p = length_push ws w in
        let e : n ≡ length ws = omega (arith, b, l, p) in
        ap (λ (k : ℕ). weight (numbered k)) e ∙ q ∙ sym (get_or_push ws w 0 n (sym e))

-- ---- the watermark

pub mark-same : (old new : Option Watermark) (places : Watermark → List Place) → (old ≡ None → new ≡ None) → IfSome old (λ m. new ≡ Some (record m { heights = places m }))
    → mark_of new ≡ mark_of old
mark-same None new places n s = ap mark_of (n refl)
mark-same (Some m) new places n s = ap mark_of s

marked-next : (old new : Option Watermark) (next : List Place → List Place) (before after : List Place) → next before ≡ after → (old ≡ None → new ≡ None)
    → IfSome old (λ m. new ≡ Some (record m { heights = next m.heights })) → IfSome old (λ m. m.heights ≡ before) → IfSome new (λ m. m.heights ≡ after)
marked-next None new next before after e n s h = subst (λ (o : Option Watermark). IfSome o (λ m. m.heights ≡ after)) (sym (n refl)) tt
marked-next (Some m) new next before after e n s h = subst (λ (o : Option Watermark). IfSome o (λ m. m.heights ≡ after)) (sym s) (ap next h ∙ e)

-- ---- an ask

pub record Asked (c c' : SizeCurve) (entry w own : ℕ) : Type 0 where
  pub whole : c'.is_broken ≡ c.is_broken
  pub within : entry ≤ length c.weights.items
  pub old : entry < length c.weights.items → c'.weights.items ≡ c.weights.items
  pub new : entry ≡ length c.weights.items → c'.weights.items ≡ c.weights.items ++ w ∷ []
  pub own_is : own ≡ get_or c'.weights.items entry 0
  pub table : c'.table ≡ rows_after (height entry c.by_weight) (is_past_mark c.watermark entry) own c.table
  pub places : c'.by_weight ≡ asked entry own c.by_weight
  pub none : c.watermark ≡ None → c'.watermark ≡ None
  pub some : IfSome c.watermark (λ m. c'.watermark ≡ Some (record m { heights = asked entry 1 m.heights }))
  pub asks_are : c'.totals.asks ≡ 1 + c.totals.asks
  pub removed_are : c'.totals.removed ≡ c.totals.removed
  pub odd_are : c'.totals.odd ≡ cond (eqb w own) 0 1 + c.totals.odd
  pub bytes_are : c'.totals.bytes ≡ own + c.totals.bytes
  pub said_are : c'.totals.said ≡ w + c.totals.said

-- what the weights are then, whether the entry is new or not
pub record Weighs (ws ws' : List ℕ) (entry w : ℕ) : Type 0 where
  pub below : entry < length ws'
  pub longer : length ws ≤ length ws'
  pub before : (weight : CacheEntryKey → ℕ) → Agrees weight ws' → Agrees weight ws
  pub after : (weight : CacheEntryKey → ℕ) → Agrees weight ws → (entry ≡ length ws → weight (numbered entry) ≡ w) → Agrees weight ws'

pub weighs : (ws ws' : List ℕ) (entry w : ℕ) → entry ≤ length ws → (entry < length ws → ws' ≡ ws) → (entry ≡ length ws → ws' ≡ ws ++ w ∷ []) → Weighs ws ws' entry w
weighs ws ws' entry w le old new = by_test (ltb entry (length ws)) refl
  where
    by_test : (t : Bool) → ltb entry (length ws) ≡ t → Weighs ws ws' entry w
    by_test true i =
        let l = ltb-true entry (length ws) i in
        let e = old l in
        let n = ap (λ (l : List ℕ). length l) e in
        record { below = omega (arith, l, n); longer = omega (arith, n); before = λ weight a. subst (Agrees weight) e a; after = λ weight a q. subst (Agrees weight) (sym e) a }
    by_test false i =
        let l = ltb-false entry (length ws) i in
        let q : entry ≡ length ws = omega (arith, l, le) in
        let e = new q in
        let n = ap (λ (l : List ℕ). length l) e in
        let p = length_push ws w in
        record {
          below = omega (arith, q, n, p);
          longer = omega (arith, n, p);
          before = λ weight a. agrees-before weight ws w (subst (Agrees weight) e a);
          after = λ weight a f. subst (Agrees weight) (sym e) (agrees-push weight ws w a (ap (λ (k : ℕ). weight (numbered k)) (sym q) ∙ f q));
        }

asked-shows : (c c' : SizeCurve) (entry w own : ℕ) (t : When) (requests : List Request) (n : ℕ) (weight : CacheEntryKey → ℕ) → Asked c c' entry w own → AreNumbered n requests
    → own ≡ weight (numbered entry) → Shows weight c requests → Shows weight c' (asks (numbered entry) w t ∷ requests)
asked-shows c c' entry w own t requests n weight k numbers o s =
    let e = numbered entry in
    let steps = steps_of requests in
    let hs = numbers-steps n requests numbers in
    let hc = numbers-cells weight steps hs in
    let tall : height entry c.by_weight ≡ option_map (λ most. most.0) (peak weight e steps) = ap (height entry) s.places ∙ height-at e (cells_of weight steps) refl hc ∙ high-peak weight e steps in
    let table : c'.table ≡ rows_after (option_map (λ most. most.0) (peak weight e steps)) (is_past_mark c.watermark entry) (weight e) c.table
    = k.table ∙ ap₂ (λ (h : Option ℕ) (m : ℕ). rows_after h (is_past_mark c.watermark entry) m c.table) tall o in
    let rows = rows-asked weight (mark_of c.watermark) e steps c.table (peak weight e steps) (is_past_mark c.watermark entry) refl
    (past-at c.watermark weight e steps (peak weight e steps) refl hs s.marked refl) s.rows in
    let mark = mark-same c.watermark c'.watermark (λ m. asked entry 1 m.heights) k.none k.some in
    let sums = s.totals in
    record {
      places = k.places ∙ ap₂ (asked entry) o s.places ∙ asked-at e (weight e) (cells_of weight steps) refl hc;
      marked = marked-next c.watermark c'.watermark (asked entry 1) (places_of 0 (cells_of one_each steps)) (places_of 0 (cells_of one_each (plain.asks e ∷ steps)))
          (asked-at e 1 (cells_of one_each steps) refl (numbers-cells one_each steps hs)) k.none k.some s.marked;
      rows = subst (λ (m : Option ℕ). AreFound weight m (plain.asks e ∷ steps) c'.table) (sym mark)
          (subst (AreFound weight (mark_of c.watermark) (plain.asks e ∷ steps)) (sym table) rows);
      totals = record {
        asked = k.asks_are ∙ ap (λ (m : ℕ). 1 + m) sums.asked;
        removed = k.removed_are ∙ sums.removed;
        odd = k.odd_are ∙ ap₂ (λ (m p : ℕ). cond (eqb w m) 0 1 + p) o sums.odd;
        bytes = k.bytes_are ∙ ap₂ (λ (m p : ℕ). m + p) o sums.bytes;
        said = k.said_are ∙ ap (λ (m : ℕ). w + m) sums.said;
      };
    }

pub asked-fed : (c c' : SizeCurve) (entry w own : ℕ) (t : When) → Asked c c' entry w own → (requests : List Request) → IsFed c requests → IsFed c' (asks (numbered entry) w t ∷ requests)
asked-fed c c' entry w own t k requests f =
    let v = weighs c.weights.items c'.weights.items entry w k.within k.old k.new in
    record {
      whole = k.whole ∙ f.whole;
      entries = entries-next c.weights.items c'.weights.items entry w t requests k.within k.old k.new f.numbers f.known f.entries;
      known = known-next c.weights.items c'.weights.items entry w t requests k.within k.old k.new f.numbers f.known;
      numbers = ((refl, v.below), numbers-more (length c.weights.items) (length c'.weights.items) requests v.longer f.numbers);
      first = λ weight a. v.after weight (f.first weight a.1) (λ q. a.0 (ap (λ (n : ℕ). is_among (numbered n) requests) q ∙ not-among (length c.weights.items) requests f.numbers));
      shown = λ weight a. asked-shows c c' entry w own t requests (length c.weights.items) weight k f.numbers (k.own_is ∙ sym (a entry v.below)) (f.shown weight (v.before weight a));
    }

-- ---- which limits hold the entry

found-keeps : (limit : ℕ) (mark : Option ℕ) (p : Option (ℕ × ℕ)) (is_past : Bool) → IfSome p (λ most. is_past ≡ passes mark most.1)
    → is_found (option_map (λ most. most.0) p) is_past limit ≡ keeps limit mark p
found-keeps limit mark None is_past h = refl
found-keeps limit mark (Some most) is_past h = ap (λ (b : Bool). not (ltb limit most.0 || b)) h

pub first-held : (c : SizeCurve) (entry first : ℕ) → ((k : ℕ) → k < length c.table → leb first k ≡ is_found (height entry c.by_weight) (is_past_mark c.watermark entry) (get_or (limits_of c.table) k 0))
    → (requests : List Request) → IsFed c requests → (weight : CacheEntryKey → ℕ) → Agrees weight c.weights.items → (k : ℕ) → k < length c.table
    → leb first k ≡ has_row (numbered entry) (held weight (get_or (limits_of c.table) k 0) (mark_of c.watermark) (steps_of requests))
first-held c entry first h requests f weight a k l =
    let e = numbered entry in
    let steps = steps_of requests in
    let s = f.shown weight a in
    let hs = numbers-steps (length c.weights.items) requests f.numbers in
    let hc = numbers-cells weight steps hs in
    let limit = get_or (limits_of c.table) k 0 in
    let tall : height entry c.by_weight ≡ option_map (λ most. most.0) (peak weight e steps) = ap (height entry) s.places ∙ height-at e (cells_of weight steps) refl hc ∙ high-peak weight e steps in
    h k l ∙ ap (λ (o : Option ℕ). is_found o (is_past_mark c.watermark entry) limit) tall
    ∙ found-keeps limit (mark_of c.watermark) (peak weight e steps) (is_past_mark c.watermark entry) (past-at c.watermark weight e steps (peak weight e steps) refl hs s.marked refl)
    ∙ sym (held-keeps weight limit (mark_of c.watermark) e steps)

-- ---- a removal

pub record Removed (c c' : SizeCurve) (entry : ℕ) : Type 0 where
  pub whole : c'.is_broken ≡ c.is_broken
  pub within : entry < length c.weights.items
  pub weights : c'.weights.items ≡ c.weights.items
  pub table : c'.table ≡ c.table
  pub places : c'.by_weight ≡ removed entry c.by_weight
  pub none : c.watermark ≡ None → c'.watermark ≡ None
  pub some : IfSome c.watermark (λ m. c'.watermark ≡ Some (record m { heights = removed entry m.heights }))
  pub asks_are : c'.totals.asks ≡ c.totals.asks
  pub removed_are : c'.totals.removed ≡ 1 + c.totals.removed
  pub odd_are : c'.totals.odd ≡ c.totals.odd
  pub bytes_are : c'.totals.bytes ≡ c.totals.bytes
  pub said_are : c'.totals.said ≡ c.totals.said

removed-shows : (c c' : SizeCurve) (entry : ℕ) (requests : List Request) (n : ℕ) (weight : CacheEntryKey → ℕ) → Removed c c' entry → AreNumbered n requests
    → Shows weight c requests → Shows weight c' (removes (numbered entry) ∷ requests)
removed-shows c c' entry requests n weight k numbers s =
    let e = numbered entry in
    let steps = steps_of requests in
    let hs = numbers-steps n requests numbers in
    let hc = numbers-cells weight steps hs in
    let mark = mark-same c.watermark c'.watermark (λ m. removed entry m.heights) k.none k.some in
    let t = s.totals in
    record {
      places = k.places ∙ ap (removed entry) s.places ∙ removed-at e (cells_of weight steps) refl hc;
      marked = marked-next c.watermark c'.watermark (removed entry) (places_of 0 (cells_of one_each steps)) (places_of 0 (cells_of one_each (plain.removes e ∷ steps)))
          (removed-at e (cells_of one_each steps) refl (numbers-cells one_each steps hs)) k.none k.some s.marked;
      rows = subst (λ (m : Option ℕ). AreFound weight m (plain.removes e ∷ steps) c'.table) (sym mark)
          (subst (AreFound weight (mark_of c.watermark) (plain.removes e ∷ steps)) (sym k.table) (removed-rows weight (mark_of c.watermark) e steps c.table s.rows));
      totals = record {
        asked = k.asks_are ∙ t.asked;
        removed = k.removed_are ∙ ap (λ (m : ℕ). 1 + m) t.removed;
        odd = k.odd_are ∙ t.odd;
        bytes = k.bytes_are ∙ t.bytes;
        said = k.said_are ∙ t.said;
      };
    }
  where
    removed-rows : (weight : CacheEntryKey → ℕ) (mark : Option ℕ) (e : CacheEntryKey) (before : List Step) (rows : List CurveRow)
        → AreFound weight mark before rows → AreFound weight mark (plain.removes e ∷ before) rows
    removed-rows weight mark e before rows a = a

pub removed-fed : (c c' : SizeCurve) (entry : ℕ) → Removed c c' entry → (requests : List Request) → IsFed c requests → IsFed c' (removes (numbered entry) ∷ requests)
removed-fed c c' entry k requests f =
    let n = ap (λ (l : List ℕ). length l) k.weights in
    record {
      whole = k.whole ∙ f.whole;
      entries = n ∙ f.entries;
      known = λ m l. f.known m (omega (arith, l, n));
      numbers = ((refl, omega (arith, n, k.within)), numbers-more (length c.weights.items) (length c'.weights.items) requests (omega (arith, n)) f.numbers);
      first = λ weight a. subst (Agrees weight) (sym k.weights) (f.first weight a);
      shown = λ weight a. removed-shows c c' entry requests (length c.weights.items) weight k f.numbers (f.shown weight (subst (Agrees weight) k.weights a));
    }
