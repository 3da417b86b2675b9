-- What a curve shows once it was fed one request more.
use Rattle.std.proofs.Common.{◌≡◌, ℕ, ◌+◌, ◌≤◌, ◌||◌, ltb, eqb, Bool, true, false, cond, List, [], ◌∷◌, Option, Some, None, refl, ap, sym, ◌∙◌, arith}
use Rattle.std.specs.Prelude.{option_map, not, IfSome}
use Rattle.std.proofs.lemmas.Bool.{eqb-true}
use Rattle.cache_entries.specs.declared.entry.CacheEntryKey.{CacheEntryKey}
use Rattle.cache_entries.specs.Entry.{same_entry}
use Rattle.curve_loads.specs.Steps.{Step, has_row, held, passes, exceeds}
use Rattle.curve_loads.specs.Steps as steps
use Rattle.curve_loads.specs.Finds.{finds}
use Rattle.curve_loads.specs.Peaks.{peak, keeps}
use Rattle.curve_loads.proofs.PeakLaws.{held-keeps}
use Rattle.curve_loads.specs.Cells.{Cell, taken, emptied, height_of, cells_of, one_each, filled as cells_filled}
use Rattle.curve_loads.proofs.Numbers.{high-number}
use Rattle.curve_heights.specs.declared.place.Place.{Place}
use Rattle.curve_heights.specs.Places.{height, asked, removed, filled}
use Rattle.curve_sizes.specs.declared.row.CurveRow.{CurveRow}
use Rattle.curve_sizes.specs.declared.watermark.Watermark.{Watermark}
use Rattle.curve_sizes.specs.Rows.{found_at}
use Rattle.curve_sizes.specs.Requests.{Request, asks, removes, steps_of, is_among, AreFound, found_bytes}
use Rattle.curve_sizes.specs.Numbers.{numbered, number_in, places_of, AreNumbered, mark_of, past, is_past_mark, rows_after}
use Rattle.curve_sizes.proofs.TableLaws.{bumped}
use Rattle.curve_sizes.proofs.CellPlaces.{IsNumber, HasNumbers, StepsHaveNumbers, numbers-cells, places-emptied, places-filled, places-height, same-numbered}

-- ---- rows

abbrev IsFoundAt : (weight : CacheEntryKey → ℕ) (mark : Option ℕ) (before : List Step) → CurveRow → Type 0
IsFoundAt weight mark before r = (r.finds ≡ finds weight r.limit mark before) × (r.bytes ≡ found_bytes weight r.limit mark before)

-- a row after an ask whose entry's peak is p, found or not
row-kept : (weight : CacheEntryKey → ℕ) (mark : Option ℕ) (e : CacheEntryKey) (before : List Step) (r : CurveRow)
    → has_row e (held weight r.limit mark before) ≡ false
    → (r.finds ≡ finds weight r.limit mark before) × (r.bytes ≡ found_bytes weight r.limit mark before)
    → (r.finds ≡ finds weight r.limit mark (steps.asks e ∷ before)) × (r.bytes ≡ found_bytes weight r.limit mark (steps.asks e ∷ before))
row-kept weight mark e before r h i = rw h (omega (arith, i.0), omega (arith, i.1))

row-more : (weight : CacheEntryKey → ℕ) (mark : Option ℕ) (e : CacheEntryKey) (before : List Step) (r : CurveRow)
    → has_row e (held weight r.limit mark before) ≡ true
    → (r.finds ≡ finds weight r.limit mark before) × (r.bytes ≡ found_bytes weight r.limit mark before)
    → (r.finds + 1 ≡ finds weight r.limit mark (steps.asks e ∷ before)) × (r.bytes + weight e ≡ found_bytes weight r.limit mark (steps.asks e ∷ before))
row-more weight mark e before r h i = rw h (omega (arith, i.0), omega (arith, i.1))

rows-kept : (weight : CacheEntryKey → ℕ) (mark : Option ℕ) (e : CacheEntryKey) (before : List Step) (rows : List CurveRow)
    → ((r : CurveRow) → has_row e (held weight r.limit mark before) ≡ false)
    → AreFound weight mark before rows → AreFound weight mark (steps.asks e ∷ before) rows
rows-kept weight mark e before [] h a = tt
rows-kept weight mark e before (r ∷ rows) h a = (row-kept weight mark e before r (h r) a.0, rows-kept weight mark e before rows h a.1)

rows-more : (weight : CacheEntryKey → ℕ) (mark : Option ℕ) (e : CacheEntryKey) (before : List Step) (tall : ℕ) (rows : List CurveRow)
    → ((r : CurveRow) → has_row e (held weight r.limit mark before) ≡ not (ltb r.limit tall))
    → AreFound weight mark before rows → AreFound weight mark (steps.asks e ∷ before) (found_at tall (weight e) rows)
rows-more weight mark e before tall [] h a = tt
rows-more weight mark e before tall (r ∷ rows) h a = (by_test (ltb r.limit tall) refl, rows-more weight mark e before tall rows h a.1)
  where
    by_test : (t : Bool) → ltb r.limit tall ≡ t → IsFoundAt weight mark (steps.asks e ∷ before) (cond t r (bumped (weight e) r))
    by_test true i = row-kept weight mark e before r (h r ∙ ap not i) a.0
    by_test false i = row-more weight mark e before r (h r ∙ ap not i) a.0

or-false : (b : Bool) → (b || false) ≡ b
or-false true = refl
or-false false = refl

pub or-true : (b : Bool) → (b || true) ≡ true
or-true true = refl
or-true false = refl

first-of : ℕ × ℕ → ℕ
first-of most = most.0

pub rows-asked : (weight : CacheEntryKey → ℕ) (mark : Option ℕ) (e : CacheEntryKey) (before : List Step) (rows : List CurveRow) (p : Option (ℕ × ℕ)) (is_past : Bool)
    → peak weight e before ≡ p → IfSome p (λ most. is_past ≡ passes mark most.1)
    → AreFound weight mark before rows → AreFound weight mark (steps.asks e ∷ before) (rows_after (option_map (λ most. most.0) p) is_past (weight e) rows)
rows-asked weight mark e before rows None is_past q g a =
    rows-kept weight mark e before rows (λ r. held-keeps weight r.limit mark e before ∙ ap (keeps r.limit mark) q) a
rows-asked weight mark e before rows (Some most) true q g a =
    rows-kept weight mark e before rows (λ r. held-keeps weight r.limit mark e before ∙ ap (keeps r.limit mark) q ∙ ap (λ (b : Bool). not (ltb r.limit most.0 || b)) (sym g) ∙ ap not (or-true (ltb r.limit most.0))) a
rows-asked weight mark e before rows (Some most) false q g a =
    rows-more weight mark e before most.0 rows (λ r. held-keeps weight r.limit mark e before ∙ ap (keeps r.limit mark) q ∙ ap (λ (b : Bool). not (ltb r.limit most.0 || b)) (sym g) ∙ ap not (or-false (ltb r.limit most.0))) a

-- ---- places

map-zero : (o : Option ℕ) → option_map (λ h. 0 + h) o ≡ o
map-zero None = refl
map-zero (Some n) = let z : 0 + n ≡ n = omega arith in ap (λ (k : ℕ). Some k) z

pub height-at : (e : CacheEntryKey) (cells : List Cell) → IsNumber e → HasNumbers cells → height (number_in e) (places_of 0 cells) ≡ height_of e cells
height-at e cells n h = sym (places-height e 0 cells n h) ∙ map-zero (height_of e cells)

pub removed-at : (e : CacheEntryKey) (cells : List Cell) → IsNumber e → HasNumbers cells → removed (number_in e) (places_of 0 cells) ≡ places_of 0 (emptied e cells)
removed-at e cells n h = let z : 0 + 0 ≡ 0 = omega arith in sym (places-emptied e 0 0 cells n h) ∙ ap (λ (k : ℕ). places_of k (emptied e cells)) z

pub asked-at : (e : CacheEntryKey) (w : ℕ) (cells : List Cell) → IsNumber e → HasNumbers cells
    → asked (number_in e) w (places_of 0 cells) ≡ places_of 0 (taken e w ∷ cells_filled w (emptied e cells))
asked-at e w cells n h =
    ap (λ (l : List Place). record { holes = 0; entry = number_in e; weight = w } ∷ l)
    (ap (filled w) (removed-at e cells n h) ∙ sym (places-filled w (emptied e cells)))

pub numbers-steps : (n : ℕ) (requests : List Request) → AreNumbered n requests → StepsHaveNumbers (steps_of requests)
numbers-steps n [] a = tt
numbers-steps n (asks e w t ∷ requests) a = (a.0.0, numbers-steps n requests a.1)
numbers-steps n (removes e ∷ requests) a = (a.0.0, numbers-steps n requests a.1)

pub numbers-more : (m n : ℕ) (requests : List Request) → m ≤ n → AreNumbered m requests → AreNumbered n requests
numbers-more m n [] l a = tt
numbers-more m n (r ∷ requests) l a = ((a.0.0, omega (arith, l, a.0.1)), numbers-more m n requests l a.1)

-- an entry of a number that no request has isn't asked for
pub not-among : (n : ℕ) (requests : List Request) → AreNumbered n requests → is_among (numbered n) requests ≡ false
not-among n [] a = refl
not-among n (removes e ∷ requests) a = not-among n requests a.1
not-among n (asks e w t ∷ requests) a = rw (other, not-among n requests a.1) refl
  where
    by_test : (t : Bool) → eqb (number_in e) n ≡ t → t ≡ false
    by_test true i = absurd (omega (arith, a.0.1, eqb-true (number_in e) n i))
    by_test false i = refl

    other : same_entry e (numbered n) ≡ false
    other = ap (λ (x : CacheEntryKey). same_entry x (numbered n)) a.0.0 ∙ same-numbered (number_in e) n ∙ by_test (eqb (number_in e) n) refl

-- ---- the watermark

pub past-at : (watermark : Option Watermark) (weight : CacheEntryKey → ℕ) (e : CacheEntryKey) (before : List Step) (p : Option (ℕ × ℕ)) → IsNumber e → StepsHaveNumbers before
    → IfSome watermark (λ m. m.heights ≡ places_of 0 (cells_of one_each before)) → peak weight e before ≡ p
    → IfSome p (λ most. is_past_mark watermark (number_in e) ≡ passes (mark_of watermark) most.1)
past-at watermark weight e before None n s h q = tt
past-at None weight e before (Some most) n s h q = refl
past-at (Some m) weight e before (Some most) n s h q =
    ap (past m.most) (ap (height (number_in e)) h ∙ height-at e (cells_of one_each before) n (numbers-cells one_each before s) ∙ high-number weight e before ∙ ap (option_map (λ (x : ℕ × ℕ). x.1)) q)
