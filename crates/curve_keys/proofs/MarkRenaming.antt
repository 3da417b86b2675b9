-- Marks of requests by keys are those of requests by numbers.
use Rattle.std.proofs.Common.{◌≡◌, ℕ, ◌||◌, ◌++◌, ltb, Bool, true, false, cond, List, [], ◌∷◌, Option, Some, None, refl, ap, ap₂, sym, subst, ◌∙◌}
use Rattle.std.specs.Prelude.{not}
use Rattle.std.specs.List.{AllByRecursion}
use Rattle.cache_entries.specs.declared.entry.CacheEntryKey.{CacheEntryKey}
use Rattle.curve_sizes.specs.declared.row.CurveRow.{CurveRow}
use Rattle.curve_sizes.specs.Requests.{Request, asks, removes, steps_of, AreFirst, AreFound}
use Rattle.curve_sizes.specs.Numbers.{numbered, mark_of}
use Rattle.curve_sizes.specs.Rows.{limits_of}
use Rattle.curve_held.specs.declared.row.HeldRow.{HeldRow}
use Rattle.curve_held.specs.Held.{AreHeld}
use Rattle.curve_timed.specs.declared.row.FreshRow.{FreshRow}
use Rattle.curve_timed.specs.declared.every.Every.{Every}
use Rattle.curve_timed.specs.declared.marks.Mark.{Mark}
use Rattle.curve_timed.specs.Timed.{timed_of}
use Rattle.curve_timed.specs.Rows.{AreFresh}
use Rattle.curve_timed.specs.Spans.{span_from}
use Rattle.curve_timed.specs.Marks.{reached, until, is_past_span, span_after, span_of, marks_of, marks_by, IsSoFar, IsMark, AreMarks}
use Rattle.curve_keys.specs.declared.keyed.KeyedCurve.{KeyedCurve}
use Rattle.curve_keys.specs.Keys.{keyed, number_of, AreRenamed, none, ask, removal, unknown, IsFedKeys}
use Rattle.curve_keys.proofs.Renaming.{finds-same, found-same, bytes-same, asked-same}
use Rattle.curve_keys.proofs.FreshRenaming.{fresh-same, fresh-bytes-same}
use Rattle.curve_keys.proofs.HeldRenaming.{row-same}
use Rattle.curve_keys.proofs.KeyedLaws.{weight_by}

module _ (number : List ℕ → Option ℕ) where
  reached-same : (at : ℕ) (requests numbers : List Request) → AreRenamed number requests numbers → reached at requests ≡ reached at numbers
  reached-same at _ _ none = refl
  reached-same at _ _ (ask key w n when requests numbers h r) = ap (λ (b : Bool). not (ltb when.moment at) || b) (reached-same at requests numbers r)
  reached-same at _ _ (removal key n requests numbers h r) = reached-same at requests numbers r
  reached-same at _ _ (unknown key requests numbers h r) = reached-same at requests numbers r

  -- requests of which none is at the moment or later are all before it
  until-all : (at : ℕ) (requests numbers : List Request) → AreRenamed number requests numbers → reached at numbers ≡ false → until at numbers ≡ numbers
  until-all at _ _ none h = refl
  until-all at _ _ (ask key w n when requests numbers k r) h = by_tests (ltb when.moment at) (reached at numbers) refl refl h
    where
      by_tests : (x y : Bool) → ltb when.moment at ≡ x → reached at numbers ≡ y → (not x || y) ≡ false
          → until at (asks (numbered n) w when ∷ numbers) ≡ asks (numbered n) w when ∷ numbers
      by_tests true true p q z = absurd (true-false z)
        where
          true-false : true ≡ false → ⊥
          true-false e = cc
      by_tests false y p q z = absurd (true-false z)
        where
          true-false : true ≡ false → ⊥
          true-false e = cc
      by_tests true false p q z = ap₂ (λ (x y : Bool). cond y (until at numbers) (cond x (asks (numbered n) w when ∷ numbers) numbers)) p q
  until-all at _ _ (removal key n requests numbers k r) h = ap (λ (y : Bool). cond y (until at numbers) (removes (numbered n) ∷ numbers)) h
  until-all at _ _ (unknown key requests numbers k r) h = until-all at requests numbers r h

  until-same : (at : ℕ) (requests numbers : List Request) → AreRenamed number requests numbers → AreRenamed number (until at requests) (until at numbers)
  until-same at _ _ none = none
  until-same at _ _ (ask key w n when requests numbers h r) = by_test (reached at requests) (ltb when.moment at) (sym (reached-same at requests numbers r)) (until-same at requests numbers r)
    where
      by_test : (x y : Bool) → reached at numbers ≡ x → AreRenamed number (until at requests) (until at numbers)
          → AreRenamed number (cond x (until at requests) (cond y (asks (keyed key) w when ∷ requests) requests)) (cond (reached at numbers) (until at numbers) (cond y (asks (numbered n) w when ∷ numbers) numbers))
      by_test true y p i = subst (λ (b : Bool). AreRenamed number (until at requests) (cond b (until at numbers) (cond y (asks (numbered n) w when ∷ numbers) numbers))) (sym p) i
      by_test false true p i =
          subst (λ (b : Bool). AreRenamed number (asks (keyed key) w when ∷ requests) (cond b (until at numbers) (asks (numbered n) w when ∷ numbers))) (sym p) (ask key w n when requests numbers h r)
      by_test false false p i = subst (λ (b : Bool). AreRenamed number requests (cond b (until at numbers) numbers)) (sym p) r
  until-same at _ _ (removal key n requests numbers h r) = by_test (reached at requests) (sym (reached-same at requests numbers r)) (until-same at requests numbers r)
    where
      by_test : (x : Bool) → reached at numbers ≡ x → AreRenamed number (until at requests) (until at numbers)
          → AreRenamed number (cond x (until at requests) (removes (keyed key) ∷ requests)) (cond (reached at numbers) (until at numbers) (removes (numbered n) ∷ numbers))
      by_test true p i = subst (λ (b : Bool). AreRenamed number (until at requests) (cond b (until at numbers) (removes (numbered n) ∷ numbers))) (sym p) i
      by_test false p i = subst (λ (b : Bool). AreRenamed number (removes (keyed key) ∷ requests) (cond b (until at numbers) (removes (numbered n) ∷ numbers))) (sym p) (removal key n requests numbers h r)
  until-same at _ _ (unknown key requests numbers h r) = by_test (reached at requests) (sym (reached-same at requests numbers r)) (until-same at requests numbers r)
    where
      by_test : (x : Bool) → reached at numbers ≡ x → AreRenamed number (until at requests) (until at numbers) → AreRenamed number (cond x (until at requests) (removes (keyed key) ∷ requests)) (until at numbers)
      by_test true p i = i
      by_test false p i = subst (AreRenamed number (removes (keyed key) ∷ requests)) (sym (until-all at requests numbers r p)) (unknown key requests numbers h r)

  span-same : (seconds : ℕ) (requests numbers : List Request) → AreRenamed number requests numbers → span_of seconds requests ≡ span_of seconds numbers
  span-same seconds _ _ none = refl
  span-same seconds _ _ (ask key w n when requests numbers h r) = ap (λ (o : Option ℕ). Some (span_after seconds when.moment o)) (span-same seconds requests numbers r)
  span-same seconds _ _ (removal key n requests numbers h r) = span-same seconds requests numbers r
  span-same seconds _ _ (unknown key requests numbers h r) = span-same seconds requests numbers r

  marks-same : (seconds : ℕ) (requests numbers : List Request) → AreRenamed number requests numbers → marks_of seconds requests ≡ marks_of seconds numbers
  marks-same seconds _ _ none = refl
  marks-same seconds _ _ (ask key w n when requests numbers h r) =
      ap₂ (λ (l : List ℕ) (o : Option ℕ). l ++ cond (is_past_span seconds when.moment o) (span_from seconds when.moment ∷ []) []) (marks-same seconds requests numbers r) (span-same seconds requests numbers r)
  marks-same seconds _ _ (removal key n requests numbers h r) = marks-same seconds requests numbers r
  marks-same seconds _ _ (unknown key requests numbers h r) = marks-same seconds requests numbers r

  by-same : (every : Option Every) (requests numbers : List Request) → AreRenamed number requests numbers → marks_by every requests ≡ marks_by every numbers
  by-same None requests numbers r = refl
  by-same (Some x) requests numbers r = marks-same x.seconds requests numbers r

module _ (number : List ℕ → Option ℕ) (apart : (key other : List ℕ) (n : ℕ) → number key ≡ Some n → number other ≡ Some n → key ≡ other)
    (weight weight' : CacheEntryKey → ℕ) (weighs : (key : List ℕ) (n : ℕ) → number key ≡ Some n → weight (keyed key) ≡ weight' (numbered n)) (mark : Option ℕ) where
  found-as : (requests numbers : List Request) → AreRenamed number requests numbers → (rows : List CurveRow) → AreFound weight' mark (steps_of numbers) rows → AreFound weight mark (steps_of requests) rows
  found-as requests numbers r [] h = tt
  found-as requests numbers r (row ∷ rows) h = (
    (
      h.0.0 ∙ sym (finds-same number apart weight weight' weighs row.limit mark requests numbers r),
      h.0.1 ∙ sym (found-same number apart weight weight' weighs row.limit mark requests numbers r),
    ),
    found-as requests numbers r rows h.1,
  )

  fresh-as : (requests numbers : List Request) → AreRenamed number requests numbers → (rows : List FreshRow) → AreFresh weight' mark (timed_of numbers) rows → AreFresh weight mark (timed_of requests) rows
  fresh-as requests numbers r [] h = tt
  fresh-as requests numbers r (row ∷ rows) h = (
    (
      h.0.0 ∙ sym (fresh-same number apart weight weight' weighs row.limit mark requests numbers r),
      h.0.1 ∙ sym (fresh-bytes-same number apart weight weight' weighs row.limit mark requests numbers r),
    ),
    fresh-as requests numbers r rows h.1,
  )

  held-as : (requests numbers : List Request) → AreRenamed number requests numbers → (limits : List ℕ) (rows : List HeldRow) → AreHeld weight' mark numbers limits rows → AreHeld weight mark requests limits rows
  held-as requests numbers r [] [] h = tt
  held-as requests numbers r [] (row ∷ rows) h = absurd h
  held-as requests numbers r (l ∷ limits) [] h = absurd h
  held-as requests numbers r (l ∷ limits) (row ∷ rows) h = (row-same number apart weight weight' weighs l mark requests numbers r row h.0, held-as requests numbers r limits rows h.1)

  so-far-as : (requests numbers : List Request) → AreRenamed number requests numbers → (m : Mark) → IsSoFar weight' mark numbers m → IsSoFar weight mark requests m
  so-far-as requests numbers r m h = record {
    asks_are = h.asks_are ∙ sym (asked-same number apart requests numbers r);
    bytes_are = h.bytes_are ∙ sym (bytes-same number apart weight weight' weighs 0 mark requests numbers r);
    rows = found-as requests numbers r m.rows.items h.rows;
    fresh = fresh-as requests numbers r m.fresh.items h.fresh;
    held = held-as requests numbers r (limits_of m.rows.items) m.held.items h.held;
  }

  mark-as : (requests numbers : List Request) → AreRenamed number requests numbers → (m : Mark) → IsMark weight' mark numbers m → IsMark weight mark requests m
  mark-as requests numbers r m h = record {
    is_reached = reached-same number m.at requests numbers r ∙ h.is_reached;
    found = so-far-as (until m.at requests) (until m.at numbers) (until-same number m.at requests numbers r) m h.found;
  }

  all-as : (requests numbers : List Request) → AreRenamed number requests numbers → (marks : List Mark) → AllByRecursion (IsMark weight' mark numbers) marks → AllByRecursion (IsMark weight mark requests) marks
  all-as requests numbers r [] h = tt
  all-as requests numbers r (m ∷ marks) h = (mark-as requests numbers r m h.0, all-as requests numbers r marks h.1)

pub keyed-marks : (c : KeyedCurve) (requests : List Request) → IsFedKeys c requests → (weight : CacheEntryKey → ℕ) → AreFirst weight requests
    → AreMarks weight (mark_of c.curve.curve.watermark) c.curve.every requests c.curve.marks.items
keyed-marks c requests f weight a =
    let ws = c.curve.curve.weights.items in
    let k = f.keys in
    let v = f.fed.marked.marks_are (weight_by ws) (λ n l. refl) in
    record {
      moments = v.moments ∙ sym (by-same (number_of c.numbers) c.curve.every requests f.numbers k.renamed);
      each = all-as (number_of c.numbers) k.apart weight (weight_by ws) (k.first weight a) (mark_of c.curve.curve.watermark) requests f.numbers k.renamed c.curve.marks.items v.each;
    }
