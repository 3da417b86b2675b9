use Rattle.std.proofs.Common.{◌≡◌, ℕ, ◌+◌, ◌≤◌, ◌<◌, ◌⊎◌, inl, inr, refl, ap, sym, subst, ◌∙◌, arith, List, Option, [], ◌∷◌, ◌++◌, length}
use Rattle.std.specs.Prelude.{is_some}
use Rattle.std.proofs.lemmas.Bool.{cases_lt}
use Rattle.std.proofs.lemmas.List.{length-map, length_push}
use Rattle.curve_sizes.specs.declared.row.CurveRow.{CurveRow}
use Rattle.curve_sizes.specs.Rows.{limits_of}
use Rattle.curve_sizes.specs.Requests.{asks}
use Rattle.curve_sizes.specs.Numbers.{mark_of, numbered}
use Rattle.curve_held.specs.State.{AreRising, IsFilled}
use Rattle.curve_sizes.proofs.Feeding.{weighs}
use Rattle.curve_timed.proofs.Feeding.{timed-fed, may-ask}
use Rattle.curve_timed.proofs.MarkLaws.{grown-marked, rows-same}
use Rattle.curve_timed.proofs.curve.TimedCurve.count.Goals as goal

kept : (ws ws' : List ℕ) → ws' ≡ ws → length ws' ≡ length ws
kept ws ws' e = ap (λ (l : List ℕ). length l) e

pushed : (ws ws' : List ℕ) (w : ℕ) → ws' ≡ ws ++ w ∷ [] → length ws' ≡ length ws + 1
pushed ws ws' w e = ap (λ (l : List ℕ). length l) e ∙ length_push ws w

below : (ws ws' : List ℕ) (entry : ℕ) → entry ≤ length ws → (entry < length ws → length ws' ≡ length ws) → (entry ≡ length ws → length ws' ≡ length ws + 1) → entry < length ws'
below ws ws' entry l old next = by_case (cases_lt entry (length ws))
  where
    by_case : (entry < length ws) ⊎ (length ws ≤ entry) → entry < length ws'
    by_case (inl m) = let e = old m in omega (arith, e, m)
    by_case (inr m) = let q : entry ≡ length ws = omega (arith, l, m) in let e = next q in omega (arith, e, q)

pub mark-requires-clause-fed : goal.mark-requires-clause-fed
mark-requires-clause-fed c = (c.requires.fed.0, c.requires.fed.1.fresh)

pub mark-requires-clause-even : goal.mark-requires-clause-even
mark-requires-clause-even c = c.requires.fed.1.filled.latest_are

pub weight-own-requires : goal.weight-own-requires
weight-own-requires c =
    let ws = c.args.self.now.curve.weights.items in
    let ws' = c.ask.new.self.weights.items in
    below ws ws' c.args.entry c.requires.within (λ l. kept ws ws' (c.in_ok-first.ensures.known l)) (λ e. pushed ws ws' c.args.weight (c.in_ok-first.ensures.next e))

pub count_fresh-requires : goal.count_fresh-requires
count_fresh-requires c =
    let old = c.args.self.now in
    may-ask old.fresh old.curve.weights.items c.args.entry (limits_of old.curve.table) (mark_of old.curve.watermark) c.requires.fed.0 c.requires.within c.requires.fed.1.fresh

pub ask-requires-2-clause-within : goal.ask-requires-2-clause-within
ask-requires-2-clause-within c = let f = c.requires.fed.1.filled in omega (arith, c.requires.within, f.entries_are)

pub ask-requires-2-clause-even : goal.ask-requires-2-clause-even
ask-requires-2-clause-even c = let f = c.requires.fed.1.filled in f.latest_are ∙ sym f.entries_are

pub ask-requires-2-clause-rising : goal.ask-requires-2-clause-rising
ask-requires-2-clause-rising c = let f = c.requires.fed.1.filled in subst AreRising (sym f.limits_are) f.rising

pub ask-requires-2-clause-few : goal.ask-requires-2-clause-few
ask-requires-2-clause-few c =
    let f = c.requires.fed.1.filled in
    let e = ap (λ (l : List ℕ). length l) f.limits_are in
    omega (arith, e, f.few)

pub returns-clause-fed : goal.returns-clause-fed
returns-clause-fed c = λ requests f.
    let old = c.args.self.now in
    let e = c.in_ok-first.ensures in
    let n = length-map old.curve.table (λ (r : CurveRow). r.limit) in
    record {
      whole = f.whole;
      fed = e.fed requests c.args.when f.fed;
      fresh = timed-fed old.fresh c.count_fresh.new.fresh old.curve.weights.items c.ask.new.self.weights.items (limits_of old.curve.table) (limits_of c.ask.new.self.table)
          (mark_of old.curve.watermark) (mark_of c.ask.new.self.watermark) requests c.args.entry c.args.weight c.weight-own.result c.in_ok-first.first c.args.when
          c.in_ok-count_fresh.ensures.none c.in_ok-count_fresh.ensures.some e.limits e.mark c.requires.within e.known e.next c.weight-own.ensures
          (λ weight a k l. e.first requests f.fed weight a k (omega (arith, l, n)))
          f.fresh;
      filled =
          subst (λ (ls : List ℕ). IsFilled c.ask.new.self.weights.items ls (mark_of c.ask.new.self.watermark) c.ask-2.new.self (asks (numbered c.args.entry) c.args.weight c.args.when ∷ requests)) (sym e.limits)
          (subst (λ (m : Option ℕ). IsFilled c.ask.new.self.weights.items (limits_of old.curve.table) m c.ask-2.new.self (asks (numbered c.args.entry) c.args.weight c.args.when ∷ requests)) (sym e.mark)
          (c.in_ok-ask.ensures.filled old.curve.weights.items c.ask.new.self.weights.items (limits_of old.curve.table) (mark_of old.curve.watermark) c.args.weight requests
          (record { within = c.requires.within; known = e.known; next = e.next }) c.weight-own.ensures f.filled));
      marked = grown-marked old.curve.weights.items c.ask.new.self.weights.items (mark_of old.curve.watermark) (mark_of c.ask.new.self.watermark) old.every c.mark.new.span c.mark.new.marks.items
          (asks (numbered c.args.entry) c.args.weight c.args.when ∷ requests)
          (weighs old.curve.weights.items c.ask.new.self.weights.items c.args.entry c.args.weight c.requires.within e.known e.next).before e.mark
          (c.in_ok-mark.ensures.marked requests (numbered c.args.entry) c.args.weight c.args.when f.fed f.fresh f.filled refl f.marked);
      mark_rows = rows-same (limits_of old.curve.table) (limits_of c.ask.new.self.table) (is_some old.fresh) (is_some c.count_fresh.new.fresh) c.mark.new.marks.items e.limits c.in_ok-count_fresh.ensures.same
          (c.in_ok-mark.ensures.rows f.mark_rows);
    }
