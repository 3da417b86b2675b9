use Rattle.std.proofs.Common.{ap, arith, refl, sym, subst, ℕ, [], ◌∷◌, ◌≡◌, ◌∙◌, List, Option, Some, None, length, map}
use Rattle.std.proofs.lemmas.List.{length-map}
use Rattle.std.specs.Prelude.{is_some}
use Rattle.std.specs.List.{AllByRecursion}
use Rattle.curve_sizes.specs.declared.row.CurveRow.{CurveRow}
use Rattle.curve_sizes.specs.Rows.{limits_of, empty_row}
use Rattle.curve_sizes.specs.Numbers.{mark_of}
use Rattle.curve_held.specs.State.{IsFilled}
use Rattle.curve_timed.specs.declared.every.Every.{Every}
use Rattle.curve_timed.specs.declared.marks.Mark.{Mark}
use Rattle.curve_timed.specs.Marks.{HasMarkRows}
use Rattle.curve_timed.specs.Counting.{IsMarked}
use Rattle.curve_timed.proofs.Feeding.{new-fed}
use Rattle.curve_timed.proofs.curve.TimedCurve.new.Goals as goal

no-items : (xs : List ℕ) → length xs ≡ 0 → xs ≡ []
no-items [] e = refl
no-items (x ∷ xs) e = absurd (omega (arith, e))

limits-empty : (ls : List ℕ) → limits_of (map empty_row ls) ≡ ls
limits-empty [] = refl
limits-empty (l ∷ ls) = ap (λ (xs : List ℕ). l ∷ xs) (limits-empty ls)

pub new-requires-2 : goal.new-requires-2
new-requires-2 c = λ i j l m. c.requires i j 0 l m

new-marked : (ws : List ℕ) (mark : Option ℕ) (every : Option Every) → IsMarked ws mark every None [] []
new-marked ws mark None = record { span_is = tt; marks_are = λ weight a. record { moments = refl; each = tt } }
new-marked ws mark (Some x) = record { span_is = refl; marks_are = λ weight a. record { moments = refl; each = tt } }

pub returns-clause-fed : goal.returns-clause-fed
returns-clause-fed c =
    let curve = c.in_ok-curve.curve in
    let limits = c.args.limits.now in
    let table = c.in_ok-curve.ensures.table in
    record {
      whole = refl;
      fed = c.in_ok-curve.ensures.fed;
      fresh = new-fed c.in_ok-fresh.fresh curve.weights.items (length limits) (limits_of curve.table) (mark_of curve.watermark) (no-items curve.weights.items c.in_ok-curve.ensures.fed.entries)
          (length-map curve.table (λ (r : CurveRow). r.limit) ∙ ap (λ (l : List CurveRow). length l) table ∙ length-map limits empty_row) c.in_ok-fresh.ensures.fed;
      filled =
          subst (λ (ws : List ℕ). IsFilled ws (limits_of curve.table) (mark_of curve.watermark) c.in_ok-filling.filling []) (sym (no-items curve.weights.items c.in_ok-curve.ensures.fed.entries))
          (subst (λ (ls : List ℕ). IsFilled [] ls (mark_of curve.watermark) c.in_ok-filling.filling []) (sym (ap limits_of table ∙ limits-empty limits))
          (subst (λ (m : Option ℕ). IsFilled [] limits m c.in_ok-filling.filling []) (sym c.in_ok-curve.ensures.mark) c.in_ok-filling.ensures));
      marked = subst (λ (ms : List Mark). IsMarked curve.weights.items (mark_of curve.watermark) c.args.every None ms []) (sym c.new-3.ensures.items) (new-marked curve.weights.items (mark_of curve.watermark) c.args.every);
      mark_rows = subst (AllByRecursion (HasMarkRows (limits_of curve.table) (is_some c.in_ok-fresh.fresh))) (sym c.new-3.ensures.items) tt;
    }
