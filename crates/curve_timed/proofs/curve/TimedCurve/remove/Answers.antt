use Rattle.std.proofs.Common.{refl, sym, subst, List, ℕ, Option, ◌∷◌}
use Rattle.std.specs.Prelude.{is_some}
use Rattle.curve_sizes.specs.Requests.{removes}
use Rattle.curve_sizes.specs.Numbers.{numbered, mark_of}
use Rattle.curve_sizes.specs.Rows.{limits_of}
use Rattle.curve_held.specs.State.{IsFilled}
use Rattle.curve_timed.proofs.Feeding.{removed-fresh}
use Rattle.curve_timed.proofs.MarkLaws.{removed-marked, rows-same}
use Rattle.curve_timed.proofs.curve.TimedCurve.remove.Goals as goal

pub returns-clause-fed : goal.returns-clause-fed
returns-clause-fed c = λ requests f.
    let old = c.args.self.now in
    let new = c.remove.new.self in
    let e = c.in_ok-remove.ensures in
    let after = removes (numbered c.args.entry) ∷ requests in
    record {
      whole = f.whole;
      fed = e.fed requests f.fed;
      fresh = removed-fresh old.fresh old.curve.weights.items new.weights.items (limits_of old.curve.table) (limits_of new.table) (mark_of old.curve.watermark) (mark_of new.watermark) requests c.args.entry
          e.same e.limits e.mark f.fresh;
      filled =
          subst (λ (ws : List ℕ). IsFilled ws (limits_of new.table) (mark_of new.watermark) c.remove-2.new.self after) (sym e.same)
          (subst (λ (ls : List ℕ). IsFilled old.curve.weights.items ls (mark_of new.watermark) c.remove-2.new.self after) (sym e.limits)
          (subst (λ (m : Option ℕ). IsFilled old.curve.weights.items (limits_of old.curve.table) m c.remove-2.new.self after) (sym e.mark)
          (c.remove-2.ensures old.curve.weights.items (limits_of old.curve.table) (mark_of old.curve.watermark) requests c.requires c.weight-own.ensures f.filled)));
      marked = removed-marked old.curve.weights.items new.weights.items (mark_of old.curve.watermark) (mark_of new.watermark) old.every old.span old.marks.items requests (numbered c.args.entry)
          e.same e.mark f.marked;
      mark_rows = rows-same (limits_of old.curve.table) (limits_of new.table) (is_some old.fresh) (is_some old.fresh) old.marks.items e.limits refl f.mark_rows;
    }
