use Rattle.std.proofs.Common.{ap, sym, subst, ◌∙◌, ℕ, List}
use Rattle.curve_sizes.specs.Requests.{steps_of, AreFound}
use Rattle.curve_sizes.specs.declared.row.CurveRow.{CurveRow}
use Rattle.curve_sizes.specs.declared.totals.Totals.{Totals}
use Rattle.curve_sizes.specs.Rows.{limits_of}
use Rattle.curve_sizes.specs.Numbers.{mark_of}
use Rattle.curve_held.specs.Held.{AreHeld}
use Rattle.curve_timed.proofs.marking.so_far.Goals as goal

pub returns-clause-found : goal.returns-clause-found
returns-clause-found c = λ requests f g k weight a.
    let s = f.shown weight a in
    record {
      asks_are = c.totals-totals.ensures.asks requests f;
      bytes_are = ap (λ (t : Totals). t.bytes) c.totals-totals.ensures.value ∙ s.totals.bytes;
      rows = subst (λ (rows : List CurveRow). AreFound weight (mark_of c.args.curve.now.watermark) (steps_of requests) rows) (sym c.in_ok-rows.ensures) s.rows;
      fresh = c.in_ok-fresh.ensures.rows requests g weight a;
      held = subst (λ (limits : List ℕ). AreHeld weight (mark_of c.args.curve.now.watermark) requests limits c.in_ok-held.held.items) (sym (ap limits_of c.in_ok-rows.ensures))
          (c.in_ok-held.ensures.held requests f k weight a);
    }

pub returns-clause-rows : goal.returns-clause-rows
returns-clause-rows c = record { rows = ap limits_of c.in_ok-rows.ensures; fresh = c.in_ok-fresh.ensures.limits }
