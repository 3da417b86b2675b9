use Rattle.std.proofs.Common.{sym, subst, List}
use Rattle.std.specs.Prelude.{is_some}
use Rattle.std.specs.List.{AllByRecursion}
use Rattle.curve_sizes.specs.Rows.{limits_of}
use Rattle.curve_sizes.specs.Numbers.{mark_of}
use Rattle.curve_timed.specs.declared.marks.Mark.{Mark}
use Rattle.curve_timed.specs.Marks.{AreMarks, HasMarkRows}
use Rattle.curve_keys.proofs.MarkRenaming.{keyed-marks}
use Rattle.curve_keys.proofs.keyed.KeyedCurve.marks.Goals as goal

pub returns-clause-marks : goal.returns-clause-marks
returns-clause-marks c = λ requests f weight a.
    let old = c.args.self.now in
    subst (λ (ms : List Mark). AreMarks weight (mark_of old.curve.curve.watermark) old.curve.every requests ms) (sym c.marks.ensures) (keyed-marks old requests f weight a)

pub returns-clause-rows : goal.returns-clause-rows
returns-clause-rows c = λ requests f.
    let old = c.args.self.now in
    subst (AllByRecursion (HasMarkRows (limits_of old.curve.curve.table) (is_some old.curve.fresh))) (sym c.marks.ensures) f.fed.mark_rows
