use Rattle.curve_timed.proofs.curve.TimedCurve.fresh_rows.Goals as goal

pub fresh_of-requires : goal.fresh_of-requires
fresh_of-requires c = (c.requires.0, c.requires.1.fresh)

pub returns-clause-rows : goal.returns-clause-rows
returns-clause-rows c = λ requests f weight a. c.in_ok-rows.ensures.rows requests f.fresh weight a
