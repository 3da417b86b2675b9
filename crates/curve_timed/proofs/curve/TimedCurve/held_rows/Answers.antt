use Rattle.curve_timed.proofs.curve.TimedCurve.held_rows.Goals as goal

pub rows-requires : goal.rows-requires
rows-requires c = c.requires.1.filled.latest_are

pub returns-clause-held : goal.returns-clause-held
returns-clause-held c = λ requests f weight a. c.in_ok-rows.ensures.held requests f.fed f.filled weight a
