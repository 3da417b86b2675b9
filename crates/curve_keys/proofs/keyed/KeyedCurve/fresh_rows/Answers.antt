use Rattle.curve_keys.proofs.FreshRenaming.{keyed-fresh}
use Rattle.curve_keys.proofs.keyed.KeyedCurve.fresh_rows.Goals as goal

pub fresh_rows-requires : goal.fresh_rows-requires
fresh_rows-requires c = (c.requires.1.numbers, c.requires.1.fed)

pub returns-clause-rows : goal.returns-clause-rows
returns-clause-rows c = keyed-fresh c.args.self.now c.in_ok-rows.rows.items c.in_ok-rows.ensures.rows
