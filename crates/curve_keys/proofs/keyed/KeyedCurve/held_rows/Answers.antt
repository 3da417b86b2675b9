use Rattle.curve_keys.proofs.HeldRenaming.{keyed-held}
use Rattle.curve_keys.proofs.keyed.KeyedCurve.held_rows.Goals as goal

pub held_rows-requires : goal.held_rows-requires
held_rows-requires c = (c.requires.1.numbers, c.requires.1.fed)

pub returns-clause-held : goal.returns-clause-held
returns-clause-held c = keyed-held c.args.self.now c.in_ok-rows.rows.items c.in_ok-rows.ensures.held
