use Rattle.std.proofs.Common.{sym, subst}
use Rattle.std.specs.Prelude.{OnOk}
use Rattle.curve_keys.specs.Pasts.{Past, IsRead, onto, line_for}
use Rattle.curve_keys.specs.declared.said.Said.{Said}
use Rattle.curve_keys.proofs.reading.Reading.feed_said.Goals as goal

pub returns-in-Removal-clause-read : goal.returns-in-Removal-clause-read
returns-in-Removal-clause-read c =
    subst (λ (s : Said). OnOk c.remove.result ((past : Past) → IsRead c.args.self.now past → IsRead c.remove.new.self (onto (line_for c.args.key.now s c.args.when c.args.times) past)))
    (sym c.in-Removal.is) c.remove.ensures.read

pub returns-in-Told-clause-read : goal.returns-in-Told-clause-read
returns-in-Told-clause-read c =
    subst (λ (s : Said). OnOk c.tell.result ((past : Past) → IsRead c.args.self.now past → IsRead c.tell.new.self (onto (line_for c.args.key.now s c.args.when c.args.times) past)))
    (sym c.in-Told.is) c.tell.ensures.read

pub returns-in-Other-clause-read : goal.returns-in-Other-clause-read
returns-in-Other-clause-read c =
    subst (λ (s : Said). (past : Past) → IsRead c.args.self.now past → IsRead c.args.self.now (onto (line_for c.args.key.now s c.args.when c.args.times) past)) (sym c.in-Other.is) (λ past h. h)
