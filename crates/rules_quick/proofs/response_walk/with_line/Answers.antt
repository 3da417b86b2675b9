use Rattle.std.proofs.Common.{false, true, sym, ◌∙◌}
use Rattle.rules_fields.specs.Fields.{field}
use Rattle.rules_quick.specs.PlainResponses.{watched}
use Rattle.rules_quick.proofs.Walking.{plain_by}
use Rattle.rules_quick.proofs.ResponseWalking.{kept_facts, date_facts, stays, silent, dated}
use Rattle.rules_quick.proofs.response_walk.with_line.Goals as goal

pub returns-in-Kept-clause-walked : goal.returns-in-Kept-clause-walked
returns-in-Kept-clause-walked c = λ text.
    let f = field c.args.line in
    let h = kept_facts f (sym c.requires.kind ∙ c.in-Kept.is) in
    stays text _ _ _ _ _ _ _ _ _ _ _ _ f false false false false h (silent _ _ _ _ _)
    (record { is = c.requires.is; plain = plain_by watched f c.requires.plain h.unnamed; has_room = c.requires.has_room })

pub returns-in-None-clause-walked : goal.returns-in-None-clause-walked
returns-in-None-clause-walked c = λ text.
    let f = field c.args.line in
    let h = date_facts f (sym c.requires.kind ∙ c.in-Date.is) in
    rw c.in-None.is
    (stays text _ _ _ _ _ _ _ _ _ _ _ _ f true false false false h (dated _ _ _ _)
    (record { is = c.requires.is; plain = plain_by watched f c.requires.plain h.unnamed; has_room = c.requires.has_room }))
