use Rattle.std.proofs.Common.{false, true, sym, ◌∙◌}
use Rattle.rules_fields.specs.Fields.{field}
use Rattle.rules_quick.specs.PlainResponses.{watched}
use Rattle.rules_quick.proofs.Walking.{plain_by}
use Rattle.rules_quick.proofs.ResponseWalking.{hop_facts, connection_facts, length_facts, coding_facts, leaves, silent, connected, sized, coded}
use Rattle.rules_quick.proofs.response_walk.without_line.Goals as goal

pub returns-in-Hop-clause-walked : goal.returns-in-Hop-clause-walked
returns-in-Hop-clause-walked c = λ text.
    let f = field c.args.line in
    let h = hop_facts f (sym c.requires.kind ∙ c.in-Hop.is) in
    leaves text _ _ _ _ _ _ _ _ _ _ _ _ f false false false false h (silent _ _ _ _ _)
    (record { is = c.requires.is; plain = plain_by watched f c.requires.plain h.unnamed; has_room = c.requires.has_room }) c.requires.within

pub returns-in-None-clause-walked : goal.returns-in-None-clause-walked
returns-in-None-clause-walked c = λ text.
    let f = field c.args.line in
    let h = connection_facts f (sym c.requires.kind ∙ c.in-Connection.is) in
    rw c.in-None.is
    (leaves text _ _ _ _ _ _ _ _ _ _ _ _ f false false false true h (connected _ _ _ _)
    (record { is = c.requires.is; plain = plain_by watched f c.requires.plain h.unnamed; has_room = c.requires.has_room }) c.requires.within)

pub returns-in-None-length-clause-walked : goal.returns-in-None-length-clause-walked
returns-in-None-length-clause-walked c = λ text.
    let f = field c.args.line in
    let h = length_facts f (sym c.requires.kind ∙ c.in-Length.is) in
    rw c.in-None-length.is
    (leaves text _ _ _ _ _ _ _ _ _ _ _ _ f false true false false h (sized _ _ _ _)
    (record { is = c.requires.is; plain = plain_by watched f c.requires.plain h.unnamed; has_room = c.requires.has_room }) c.requires.within)

pub returns-in-None-coding-clause-walked : goal.returns-in-None-coding-clause-walked
returns-in-None-coding-clause-walked c = λ text.
    let f = field c.args.line in
    let h = coding_facts f (sym c.requires.kind ∙ c.in-Coding.is) in
    rw c.in-None-coding.is
    (leaves text _ _ _ _ _ _ _ _ _ _ _ _ f false false true false h (coded _ _ _ _)
    (record { is = c.requires.is; plain = plain_by watched f c.requires.plain h.unnamed; has_room = c.requires.has_room }) c.requires.within)
