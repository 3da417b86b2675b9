use Rattle.std.proofs.Common.{sym, ◌∙◌}
use Rattle.rules_fields.specs.Texts.{small}
use Rattle.rules_fields.specs.Fields.{field}
use Rattle.rules_quick.specs.Plain.{watched}
use Rattle.rules_quick.proofs.Walking.{plain_by, kept_facts, asked_facts, hop_facts, connection_facts, keeps, asks, drops, connects}
use Rattle.rules_quick.proofs.walk.add_line.Goals as goal

pub returns-in-Kept-clause-walked : goal.returns-in-Kept-clause-walked
returns-in-Kept-clause-walked c =
    let f = field c.args.line in
    let k = sym c.kind_of.ensures ∙ c.in-Kept.is in
    keeps _ _ _ _ _ _ _ _ f (record { is = c.requires.is; plain = plain_by watched f c.requires.plain (kept_facts (small f.0) k).unwatched; passed = c.requires.passed; has_room = c.requires.has_room }) k

pub returns-in_ok-extend_from_slice-in-Asked-clause-walked : goal.returns-in_ok-extend_from_slice-in-Asked-clause-walked
returns-in_ok-extend_from_slice-in-Asked-clause-walked c =
    let f = field c.args.line in
    let k = sym c.kind_of.ensures ∙ c.in-Asked.is in
    rw c.in_ok-extend_from_slice-in-Asked.ensures.items
    (asks _ _ _ _ _ _ _ _ f (record { is = c.requires.is; plain = plain_by watched f c.requires.plain (asked_facts (small f.0) k).unwatched; passed = c.requires.passed; has_room = c.requires.has_room }) k)

pub returns-in_ok-add_run-in-Hop-clause-walked : goal.returns-in_ok-add_run-in-Hop-clause-walked
returns-in_ok-add_run-in-Hop-clause-walked c =
    let f = field c.args.line in
    let k = sym c.kind_of.ensures ∙ c.in-Hop.is in
    rw c.in_ok-add_run-in-Hop.ensures
    (drops _ _ _ _ _ _ _ _ f (record { is = c.requires.is; plain = plain_by watched f c.requires.plain (hop_facts (small f.0) k).unwatched; passed = c.requires.passed; has_room = c.requires.has_room }) k c.requires.within)

pub returns-in_ok-add_run-in-None-clause-walked : goal.returns-in_ok-add_run-in-None-clause-walked
returns-in_ok-add_run-in-None-clause-walked c =
    let f = field c.args.line in
    let k = sym c.kind_of.ensures ∙ c.in-Connection.is in
    rw (c.in_ok-add_run-in-None.ensures, c.in-None.is)
    (connects _ _ _ _ _ _ _ f (record { is = c.requires.is; plain = plain_by watched f c.requires.plain (connection_facts (small f.0) k).unwatched; passed = c.requires.passed; has_room = c.requires.has_room }) k c.requires.within)
