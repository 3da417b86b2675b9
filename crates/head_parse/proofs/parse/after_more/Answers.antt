use Rattle.std.proofs.Common.{◌≡◌, ◌++◌, subst, List, ℕ}
use Rattle.std.specs.Prelude.{take, drop}
use Rattle.head_parse.specs.Parse.{ParserHolds, at_bad_head, in_body, announced, limited}
use Rattle.head_parse.proofs.ParseLaws.{ParserHolds-refused, ParserHolds-found}
use Rattle.head_parse.proofs.parse.after_more.Goals as goal

pub returns-in-Refused-clause-next : goal.returns-in-Refused-clause-next
returns-in-Refused-clause-next c = λ bytes holds.
    let grown : c.take.new.self ≡ c.args.head.now ++ take c.in_ok-len.len c.args.piece = rw c.as_slice.ensures at c.in_ok-len.ensures.ok in
    let bad = rw c.in-Refused.is at c.in_ok-len.ensures.told in
    subst (λ (b : List ℕ). ParserHolds (b ++ c.args.piece) at_bad_head) holds.0 (ParserHolds-refused c.args.head.now c.args.piece c.take.new.self c.in_ok-len.len grown bad)

pub returns-in-Found-clause-next : goal.returns-in-Found-clause-next
returns-in-Found-clause-next c = λ bytes holds.
    let grown : c.take.new.self ≡ c.args.head.now ++ take c.in_ok-len.len c.args.piece = rw c.as_slice.ensures at c.in_ok-len.ensures.ok in
    let found = rw c.in-Found.is at c.in_ok-len.ensures.told in
    rw (c.new-body.ensures, c.split_after-first.ensures, c.advance.ensures)
    (subst (λ (b : List ℕ). ParserHolds (b ++ c.args.piece) (in_body c.in-Found.found.header (limited (announced c.in-Found.found.header) (drop c.in-Found.found.len c.take.new.self ++ drop c.in_ok-len.len c.args.piece)))) holds.0
    (ParserHolds-found c.args.head.now c.args.piece c.take.new.self c.in_ok-len.len c.in-Found.found grown found))
