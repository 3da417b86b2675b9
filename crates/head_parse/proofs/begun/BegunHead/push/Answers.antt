use Rattle.std.proofs.Common.{◌≡◌, ◌++◌, ◌∙◌, ap, rules, take, length, ℕ, arith}
use Rattle.std.specs.Prelude.{◌≢◌}
use Rattle.head_parse.specs.declared.position.Position.TheVariants.{AfterEmptyLine}
use Rattle.head_parse.specs.Heads.{IsFrontOf}
use Rattle.head_parse.proofs.PositionLaws.{after-part, part-has-none}
use Rattle.head_parse.proofs.ParseLaws.{told-front}
use Rattle.std.proofs.lemmas.List.{take_all}
use Rattle.head_parse.proofs.begun.BegunHead.push.Goals as goal

pub invariant_of-self-then-ne : goal.invariant_of-self-then-ne
invariant_of-self-then-ne c =
    let grown : c.extend_from_slice.new.self.items ≡ c.self.inside.bytes.items ++ take c.scan-len.result.0 c.args.piece.now = search rules in
    rw grown (after-part c.self.inside.position c.self.inside.bytes.items (take c.scan-len.result.0 c.args.piece.now) _ c.self.invariant c.scan-len.ensures.position)

pub invariant_of-self-in_err-front : goal.invariant_of-self-in_err-front
invariant_of-self-in_err-front c =
    let grown : c.extend_from_slice.new.self.items ≡ c.self.inside.bytes.items ++ take c.scan-len.result.0 c.args.piece.now = search rules in
    rw grown (after-part c.self.inside.position c.self.inside.bytes.items (take c.scan-len.result.0 c.args.piece.now) _ c.self.invariant c.scan-len.ensures.position)

pub invariant_of-self-2 : goal.invariant_of-self-2
invariant_of-self-2 c =
    let grown : c.extend_from_slice.new.self.items ≡ c.self.inside.bytes.items ++ take c.scan-len.result.0 c.args.piece.now = search rules in
    rw grown (after-part c.self.inside.position c.self.inside.bytes.items (take c.scan-len.result.0 c.args.piece.now) _ c.self.invariant c.scan-len.ensures.position)

pub returns-then-ne-clause-none : goal.returns-then-ne-clause-none
returns-then-ne-clause-none c = λ _ none.
    let grown : c.extend_from_slice.new.self.items ≡ c.self.inside.bytes.items ++ take c.scan-len.result.0 c.args.piece.now = search rules in
    let differs : c.scan-len.result.1 ≢ AfterEmptyLine = search rules in
    let all : take c.scan-len.result.0 c.args.piece.now ≡ c.args.piece.now = ap (λ (n : ℕ). take n c.args.piece.now) (c.scan-len.ensures.all differs) ∙ take_all (length c.args.piece.now) c.args.piece.now (omega arith) in
    rw (grown, all) (part-has-none c.self.inside.bytes.items c.args.piece.now c.self.inside.position c.self.invariant (c.scan-len.ensures.quiet differs) (rw (← c.self.view_is) at none))

pub returns-clause-told : goal.returns-clause-told
returns-clause-told c =
    let front : IsFrontOf c.extend_from_slice.new.self.items c.in_ok-front.front = search rules in
    told-front c.extend_from_slice.new.self.items c.in_ok-front.front front
