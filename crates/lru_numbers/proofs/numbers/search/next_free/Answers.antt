use Rattle.std.proofs.Common.{nat_eq, sym, ◌∙◌, arith}
use Rattle.std.specs.HashMap.{get}
use Rattle.std.proofs.Math.Nat.{add-mod_right}
use Rattle.lru_numbers.proofs.RestLaws.{taken_more, not_none}
use Rattle.lru_numbers.proofs.numbers.search.next_free.Goals as goal

pub returns-then-last-number-clause-none : goal.returns-then-last-number-clause-none
returns-then-last-number-clause-none g c j a b e =
    let i = c.numbers.invariant in
    taken_more c.args.step (get nat_eq c.args.places.now) c.args.from c.numbers.number i.3 i.2 (not_none _ (sym c.contains_key.ensures ∙ c.numbers-test.true)) j a (omega (arith, c.if-last-number.true, i.1)) e

pub numbers-preserved : goal.numbers-preserved
numbers-preserved g c =
    let i = c.numbers.invariant in (
      omega (arith, i.0),
      omega (arith, c.if-last-number.false, i.1),
      add-mod_right c.numbers.number c.args.step ∙ i.2,
      λ j a b e. taken_more c.args.step (get nat_eq c.args.places.now) c.args.from c.numbers.number i.3 i.2 (not_none _ (sym c.contains_key.ensures ∙ c.numbers-test.true)) j a b e,
    )
