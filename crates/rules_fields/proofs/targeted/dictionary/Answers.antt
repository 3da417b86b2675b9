use Rattle.std.proofs.Common.{sym, ap, ◌∙◌, ◌-◌, List}
use Rattle.std.specs.Prelude.{Some, None}
use Rattle.rules_fields.specs.Meaning.{Meaning, meanings}
use Rattle.rules_fields.specs.Targeted.{members_within}
use Rattle.rules_fields.proofs.Members.{goes_on}
use Rattle.rules_fields.proofs.targeted.dictionary.Goals as goal

pub returns-in-None : goal.returns-in-None
returns-in-None c =
    sym (goes_on c.loop-n.n c.loop-n.is_parameter (meanings c.loop-n.found.items) c.loop-n.left.now (c.in-Some.key, c.in-Some.item, c.in-Some.rest) c.pair_at.result c.next_at.result None c.loop-n-test.true c.pair_at.ensures c.in-Some.is c.next_at.ensures c.in-None.is)
    ∙ c.loop-n.invariant

pub returns-in-Some-None : goal.returns-in-Some-None
returns-in-Some-None c =
    ap Some c.in_ok-place_pair.ensures
    ∙ sym (goes_on c.loop-n.n c.loop-n.is_parameter (meanings c.loop-n.found.items) c.loop-n.left.now (c.in-Some.key, c.in-Some.item, c.in-Some.rest) c.pair_at.result c.next_at.result (Some None) c.loop-n-test.true c.pair_at.ensures c.in-Some.is c.next_at.ensures (c.in-Some-None.is ∙ ap Some c.in-Some-None.field-0-is))
    ∙ c.loop-n.invariant

pub loop-n-preserved : goal.loop-n-preserved
loop-n-preserved c =
    ap (λ (ms : List Meaning). members_within (c.loop-n.n - 1) c.in-Some-Some.follows ms c.in-Some-Some.rest.now) c.in_ok-place_pair.ensures
    ∙ sym (goes_on c.loop-n.n c.loop-n.is_parameter (meanings c.loop-n.found.items) c.loop-n.left.now (c.in-Some.key, c.in-Some.item, c.in-Some.rest) c.pair_at.result c.next_at.result (Some (Some (c.in-Some-Some.follows, c.in-Some-Some.rest))) c.loop-n-test.true c.pair_at.ensures c.in-Some.is c.next_at.ensures (c.in-Some-Some.is ∙ ap Some c.in-Some-Some.field-0-is))
    ∙ c.loop-n.invariant
