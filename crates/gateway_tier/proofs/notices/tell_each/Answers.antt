use Rattle.std.proofs.Common.{rules, ◌∷◌, []}
use Rattle.std.specs.Prelude.{None}
use Rattle.std.proofs.lemmas.List.{take_more}
use Rattle.gateway_tier.specs.Notices.{IsToldAt}
use Rattle.gateway_tier.proofs.Changed.{changed_next}
use Rattle.gateway_tier.proofs.Told.{told_at_twice}
use Rattle.gateway_tier.proofs.notices.tell_each.Goals as goal

pub loop-y-preserved : goal.loop-y-preserved
loop-y-preserved c = record {
  told = rw (take_more c.args.numbers.now c.loop-y.y-index 0 c.loop-y-test.true)
      (changed_next (IsToldAt None c.args.notice.now) (told_at_twice None c.args.notice.now) _ (_ ∷ []) _ c.loop-y.g.table _ c.loop-y.invariant.told c.tell_at.ensures.told);
  rest = search rules;
}
