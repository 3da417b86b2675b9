use Rattle.std.proofs.Common.{◌∙◌}
use Rattle.curve_heights.proofs.BuiltLaws.{gaps-more}
use Rattle.curve_heights.proofs.renumber.gaps_of.Goals as goal

pub loop-at-preserved : goal.loop-at-preserved
loop-at-preserved c =
    rw (c.in_ok-push.ensures.items, c.gap_of-gap.ensures) (gaps-more c.loop-at.gaps.items c.args.owners.now c.args.cells.now c.loop-at.at c.requires c.loop-at-test.true ∙ c.loop-at.invariant)
