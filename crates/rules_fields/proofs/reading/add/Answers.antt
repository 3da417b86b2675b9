use Rattle.rules_fields.proofs.Cutting.{add_some, add_none, smaller}
use Rattle.rules_fields.proofs.reading.add.Goals as goal

pub loop-left-preserved-in-Continue-branch-2 : goal.loop-left-preserved-in-Continue-branch-2
loop-left-preserved-in-Continue-branch-2 c =
    add_some c.loop-left.found.items _ c.in-Some-directive.directive c.in_ok-directive.directive c.loop-left.left c.in_ok-directive.rest c.in-Some.text _ c.in-Some.is c.in-Some-directive.is c.in_ok-push.ensures.items c.in_ok-directive.ensures c.loop-left.invariant

pub loop-left-preserved : goal.loop-left-preserved
loop-left-preserved c =
    add_none c.loop-left.found.items c.in_ok-directive.directive c.loop-left.left c.in_ok-directive.rest c.in-Some.text _ c.in-Some.is c.in_default-directive.is c.in_ok-directive.ensures c.loop-left.invariant

pub loop-left-smaller-in-Continue-branch-2 : goal.loop-left-smaller-in-Continue-branch-2
loop-left-smaller-in-Continue-branch-2 c =
    smaller c.in_ok-directive.directive c.loop-left.left c.in_ok-directive.rest c.in-Some.text c.in-Some.is c.in_ok-directive.ensures

pub loop-left-smaller : goal.loop-left-smaller
loop-left-smaller c =
    smaller c.in_ok-directive.directive c.loop-left.left c.in_ok-directive.rest c.in-Some.text c.in-Some.is c.in_ok-directive.ensures
