use Rattle.std.proofs.Common.{rules}
use Rattle.head_parse.proofs.PositionLaws.{taken-more}
use Rattle.head_parse.proofs.begun.BegunHead.take.Goals as goal

pub loop-taken-preserved : goal.loop-taken-preserved
loop-taken-preserved c = record {
  within = search rules;
  bytes = taken-more c.args.self.now c.args.piece.now c.loop-taken.self c.push.new.self c.loop-taken.taken c.in-Ok-default-Begun.len c.loop-taken.invariant.bytes c.in-Ok-default-Begun.ensures.ok;
  none = λ none. c.in-Ok-default-Begun.ensures.none c.in-Ok-default-Begun.field-0-1-is (c.loop-taken.invariant.none none);
}

pub returns-in-Ok-default-Found-clause-ok : goal.returns-in-Ok-default-Found-clause-ok
returns-in-Ok-default-Found-clause-ok c =
    taken-more c.args.self.now c.args.piece.now c.loop-taken.self c.push.new.self c.loop-taken.taken c.in-Ok-default-Found.len c.loop-taken.invariant.bytes c.in-Ok-default-Found.ensures.ok

pub returns-in-Ok-default-Refused-clause-ok : goal.returns-in-Ok-default-Refused-clause-ok
returns-in-Ok-default-Refused-clause-ok c =
    taken-more c.args.self.now c.args.piece.now c.loop-taken.self c.push.new.self c.loop-taken.taken c.in-Ok-default-Refused.len c.loop-taken.invariant.bytes c.in-Ok-default-Refused.ensures.ok
