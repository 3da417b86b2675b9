use Rattle.std.proofs.Common.{arith}
use Rattle.std.proofs.lemmas.List.{length_push}
use Rattle.tier_recorded.proofs.TextLaws.{texts-more}
use Rattle.tier_recorded.proofs.snapshot.texts_of.Goals as goal

pub loop-shard-preserved : goal.loop-shard-preserved
loop-shard-preserved g c = record {
  counted =
      let longer = length_push c.loop-shard.items.items c.in_ok-text_of.field-0 in
      rw c.push_reserved.ensures.items (omega (arith, longer, c.loop-shard.invariant.counted));
  room = rw c.push_reserved.ensures.capacity c.loop-shard.invariant.room;
  each =
      rw c.push_reserved.ensures.items
      (texts-more c.args.manager.now.shards c.loop-shard.items.items c.loop-shard.shard c.in_ok-text_of.field-0 c.loop-shard.invariant.counted c.loop-shard.invariant.each c.in_ok-text_of.ensures.text);
}

pub returns-clause-texts : goal.returns-clause-texts
returns-clause-texts g c = record {
  count = omega (arith, c.loop-shard.invariant.counted, c.loop-shard.auto.shard-end, c.loop-shard-test.false, c.shards-count.ensures.count, c.shards-count.ensures.sharded.count);
  each = λ i within. c.loop-shard.invariant.each i (omega (arith, within, c.loop-shard-test.false, c.shards-count.ensures.count, c.shards-count.ensures.sharded.count));
}
