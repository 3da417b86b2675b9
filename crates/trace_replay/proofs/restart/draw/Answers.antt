use Rattle.std.proofs.Common.{◌+◌, ◌-◌, arith}
use Rattle.trace_replay.specs.Words.{pcg_words}
use Rattle.trace_replay.proofs.DrawLaws.{draw_more}
use Rattle.trace_replay.proofs.restart.draw.Goals as goal

pub loop-preserved : goal.loop-preserved
loop-preserved c =
    draw_more c.args.count (pcg_words c.args.rng.now) c.loop.words.items c.push.new.self.items (c.args.count - c.loop.counter) (c.args.count - (c.loop.counter + 1))
    (pcg_words c.loop.rng) (pcg_words c.next_u32.new.self) c.next_u32.result (omega (arith, c.loop-test.true)) c.next_u32.ensures c.in_ok-push.ensures.items c.loop.invariant
