use Rattle.std.proofs.Common.{rules, ◌≡◌, ◌≢◌, ◌-◌, ◌+◌, ◌∙◌, suc, length, arith, sym}
use Rattle.std.specs.Prelude.{slice_index}
use Rattle.lru_async.proofs.Picks.{stops_here, passes_on}
use Rattle.lru_async.proofs.pick.first_nonempty.Goals as goal

pub returns-then-lens-i-ne0 : goal.returns-then-lens-i-ne0
returns-then-lens-i-ne0 c shards e =
    let lens = c.args.lens.now in
    let more : length c.args.lens.now - c.circle.counter ≡ suc (length c.args.lens.now - (c.circle.counter + 1)) = omega arith in
    let some : slice_index c.args.lens.now c.circle.i ≢ 0 = search rules in
    sym (stops_here lens (length lens) (length lens - (c.circle.counter + 1)) c.circle.i (length lens - c.circle.counter) more some shards e) ∙ c.circle.invariant.same shards e

pub circle-preserved : goal.circle-preserved
circle-preserved c =
    let lens = c.args.lens.now in
    let more : length c.args.lens.now - c.circle.counter ≡ suc (length c.args.lens.now - (c.circle.counter + 1)) = omega arith in
    let none : slice_index c.args.lens.now c.circle.i ≡ 0 = search rules in
    record {
      within = c.next_of-i.ensures.within;
      same = λ shards e.
          rw c.next_of-i.ensures.value (passes_on lens (length lens) (length lens - (c.circle.counter + 1)) c.circle.i (length lens - c.circle.counter) more none shards e)
          ∙ c.circle.invariant.same shards e;
    }
