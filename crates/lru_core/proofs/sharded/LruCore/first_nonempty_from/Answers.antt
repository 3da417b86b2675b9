use Rattle.std.proofs.Common.{◌≡◌, ◌-◌, ◌+◌, ◌∙◌, suc, arith, sym}
use Rattle.lru_core.proofs.Circles.{first_nonempty_more}
use Rattle.lru_core.proofs.sharded.LruCore.first_nonempty_from.Goals as goal

pub circle-preserved : goal.circle-preserved
circle-preserved g c =
    let v = c.circle.invariant in
    let e : g.row.N - c.circle.counter ≡ suc (g.row.N - (c.circle.counter + 1)) = omega arith in
    record {
      within = c.next_of-i.ensures.within;
      same = rw c.next_of-i.ensures.value (first_nonempty_more _ _ _ _ _ e (sym c.shard_len.ensures ∙ c.if-shard_len-ne0.false)) ∙ v.same;
    }
