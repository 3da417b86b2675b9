use Rattle.std.proofs.Common.{rules, ◌≡◌}
use Rattle.lru_core.specs.Cores.{shard_of, with_shard}
use Rattle.lru_actors.proofs.Rows.{grown_in}
use Rattle.lru_actors.proofs.world.edits.increment_weight.Goals as goal

pub returns-in-Ok-clause-after : goal.returns-in-Ok-clause-after
returns-in-Ok-clause-after g c =
    grown_in (λ l. with_shard g.row.N c.args.core.now c.args.hash l) c.args.hash c.args.delta c.args.cap c.args.key (shard_of g.row.N c.args.core.now c.args.hash) c.increment_weight.new.self
    c.in-Ok.field-0 c.in-Ok.ensures.raised c.in-Ok.ensures.new c.in-Ok.ensures.moved
    (λ n. let q = c.in-Ok.ensures.admitted n in let same : q.0 ≡ c.args.key = (let made = q.1 in search rules) in (q.0, same, q.2))
