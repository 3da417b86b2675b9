use Rattle.std.proofs.Common.{rules, ◌≡◌}
use Rattle.lru_actors.proofs.Rows.{grown_by}
use Rattle.lru_actors.proofs.shard_actor.increment_weight.Goals as goal

pub returns-in-Ok-clause-after : goal.returns-in-Ok-clause-after
returns-in-Ok-clause-after g c =
    grown_by (λ l. record c.args.unit.now { rows = l }) c.args.hash c.args.delta c.args.cap c.args.key c.args.unit.now.rows c.increment_weight.new.self c.in-Ok.field-0 c.in-Ok.ensures.raised
    c.in-Ok.ensures.new c.in-Ok.ensures.moved
    (λ n. let q = c.in-Ok.ensures.admitted n in let same : q.0 ≡ c.args.key = (let made = q.1 in search rules) in (q.0, same, q.2))
