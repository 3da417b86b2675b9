use Rattle.std.proofs.Common.{ap, ◌∙◌}
use Rattle.lru_core.specs.Cores.{with_shard}
use Rattle.cache_evict.proofs.RowLaws.{promoted_after}
use Rattle.cache_evict.proofs.tracker.rows.put_weightless.Goals as goal

pub returns-clause-ok : goal.returns-clause-ok
returns-clause-ok g c =
    let given = c.in_ok-weigh_nothing.ensures.ok in
    promoted_after g.row.N c.args.number c.args.core.now c.weigh_nothing.new.core c.promote-found.new.self given.0 c.requires.within given.1 c.promote-found.ensures.after
    ∙ ap (with_shard g.row.N c.args.core.now c.args.number) given.2
