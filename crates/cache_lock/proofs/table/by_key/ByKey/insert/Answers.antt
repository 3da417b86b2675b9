use Rattle.std.specs.Cmp.Lexicographic.{nat_list_cmp_total}
use Rattle.cache_lock.proofs.Tables.{insert-table, keys_same, keys_tie}
use Rattle.cache_lock.proofs.table.by_key.ByKey.insert.Goals as goal

pub returns-clause-ok : goal.returns-clause-ok
returns-clause-ok g c =
    rw (← c.self.view_is) (insert-table nat_list_cmp_total keys_same keys_tie c.self.inside.table.entries c.insert.new.self.entries c.args.key c.args.number c.in_ok-insert.ensures.updates.0)
