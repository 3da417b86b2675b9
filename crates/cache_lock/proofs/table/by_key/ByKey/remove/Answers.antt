use Rattle.std.specs.Cmp.Lexicographic.{nat_list_cmp_total}
use Rattle.cache_lock.proofs.Tables.{remove-table, keys_same, keys_tie}
use Rattle.cache_lock.proofs.table.by_key.ByKey.remove.Goals as goal

pub returns : goal.returns
returns g c =
    rw (← c.self.view_is) (remove-table nat_list_cmp_total keys_same keys_tie c.self.inside.table.entries c.remove-old.new.self.entries c.args.key.now c.remove-old.ensures.updates.0)
