use Rattle.std.specs.Cmp.Lexicographic.{nat_list_cmp_total}
use Rattle.cache_lock.proofs.Tables.{empty-table, keys_same, keys_tie}
use Rattle.cache_lock.proofs.table.by_key.ByKey.is_empty.Goals as goal

pub returns : goal.returns
returns g c =
    let same = empty-table nat_list_cmp_total keys_same keys_tie c.self.inside.table.entries in
    rw (← c.self.view_is) ((λ t. same.0 (c.is_empty.ensures.0 t)), (λ e. c.is_empty.ensures.1 (same.1 e)))
