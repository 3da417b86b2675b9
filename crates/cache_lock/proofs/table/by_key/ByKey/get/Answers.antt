use Rattle.std.proofs.Common.{sym, ◌∙◌}
use Rattle.std.specs.Cmp.Lexicographic.{nat_list_cmp_total}
use Rattle.cache_lock.proofs.Tables.{get-table, keys_same, keys_tie}
use Rattle.cache_lock.proofs.table.by_key.ByKey.get.Goals as goal

pub returns : goal.returns
returns g c = rw (← c.self.view_is) (c.copied.ensures ∙ c.get.ensures.value ∙ sym (get-table nat_list_cmp_total keys_same keys_tie c.self.inside.table.entries c.args.key.now))
