use Rattle.std.proofs.Common.{◌∙◌, ap, sym}
use Rattle.std.specs.Cmp.Lexicographic.{nat_list_cmp_total}
use Rattle.cache_lock.specs.State.{is_number}
use Rattle.cache_lock.proofs.Tables.{get-table, keys_same, keys_tie}
use Rattle.cache_lock.proofs.Taken.{key-taken}
use Rattle.cache_lock.proofs.table.by_key.ByKey.remove_if.Goals as goal

pub returns-clause-was : goal.returns-clause-was
returns-clause-was g c =
    rw (← c.self.view_is) (c.remove_if_of.ensures.was ∙ ap (λ o. is_number c.args.number o) (sym (get-table nat_list_cmp_total keys_same keys_tie c.self.inside.table.entries c.args.key.now)))

pub returns-clause-left : goal.returns-clause-left
returns-clause-left g c =
    rw (← c.self.view_is) (key-taken c.self.inside.table.entries c.remove_if_of.new.table.entries c.args.key.now c.args.number c.remove_if_of.result c.remove_if_of.ensures.was c.remove_if_of.ensures.after)
