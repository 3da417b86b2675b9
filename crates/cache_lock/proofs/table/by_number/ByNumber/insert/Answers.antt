use Rattle.std.proofs.lemmas.Cmp.{nat_cmp_total}
use Rattle.std.specs.FinMap.{nat_cmp-IsAntisymmetric}
use Rattle.cache_lock.proofs.Tables.{insert-table, numbers_tie}
use Rattle.cache_lock.proofs.table.by_number.ByNumber.insert.Goals as goal

pub returns-clause-ok : goal.returns-clause-ok
returns-clause-ok g c =
    rw (← c.self.view_is) (insert-table nat_cmp_total nat_cmp-IsAntisymmetric numbers_tie c.self.inside.table.entries c.insert.new.self.entries c.args.number c.args.value c.in_ok-insert.ensures.updates.0)
