use Rattle.std.proofs.lemmas.Cmp.{nat_cmp_total}
use Rattle.std.specs.FinMap.{nat_cmp-IsAntisymmetric}
use Rattle.cache_lock.proofs.Tables.{remove-table, numbers_tie}
use Rattle.cache_lock.proofs.table.by_number.ByNumber.remove.Goals as goal

pub returns : goal.returns
returns g c =
    rw (← c.self.view_is) (remove-table nat_cmp_total nat_cmp-IsAntisymmetric numbers_tie c.self.inside.table.entries c.remove-old.new.self.entries c.args.number c.remove-old.ensures.updates.0)
