use Rattle.std.proofs.Common.{sym, ◌∙◌}
use Rattle.std.proofs.lemmas.Cmp.{nat_cmp_total}
use Rattle.std.specs.FinMap.{nat_cmp-IsAntisymmetric}
use Rattle.cache_lock.proofs.Tables.{get-table, numbers_tie}
use Rattle.cache_lock.proofs.table.by_number.ByNumber.get.Goals as goal

pub returns : goal.returns
returns g c = rw (← c.self.view_is) (c.get.ensures.value ∙ sym (get-table nat_cmp_total nat_cmp-IsAntisymmetric numbers_tie c.self.inside.table.entries c.args.number))
