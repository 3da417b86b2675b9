use Rattle.std.proofs.lemmas.Cmp.{nat_cmp_total}
use Rattle.std.specs.FinMap.{nat_cmp-IsAntisymmetric}
use Rattle.cache_lock.proofs.Tables.{empty-table, numbers_tie}
use Rattle.cache_lock.proofs.table.by_number.ByNumber.is_empty.Goals as goal

pub returns : goal.returns
returns g c =
    let same = empty-table nat_cmp_total nat_cmp-IsAntisymmetric numbers_tie c.self.inside.table.entries in
    rw (← c.self.view_is) ((λ t. same.0 (c.is_empty.ensures.0 t)), (λ e. c.is_empty.ensures.1 (same.1 e)))
