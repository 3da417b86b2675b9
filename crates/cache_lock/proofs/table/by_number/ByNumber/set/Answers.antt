use Rattle.std.proofs.Common.{nat_eq}
use Rattle.std.proofs.lemmas.Cmp.{nat_cmp_total}
use Rattle.std.specs.Map.{lookup}
use Rattle.std.specs.FinMap.{nat_cmp-IsAntisymmetric}
use Rattle.cache_lock.proofs.Tables.{insert-table, get-table, numbers_tie, put_is_ok}
use Rattle.cache_lock.proofs.table.by_number.ByNumber.set.Goals as goal

pub unwrap-old-requires : goal.unwrap-old-requires
unwrap-old-requires g c =
    put_is_ok c.insert-inserted.result (lookup (nat_eq c.args.number) c.self.inside.table.entries)
    (rw (get-table nat_cmp_total nat_cmp-IsAntisymmetric numbers_tie c.self.inside.table.entries c.args.number) at rw (← c.self.view_is) at c.requires)
    c.insert-inserted.ensures.absent

pub returns : goal.returns
returns g c =
    rw (← c.self.view_is) (insert-table nat_cmp_total nat_cmp-IsAntisymmetric numbers_tie c.self.inside.table.entries c.insert-inserted.new.self.entries c.args.number c.args.value (rw c.unwrap-old.ensures at c.insert-inserted.ensures.updates).0)
