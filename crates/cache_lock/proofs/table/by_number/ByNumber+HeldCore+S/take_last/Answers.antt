use Rattle.std.proofs.Common.{◌∙◌, ap, sym}
use Rattle.std.proofs.lemmas.Cmp.{nat_cmp_total}
use Rattle.std.specs.FinMap.{from_entries, nat_cmp-IsAntisymmetric}
use Rattle.cache_lock.specs.Released.{without_last}
use Rattle.cache_lock.proofs.Tables.{get-table, numbers_tie}
use Rattle.cache_lock.proofs.Taken.{core-taken}
use Rattle.cache_lock.proofs.table.by_number.ByNumber+HeldCore+S.take_last.Goals as goal

pub returns-clause-was : goal.returns-clause-was
returns-clause-was g c = rw (← c.self.view_is) (c.take_last_of.ensures.value ∙ sym (get-table nat_cmp_total nat_cmp-IsAntisymmetric numbers_tie c.self.inside.table.entries c.args.number))

pub returns-clause-left : goal.returns-clause-left
returns-clause-left g c =
    let was = c.take_last_of.ensures.value ∙ sym (get-table nat_cmp_total nat_cmp-IsAntisymmetric numbers_tie c.self.inside.table.entries c.args.number) in
    rw (← c.self.view_is) (core-taken c.self.inside.table.entries c.take_last_of.new.table.entries c.args.number c.take_last_of.result c.take_last_of.ensures.after
    ∙ ap (λ o. without_last c.args.number o (from_entries c.self.inside.table.entries)) was)
