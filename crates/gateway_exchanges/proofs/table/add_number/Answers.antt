use Rattle.std.proofs.Common.{◌∙◌, sym}
use Rattle.gateway_exchanges.proofs.TableLaws.{added-there, added-inserted, rising-order}
use Rattle.std.specs.Prelude.{Err}
use Rattle.std.specs.FinMap.{nat_cmp-IsAntisymmetric}
use Rattle.std.proofs.lemmas.List.Sorted.{searched}
use Rattle.gateway_exchanges.proofs.table.add_number.Goals as goal

pub returns-in-Ok-clause-ok : goal.returns-in-Ok-clause-ok
returns-in-Ok-clause-ok c =
    sym (added-there c.args.x c.args.numbers.now.items c.in-Ok.field-0 c.requires (rw c.deref.ensures.value at c.in-Ok.ensures.bound)
    (nat_cmp-IsAntisymmetric _ _ (rw c.deref.ensures.value at c.in-Ok.ensures.ok 0)))

pub returns-in_ok-insert-in-Err-clause-ok : goal.returns-in_ok-insert-in-Err-clause-ok
returns-in_ok-insert-in-Err-clause-ok c =
    let place = searched c.args.numbers.now.items c.args.x (Err c.in-Err.place) (rw c.deref.ensures.value at c.in-Err.ensures.position) (rising-order c.args.numbers.now.items c.requires) in
    c.in_ok-insert-in-Err.ensures.items ∙ sym (added-inserted c.args.x c.args.numbers.now.items c.in-Err.place place.0 place.1 place.2)
