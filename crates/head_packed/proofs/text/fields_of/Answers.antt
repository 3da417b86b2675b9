use Rattle.std.proofs.Common.{◌≡◌, length, sym}
use Rattle.std.proofs.lemmas.Bool.{eq-eqb, eqb-true}
use Rattle.head_packed.proofs.TextLaws.{line-off, lines-done}
use Rattle.head_packed.proofs.text.fields_of.Goals as goal

pub each-preserved : goal.each-preserved
each-preserved c = λ fields all is.
    let so = c.each.invariant fields all is in
    let some : length c.each.rest.now ≡ 0 → ⊥ = λ none. let e = c.each-test.ensures in let z = eq-eqb _ _ none in cc in
    line-off c.each.rest.now c.each.headers _ _ c.in_ok-name.name c.in_ok-name.value c.in_ok-name.next so.0 so.1 so.2 so.3 some c.in_ok-name.ensures.read c.in-Ok.ensures.ok

pub returns : goal.returns
returns c = λ fields all is.
    let so = c.each.invariant fields all is in
    lines-done c.each.rest.now c.each.headers _ so.0 so.2 so.3 (eqb-true _ _ (sym c.each-test.ensures))
