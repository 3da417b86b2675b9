use Rattle.std.proofs.Common.{◌≡◌, ◌<◌, ◌||◌, ap, sym, ◌∙◌, length, arith, get_or}
use Rattle.std.specs.Prelude.{unwrap_or}
use Rattle.std.proofs.lemmas.List.Folds.{list_any_at, list_any_more}
use Rattle.std.proofs.lemmas.Option.{unwrap_or-slice_get}
use Rattle.gateway_exchanges.specs.Tables.{numbers_at}
use Rattle.gateway_responses.specs.Bodies.{is_reader}
use Rattle.gateway_responses.proofs.growth.has_reader_at.Goals as goal

pub returns-then-is_reader : goal.returns-then-is_reader
returns-then-is_reader c =
    let xs = numbers_at c.args.key.now c.args.g.now.table in
    let within : c.loop-place.place < length xs = omega (arith, c.count_at-place-end.ensures) in
    let is : c.unwrap_or-y.result ≡ get_or xs c.loop-place.place 0 =
    c.unwrap_or-y.ensures ∙ ap (λ o. unwrap_or o 0) c.number_at.ensures ∙ unwrap_or-slice_get xs c.loop-place.place 0 in
    sym (list_any_at (is_reader c.args.x c.args.g.now.table) xs c.loop-place.place 0 within
    (ap (is_reader c.args.x c.args.g.now.table) (sym is) ∙ sym c.is_reader.ensures ∙ c.if-is_reader.true))

pub loop-place-preserved : goal.loop-place-preserved
loop-place-preserved c =
    let xs = numbers_at c.args.key.now c.args.g.now.table in
    let within : c.loop-place.place < length xs = omega (arith, c.count_at-place-end.ensures) in
    let is : c.unwrap_or-y.result ≡ get_or xs c.loop-place.place 0 =
    c.unwrap_or-y.ensures ∙ ap (λ o. unwrap_or o 0) c.number_at.ensures ∙ unwrap_or-slice_get xs c.loop-place.place 0 in
    list_any_more (is_reader c.args.x c.args.g.now.table) xs c.loop-place.place 0 within
    ∙ ap (λ b. b || is_reader c.args.x c.args.g.now.table (get_or xs c.loop-place.place 0)) c.loop-place.invariant
    ∙ ap (is_reader c.args.x c.args.g.now.table) (sym is) ∙ sym c.is_reader.ensures ∙ c.if-is_reader.false
