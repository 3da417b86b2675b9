use Rattle.std.proofs.Common.{◌∙◌, ap, sym}
use Rattle.std.specs.Prelude.{option_map}
use Rattle.gateway_exchanges.specs.Places.{numbers_in, keys_in}
use Rattle.gateway_exchanges.proofs.Places.{get-key, set-key}
use Rattle.gateway_exchanges.proofs.TableLaws.{joined-others, not-joined, joined-first, there-rise, ok-map, err-map}
use Rattle.std.specs.FinMap.{from_entries}
use Rattle.std.specs.Ordering.{nat_cmp}
use Rattle.std.specs.Cmp.Lexicographic.{slice_cmp}
use Rattle.tier_model.proofs.Tables.{each_of}
use Rattle.gateway_exchanges.proofs.table.join_key.Goals as goal

pub add_number-requires : goal.add_number-requires
add_number-requires c =
    there-rise (keys_in c.args.by_key.now) c.args.key.now c.in-Some.numbers.now.items c.requires
    (get-key numbers_in c.args.by_key.now.entries c.args.key.now ∙ ap (option_map numbers_in) (sym c.in-Some.ensures.value))

pub returns-in-Some-clause-ok : goal.returns-in-Some-clause-ok
returns-in-Some-clause-ok c =
    let was = get-key numbers_in c.args.by_key.now.entries c.args.key.now ∙ ap (option_map numbers_in) (sym c.in-Some.ensures.value) in
    let put = ap (from_entries {R = slice_cmp nat_cmp}) (ap (each_of numbers_in) (c.get_mut.follows.holds c.add_number.new.numbers).0)
    ∙ set-key numbers_in c.args.by_key.now.entries c.args.key.now c.in-Some.numbers.now c.add_number.new.numbers (sym c.in-Some.ensures.value) in
    ok-map c.add_number.result c.add_number.ensures.ok (λ is. joined-others (keys_in c.args.by_key.now) _ c.args.key.now c.in-Some.numbers.now.items c.add_number.new.numbers.items c.args.x was put is)

pub returns-in-Some-clause-err : goal.returns-in-Some-clause-err
returns-in-Some-clause-err c =
    let was = get-key numbers_in c.args.by_key.now.entries c.args.key.now ∙ ap (option_map numbers_in) (sym c.in-Some.ensures.value) in
    let put = ap (from_entries {R = slice_cmp nat_cmp}) (ap (each_of numbers_in) (c.get_mut.follows.holds c.add_number.new.numbers).0)
    ∙ set-key numbers_in c.args.by_key.now.entries c.args.key.now c.in-Some.numbers.now c.add_number.new.numbers (sym c.in-Some.ensures.value) in
    err-map c.add_number.result c.add_number.ensures.err (λ is. not-joined (keys_in c.args.by_key.now) _ c.args.key.now c.in-Some.numbers.now.items c.add_number.new.numbers.items was put is)

pub returns-in-None-clause-ok : goal.returns-in-None-clause-ok
returns-in-None-clause-ok c =
    let was = get-key numbers_in c.args.by_key.now.entries c.args.key.now ∙ ap (option_map numbers_in) (sym c.in-None.ensures.value) in
    ok-map c.insert_first.result (rw c.get_mut.follows.holds-at-none at c.insert_first.ensures.ok) (λ put. joined-first (keys_in c.args.by_key.now) _ c.args.key.now c.args.x was put)
