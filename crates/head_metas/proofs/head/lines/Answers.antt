use Rattle.std.proofs.Common.{◌≡◌, ℕ, ◌-◌, ◌≤◌, ◌<◌, ◌^◌, List, [], arith, refl}
use Rattle.std.proofs.lemmas.Result.{err_from_is_err_and}
use Rattle.http_header.specs.FieldValue.{FieldValue}
use Rattle.http_header.specs.HeaderMap.{value_count}
use Rattle.head_metas.specs.HeadReading.{lines_at}
use Rattle.head_metas.proofs.HeadLines.{line_added, value_count-append}
use Rattle.head_metas.proofs.HeadLoop.{goes_on, ends, ends_full, is_done}
use Rattle.head_metas.proofs.head.lines.Goals as goal

pub each-init : goal.each-init
each-init c = record {
  same = rw c.new-all.ensures (let all : c.args.count - 0 ≡ c.args.count = omega arith in rw all refl);
  names = rw c.new-all.ensures (omega arith);
  values = rw c.new-all.ensures (omega arith);
}

pub returns-in_err-name : goal.returns-in_err-name
returns-in_err-name c =
    let p = err_from_is_err_and c.from_residual.result c.from_residual.ensures.1 in
    rw (p.1, p.2) (
    ends c.in_err-name.field-0.0 c.args.count c.each._i c.each.all c.each.bytes.rest.now (lines_at c.args.count [] c.args.bytes.now.rest.now)
    c.each-test.true c.in_err-name.ensures c.each.invariant.same)

pub add-requires-clause-room : goal.add-requires-clause-room
add-requires-clause-room c =
    let few : value_count c.each.all ≤ c.each._i = c.each.invariant.values in
    let more : c.each._i < c.args.count = c.each-test.true in
    let fits : c.args.count < 2 ^ 64 = c.ranges.count.fits in
    omega (arith, few, more, fits)

pub returns-in_err-add : goal.returns-in_err-add
returns-in_err-add c =
    let p = err_from_is_err_and c.from_residual-in_err-add.result c.from_residual-in_err-add.ensures.1 in
    rw (p.1, p.2) (
    ends_full c.in_err-add.field-0.0 c.args.count c.each._i c.each.all c.each.bytes.rest.now c.line.new.bytes.rest.now (c.in_ok-name.name, c.in_ok-name.value)
    (lines_at c.args.count [] c.args.bytes.now.rest.now) c.each-test.true c.in_ok-name.ensures c.in_err-add.ensures.err c.each.invariant.same)

pub each-preserved : goal.each-preserved
each-preserved c =
    let line : List ℕ × FieldValue = (c.in_ok-name.name, c.in_ok-name.value) in
    let added = line_added c.each.all line c.add.new.all c.in_ok-add.ensures.ok in
    let few : value_count c.each.all ≤ c.each._i = c.each.invariant.values in
    record {
      same = goes_on c.args.count c.each._i c.each.all c.add.new.all c.each.bytes.rest.now c.line.new.bytes.rest.now line
          (lines_at c.args.count [] c.args.bytes.now.rest.now) c.each-test.true c.in_ok-name.ensures c.in_ok-add.ensures.ok c.each.invariant.same;
      names = added.0;
      values = rw (added.1, value_count-append c.each.all c.in_ok-name.name c.in_ok-name.value) (omega (arith, few));
    }

pub returns : goal.returns
returns c =
    is_done c.args.count c.each._i c.each.all c.each.bytes.rest.now (lines_at c.args.count [] c.args.bytes.now.rest.now) c.each-test.false c.each.invariant.same
