use Rattle.std.proofs.Common.{◌≡◌, Err, rules, sym, ◌∙◌}
use Rattle.head_parse.specs.declared.head.HeadFault.TheVariants.{Bounds}
use Rattle.http_header.specs.Token.{lowercase}
use Rattle.httparse.specs.Spans.{header_bytes}
use Rattle.head_parse.proofs.HeadLaws.{names-more, values-more, map_of-more, line_at, value_at, short-more, value-here, values-after}
use Rattle.head_parse.proofs.head.collect.Goals as goal

pub from_known_valid-value-requires : goal.from_known_valid-value-requires
from_known_valid-value-requires c =
    let value = value-here c.args.bytes.now c.args.lines.now c.loop-line.line-index _ c.in_ok-shared.shared c.loop-line-test.true c.requires.within (rw c.loop-line.invariant.rest at c.in_ok-shared.ensures.front) in
    rw value (value_at c.args.bytes.now c.args.lines.now c.loop-line.line-index _ c.requires.valid c.loop-line-test.true)

pub returns-in_err-add-clause-bounds : goal.returns-in_err-add-clause-bounds
returns-in_err-add-clause-bounds c e all =
    let was : c.add.result ≡ Err Bounds = search rules in
    c.add.ensures.bounds was (rw c.of.ensures (line_at c.args.bytes.now c.args.lines.now c.loop-line.line-index _ all c.loop-line-test.true).0)

pub loop-line-preserved : goal.loop-line-preserved
loop-line-preserved c =
    let value = value-here c.args.bytes.now c.args.lines.now c.loop-line.line-index _ c.in_ok-shared.shared c.loop-line-test.true c.requires.within (rw c.loop-line.invariant.rest at c.in_ok-shared.ensures.front) in record {
      value =
          c.in_ok-add.ensures.ok
          ∙ rw (c.loop-line.invariant.value, c.of.ensures, c.from_known_valid-value.ensures, value) (sym (map_of-more (header_bytes c.args.bytes.now) c.args.lines.now c.loop-line.line-index _ c.loop-line-test.true));
      rest = values-after c.args.bytes.now c.args.lines.now c.loop-line.line-index _ c.split_to.new.self c.loop-line-test.true c.requires.within (rw c.loop-line.invariant.rest at c.in_ok-shared.ensures.rest);
      short =
          short-more (header_bytes c.args.bytes.now) c.args.lines.now c.loop-line.line-index _ c.loop-line-test.true c.loop-line.invariant.short (rw c.of.ensures at c.in_ok-add.ensures.short);
      names = names-more _ _ _ _ _ c.in_ok-add.ensures.ok c.loop-line.invariant.names;
      values = values-more c.loop-line.all c.add.new.all (lowercase c.of.result.now) c.from_known_valid-value.result c.loop-line.line-index c.in_ok-add.ensures.ok c.loop-line.invariant.values;
    }
