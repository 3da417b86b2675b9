use Rattle.std.proofs.Common.{◌∙◌, sym}
use Rattle.http_header.specs.Token.{lowercase}
use Rattle.head_parse.specs.Heads.{unfolded_line}
use Rattle.head_parse.proofs.HeadLaws.{names-more, values-more, map_of-more, short-more}
use Rattle.head_parse.proofs.lenient.collect_unfolded.Goals as goal

pub loop-line-preserved : goal.loop-line-preserved
loop-line-preserved c = record {
  value =
      c.in_ok-add.ensures.ok
      ∙ rw (c.loop-line.invariant.value, c.of-in-loop-line.ensures, c.in-Ok.ensures.ok, c.in_ok-line_value.ensures, c.of.ensures) (sym (map_of-more (unfolded_line c.args.bytes.now) c.args.lines.now c.loop-line.line-index _ c.loop-line-test.true));
  short =
      short-more (unfolded_line c.args.bytes.now) c.args.lines.now c.loop-line.line-index _ c.loop-line-test.true c.loop-line.invariant.short (rw c.of-in-loop-line.ensures at c.in_ok-add.ensures.short);
  names = names-more _ _ _ _ _ c.in_ok-add.ensures.ok c.loop-line.invariant.names;
  values = values-more c.loop-line.all c.add.new.all (lowercase c.of-in-loop-line.result.now) c.in-Ok.value c.loop-line.line-index c.in_ok-add.ensures.ok c.loop-line.invariant.values;
}
