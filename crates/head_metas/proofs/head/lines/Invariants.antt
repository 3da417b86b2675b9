use Rattle.std.proofs.Common.{◌≡◌, ◌-◌, ◌≤◌, [], length}
use Rattle.http_header.specs.HeaderMap.{value_count}
use Rattle.head_metas.specs.Head.{most_names}
use Rattle.head_metas.specs.HeadReading.{lines_at}
use Rattle.head_metas.proofs.head.lines.Given as goal

abbrev pub invariant-each : goal.invariant-each
invariant-each l = record {
  same : lines_at (l.count - l._i) l.all l.bytes.rest.now ≡ lines_at l.count [] l.fn.bytes.rest.now;
  names : length l.all ≤ most_names;
  values : value_count l.all ≤ l._i;
}
