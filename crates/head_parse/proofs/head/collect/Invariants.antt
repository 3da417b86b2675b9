use Rattle.std.proofs.Common.{◌≡◌, ◌≤◌, true, length, take, drop, map}
use Rattle.std.specs.List.{list_all}
use Rattle.http_header.specs.HeaderMap.{value_count}
use Rattle.httparse.specs.Spans.{header_bytes}
use Rattle.head_lines.specs.Lines.{map_of}
use Rattle.head_parse.specs.Response.{has_short_name}
use Rattle.head_parse.specs.Heads.{values_at}
use Rattle.head_parse.proofs.head.collect.Given as goal

abbrev pub invariant-loop-line : goal.invariant-loop-line
invariant-loop-line l = record {
  value : l.all ≡ map_of (map (header_bytes l.bytes) (take l.line-index l.lines));
  rest : l.values ≡ values_at l.bytes (drop l.line-index l.lines);
  short : list_all has_short_name (map (header_bytes l.bytes) (take l.line-index l.lines)) ≡ true;
  names : length l.all ≤ l.line-index;
  values : value_count l.all ≤ l.line-index;
}
