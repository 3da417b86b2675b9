use Rattle.std.proofs.Common.{◌≡◌, ◌≤◌, true, length, take, map}
use Rattle.std.specs.List.{list_all}
use Rattle.http_header.specs.HeaderMap.{value_count}
use Rattle.head_lines.specs.Lines.{map_of}
use Rattle.head_parse.specs.Response.{has_short_name}
use Rattle.head_parse.specs.Heads.{unfolded_line}
use Rattle.head_parse.proofs.lenient.collect_unfolded.Given as goal

abbrev pub invariant-loop-line : goal.invariant-loop-line
invariant-loop-line l = record {
  value : l.all ≡ map_of (map (unfolded_line l.bytes) (take l.line-index l.lines));
  short : list_all has_short_name (map (unfolded_line l.bytes) (take l.line-index l.lines)) ≡ true;
  names : length l.all ≤ l.line-index;
  values : value_count l.all ≤ l.line-index;
}
