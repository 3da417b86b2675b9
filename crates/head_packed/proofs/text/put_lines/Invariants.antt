use Rattle.std.proofs.Common.{◌≡◌, ◌++◌, true}
use Rattle.std.specs.Prelude.{flat_map}
use Rattle.std.specs.List.{AllByRecursion}
use Rattle.http_header.specs.HeaderMap.{pairs}
use Rattle.head_packed.specs.HeadText.{text_line, IsPlainField}
use Rattle.head_packed.proofs.text.put_lines.Given as goal

abbrev pub invariant-each : goal.invariant-each
invariant-each l = record {
  plain : l.plain ≡ true → AllByRecursion IsPlainField l.name-iterator → AllByRecursion IsPlainField (pairs l.headers);
  text : l.out.items ++ flat_map text_line l.name-iterator ≡ l.fn.out.items ++ flat_map text_line (pairs l.headers);
}
