use Rattle.std.proofs.Common.{◌≡◌, ◌++◌, ◌<◌, ◌^◌, length, All}
use Rattle.std.specs.Prelude.{flat_map}
use Rattle.http_header.specs.HeaderMap.{pairs}
use Rattle.head_metas.specs.Head.{line_of}
use Rattle.head_metas.proofs.head.put_each.Given as goal

abbrev pub invariant-each : goal.invariant-each
invariant-each l = record {
  same : l.out.items ++ flat_map line_of l.name-iterator ≡ l.fn.out.items ++ flat_map line_of (pairs l.headers);
  counted : All (λ p. length p.1.bytes < 2 ^ 32) l.name-iterator → All (λ p. length p.1.bytes < 2 ^ 32) (pairs l.headers);
}
