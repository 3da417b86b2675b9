use Rattle.std.proofs.Common.{◌≡◌, ◌+◌, length}
use Rattle.std.specs.Prelude.{flat_map}
use Rattle.http_header.specs.HeaderMap.{pairs}
use Rattle.head_metas.specs.Head.{line_of}
use Rattle.head_metas.proofs.head.each_len.Given as goal

abbrev pub invariant-each : goal.invariant-each
invariant-each l = l.len + length (flat_map line_of l.name-iterator) ≡ l.start + length (flat_map line_of (pairs l.headers))
