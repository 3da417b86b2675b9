use Rattle.std.proofs.Common.{◌≡◌, List, map, codes}
use Rattle.head_directives.specs.Written.{Written}
use Rattle.head_directives.specs.Control.{lines_under}
use Rattle.head_directives.specs.Keeps.{keep_lines, kept}
use Rattle.head_directives.specs.Known.{Knows}
use Rattle.head_directives.proofs.known.KnownDirectives.from_resp_headers.Given as goal

abbrev pub invariant-loop-line : goal.invariant-loop-line
invariant-loop-line l = (seen : List Written) × Knows l.known seen × (keep_lines seen (map (λ line. line.bytes) l.line-iterator) ≡ kept (lines_under (codes "cache-control") l.resp_header.headers))
