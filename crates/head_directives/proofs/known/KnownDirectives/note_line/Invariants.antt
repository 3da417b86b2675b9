use Rattle.std.proofs.Common.{◌≡◌, List}
use Rattle.head_directives.specs.Written.{Written}
use Rattle.head_directives.specs.Found.{directives_left}
use Rattle.head_directives.specs.Keeps.{keep_all, keep_line}
use Rattle.head_directives.specs.Known.{Knows}
use Rattle.head_directives.proofs.known.KnownDirectives.note_line.Given as goal

abbrev pub invariant-loop-found : goal.invariant-loop-found
invariant-loop-found l = (ds : List Written) → Knows l.fn.self ds → (seen : List Written) × Knows l.self seen × (keep_all seen (directives_left l.found-iterator) ≡ keep_line ds l.line)
