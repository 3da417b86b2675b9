use Rattle.std.proofs.Common.{◌≡◌}
use Rattle.head_directives.specs.Keeps.{has}
use Rattle.head_directives.specs.Entries.{entries_of}
use Rattle.head_directives.specs.Control.{directives_of}
use Rattle.head_directives.proofs.control.CacheControl.has_unknown.Given as goal

abbrev pub invariant-loop-name : goal.invariant-loop-name
invariant-loop-name l = has l.key (entries_of l.name-iterator) ≡ has l.key (directives_of l.self)
