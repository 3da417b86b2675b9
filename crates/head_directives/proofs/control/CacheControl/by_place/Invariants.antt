use Rattle.std.proofs.Common.{◌≡◌}
use Rattle.head_directives.specs.Names.{name_of}
use Rattle.head_directives.specs.Keeps.{value_named}
use Rattle.head_directives.specs.Entries.{entries_of}
use Rattle.head_directives.specs.Control.{directives_of}
use Rattle.head_directives.proofs.control.CacheControl.by_place.Given as goal

abbrev pub invariant-loop-name : goal.invariant-loop-name
invariant-loop-name l = value_named (name_of l.key) (entries_of l.name-iterator) ≡ value_named (name_of l.key) (directives_of l.self)
