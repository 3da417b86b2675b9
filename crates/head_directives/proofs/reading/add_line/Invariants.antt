use Rattle.std.proofs.Common.{◌≡◌}
use Rattle.head_directives.specs.Found.{directives_left}
use Rattle.head_directives.specs.Entries.{entries_of, HasOwnKeys}
use Rattle.head_directives.specs.Keeps.{keep_all, keep_line}
use Rattle.head_directives.proofs.reading.add_line.Given as goal

abbrev pub invariant-loop-found : goal.invariant-loop-found
invariant-loop-found l = record {
  read : keep_all (entries_of l.all.entries) (directives_left l.found-iterator) ≡ keep_line (entries_of l.fn.all.entries) l.line;
  own : HasOwnKeys l.fn.all.entries → HasOwnKeys l.all.entries;
}
