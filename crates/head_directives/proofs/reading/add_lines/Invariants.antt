use Rattle.std.proofs.Common.{◌≡◌, map}
use Rattle.head_directives.specs.Entries.{entries_of, HasOwnKeys}
use Rattle.head_directives.specs.Keeps.{keep_lines}
use Rattle.head_directives.proofs.reading.add_lines.Given as goal

abbrev pub invariant-loop-line : goal.invariant-loop-line
invariant-loop-line l = record {
  read : keep_lines (entries_of l.all.entries) (map (λ line. line.bytes) l.line-iterator) ≡ keep_lines (entries_of l.fn.all.entries) (map (λ line. line.bytes) l.lines);
  own : HasOwnKeys l.fn.all.entries → HasOwnKeys l.all.entries;
}
