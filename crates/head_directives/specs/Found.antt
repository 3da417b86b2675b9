-- What a clause sees of a directive that was found, and of those that are still to be found.
use Rattle.std.specs.Prelude.{List, option_map}
use Rattle.head_directives.specs.Written.{Written}
use Rattle.head_directives.specs.Walk.{walk}
use Rattle.head_directives.specs.declared.line.RawDirective.{RawDirective}
use Rattle.head_directives.specs.declared.line.Scan.{Scan}

abbrev pub written : RawDirective → Written
written d = (d.name.now, option_map (λ v. v.now) d.value)

abbrev pub directives_left : Scan → List Written
directives_left s = walk 0 s.ready s.rest.now
