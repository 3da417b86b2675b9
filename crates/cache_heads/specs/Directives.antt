-- The directives of a response, where it has any.
use Rattle.std.specs.Prelude.{List, Option, option_map}
use Rattle.std.specs.Borrow.{Bor}
use Rattle.head_directives.specs.Written.{Written}
use Rattle.head_directives.specs.Control.{directives_of}
use Rattle.head_directives.specs.declared.control.CacheControl.{CacheControl}

abbrev pub directives_in : Option (Bor CacheControl) → Option (List Written)
directives_in control = option_map (λ c. directives_of c.now) control
