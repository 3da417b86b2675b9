-- Whether directives allow storing.
use Rattle.std.specs.Prelude.{List, if◌then◌else◌}
use Rattle.head_directives.specs.Written.{Written}
use Rattle.head_directives.specs.Lifetime.{forbids_storing, allows_storing}
use Rattle.head_directives.specs.declared.interpret.Cacheable.{Cacheable}
use Rattle.head_directives.specs.declared.interpret.Cacheable.TheVariants.{Yes, No, Default}

abbrev pub cacheable_by : List Written → Cacheable
cacheable_by ds = if forbids_storing ds then No else (if allows_storing ds then Yes else Default)
