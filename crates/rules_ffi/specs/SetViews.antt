-- What a contract sees of a set.
use Rattle.std.specs.Prelude.{map}
use Rattle.rules_ffi.specs.declared.sets.VarySet.{VarySet}
use Rattle.rules_ffi.specs.Sets.{Set}

abbrev pub set_of : VarySet → Set
set_of s = record { token = s.token.now; names = map (λ n. n.now) s.names.items }
