-- What a policy of admission says.
use Rattle.std.specs.Prelude.{ℕ, ⊤}
use Rattle.cache_store.specs.declared.admission.Decision.{Decision}
use Rattle.cache_store.specs.declared.admission.Decision.TheVariants.{Defer, Ready}

abbrev pub observations : Decision → ℕ
observations (Defer n) = n
observations (Ready n) = n

abbrev pub IsDeferred : Decision → Type 0
IsDeferred (Defer n) = ⊤
IsDeferred (Ready n) = ⊥
