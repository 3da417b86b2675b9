-- What a contract sees of parameters of Cache-Status.
use Rattle.std.specs.Prelude.{ℕ, List, map}
use Rattle.rules_ffi_results.specs.declared.how.Parameters.{Parameters}

abbrev pub texts_of : Parameters → List (List ℕ)
texts_of p = map (λ t. t.items) p.texts.items
