-- What was passed, put in front.
use Rattle.std.proofs.Common.{List, ◌++◌}
use Rattle.std.specs.Prelude.{Option, option_map}

abbrev pub before : {A : Type 0} → List A → Option (List A) → Option (List A)
before front rest = option_map (λ xs. front ++ xs) rest
