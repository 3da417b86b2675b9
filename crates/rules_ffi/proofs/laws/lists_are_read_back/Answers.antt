use Rattle.std.proofs.Common.{◌∷◌, take, arith}
use Rattle.std.proofs.lemmas.List.{length-take}
use Rattle.rules_ffi.proofs.ReadBack.{read_back}
use Rattle.rules_ffi.proofs.laws.lists_are_read_back.Goals as goal

pub returns : goal.returns
returns c = λ s sets h. read_back 4 (s ∷ take 3 sets) h (omega (arith, length-take 3 sets))
