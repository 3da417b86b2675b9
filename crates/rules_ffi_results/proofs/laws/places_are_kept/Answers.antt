use Rattle.rules_ffi_results.proofs.Decoding.{places}
use Rattle.rules_ffi_results.proofs.laws.places_are_kept.Goals as goal

pub returns : goal.returns
returns c = λ place. places place
