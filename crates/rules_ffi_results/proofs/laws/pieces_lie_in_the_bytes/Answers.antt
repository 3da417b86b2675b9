use Rattle.rules_ffi_results.proofs.Decoding.{lies}
use Rattle.rules_ffi_results.proofs.laws.pieces_lie_in_the_bytes.Goals as goal

pub returns : goal.returns
returns c = λ body bytes t. lies body bytes t
