use Rattle.rules_ffi_results.proofs.Decoding.{in_pieces}
use Rattle.rules_ffi_results.proofs.laws.lines_are_read_in_pieces.Goals as goal

pub returns : goal.returns
returns c = λ n most chunk bytes others. in_pieces bytes n most chunk others
