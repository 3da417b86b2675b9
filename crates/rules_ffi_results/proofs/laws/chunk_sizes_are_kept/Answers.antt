use Rattle.rules_ffi_results.proofs.Decoding.{kept_sizes}
use Rattle.rules_ffi_results.proofs.laws.chunk_sizes_are_kept.Goals as goal

pub returns : goal.returns
returns c = λ body chunk at len. kept_sizes body chunk at len
