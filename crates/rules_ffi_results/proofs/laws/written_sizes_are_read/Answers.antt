use Rattle.rules_ffi_results.proofs.Sizes.{size_is_read}
use Rattle.rules_ffi_results.proofs.laws.written_sizes_are_read.Goals as goal

pub returns : goal.returns
returns c = λ n most size extensions digits others filled are fits. size_is_read n most size extensions digits others filled are fits
