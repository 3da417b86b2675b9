use Rattle.rules_ffi_results.proofs.Decoding.{kept_lengths, over_at_end}
use Rattle.rules_ffi_results.proofs.laws.lengths_are_kept.Goals as goal

pub returns-clause-kept : goal.returns-clause-kept
returns-clause-kept c = λ body len. kept_lengths body len

pub returns-clause-over : goal.returns-clause-over
returns-clause-over c = λ body len. over_at_end body len
