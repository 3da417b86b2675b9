use Rattle.rules_laws.proofs.Matched.{matches_same, range_counts_same, confirms_same}
use Rattle.rules_laws.proofs.alike.kept_is_matched_alike.Goals as goal

pub returns-clause-matches : goal.returns-clause-matches
returns-clause-matches c = λ request kept other a. matches_same request kept other a

pub returns-clause-range_counts : goal.returns-clause-range_counts
returns-clause-range_counts c = λ request kept other a. range_counts_same request kept other a

pub returns-clause-confirms : goal.returns-clause-confirms
returns-clause-confirms c = λ lines other sent a. confirms_same lines other sent a
