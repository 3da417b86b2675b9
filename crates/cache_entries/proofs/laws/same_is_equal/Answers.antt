use Rattle.std.proofs.Common.{sym}
use Rattle.cache_entries.specs.contracts.entry.CacheEntryKeyOrd.TheImpl.Laws.{matches_eq-law}
use Rattle.cache_entries.proofs.laws.same_is_equal.Goals as goal

pub returns-clause-cmp : goal.returns-clause-cmp
returns-clause-cmp c = λ a b. sym (matches_eq-law a b)
