use Rattle.std.proofs.Common.{rules}
use Rattle.cache_heads.proofs.filters.calculate_serve_stale_durations.Goals as goal

pub returns-clause-revalidate : goal.returns-clause-revalidate
returns-clause-revalidate c = search rules
