use Rattle.std.proofs.Common.{rules}
use Rattle.cache_heads.proofs.filters.calculate_fresh_until.Goals as goal

pub returns-in-Some : goal.returns-in-Some
returns-in-Some c = search rules

pub returns-in-Some-calculate_expires_header_time : goal.returns-in-Some-calculate_expires_header_time
returns-in-Some-calculate_expires_header_time c = search rules

pub returns : goal.returns
returns c = search rules
