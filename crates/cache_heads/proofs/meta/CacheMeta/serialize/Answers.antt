use Rattle.std.proofs.Common.{rules}
use Rattle.cache_heads.proofs.meta.CacheMeta.serialize.Goals as goal

pub returns-clause-internal : goal.returns-clause-internal
returns-clause-internal c = search rules

pub returns-clause-header : goal.returns-clause-header
returns-clause-header c = search rules
