use Rattle.std.proofs.Common.{rules}
use Rattle.head_metas.proofs.versions.InternalMetaV2FromEarlyInternalMeta.from.Goals as goal

pub returns : goal.returns
returns c = search rules
