use Rattle.std.proofs.Common.{rules}
use Rattle.cache_heads.proofs.reason.NoCacheReason.as_str.Goals as goal

pub returns-in-StorageError : goal.returns-in-StorageError
returns-in-StorageError c = search rules
