use Rattle.std.proofs.Common.{refl}
use Rattle.lru_async_manager.proofs.files.answered.Goals as goal

pub returns-in-Err-Setup-Memory : goal.returns-in-Err-Setup-Memory
returns-in-Err-Setup-Memory c =
    rw (c.in-Err-Setup-Memory.is, c.in-Err-Setup-Memory.field-0-is, c.in-Err-Setup-Memory.field-0-0-is) (c.new.result, refl, c.new.ensures.items)

pub returns-in-Err-Setup-CreateDir : goal.returns-in-Err-Setup-CreateDir
returns-in-Err-Setup-CreateDir c =
    rw (c.in-Err-Setup-CreateDir.is, c.in-Err-Setup-CreateDir.field-0-is, c.in-Err-Setup-CreateDir.field-0-0-is) (c.new-in-Err-Setup-CreateDir.result, refl, c.new-in-Err-Setup-CreateDir.ensures.items)

pub returns-in-Err-AllShardsFailed : goal.returns-in-Err-AllShardsFailed
returns-in-Err-AllShardsFailed c =
    rw (c.in-Err-AllShardsFailed.is, c.in-Err-AllShardsFailed.field-0-is) (c.new-in-Err-AllShardsFailed.result, refl, c.new-in-Err-AllShardsFailed.ensures.items)
