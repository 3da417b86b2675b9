use Rattle.cache_changes.proofs.ShardLaws.{in_shard-same, in_shard-unchanged}
use Rattle.cache_changes.proofs.laws.shards_change_alone.Goals as goal

pub returns-clause-same : goal.returns-clause-same
returns-clause-same g c = λ n s c rows h. in_shard-same n s c rows h

pub returns-clause-other : goal.returns-clause-other
returns-clause-other g c = λ n s c rows h. in_shard-unchanged n s c rows h
