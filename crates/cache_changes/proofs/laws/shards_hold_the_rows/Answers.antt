use Rattle.cache_changes.proofs.ManyShards.{AreShardsOf-after, weights-shards, length-shards, evicted-last}
use Rattle.cache_changes.proofs.laws.shards_hold_the_rows.Goals as goal

pub returns-clause-change : goal.returns-clause-change
returns-clause-change g c = λ n change e shards rows pos h a. AreShardsOf-after n change e shards rows pos h a

pub returns-clause-weight : goal.returns-clause-weight
returns-clause-weight g c = λ n shards rows pos a. weights-shards n shards rows pos a

pub returns-clause-count : goal.returns-clause-count
returns-clause-count g c = λ n shards rows pos a. length-shards n shards rows pos a

pub returns-clause-last : goal.returns-clause-last
returns-clause-last g c = λ n s w e front shards before pos l a h. evicted-last n s w e front shards before pos l a h
