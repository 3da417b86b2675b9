-- What a fault of the list of rows is to their shard.
use Rattle.lru_list.specs.declared.linked_list.fault.ListFault.{ListFault}
use Rattle.lru_list.specs.declared.linked_list.fault.ListFault.TheVariants as list
use Rattle.lru_core.specs.declared.lru_unit.fault.LruFault.{LruFault}
use Rattle.lru_core.specs.declared.lru_unit.fault.LruFault.TheVariants as shard

abbrev pub shard_fault : {D : Type 0} → ListFault D → LruFault D
shard_fault (list.Memory back) = shard.Memory back
shard_fault (list.Full back) = shard.Length back
