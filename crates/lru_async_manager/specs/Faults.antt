-- Why there is no text where a question was refused.
use Rattle.std.specs.Prelude.{⊤}
use Rattle.lru_async.specs.declared.fault.SendFault.{SendFault}
use Rattle.lru_async.specs.declared.fault.SendFault.TheVariants as send
use Rattle.lru_async_manager.specs.declared.fault.TextFault.{TextFault}
use Rattle.lru_async_manager.specs.declared.fault.TextFault.TheVariants.{Memory, Closed}

-- what is reported of a refused question to a shard's actor
abbrev pub unasked : SendFault ⊤ → TextFault
unasked (send.Memory back) = Memory
unasked (send.Closed back) = Closed
