-- What a refused call hands back.
use Rattle.std.specs.Prelude.{◌≡◌, ⊤}
use Rattle.lru_async.specs.declared.fault.SendFault.{SendFault}
use Rattle.lru_async.specs.declared.fault.SendFault.TheVariants.{Memory, Closed}
use Rattle.lru_async.specs.declared.fault.TailFault.{TailFault}
use Rattle.lru_async.specs.declared.fault.TailFault.TheVariants.{Unsent, Refused, Unanswered}

-- what was to be sent
abbrev pub unsent : {T : Type 0} → SendFault T → T
unsent (Memory back) = back
unsent (Closed back) = back

-- a key that was not sent comes back; of one that was sent, nothing is claimed
abbrev pub ComesBackUnsent : {K : Type 0} → K → TailFault K → Type 0
ComesBackUnsent key (Unsent fault) = unsent fault ≡ key
ComesBackUnsent key (Refused fault) = ⊤
ComesBackUnsent key Unanswered = ⊤
