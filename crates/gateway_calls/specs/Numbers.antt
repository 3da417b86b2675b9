-- The numbers of what calls are given and answer.
use Rattle.std.specs.Prelude.{ℕ, zero, suc, Bool, true, false, Option, Some, None}
use Rattle.gateway_exchanges.specs.declared.outs.Status.{Status}
use Rattle.gateway_exchanges.specs.declared.outs.ClientEnd.{ClientEnd}
use Rattle.gateway_exchanges.specs.declared.outs.OriginAction.{OriginAction}
use Rattle.gateway_types.specs.declared.bodies.Why.{Why}
use Rattle.gateway_types.specs.declared.looks.Reuse.{Reuse}
use Rattle.gateway_types.specs.declared.states.Fetch.{Fetch}

abbrev pub flag : Bool → ℕ
flag true = 1
flag false = 0

-- below 32 a call was refused
abbrev pub status_number : Status → ℕ
status_number Status.Done = 80
status_number Status.More = 81
status_number Status.Blocked = 82
status_number Status.NoExchange = 25
status_number Status.WrongPhase = 3
status_number Status.BadArgument = 20
status_number Status.Memory = 13

abbrev pub client_number : ClientEnd → ℕ
client_number ClientEnd.Nothing = 0
client_number ClientEnd.Wait = 1
client_number ClientEnd.End = 2
client_number ClientEnd.Close = 3
client_number ClientEnd.Truncated = 4

abbrev pub origin_number : OriginAction → ℕ
origin_number OriginAction.Nothing = 0
origin_number OriginAction.SendRequest = 1
origin_number OriginAction.SendData = 2
origin_number OriginAction.ReceiveBody = 3
origin_number OriginAction.Continue = 4
origin_number OriginAction.Reusable = 5
origin_number OriginAction.CloseOrigin = 6

abbrev pub fetch_number : Fetch → ℕ
fetch_number Fetch.Pass = 1
fetch_number Fetch.Full = 2
fetch_number Fetch.Conditional = 3
fetch_number Fetch.Unconditional = 4
fetch_number Fetch.Unstored = 5

abbrev pub reuse_number : Reuse → ℕ
reuse_number Reuse.Fresh = 1
reuse_number Reuse.Stale = 2
reuse_number Reuse.WhileRevalidating = 3
reuse_number Reuse.AfterValidation = 4
reuse_number Reuse.Bypass = 5

-- how a connection ended, by its number
abbrev pub why_in : ℕ → Option Why
why_in (suc zero) = Some Why.Clean
why_in (suc (suc zero)) = Some Why.Failed
why_in (suc (suc (suc zero))) = Some Why.Timeout
why_in (suc (suc (suc (suc zero)))) = Some Why.Unused
why_in _ = None
