-- What becomes of a client that is sent what is there.
use Rattle.std.specs.Prelude.{◌≡◌, true, ◌⊎◌}
use Rattle.gateway_steps.specs.Phases.{is_done, is_sending}
use Rattle.gateway_steps.specs.declared.state.State.{State}

-- its side is where it was, or ends with its answer
abbrev pub IsSent : State → State → Type 0
IsSent s s' = (s'.client.phase ≡ s.client.phase) ⊎ ((is_sending s.client.phase ≡ true) × (is_done s'.client.phase ≡ true))
