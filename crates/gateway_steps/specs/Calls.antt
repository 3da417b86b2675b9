-- Which calls are lawful in which state.
use Rattle.std.specs.Prelude.{Bool, true, not}
use Rattle.gateway_rows.specs.Bodies.{is_idle, is_awaiting}
use Rattle.gateway_steps.specs.declared.state.Call.{Call}
use Rattle.gateway_steps.specs.declared.state.State.{State}
use Rattle.gateway_steps.specs.Phases.{has_body_coming, is_done}

abbrev pub is_lawful : Call → State → Bool
is_lawful Call.Poll s = true
is_lawful Call.RequestData s = s.client.owes_body
is_lawful Call.ResponseHead s = is_awaiting s.origin.phase
is_lawful Call.ResponseData s = has_body_coming s
is_lawful Call.OriginClosed s = not (is_idle s.origin.phase)
is_lawful Call.ClientClosed s = not (is_done s.client.phase)
