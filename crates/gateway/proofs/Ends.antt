-- What a client leaves.
use Rattle.std.proofs.Common.{◌≡◌, ℕ, true, refl}
use Rattle.gateway_types.specs.declared.bodies.ClientVerdict.{ClientVerdict}
use Rattle.gateway_steps.specs.Phases.{is_done}
use Rattle.gateway_steps.specs.Steps.{leaves}
use Rattle.gateway_steps.specs.declared.state.State.{State}

pub leaves_done : (v : ClientVerdict) (now : ℕ) (s : State) → is_done (leaves v now s).client.phase ≡ true
leaves_done ClientVerdict.Nothing now s = refl
leaves_done ClientVerdict.GoesOn now s = refl
leaves_done ClientVerdict.Truncate now s = refl
leaves_done ClientVerdict.CloseOrigin now s = refl

pub leaves_tailed : (v : ClientVerdict) (now : ℕ) (s : State) → (leaves v now s).origin.tailed ≡ s.origin.tailed
leaves_tailed ClientVerdict.Nothing now s = refl
leaves_tailed ClientVerdict.GoesOn now s = refl
leaves_tailed ClientVerdict.Truncate now s = refl
leaves_tailed ClientVerdict.CloseOrigin now s = refl
