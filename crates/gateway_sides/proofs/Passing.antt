-- What stays of who passes what is stored.
use Rattle.std.proofs.Common.{◌≡◌, Bool, true, false, refl, ap, ◌∙◌, not}
use Rattle.gateway_steps.specs.Phases.{is_read_on}
use Rattle.gateway_steps.specs.Sides.{tier_without, without_request_if}
use Rattle.gateway_steps.specs.Steps.{ends_tailed_write, passes_stored}
use Rattle.gateway_steps.specs.declared.state.State.{State}
use Rattle.gateway_sides.specs.Parts.{tier_by, HasSameButPassed}
use Rattle.gateway_sides.specs.Tails.{state_at}

frame_without : (b : Bool) (s : State) → HasSameButPassed s (record s { tier = tier_without b s.tier })
frame_without true s = refl
frame_without false s = refl

frame_without_if : (b : Bool) (s : State) → HasSameButPassed s (record s { tier = without_request_if b s.tier })
frame_without_if true s = refl
frame_without_if false s = refl

frame_both : (s s' s'' : State) → HasSameButPassed s s' → HasSameButPassed s' s'' → HasSameButPassed s s''
frame_both s s' s'' h k = k ∙ ap (λ (x : State). record x { tier = tier_by s''.tier x.tier }) h

frame_pass : (s : State) → HasSameButPassed s (passes_stored s)
frame_pass s = frame_without (not (is_read_on s)) s

frame_at : (ends : Bool) (s : State) → HasSameButPassed s (state_at ends s)
frame_at true s = frame_both s (passes_stored s) (ends_tailed_write (passes_stored s)) (frame_pass s) (frame_without_if (is_read_on (passes_stored s)) (passes_stored s))
frame_at false s = frame_pass s

pub passed_frame : (ends : Bool) (s s' : State) → s' ≡ state_at ends s → HasSameButPassed s s'
passed_frame ends s s' h = rw h (frame_at ends s)
