-- What a look-up changes of an exchange, and what it finds.
use Rattle.std.specs.Prelude.{◌≡◌, Bool, false, ◌==◌, Option}
use Rattle.std.specs.Option.{option_map_or}
use Rattle.rules_ffi_arguments.specs.declared.shapes.Moment.{Moment}
use Rattle.gateway_rules.specs.Moments.{is_past}
use Rattle.gateway_rules.specs.declared.stored.Stored.{Stored}
use Rattle.gateway_steps.specs.declared.state.State.{State}
use Rattle.gateway_steps.specs.Sides.{without_request_if}

-- all but whether its request at the tier is open, and its permit
abbrev pub HasSameButRequest : State → State → Type 0
HasSameButRequest old new = new ≡ record old { tier = record old.tier { held = new.tier.held; permit = new.tier.permit } }

-- all but what goes with its request at the tier, which may have ended
abbrev pub HasSameButHeld : State → State → Type 0
HasSameButHeld old new = new ≡ record old {
  tier = record old.tier {
    held = new.tier.held;
    permit = new.tier.permit;
    writes = new.tier.writes;
    joinable = new.tier.joinable;
    holder = new.tier.holder;
    moved = new.tier.moved;
    passing = new.tier.passing;
  };
}

-- its request at the tier ends, where it looks elsewhere
abbrev pub lets_go_if : Bool → State → State
lets_go_if ends s = record s { tier = without_request_if ends s.tier }

-- what is found isn't later than the last purge of all
abbrev pub is_too_old : Option Moment → Option Stored → Bool
is_too_old floor found = option_map_or (λ (stored : Stored). option_map_or (λ purge. is_past purge stored.shape.updated) floor false) found false

-- the status by which a list of variants stands under a first key
abbrev pub is_index : Option Stored → Bool
is_index found = option_map_or (λ (stored : Stored). stored.shape.status == 600) found false
