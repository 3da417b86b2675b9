-- How a wait for another's fetch ends.
use Rattle.std.specs.Prelude.{Bool, true, false, ◌&&◌, ◌||◌, [], ◌∷◌, Option, Some, None}
use Rattle.gateway_rows.specs.Tables.{first_of}
use Rattle.gateway_types.specs.declared.looks.Reuse.{Reuse}
use Rattle.gateway_types.specs.declared.looks.LookVerdict.{LookVerdict}
use Rattle.gateway_types.specs.declared.waits.Ended.{Ended}
use Rattle.gateway_types.specs.declared.waits.Waiting.{Waiting}
use Rattle.gateway_types.specs.declared.waits.WaitVerdict.{WaitVerdict}
use Rattle.gateway_types.specs.declared.waits.Sharing.{Sharing}
use Rattle.gateway_types.specs.declared.waits.ShareVerdict.{ShareVerdict}

-- nothing was stored, or the waits took too long: there is nothing to wait for again
abbrev pub ends_alone : Option Ended → Bool
ends_alone (Some Ended.GiveUp) = true
ends_alone (Some Ended.WaitTimeout) = true
ends_alone _ = false

-- the tier says that it ended
abbrev pub is_told : Option Ended → Bool
is_told None = false
is_told (Some _) = true

-- whose fetch failed shares its end; whose time is over looks alone; else by what the tier says
abbrev pub wait_row : Waiting → WaitVerdict
wait_row waiting = first_of
    ((waiting.shares, WaitVerdict.Share)
    ∷ (waiting.over, WaitVerdict.Alone)
    ∷ (waiting.moved, WaitVerdict.Again)
    ∷ (waiting.refused || ends_alone waiting.ended, WaitVerdict.Alone)
    ∷ (is_told waiting.ended, WaitVerdict.Again)
    ∷ []) WaitVerdict.Wait

-- its own look-up has an answer, or needs none of the origin's
abbrev pub answers_itself : LookVerdict → Bool
answers_itself LookVerdict.Hit = true
answers_itself LookVerdict.Collapse = true
answers_itself LookVerdict.Pass = true
answers_itself LookVerdict.Unavailable = true
answers_itself _ = false

-- it is stale, and the origin would be asked about it
abbrev pub is_stale : Reuse → Bool
is_stale Reuse.AfterValidation = true
is_stale Reuse.WhileRevalidating = true
is_stale _ = false

-- of a fetch that failed: what is stale, where it may be used; of an error that came, who may not have that asks; else the same answer for all
abbrev pub share_row : Sharing → ShareVerdict
share_row sharing = first_of
    ((answers_itself sharing.look, ShareVerdict.AsFound)
    ∷ (sharing.stale_answers && is_stale sharing.reuse, ShareVerdict.StaleOnError)
    ∷ (sharing.is_response, ShareVerdict.Alone)
    ∷ []) ShareVerdict.Generated
