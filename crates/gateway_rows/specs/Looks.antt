-- What a look-up leads to (RFC 9111, 4, 5.2.1.7; RFC 5861, 3).
use Rattle.std.specs.Prelude.{Bool, true, false, not, ◌&&◌, [], ◌∷◌}
use Rattle.gateway_rows.specs.Tables.{first_of}
use Rattle.gateway_types.specs.declared.looks.Found.{Found}
use Rattle.gateway_types.specs.declared.looks.Found.TheVariants.{Nothing, Whole}
use Rattle.gateway_types.specs.declared.looks.Reuse.{Reuse}
use Rattle.gateway_types.specs.declared.looks.Reuse.TheVariants.{Bypass, WhileRevalidating, AfterValidation}
use Rattle.gateway_types.specs.declared.looks.Permit.{Permit}
use Rattle.gateway_types.specs.declared.looks.Permit.TheVariants.{Write}
use Rattle.gateway_types.specs.declared.looks.Look.{Look}
use Rattle.gateway_types.specs.declared.looks.LookVerdict.{LookVerdict}

abbrev pub is_found : Found → Bool
is_found Nothing = false
is_found _ = true

abbrev pub is_whole : Found → Bool
is_whole Whole = true
is_whole _ = false

-- it may not answer this request at all
abbrev pub is_bypass : Reuse → Bool
is_bypass Bypass = true
is_bypass _ = false

-- it answers while it is fetched anew
abbrev pub is_meanwhile : Reuse → Bool
is_meanwhile WhileRevalidating = true
is_meanwhile _ = false

-- the origin is asked first whether it is still right
abbrev pub is_asked_first : Reuse → Bool
is_asked_first AfterValidation = true
is_asked_first _ = false

-- another has the permit
abbrev pub is_wait : Permit → Bool
is_wait Permit.Wait = true
is_wait _ = false

-- it has the permit
abbrev pub is_write : Permit → Bool
is_write Write = true
is_write _ = false

-- the rows of what must be asked about first
abbrev pub validation_row : Look → LookVerdict
validation_row look = first_of
    ((look.only_if_cached, LookVerdict.Unavailable)
    ∷ (look.fresh && not look.past, LookVerdict.LookPast)
    ∷ (is_wait look.permit, LookVerdict.Wait)
    ∷ (is_whole look.found, LookVerdict.Conditional)
    ∷ []) LookVerdict.Full

-- by how the stored response may be reused; one that is not complete yet is read as it comes
abbrev pub reuse_row : Look → LookVerdict
reuse_row look = first_of
    ((is_bypass look.reuse && look.only_if_cached, LookVerdict.Unavailable)
    ∷ (is_bypass look.reuse, LookVerdict.Pass)
    ∷ (is_asked_first look.reuse, validation_row look)
    ∷ (not (is_whole look.found), LookVerdict.Collapse)
    ∷ (is_meanwhile look.reuse && is_write look.permit, LookVerdict.HitAndValidate)
    ∷ []) LookVerdict.Hit

-- by what is stored under the key; a response that is older than a purge which names it counts as none
abbrev pub look_row : Look → LookVerdict
look_row look = first_of
    ((is_found look.found && not look.too_old, reuse_row look)
    ∷ (look.only_if_cached, LookVerdict.Unavailable)
    ∷ (look.predicted, LookVerdict.Unstored)
    ∷ (is_wait look.permit, LookVerdict.Wait)
    ∷ []) LookVerdict.Full
