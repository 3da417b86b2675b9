-- The lifetime of a response, and the windows after it (RFC 9111, 4.2.1, 4.2.2, 4.2.4; RFC 5861).
use Rattle.std.specs.Prelude.{ℕ, ◌-◌, ◌/◌, ◌^◌, min, Bool, not, ◌&&◌, ◌||◌, ◌==◌, if◌then◌else◌, List, [], ◌∷◌, find, codes, Option, option_map, option_and_then, unwrap_or, is_some}
use Rattle.rules_fields.specs.Dates.{date_of}
use Rattle.rules_fields.specs.Fields.{Field, first}
use Rattle.rules_fields.specs.Asking.{has, alone, seconds_under}
use Rattle.rules_fields.specs.Says.{Said}
use Rattle.rules_storage.specs.Ages.{date_value}
use Rattle.rules_fields.specs.Types.{Chosen}
use Rattle.rules_fields.specs.Tables.{is_heuristic}
use Rattle.rules_fields.specs.Rows.{first_given, when}

abbrev pub may_guess : Said → ℕ → Bool
may_guess s status = is_heuristic status || has (codes "public") s.directives

abbrev pub is_explicit : Said → Bool
is_explicit s = has (codes "s-maxage") s.directives || has (codes "max-age") s.directives || is_some s.expires

-- what the operator gives to a status
abbrev pub given : Chosen → ℕ → Option ℕ
given o status = option_map (λ g. g.seconds) (find (λ g. g.status == status) o.lifetimes)

-- what the operator gives to a status whatever the response says
abbrev pub forced : Chosen → ℕ → Option ℕ
forced o status = option_map (λ g. g.seconds) (find (λ g. g.status == status) o.forced_lifetimes)

-- no-cache for the whole response, unless the operator passes it over
abbrev pub is_no_cache : Said → Chosen → Bool
is_no_cache s o = alone (codes "no-cache") s.directives && not o.forces_private

-- the second of Last-Modified; one that can't be read, and second 0, which says nothing, is that of Date
abbrev pub modified : List Field → ℕ → ℕ
modified lines date =
    let second = unwrap_or (option_and_then date_of (first (codes "last-modified") lines)) 0 in
    if second == 0 then date else second

-- a tenth of the time since the last change
abbrev pub guessed : List Field → ℕ → Chosen → ℕ
guessed lines date o = min ((date - modified lines date) / 10) o.most_heuristic

-- the first that is given, or 0
abbrev pub lifetime : Said → ℕ → List Field → ℕ → Chosen → ℕ
lifetime s status lines came o =
    let date = date_value lines came in
    unwrap_or
    (first_given
    (when (is_no_cache s o) 0
    ∷ forced o status
    ∷ seconds_under (codes "s-maxage") s.directives
    ∷ seconds_under (codes "max-age") s.directives
    ∷ option_map (λ e. min (unwrap_or (date_of e) 0 - date) (2 ^ 31)) s.expires
    ∷ given o status
    ∷ when (may_guess s status && o.heuristic_tenth) (guessed lines date o)
    ∷ []))
    0

-- nothing stale may be served
abbrev pub forbids_stale : Said → Chosen → Bool
forbids_stale s o =
    has (codes "must-revalidate") s.directives || has (codes "proxy-revalidate") s.directives || is_no_cache s o
    || (has (codes "s-maxage") s.directives && not o.s_maxage_lets_stale)

-- a window for stale use
abbrev pub window : Said → List ℕ → ℕ → Chosen → ℕ
window s name default o = if forbids_stale s o then 0 else unwrap_or (seconds_under name s.directives) default
