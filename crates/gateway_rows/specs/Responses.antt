-- What is done with a final head of the origin's (RFC 9111, 3, 4.3.3 to 4.3.5, 4.4; RFC 5861, 4).
use Rattle.std.specs.Prelude.{ℕ, Bool, true, false, not, ◌&&◌, ◌==◌, nat_le, [], ◌∷◌}
use Rattle.gateway_rows.specs.Tables.{first_of}
use Rattle.gateway_types.specs.declared.states.Fetch.{Fetch}
use Rattle.gateway_types.specs.declared.responses.Heard.{Heard}
use Rattle.gateway_types.specs.declared.responses.Keeping.{Keeping}
use Rattle.gateway_types.specs.declared.responses.ResponseVerdict.{ResponseVerdict}
use Rattle.gateway_types.specs.declared.responses.Revalidation.{Revalidation}
use Rattle.gateway_types.specs.declared.responses.RevalidateVerdict.{RevalidateVerdict}

abbrev pub is_passed : Fetch → Bool
is_passed Fetch.Pass = true
is_passed _ = false

abbrev pub is_unstored : Fetch → Bool
is_unstored Fetch.Unstored = true
is_unstored _ = false

-- an error after which what is stored stays: 404 and 410 say that there is nothing any more
abbrev pub is_error_that_stays : ℕ → Bool
is_error_that_stays status = nat_le 400 status && not (status == 404) && not (status == 410)

abbrev pub is_not_modified : ℕ → Bool
is_not_modified status = status == 304

-- what no purge and no later answer forbids, and for which there is room
abbrev pub may_store : Keeping → Bool
may_store keeping = keeping.kept && not keeping.purged && not keeping.superseded && not keeping.too_long && not keeping.too_much

-- of what is to be stored
abbrev pub stored_row : Heard → ResponseVerdict
stored_row heard = first_of
    ((heard.stale_answers, ResponseVerdict.StaleOnError)
    ∷ (heard.good && is_error_that_stays heard.status, ResponseVerdict.Relay)
    ∷ (heard.revalidates, ResponseVerdict.Revalidate)
    ∷ (heard.stores, ResponseVerdict.Store)
    ∷ []) ResponseVerdict.RelayAndRemove

-- a 304 that nobody asked for is no answer; what passes changes others; the rest is of what is to be stored
abbrev pub response_row : Heard → ResponseVerdict
response_row heard = first_of
    ((heard.unasked, ResponseVerdict.Bad)
    ∷ (is_passed heard.fetch, ResponseVerdict.RelayAndPurge)
    ∷ (is_unstored heard.fetch, ResponseVerdict.RelayUnstored)
    ∷ []) (stored_row heard)

-- of a 304, or of a 200 to HEAD
abbrev pub revalidate_row : Revalidation → RevalidateVerdict
revalidate_row r = first_of
    ((r.other && is_not_modified r.status, RevalidateVerdict.Again)
    ∷ (r.may_freshen && is_not_modified r.status, RevalidateVerdict.FreshenAndAnswer)
    ∷ (r.may_freshen, RevalidateVerdict.FreshenAndRelay)
    ∷ (is_not_modified r.status, RevalidateVerdict.Answer)
    ∷ []) RevalidateVerdict.Relay
