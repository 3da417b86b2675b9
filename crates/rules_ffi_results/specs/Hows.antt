-- What Cache-Status says (RFC 9211).
use Rattle.std.specs.Prelude.{ℕ, ◌+◌, ◌*◌, ◌-◌, ◌^◌, ◌/◌, Bool, not, ◌&&◌, ◌==◌, nat_lt, if◌then◌else◌, List, [], ◌∷◌, ◌++◌, length, codes, Option, Some, None}
use Rattle.std.specs.Fmt.{decimal}
use Rattle.std.specs.Option.{option_map_or}
use Rattle.rules_ffi_arguments.specs.Given.{only_if}
use Rattle.rules_response.specs.declared.telling.Fetch.{Fetch}
use Rattle.rules_response.specs.declared.telling.Fetch.TheVariants.{PassOn, Fill, Confirm, Again}
use Rattle.rules_ffi_arguments.specs.declared.shapes.How.{How}
use Rattle.rules_ffi_results.specs.declared.how.TimeToLive.{TimeToLive}
use Rattle.rules_ffi_results.specs.Reasons.{reason_name}

-- one of the reasons to go on, of what is sent, or none, and 0 or 1
abbrev pub how_in : How → Option How
how_in h = only_if (nat_lt h.forward 8 && nat_lt h.fetch 5 && nat_lt h.closes 2) h

-- what went to the origin; where nothing is told of it, it is taken as it came
abbrev pub fetch_of : How → Fetch
fetch_of h = if h.fetch == 2 then Fill else (if h.fetch == 3 then Confirm else (if h.fetch == 4 then Again else PassOn))

abbrev pub forward_name : ℕ → List ℕ
forward_name forward =
    if forward == 1 then codes "fwd=uri-miss"
    else (if forward == 2 then codes "fwd=vary-miss"
    else (if forward == 3 then codes "fwd=miss"
    else (if forward == 4 then codes "fwd=stale"
    else (if forward == 5 then codes "fwd=request"
    else (if forward == 6 then codes "fwd=method"
    else codes "fwd=bypass")))))

-- whole seconds of nanoseconds, as far as a clock of 64 bits shows them
abbrev pub seconds_in : ℕ → ℕ
seconds_in n = if nat_lt n (2 ^ 64) then n / 1000000000 else (2 ^ 64 - 1) / 1000000000

abbrev pub time_to_live : ℕ → ℕ → ℕ → TimeToLive
time_to_live arrival lifetime now =
    let until = arrival + lifetime * 1000000000 in
    if nat_lt until now then record { late = Bool.true; seconds = seconds_in (now - until + 999999999) }
    else record { late = Bool.false; seconds = seconds_in (until - now) }

abbrev pub when : Bool → List ℕ → List (List ℕ)
when holds text = if holds then text ∷ [] else []

abbrev pub live : TimeToLive → List ℕ
live left = (if left.late then codes "ttl=-" else codes "ttl=") ++ decimal left.seconds

abbrev pub of_hit : Option TimeToLive → List (List ℕ)
of_hit left = codes "hit" ∷ option_map_or (λ l. live l ∷ []) left []

abbrev pub of_why : ℕ → List (List ℕ)
of_why forward = when (not (forward == 0)) (forward_name forward)

abbrev pub of_status : ℕ → List (List ℕ)
of_status status = when (not (status == 0)) (codes "fwd-status=" ++ decimal status)

abbrev pub of_forward : How → List (List ℕ)
of_forward h = of_why h.forward ++ of_status h.forward_status

abbrev pub of_flags : How → List (List ℕ)
of_flags h = when (not (h.stored == 0)) (codes "stored") ++ when (not (h.collapsed == 0)) (codes "collapsed")

abbrev pub of_detail : List ℕ → List (List ℕ)
of_detail name = when (not (length name == 0)) (codes "detail=" ++ name)

-- a hit with the seconds that are left, or why it went to the origin and with which status; whether it is stored and was waited for; and a reason
unfoldable pub said : How → Option TimeToLive → List (List ℕ)
said h left = (if h.hit == 0 then of_forward h else of_hit left) ++ of_flags h ++ of_detail (reason_name h.detail)
