-- A request's lines as they are sent on (RFC 9110, 7.6).
use Rattle.std.specs.Prelude.{ℕ, ◌-◌, Bool, true, false, ◌&&◌, ◌||◌, if◌then◌else◌, List, [], ◌∷◌, ◌++◌, map, codes, bytes_eq, decimal}
use Rattle.std.specs.Option.{option_map_or}
use Rattle.rules_fields.specs.Numbers.{digits}
use Rattle.rules_fields.specs.Tables.{frames}
use Rattle.rules_fields.specs.Fields.{Field, is_named, all, without}
use Rattle.rules_fields.specs.Types.{Asked, Chosen}
use Rattle.http1_message_parts.specs.Via.{listed, via_value}

-- the methods that say how often they may be sent on (7.6.2)
abbrev pub is_counted : List ℕ → Bool
is_counted method = bytes_eq method (codes "TRACE") || bytes_eq method (codes "OPTIONS")

-- one less, and at least 0; a text that is no number stays
abbrev pub one_less : List ℕ → List ℕ
one_less value = option_map_or (λ n. decimal (n - 1)) (digits value) value

-- Max-Forwards one less
abbrev pub counted : Bool → Field → Field
counted counts f = if counts && is_named (codes "max-forwards") f then (f.0, one_less f.1) else f

-- the lines that are written anew
abbrev pub rewritten : Bool → List (List ℕ)
rewritten forwards_for = codes "via" ∷ (if forwards_for then codes "x-forwarded-for" ∷ [] else [])

-- X-Forwarded-For has the client's address as one more element
abbrev pub for_line : Bool → List ℕ → List Field → List Field
for_line forwards_for peer lines =
    if forwards_for then (codes "X-Forwarded-For", listed (all (codes "x-forwarded-for") lines) ++ peer) ∷ [] else []

-- a client that takes trailers
abbrev pub trailers_lines : Bool → List Field
trailers_lines takes = if takes then (codes "TE", codes "trailers") ∷ (codes "Connection", codes "TE") ∷ [] else []

-- without what a proxy writes itself, and what the operator drops
abbrev pub passed : Chosen → List Field → List Field
passed o lines = without o.drops (without frames lines)

-- Host from the target; the lines that are passed on; Via with one more element
unfoldable pub forward : Asked → List ℕ → Chosen → List Field
forward r peer o =
    let lines = passed o r.lines in
    (codes "Host", r.host) ∷ map (counted (is_counted r.method)) (without (rewritten o.forwards_for) lines)
    ++ for_line o.forwards_for peer lines ++ (codes "Via", via_value r.minor o.name lines) ∷ [] ++ trailers_lines r.takes_trailers
