-- The lines that are for all recipients (RFC 9110, 7.6.1).
use Rattle.std.specs.Prelude.{ℕ, Bool, not, ◌&&◌, ◌||◌, List, filter, bytes_eq, codes}
use Rattle.rules_fields.specs.Texts.{small}
use Rattle.rules_fields.specs.Tables.{among, hop, needed}
use Rattle.rules_fields.specs.Fields.{Field, tokens}

-- a field of this hop: one of the table, or one that Connection names. What a cache reads, and Set-Cookie, stay: Connection must not name those
abbrev pub is_hop_name : List (List ℕ) → List ℕ → Bool
is_hop_name options name = among hop name || (among options name && not (among needed name || bytes_eq name (codes "set-cookie")))

abbrev pub kept_lines : List (List ℕ) → List Field → List Field
kept_lines options lines = filter (λ f. not (is_hop_name options (small f.0))) lines

abbrev pub end_to_end : List Field → List Field
end_to_end lines = kept_lines (tokens (codes "connection") lines) lines
