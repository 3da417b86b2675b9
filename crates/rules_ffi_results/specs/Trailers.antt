-- The trailer section behind the last chunk (RFC 9112, 7.1.2). Bytes are numbers: 10 a LF, 13 a CR.
use Rattle.std.specs.Prelude.{ℕ, Bool, false, ◌&&◌, ◌||◌, ◌==◌, min, nat_lt, if◌then◌else◌, List, [], ◌∷◌, length, take, Option, Some, None, Result, Ok, Err}
use Rattle.std.specs.Option.{option_map_or}
use Rattle.rules_fields.specs.Tables.{hop, frames}
use Rattle.rules_fields.specs.Fields.{Field, without}
use Rattle.http1_message_parts.specs.End.{end_behind}
use Rattle.http1_message_parts.specs.Lines.{has_bare_end, lines_of, rows_of, fields_within}
use Rattle.http1_message_parts.specs.declared.reason.Reason.{Reason}
use Rattle.rules_ffi_arguments.specs.Rooms.{block}
use Rattle.rules_ffi_results.specs.declared.trailers.Section.{Section}
use Rattle.rules_ffi_results.specs.declared.trailers.Section.TheVariants.{Whole, More, Bad}

-- a section that goes on is none; of one that ends, the block that goes on and the bytes that it took, or none of a bad one
abbrev pub Ending : Type 0
Ending = Option (Option (List ℕ × ℕ))

abbrev pub section_of : Section → Ending
section_of (Whole block used) = Some (Some (block.items, used))
section_of More = None
section_of Bad = Some None

abbrev pub bad : Ending
bad = Some None

-- what goes on: fields that aren't of the hop, nor those that a proxy writes itself
abbrev pub own_block : List Field → List ℕ
own_block lines = block (without frames (without hop lines))

abbrev pub read_section : ℕ → Result (List Field) Reason → Ending
read_section used (Ok lines) = Some (Some (own_block lines, used))
read_section used (Err reason) = bad

-- field lines up to an empty one: each ends with CR LF, there are at most 250, and they have at most so many bytes
abbrev pub whole_section : List ℕ → ℕ → Ending
whole_section text most =
    if nat_lt most (length text) || has_bare_end false text then bad else read_section (length text) (fields_within 250 (rows_of (lines_of text)))

-- no end yet, and there may be one as long as there are no more bytes than these
abbrev pub going_on : ℕ → ℕ → Ending
going_on len most = if nat_lt most len then bad else None

-- no field line at all
abbrev pub is_empty_section : List ℕ → Bool
is_empty_section (a ∷ b ∷ rest) = a == 13 && b == 10
is_empty_section _ = false

-- what comes behind the last chunk, of whose bytes an earlier call has looked at so many
unfoldable pub behind_chunks : List ℕ → ℕ → ℕ → Ending
behind_chunks bytes looked most =
    if is_empty_section bytes then Some (Some ([], 2))
    else option_map_or (λ end. whole_section (take end bytes) most) (end_behind (min looked (length bytes)) bytes) (going_on (length bytes) most)
