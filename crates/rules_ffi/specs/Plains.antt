-- An answer of the proxy's own.
use Rattle.std.specs.Prelude.{ℕ, ◌+◌, ◌-◌, ◌^◌, Bool, not, ◌&&◌, ◌||◌, ◌==◌, nat_lt, if◌then◌else◌, List, [], ◌∷◌, ◌++◌, length, codes, Option, Some}
use Rattle.rules_fields.specs.Types.{Chosen}
use Rattle.rules_ffi_arguments.specs.Given.{◌>>=◌, only_if}
use Rattle.rules_ffi_arguments.specs.Options.{lists_in, chosen_by, has_mark}
use Rattle.rules_ffi_arguments.specs.Responses.{code_in}
use Rattle.rules_ffi_arguments.specs.Rooms.{line_text, behind}
use Rattle.rules_ffi_arguments.specs.declared.shapes.OptionNumbers.{OptionNumbers}
use Rattle.rules_ffi_arguments.specs.declared.shapes.RequestShape.{RequestShape}
use Rattle.rules_ffi_arguments.specs.declared.shapes.Out.{Out}
use Rattle.rules_ffi_results.specs.Numbers.{blank, mark, nowhere}
use Rattle.rules_ffi_results.specs.Heads.{line_end, status_line, counted, ending}
use Rattle.rules_ffi_results.specs.Reasons.{reason_name}

-- it was read, and is a HEAD
abbrev pub is_head : RequestShape → Bool
is_head q = q.status == 65 && has_mark q.marks 8

-- a request that wasn't read ends its connection
abbrev pub closes : RequestShape → Bool
closes q = not (q.status == 65) || has_mark q.marks 1

abbrev pub is_bodiless : ℕ → Bool
is_bodiless status = nat_lt status 200 || status == 204 || status == 304

unfoldable pub detail_of : List ℕ → List ℕ
detail_of name = if length name == 0 then [] else codes "; detail=" ++ name

abbrev pub plain_length : ℕ → ℕ → List ℕ
plain_length status n = if is_bodiless status then [] else counted (codes "Content-Length") n

abbrev pub own_lines : List ℕ → List ℕ → Chosen → List ℕ
own_lines name date o =
    line_text (codes "Date", date) ++ codes "Via: 1.1 " ++ o.name ++ line_end ++ codes "Cache-Status: " ++ o.name
    ++ detail_of name ++ line_end

unfoldable pub plain_head : RequestShape → ℕ → List ℕ → List ℕ → Chosen → List ℕ
plain_head q status name date o =
    status_line status ++ own_lines name date o
    ++ plain_length status (length name + 1) ++ ending 0 (closes q)

abbrev pub has_body : RequestShape → ℕ → Bool
has_body q status = not (is_head q) && not (is_bodiless status)

-- the reason's name as a line, where there is a body
abbrev pub plain_body : RequestShape → ℕ → List ℕ → List ℕ
plain_body q status name = if has_body q status then name ++ (10 ∷ []) else []

abbrev pub told_plain : RequestShape → ℕ → List ℕ → List ℕ → Chosen → List ℕ × Out
told_plain q status name date o =
    let head = plain_head q status name date o in (
      head ++ plain_body q status name,
      record (blank 67 0) {
        code = status;
        framing = mark (has_body q status) 1;
        length = if has_body q status then length name + 1 else 2 ^ 64 - 1;
        marks = mark (closes q) 1 + mark (is_head q) 8;
        head = behind 0 head;
        more = if has_body q status then behind (length head) (plain_body q status name) else nowhere;
      },
    )

unfoldable pub plain_in : OptionNumbers → List ℕ → RequestShape → ℕ → ℕ → List ℕ → Option (List ℕ × Out)
plain_in n words q code reason date = do
  lists ← lists_in words
  o ← chosen_by n lists
  three ← only_if (not (nat_lt code 100)) code
  status ← code_in three
  Some (told_plain q status (reason_name reason) date o)
