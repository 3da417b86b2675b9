-- What is stored, as the rules look at it.
use Rattle.std.specs.Prelude.{ℕ, List, [], Option, Some, None}
use Rattle.head_packed.specs.HeadText.{head_text}
use Rattle.rules_ffi_arguments.specs.declared.shapes.HeadShape.{HeadShape}
use Rattle.rules_ffi_results.specs.Keeping.{no_head}
use Rattle.gateway_rules.specs.declared.stored.Stored.{Stored}

-- its lines, each with CR LF at its end
abbrev pub block_of : Stored → List ℕ
block_of s = head_text s.head

-- its shape and its lines
abbrev pub stored_of : Stored → HeadShape × List ℕ
stored_of s = (s.shape, block_of s)

-- the same of what was found; of nothing a head without a status, and no lines
abbrev pub found_of : Option Stored → HeadShape × List ℕ
found_of None = (no_head, [])
found_of (Some s) = stored_of s
