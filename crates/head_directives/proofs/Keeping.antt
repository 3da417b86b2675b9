-- What lines leave, by the search and in the words of the grammar.
use Rattle.std.proofs.Common.{◌≡◌, ℕ, List, [], ◌∷◌, map, refl, ◌∙◌}
use Rattle.std.specs.Prelude.{fold}
use Rattle.std.specs.List.{AllZip}
use Rattle.head_directives.specs.Written.{Written}
use Rattle.head_directives.specs.Reads.{HoldsDirectives}
use Rattle.head_directives.specs.Walk.{directives}
use Rattle.head_directives.specs.Keeps.{keep_all, keep_lines, kept, IsKept}
use Rattle.head_directives.proofs.SomeReading.{directives_hold}

all_hold : (lines : List (List ℕ)) → AllZip HoldsDirectives lines (map directives lines)
all_hold [] = tt
all_hold (line ∷ lines) = (directives_hold line, all_hold lines)

keeps_held : (entries : List Written) (lines : List (List ℕ)) → keep_lines entries lines ≡ fold keep_all entries (map directives lines)
keeps_held entries [] = refl
keeps_held entries (line ∷ lines) = keeps_held (keep_all entries (directives line)) lines

pub kept_read : (lines : List (List ℕ)) (entries : List Written) → entries ≡ kept lines → IsKept lines entries
kept_read lines entries e = (map directives lines, all_hold lines, e ∙ keeps_held [] lines)
