-- A response's head is its first line and the rows behind it.
use Rattle.std.proofs.Common.{◌≡◌, ℕ, List, [], ◌∷◌, ◌∙◌, ap, sym}
use Rattle.rules_fields.specs.Types.{Chosen}
use Rattle.http1_message_parts.specs.Lines.{rows_of}
use Rattle.http1_message.specs.Response.{by_start, by_lines}

pub starts : (method date : List ℕ) (o : Chosen) (lines rest rows : List (List ℕ)) (start : List ℕ) → lines ≡ start ∷ rest → rows ≡ rows_of rest → by_start method date o start rows ≡ by_lines method date o lines
starts method date o lines rest rows start e f = ap (by_start method date o start) f ∙ sym (ap (by_lines method date o) e)
