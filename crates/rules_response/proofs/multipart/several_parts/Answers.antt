use Rattle.std.proofs.Common.{◌≡◌, ℕ, List, refl, ap, ◌∙◌, map}
use Rattle.rules_fields.specs.Types.{KeptHead, Chosen, kept_of, chosen}
use Rattle.rules_response.specs.Spans.{spans}
use Rattle.rules_response.specs.Reply.{Piece, piece_of}
use Rattle.rules_response.specs.Answering.{type_lines, pieces, last_text, several_with}
use Rattle.rules_response.proofs.multipart.several_parts.Goals as goal

same : (kept : KeptHead) (n : ℕ) (ps qs : List Piece) (after last : List ℕ) (now : ℕ) (boundary : List ℕ) (how : List (List ℕ)) (o : Chosen) → ps ≡ qs → after ≡ last → several_with kept n qs last now boundary how o ≡ several_with kept n ps after now boundary how o
same kept n ps qs after last now boundary how o p q = rw (p, q) refl

pub returns : goal.returns
returns c =
    let kept : KeptHead = kept_of c.args.kept.now in
    let at : List ℕ → List Piece = λ kind. pieces kind (spans c.args.parts.now) c.args.length c.args.boundary.now in
    rw (same kept c.args.length (map piece_of c.in_ok-parts.parts.items) (at (type_lines kept.lines)) c.in_ok-after.after.items (last_text c.args.boundary.now) c.args.now c.args.boundary.now (map (λ h. h.now) c.args.how.now) (chosen c.args.options.now) (c.in_ok-parts.ensures ∙ ap at (c.as_slice.ensures.value ∙ c.in_ok-kind.ensures)) c.in_ok-after.ensures)
    c.several_with.ensures
