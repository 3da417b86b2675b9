-- A response whose pieces are read one after another.
use Rattle.std.proofs.Common.{◌≡◌, ℕ, ◌<◌, ◌+◌, List, [], ◌∷◌, ◌++◌, length, take, sym, ap, ◌∙◌, subst}
use Rattle.std.proofs.lemmas.List.{flat_map_more}
use Rattle.head_parse.specs.Parse.{ParserState, ParserHolds}
use Rattle.request_puts.specs.Response.{joined}

joined-more : (pieces : List (List ℕ)) (piece : List ℕ) → joined pieces ++ piece ≡ joined (pieces ++ piece ∷ [])
joined-more pieces piece = flat_map_more (λ p. p) [] pieces piece

-- one piece more was taken
pub holds-more : (pieces : List (List ℕ)) (i : ℕ) (piece shared : List ℕ) (old new : ParserState) → i < length pieces → take (i + 1) pieces ≡ take i pieces ++ piece ∷ [] → shared ≡ piece
    → ParserHolds (joined (take i pieces)) old → ((bytes : List ℕ) → ParserHolds bytes old → ParserHolds (bytes ++ shared) new) → ParserHolds (joined (take (i + 1) pieces)) new
holds-more pieces i piece shared old new within more same h step =
    subst (λ (bytes : List ℕ). ParserHolds bytes new) (ap (λ (p : List ℕ). joined (take i pieces) ++ p) same ∙ joined-more (take i pieces) piece ∙ ap joined (sym more)) (step (joined (take i pieces)) h)
