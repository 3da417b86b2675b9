-- What a parser holds after one more piece, by its stage.
use Rattle.std.proofs.Common.{◌≡◌, ℕ, List, ◌++◌, length, sym, subst}
use Rattle.std.specs.Prelude.{Option}
use Rattle.head_lines.specs.declared.header.ResponseHeader.{ResponseHeader}
use Rattle.head_parse.specs.declared.parse.Stage.{Stage}
use Rattle.head_parse.specs.declared.parse.Stage.TheVariants as stage
use Rattle.head_parse.specs.declared.response.Progress.{Progress}
use Rattle.head_parse.specs.Parse.{ParserState, in_body, at_bad_head, announced, limited, progress_by_length, IsAt, ParserHolds, held_progress}
use Rattle.head_parse.specs.Stages.{held_of, IsNext}
use Rattle.head_parse.proofs.ParseLaws.{ParserHolds-body, ParserHolds-bad, ParserHolds-progress}

-- after a piece of a body
pub body-holds : (bytes piece : List ℕ) (now : ParserState) (old new : ResponseHeader × List ℕ) → held_of (stage.Body old) ≡ now → new ≡ (old.0, limited (announced old.0) (old.1 ++ piece)) → ParserHolds bytes now
    → ParserHolds (bytes ++ piece) (in_body new.0 new.1)
body-holds bytes piece now old new is e holds =
    subst (λ (n : ResponseHeader × List ℕ). ParserHolds (bytes ++ piece) (in_body n.0 n.1)) (sym e) (ParserHolds-body bytes piece old.0 old.1 (subst (ParserHolds bytes) (sym is) holds))

pub body-is-at : (bytes piece : List ℕ) (now : ParserState) (old new : ResponseHeader × List ℕ) (p : Progress) → held_of (stage.Body old) ≡ now → new ≡ (old.0, limited (announced old.0) (old.1 ++ piece))
    → p ≡ progress_by_length (announced new.0) (length new.1) → ParserHolds bytes now → IsAt (bytes ++ piece) p
body-is-at bytes piece now old new p is e f holds =
    subst (IsAt (bytes ++ piece)) (sym f) (ParserHolds-progress (bytes ++ piece) (in_body new.0 new.1) (body-holds bytes piece now old new is e holds))

-- after a bad head
pub bad-holds : (bytes piece : List ℕ) (now : ParserState) → held_of stage.BadHead ≡ now → ParserHolds bytes now → ParserHolds (bytes ++ piece) at_bad_head
bad-holds bytes piece now is holds = ParserHolds-bad bytes piece (subst (ParserHolds bytes) (sym is) holds)

pub bad-is-at : (bytes piece : List ℕ) (now : ParserState) → held_of stage.BadHead ≡ now → ParserHolds bytes now → IsAt (bytes ++ piece) (held_progress at_bad_head)
bad-is-at bytes piece now is holds = ParserHolds-progress (bytes ++ piece) at_bad_head (bad-holds bytes piece now is holds)

-- after a piece of a head
pub head-holds : (bytes piece : List ℕ) (now : ParserState) (old new : List ℕ) (next : Option Stage) → held_of (stage.Head old) ≡ now
    → ((bytes : List ℕ) → ParserHolds bytes (held_of (stage.Head old)) → IsNext (bytes ++ piece) new next) → ParserHolds bytes now → IsNext (bytes ++ piece) new next
head-holds bytes piece now old new next is after holds = after bytes (subst (ParserHolds bytes) (sym is) holds)
