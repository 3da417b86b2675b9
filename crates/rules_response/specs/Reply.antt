-- What a client is sent.
use Rattle.std.specs.Prelude.{ℕ, List, map, Option, option_map}
use Rattle.rules_fields.specs.Fields.{Field}
use Rattle.rules_response.specs.Sent.{sent_fields}
use Rattle.rules_response.specs.declared.answering.Part.{Part}
use Rattle.rules_response.specs.declared.answering.Answer.{Answer}

-- a text, and the part of the body behind it: from a byte up to, and without, another, or to its end
pub record Piece : Type 0 where
  pub before : List ℕ
  pub from : ℕ
  pub to : Option ℕ

abbrev pub piece_of : Part → Piece
piece_of p = record { before = p.before.items; from = p.from; to = p.to }

-- an answer: no pieces, no body; what stands after the last piece
pub record Reply : Type 0 where
  pub status : ℕ
  pub lines : List Field
  pub pieces : Option (List Piece)
  pub after : List ℕ

abbrev pub reply_of : Answer → Reply
reply_of a = record {
  status = a.status;
  lines = sent_fields a.lines.items;
  pieces = option_map (λ ps. map piece_of ps.items) a.parts;
  after = a.after.items;
}
