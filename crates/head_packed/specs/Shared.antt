-- What is kept of a head.
use Rattle.std.specs.Prelude.{◌≡◌, List, [], ℕ, Option, Some, None, length, IfNone}
use Rattle.std.specs.List.{AllByRecursion}
use Rattle.http_header.specs.FieldValue.{FieldValue}
use Rattle.http_header.specs.HeaderMap.{Entries, append_all, pairs, IsHeaderMap}
use Rattle.head_lines.specs.declared.header.ResponseHeader.{ResponseHeader}
use Rattle.head_metas.specs.Head.{written_head}
use Rattle.head_packed.specs.HeadText.{head_text, line_feeds, fields_in, IsPlainField}
use Rattle.head_packed.specs.declared.shared.KeptHead.TheInside.{Inside}

-- the fields that are kept, or else those of the lines
abbrev pub fields_or : {B : Type 0} → (B → Entries FieldValue) → Option B → List ℕ → Entries FieldValue
fields_or fields None text = append_all [] (fields_in text)
fields_or fields (Some whole) text = fields whole

-- the head
abbrev pub kept_head : Inside → ResponseHeader
kept_head h = record { status = h.status; headers = fields_or (λ m. m.value) h.whole h.text.items }

-- length and lines are those of the head; where its fields aren't kept, its lines give them back
pub record IsKeptHead (h : Inside) : Type 0 where
  pub len : h.len ≡ length (written_head (kept_head h))
  pub text : h.text.items ≡ head_text (kept_head h)
  pub lines : h.lines ≡ line_feeds (head_text (kept_head h))
  pub map : IsHeaderMap (kept_head h).headers
  pub given : IfNone h.whole (AllByRecursion IsPlainField (pairs (kept_head h).headers))
