-- What the front of a response gives with all the bytes after it.
use Rattle.std.proofs.Common.{◌≡◌, ℕ, true, false, List, [], ◌++◌, refl, append-nil}
use Rattle.std.specs.Prelude.{◌≢◌, Some, None}
use Rattle.head_lines.specs.Lines.{Line}
use Rattle.head_lines.specs.declared.header.ResponseHeader.{ResponseHeader}
use Rattle.head_parse.specs.declared.response.Parsed.TheVariants as parsed
use Rattle.head_parse.specs.declared.response.Split.TheVariants as split
use Rattle.head_parse.specs.Response.{Reading, whole_head, begun_head, no_head, IsReading, Gives, parsed_of, split_of, split_by_lines, Splits}
use Rattle.head_parse.specs.Parse.{IsHeaderOf, IsHeaderFor, IsBad}
use Rattle.head_parse.specs.Heads.{IsBegun}
use Rattle.std.proofs.Common.{sym, inl, inr}
use Rattle.std.proofs.lemmas.Bool.{cases_Bool}
use Rattle.head_parse.specs.Response.{is_within_bounds}
use Rattle.head_parse.proofs.HeadLaws.{Gives-bad}
use Rattle.head_parse.proofs.ReadingLaws.{parsed_by_lines-read, reading-begun}

split-is : (header : ResponseHeader) (rest : List ℕ) (lines : List Line) → IsHeaderOf header lines
    → split.Head (record { header = header; body = rest }) ≡ split_by_lines header.status lines rest
split-is header rest lines is = rw (is.1, ← is.0) refl

pub Splits-header : (bytes : List ℕ) (header : ResponseHeader) (rest : List ℕ) → IsHeaderFor bytes header rest → Splits bytes (split.Head (record { header = header; body = rest }))
Splits-header bytes header rest is = (
  whole_head header.status is.0 rest,
  rw (append-nil bytes, append-nil rest) at (is.2 []),
  split-is header rest is.0 is.1,
)

pub Splits-begun : (bytes : List ℕ) → IsBegun bytes → Splits bytes split.Begun
Splits-begun bytes begun = (begun_head, reading-begun bytes begun.0 begun.1, refl)

bad-split : (r : Reading) → parsed.BadHead ≡ parsed_of r → split.BadHead ≡ split_of r
bad-split (whole_head status lines rest) e =
    elim (cases_Bool (is_within_bounds status lines)) [ inl t ↦ absurd (parsed_by_lines-read status lines rest t (sym e)) | inr f ↦ rw f refl ]
bad-split begun_head e = cc
bad-split no_head e = refl

pub Splits-bad : (bytes : List ℕ) → IsBad bytes → Splits bytes split.BadHead
Splits-bad bytes bad =
    let gives : Gives bytes parsed.BadHead = Gives-bad bytes bad in
    (gives.0, gives.1, bad-split gives.0 gives.2)
