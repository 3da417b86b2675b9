-- Bodies as they come (RFC 9112, 6.3 and 7.1). A piece of data has status 71, the end of a body 72; one that is broken 66.
use Rattle.std.specs.Prelude.{ℕ, zero, suc, ◌+◌, Bool, ◌==◌, max, if◌then◌else◌, List, [], ◌++◌, length, drop, slice_range, Option, Some, None, option_map}
use Rattle.rules_ffi_arguments.specs.Given.{◌>>=◌}
use Rattle.rules_ffi_arguments.specs.declared.shapes.BodyShape.{BodyShape}
use Rattle.rules_ffi_arguments.specs.declared.shapes.PieceShape.{PieceShape}
use Rattle.rules_ffi_results.specs.Bodies.{Step, decoded}
use Rattle.gateway_rules.specs.Options.{Options}
use Rattle.gateway_rules.specs.declared.values.Body.{Body}
use Rattle.gateway_rules.specs.declared.bodies.Decoded.{Decoded}
use Rattle.gateway_rules.specs.declared.bodies.Piece.{Piece}

-- a body: its trailers, once they came, and how far it was read
abbrev pub Coming : Type 0
Coming = List ℕ × BodyShape

abbrev pub body_of : Body → Coming
body_of b = (b.trailers.items, b.shape)

-- none of it came; what is read of chunks beside their data is as long as a head at most
abbrev pub unread : Options → ℕ → ℕ → Coming
unread o framing length = (
  [],
  record {
    framing = framing;
    length = length;
    most = o.numbers.most_head;
    state = 0;
    size = 0;
    extensions = 0;
    scanned = 0;
    reserved = 0;
  },
)

abbrev pub piece_of : Piece → List ℕ × Step
piece_of p = (p.text.items, (p.told, p.shape))

-- what bytes have of a body: its content, how many bytes are done with, whether it is over, and why it is broken or 0
pub record Decoding : Type 0 where
  pub content : List ℕ
  pub used : ℕ
  pub over : Bool
  pub bad : ℕ

abbrev pub decoding_of : Decoded → Decoding
decoding_of d = record { content = d.piece.items; used = d.used; over = d.over; bad = d.bad }

-- a piece without data ends what is read: the body is over, or broken, or more of it is to come
abbrev pub decoding_at : PieceShape → Decoding
decoding_at p = record { content = []; used = p.used; over = p.status == 72; bad = if p.status == 66 then max p.reason 1 else 0 }

-- content in front of what else is read
abbrev pub with_content : List ℕ → ℕ → Decoding × Coming → Decoding × Coming
with_content content used r = (record r.0 { content = content ++ r.0.content; used = used + r.0.used }, r.1)

-- trailers come with the end
abbrev pub ending : List ℕ → List ℕ × Step → Decoding × Coming
ending trailers t = (decoding_at t.1.0, (if t.1.0.status == 72 then t.0 else trailers, t.1.1))

-- what is read from a piece on: data takes a byte at least, so that there are no more pieces than bytes
abbrev pub read_from : ℕ → List ℕ → List ℕ → List ℕ × Step → Option (Decoding × Coming)
read_from zero trailers bytes t = Some (ending trailers t)
read_from (suc n) trailers bytes t =
    if t.1.0.status == 71 then
    option_map (with_content (slice_range bytes t.1.0.from t.1.0.to) t.1.0.used)
    (decoded t.1.1 (drop t.1.0.used bytes) >>= read_from n trailers (drop t.1.0.used bytes))
    else Some (ending trailers t)

-- all that bytes have of a body, and the body behind it
unfoldable pub decoded_in : Coming → List ℕ → Option (Decoding × Coming)
decoded_in b bytes = decoded b.1 bytes >>= read_from (length bytes) b.0 bytes
