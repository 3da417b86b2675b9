-- A plain request, as most are (RFC 9112, 2.1, 3 and 5): GET or HEAD of a path, no body, lines `name: value`, of which one is Host, in front (RFC 9110, 7.2). Bytes are numbers: 13 a CR, 10 a LF, 32 a space, 35 `#`, 47 a slash, 58 a colon.
use Rattle.std.specs.Prelude.{◌≡◌, ℕ, ◌+◌, Bool, true, false, not, ◌&&◌, ◌||◌, ◌==◌, List, [], ◌∷◌, ◌++◌, length, bytes_eq, codes, is_some}
use Rattle.std.specs.List.{list_all, list_any}
use Rattle.httparse.specs.Grammar.{is_token, is_value_byte}
use Rattle.rules_fields.specs.Texts.{trimmed, small}
use Rattle.rules_fields.specs.Tables.{among, hop}
use Rattle.rules_fields.specs.Fields.{Field, all, without}
use Rattle.rules_fields.specs.Types.{Asked, Chosen}
use Rattle.rules_fields.specs.declared.types.Framing.{Framing}
use Rattle.http1_message_parts.specs.Host.{normal_host}
use Rattle.http1_message_parts.specs.Start.{is_target_byte}
use Rattle.rules_ffi_arguments.specs.Rooms.{block}
use Rattle.rules_ffi_results.specs.Numbers.{mark}

-- the fields that say how a head is read or what a cache may do: a request with one of them isn't plain, nor one with a field that Connection may name
abbrev pub watched : List (List ℕ)
watched =
    codes "cache-control" ∷ codes "close" ∷ codes "content-length" ∷ codes "expect" ∷ codes "if-match" ∷ codes "if-unmodified-since"
    ∷ codes "pragma" ∷ codes "te" ∷ codes "transfer-encoding" ∷ []

-- a token and a value without blanks round it, under a name that isn't among these
abbrev pub is_plain_line : List (List ℕ) → Field → Bool
is_plain_line names f = is_token f.0 && list_all is_value_byte f.1 && bytes_eq (trimmed f.1) f.1 && not (among names (small f.0))

-- a line that the operator lets go on
abbrev pub is_passed : List (List ℕ) → Field → Bool
is_passed drops f = not (among drops (small f.0))

-- visible ASCII, and no mark of a fragment
abbrev pub is_path_byte : ℕ → Bool
is_path_byte b = is_target_byte b && not (b == 35)

abbrev pub is_plain_target : List ℕ → Bool
is_plain_target [] = false
is_plain_target (b ∷ path) = b == 47 && list_all is_path_byte path

abbrev pub is_plain_method : List ℕ → Bool
is_plain_method method = bytes_eq method (codes "GET") || bytes_eq method (codes "HEAD")

-- what Connection says of a plain request: nothing, or one of these
abbrev pub is_plain_connection : List (List ℕ) → Bool
is_plain_connection [] = true
is_plain_connection (v ∷ []) = among (codes "keep-alive" ∷ codes "Keep-Alive" ∷ codes "close" ∷ []) v
is_plain_connection _ = false

-- the request line, without its CR LF
abbrev pub start_text : List ℕ → List ℕ → List ℕ
start_text method target = method ++ (32 ∷ (target ++ codes " HTTP/1.1"))

-- a head, and what follows it
abbrev pub head_then : List ℕ → List ℕ → List Field → List ℕ → List ℕ
head_then method target lines rest = start_text method target ++ (13 ∷ 10 ∷ (block lines ++ (13 ∷ 10 ∷ rest)))

-- nothing that an operator chose changes how a plain request is read, but which hosts are served and which lines go no further
abbrev pub is_plain_choice : Chosen → Bool
is_plain_choice o =
    not o.folds_percent && length o.query_drops == 0 && not o.query_sorts && length o.encodings == 0 && not (is_some o.cookie_keeps)

-- what is read of it: its lines without those of the hop
abbrev pub plain_asked : Chosen → List ℕ → List ℕ → List ℕ → List Field → Asked
plain_asked o method target host lines = record {
  method = method;
  scheme = o.scheme;
  host = normal_host o.scheme host;
  target = target;
  minor = 1;
  lines = without hop lines;
  framing = Framing.None;
  takes_trailers = false;
}

-- Connection ends it behind this request
abbrev pub says_close : List (List ℕ) → Bool
says_close values = list_any (λ v. bytes_eq v (codes "close")) values

-- its marks: nothing else is asked
abbrev pub plain_marks : List ℕ → List Field → ℕ
plain_marks method lines = mark (says_close (all (codes "connection") lines)) 1 + mark (bytes_eq method (codes "HEAD")) 8

-- scheme, `://`, host and target
abbrev pub plain_key : Chosen → List ℕ → List ℕ → List ℕ
plain_key o host target = o.scheme ++ codes "://" ++ normal_host o.scheme host ++ target

-- an empty line stands in front
abbrev pub is_over : List ℕ → Bool
is_over (a ∷ b ∷ text) = a == 13 && b == 10
is_over _ = false

-- a plain line, whatever its name
pub record IsPlainBut (f : Field) : Type 0 where
  pub name : is_token f.0 ≡ true
  pub value : list_all is_value_byte f.1 ≡ true
  pub bare : trimmed f.1 ≡ f.1
