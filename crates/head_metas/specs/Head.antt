-- The head of a response as MessagePack: which texts spell it, and which of these is written.
use Rattle.std.specs.Prelude.{◌≡◌, ℕ, ◌^◌, ◌<◌, ◌≤◌, List, ◌++◌, length, map, flat_map, All}
use Rattle.http.specs.StatusCode.{IsStatusCode}
use Rattle.http_header.specs.HeaderMap.{Entries, pairs, IsHeaderMap}
use Rattle.http_header.specs.FieldName.{IsHeaderName}
use Rattle.http_header.specs.FieldValue.{FieldValue, plain_value, IsFieldValue}
use Rattle.cache_words.specs.Forms.{Stands, shortest, numbers, arrays}
use Rattle.cache_words.specs.Pack.{SpellsText, SpellsBytes, text_of, bytes_of}
use Rattle.head_lines.specs.Lines.{Line, map_of, IsLine}
use Rattle.head_lines.specs.declared.header.ResponseHeader.{ResponseHeader}
use Rattle.cache_words.specs.Items.{SpellBoth, SpellItems, SpellArray}

-- a line: an array of its name as a text and its value as a byte string
abbrev pub SpellsLine : Line → List ℕ → Type 0
SpellsLine line text = SpellItems 2 (SpellBoth SpellsText SpellsBytes) line text

-- an array of lines
abbrev pub SpellsLines : List Line → List ℕ → Type 0
SpellsLines lines text = SpellArray SpellsLine lines text

-- how many names a map holds
abbrev pub most_names : ℕ
most_names = 24576

-- a head: an array of its status and the array of its lines, which a map takes
pub record SpellsHead (h : ResponseHeader) (text : List ℕ) : Type 0 where
  pub lines : List Line
  pub are_lines : All IsLine lines
  pub room : length (map_of lines) ≤ most_names
  pub headers : h.headers ≡ map_of lines
  pub status : IsStatusCode h.status
  pub spelled : SpellItems 2 (SpellBoth (Stands numbers) SpellsLines) (h.status, lines) text

-- the input begins with a head
abbrev pub BeginsWithHead : List ℕ → ResponseHeader → Type 0
BeginsWithHead bytes h = (text : List ℕ) × (rest : List ℕ) × SpellsHead h text × (bytes ≡ text ++ rest)

-- one value under its name
abbrev pub line_of : List ℕ × FieldValue → List ℕ
line_of pair = shortest arrays 2 ++ (text_of pair.0 ++ bytes_of pair.1.bytes)

abbrev pub lines_of : Entries FieldValue → List ℕ
lines_of m = shortest arrays (length (pairs m)) ++ flat_map line_of (pairs m)

-- the text that is written: the values in the map's order
unfoldable pub written_head : ResponseHeader → List ℕ
written_head h = shortest arrays 2 ++ (shortest numbers h.status ++ lines_of h.headers)

-- fewer than 2^32 values, each of fewer than 2^32 bytes: no form counts more
pub record IsCountable (m : Entries FieldValue) : Type 0 where
  pub lines : length (pairs m) < 2 ^ 32
  pub values : All (λ p. length p.1.bytes < 2 ^ 32) (pairs m)

-- what holds of each head in memory
pub record IsHead (h : ResponseHeader) : Type 0 where
  pub status : IsStatusCode h.status
  pub map : IsHeaderMap h.headers
  pub names : All (λ p. IsHeaderName p.0) (pairs h.headers)
  pub values : All (λ p. IsFieldValue p.1.bytes) (pairs h.headers)

-- the same head without a word on which values are sensitive
abbrev pub plain_values : Entries FieldValue → Entries FieldValue
plain_values m = map (λ e. (e.0, map (λ v. plain_value v.bytes) e.1)) m

abbrev pub plain_head : ResponseHeader → ResponseHeader
plain_head h = record { status = h.status; headers = plain_values h.headers }
