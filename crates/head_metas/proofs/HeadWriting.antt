-- Heads that are written: a spelling of the head with plain values.
use Rattle.std.proofs.Common.{◌≡◌, ℕ, suc, ◌^◌, ◌<◌, ◌≤◌, List, [], ◌∷◌, ◌++◌, length, get_or, map, flat_map, Ok, refl, sym, ap, ◌∙◌, arith}
use Rattle.std.specs.Prelude.{All}
use Rattle.std.proofs.lemmas.List.{map-append, length-map, get_or-map}
use Rattle.http_header.specs.FieldName.{IsHeaderName}
use Rattle.http_header.specs.FieldValue.{FieldValue, plain_value, IsFieldValue}
use Rattle.http_header.specs.HeaderMap.{Entry, Entries, entry_at, entry_pairs, pairs, append_all, IsUnique, IsHeaderMap}
use Rattle.http_header.specs.Token.{lowercase}
use Rattle.http_header.proofs.TokenLemmas.{IsUtf8-from_token}
use Rattle.cache_words.specs.Forms.{shortest, numbers, arrays}
use Rattle.cache_words.specs.Pack.{text_of, bytes_of}
use Rattle.cache_words.proofs.WritingLaws.{number_spelled, array_spelled, text_spelled, bytes_spelled}
use Rattle.cache_words.specs.Items.{SpellList}
use Rattle.head_lines.specs.declared.header.ResponseHeader.{ResponseHeader}
use Rattle.head_lines.specs.Lines.{Line, pair_of, map_of, IsLine}
use Rattle.head_metas.specs.Head.{SpellsLine, SpellsHead, line_of, lines_of, written_head, IsCountable, IsHead, plain_values, plain_head}
use Rattle.head_metas.specs.HeadReading.{head_at}
use Rattle.head_metas.proofs.HeadLaws.{head_agrees}
use Rattle.head_metas.proofs.MapLines.{append_all-apart}

-- the line that a value and its name are
abbrev line_in : List ℕ × FieldValue → Line
line_in p = (p.0, p.1.bytes)

-- ---- the map

abbrev plain_pair : List ℕ × FieldValue → List ℕ × FieldValue
plain_pair p = (p.0, plain_value p.1.bytes)

abbrev plain_entry : Entry FieldValue → Entry FieldValue
plain_entry e = (e.0, map (λ v. plain_value v.bytes) e.1)

entry_pairs-plain : (name : List ℕ) (values : List FieldValue) → map plain_pair (entry_pairs (name, values)) ≡ entry_pairs (plain_entry (name, values))
entry_pairs-plain name [] = refl
entry_pairs-plain name (value ∷ values) = ap (λ (ps : List (List ℕ × FieldValue)). (name, plain_value value.bytes) ∷ ps) (entry_pairs-plain name values)

pairs-plain : (m : Entries FieldValue) → map plain_pair (pairs m) ≡ pairs (plain_values m)
pairs-plain [] = refl
pairs-plain (e ∷ m) =
    map-append plain_pair (entry_pairs e) (pairs m)
    ∙ ap (λ (ps : List (List ℕ × FieldValue)). ps ++ map plain_pair (pairs m)) (entry_pairs-plain e.0 e.1)
    ∙ ap (λ (ps : List (List ℕ × FieldValue)). entry_pairs (plain_entry e) ++ ps) (pairs-plain m)

-- names that are in lower case stay
lowered : (ps : List (List ℕ × FieldValue)) → All (λ p. IsHeaderName p.0) ps → map pair_of (map line_in ps) ≡ map plain_pair ps
lowered [] names = refl
lowered (p ∷ ps) names =
    let low : lowercase p.0 ≡ p.0 = (names 0 p (omega arith)).1 in
    rw low (ap (λ (qs : List (List ℕ × FieldValue)). (p.0, plain_value p.1.bytes) ∷ qs) (lowered ps (λ k d lt. names (suc k) d (omega arith))))

plain-unique : (m : Entries FieldValue) → IsUnique m → IsUnique (plain_values m)
plain-unique m unique i j li lj same =
    let inside : length (plain_values m) ≡ length m = length-map m plain_entry in
    let low : i < length m = omega arith in
    let high : j < length m = omega arith in
    let at_i : entry_at (plain_values m) i ≡ plain_entry (entry_at m i) = get_or-map plain_entry m i ([], []) ([], []) low in
    let at_j : entry_at (plain_values m) j ≡ plain_entry (entry_at m j) = get_or-map plain_entry m j ([], []) ([], []) high in
    unique i j low high (ap (λ (e : Entry FieldValue). e.0) (sym at_i) ∙ same ∙ ap (λ (e : Entry FieldValue). e.0) at_j)

plain-filled : (m : Entries FieldValue) → All (λ e. 0 < length e.1) m → All (λ e. 0 < length e.1) (plain_values m)
plain-filled m filled k d lt =
    let inside : length (plain_values m) ≡ length m = length-map m plain_entry in
    let low : k < length m = omega arith in
    let at_k : get_or (plain_values m) k d ≡ plain_entry (get_or m k ([], [])) = get_or-map plain_entry m k ([], []) d low in
    let some : 0 < length (get_or m k ([], [])).1 = filled k ([], []) low in
    rw (at_k, length-map) some

pub map_of-lines : (m : Entries FieldValue) → IsHeaderMap m → All (λ p. IsHeaderName p.0) (pairs m) → map_of (map line_in (pairs m)) ≡ plain_values m
map_of-lines m is names =
    ap (append_all []) (lowered (pairs m) names ∙ pairs-plain m)
    ∙ append_all-apart (plain_values m) (plain-unique m is.unique) (plain-filled m is.filled)

-- ---- the text

line_spelled : (p : List ℕ × FieldValue) → IsHeaderName p.0 → length p.1.bytes < 2 ^ 32 → SpellsLine (line_in p) (line_of p)
line_spelled p name few =
    let short : length p.0 ≤ 65535 = name.0.1 in
    let fits : length p.0 < 2 ^ 32 = omega arith in (
      shortest arrays 2,
      text_of p.0 ++ bytes_of p.1.bytes,
      array_spelled 2 (omega arith),
      (text_of p.0, bytes_of p.1.bytes, text_spelled p.0 fits (IsUtf8-from_token p.0 name.0.0), bytes_spelled p.1.bytes few, refl),
      refl,
    )

lines_spelled : (ps : List (List ℕ × FieldValue)) → All (λ p. IsHeaderName p.0) ps → All (λ p. length p.1.bytes < 2 ^ 32) ps
    → SpellList SpellsLine (map line_in ps) (flat_map line_of ps)
lines_spelled [] names few = refl
lines_spelled (p ∷ ps) names few = (
  line_of p,
  flat_map line_of ps,
  line_spelled p (names 0 p (omega arith)) (few 0 p (omega arith)),
  lines_spelled ps (λ k d lt. names (suc k) d (omega arith)) (λ k d lt. few (suc k) d (omega arith)),
  refl,
)

are_lines : (ps : List (List ℕ × FieldValue)) → All (λ p. IsHeaderName p.0) ps → All (λ p. IsFieldValue p.1.bytes) ps → All IsLine (map line_in ps)
are_lines ps names values k d lt =
    let inside : length (map line_in ps) ≡ length ps = length-map ps line_in in
    let low : k < length ps = omega arith in
    let none : List ℕ × FieldValue = ([], plain_value []) in
    let at_k : get_or (map line_in ps) k d ≡ line_in (get_or ps k none) = get_or-map line_in ps k none d low in
    rw at_k ((names k none low).0, values k none low)

pub written_spelled : (h : ResponseHeader) → IsHead h → IsCountable h.headers → SpellsHead (plain_head h) (written_head h)
unfolding written_head
written_spelled h is fits =
    let ps = pairs h.headers in
    let same : map_of (map line_in ps) ≡ plain_values h.headers = map_of-lines h.headers is.map is.names in
    let most : length h.headers ≤ 24576 = is.map.names_fit in
    let below : h.status < 2 ^ 64 = omega (arith, is.status.1) in
    record {
      lines = map line_in ps;
      are_lines = are_lines ps is.names is.values;
      room = rw (same, length-map) most;
      headers = sym same;
      status = is.status;
      spelled = (
        shortest arrays 2,
        shortest numbers h.status ++ lines_of h.headers,
        array_spelled 2 (omega arith),
        (
          shortest numbers h.status,
          lines_of h.headers,
          number_spelled h.status below,
          (shortest arrays (length ps), flat_map line_of ps, rw length-map (array_spelled (length ps) fits.lines), lines_spelled ps is.names fits.values, refl),
          refl,
        ),
        refl,
      );
    }

pub written_again : (h : ResponseHeader) (rest : List ℕ) → IsHead h → IsCountable h.headers → head_at (written_head h ++ rest) ≡ Ok (plain_head h, rest)
written_again h rest is fits = head_agrees.again (plain_head h) (written_head h) rest (written_spelled h is fits)
