-- A request that is read has at most one Host.
use Rattle.std.proofs.Common.{◌≡◌, ℕ, ◌+◌, ◌≤◌, ◌<◌, Bool, true, false, cond, not, List, [], ◌∷◌, ◌++◌, length, refl, sym, ap, ◌∙◌, suc, arith}
use Rattle.std.specs.Prelude.{Option, Some, None, Result, Ok, Err, filter, map, codes, nat_lt, is_some, ◌==◌}
use Rattle.std.proofs.lemmas.Bool.{ltb-false}
use Rattle.rules_fields.specs.Texts.{small}
use Rattle.rules_fields.specs.Fields.{Field, is_named, all, without}
use Rattle.rules_fields.specs.Rows.{first_true}
use Rattle.rules_fields.specs.Types.{Chosen}
use Rattle.rules_fields.specs.declared.types.Framing.{Framing}
use Rattle.http1_message_parts.specs.declared.reason.Reason.{Reason}
use Rattle.http1_message_parts.specs.Target.{Absolute, absolute, place_refusal, place_rows}
use Rattle.http1_message_parts.specs.EndToEnd.{end_to_end}
use Rattle.http1_message_parts.specs.Start.{RequestLine}
use Rattle.http1_message.specs.Cookies.{made_line, kept_cookies}
use Rattle.http1_message.specs.Encodings.{encodings_of}
use Rattle.http1_message.specs.Request.{ReadRequest, unless, left_if, left_of, own_lines, placed}

-- a filter leaves no more lines of a name
fewer : (keep : Field → Bool) (name : List ℕ) (lines : List Field) → length (all name (filter keep lines)) ≤ length (all name lines)
fewer keep name [] = omega arith
fewer keep name (f ∷ lines) = go (keep f) (is_named name f) refl (fewer keep name lines)
  where
    go : (t u : Bool) → is_named name f ≡ u → length (all name (filter keep lines)) ≤ length (all name lines) → length (all name (cond t (f ∷ filter keep lines) (filter keep lines))) ≤ length (map (λ f. f.1) (cond u (f ∷ filter (is_named name) lines) (filter (is_named name) lines)))
    go true true e h = rw e (omega (arith, h))
    go true false e h = rw e h
    go false true e h = omega (arith, h)
    go false false e h = h

-- lines behind others bring those that they have
counts : (name : List ℕ) (lines more : List Field) → length (all name (lines ++ more)) ≡ length (all name lines) + length (all name more)
counts name [] more = omega arith
counts name (f ∷ lines) more = go (is_named name f) (counts name lines more)
  where
    go : (t : Bool) → length (all name (lines ++ more)) ≡ length (all name lines) + length (all name more)
        → length (map (λ f. f.1) (cond t (f ∷ filter (is_named name) (lines ++ more)) (filter (is_named name) (lines ++ more)))) ≡ length (map (λ f. f.1) (cond t (f ∷ filter (is_named name) lines) (filter (is_named name) lines))) + length (all name more)
    go true h = omega (arith, h)
    go false h = h

no_host_in_cookies : (text : List ℕ) → length (all (codes "host") (made_line (codes "Cookie") text)) ≡ 0
no_host_in_cookies [] = refl
no_host_in_cookies (b ∷ text) = refl

no_host_in_codings : (text : List ℕ) → length (all (codes "host") (made_line (codes "Accept-Encoding") text)) ≡ 0
no_host_in_codings [] = refl
no_host_in_codings (b ∷ text) = refl

fewer_if : (t : Bool) (name : List ℕ) (lines : List Field) → length (all (codes "host") (left_if t name lines)) ≤ length (all (codes "host") lines)
fewer_if true name lines = fewer _ (codes "host") lines
fewer_if false name lines = omega arith

fewer_of : (o : Chosen) (lines : List Field) → length (all (codes "host") (left_of o lines)) ≤ length (all (codes "host") lines)
fewer_of o lines =
    let inner = left_if (is_some o.cookie_keeps) (codes "cookie") lines in
    let outer : length (all (codes "host") (left_of o lines)) ≤ length (all (codes "host") inner) = fewer_if (not (length o.encodings == 0)) (codes "accept-encoding") inner in
    let cookies : length (all (codes "host") inner) ≤ length (all (codes "host") lines) = fewer_if (is_some o.cookie_keeps) (codes "cookie") lines in
    omega (arith, outer, cookies)

-- what is written anew is no Host
pub own_hosts : (o : Chosen) (lines : List Field) → length (all (codes "host") (own_lines o lines)) ≤ length (all (codes "host") (end_to_end lines))
own_hosts o lines =
    let left = without o.drops (end_to_end lines) in
    let cookies = made_line (codes "Cookie") (kept_cookies o.cookie_keeps left) in
    let codings = made_line (codes "Accept-Encoding") (encodings_of o.encodings left) in
    let first : length (all (codes "host") ((left_of o left ++ cookies) ++ codings)) ≡ length (all (codes "host") (left_of o left ++ cookies)) + length (all (codes "host") codings) = counts (codes "host") (left_of o left ++ cookies) codings in
    let second : length (all (codes "host") (left_of o left ++ cookies)) ≡ length (all (codes "host") (left_of o left)) + length (all (codes "host") cookies) = counts (codes "host") (left_of o left) cookies in
    let third : length (all (codes "host") cookies) ≡ 0 = no_host_in_cookies (kept_cookies o.cookie_keeps left) in
    let fourth : length (all (codes "host") codings) ≡ 0 = no_host_in_codings (encodings_of o.encodings left) in
    let few : length (all (codes "host") (left_of o left)) ≤ length (all (codes "host") left) = fewer_of o left in
    let fewest : length (all (codes "host") left) ≤ length (all (codes "host") (end_to_end lines)) = fewer _ (codes "host") (end_to_end lines) in
    let whole : length (all (codes "host") ((left_of o left ++ cookies) ++ codings)) ≤ length (all (codes "host") (end_to_end lines)) = omega (arith, first, second, third, fourth, few, fewest) in
    whole

abbrev pub first_holds : List (Reason × Bool) → Bool
first_holds [] = false
first_holds (row ∷ rows) = row.1

no_first : (rows : List (Reason × Bool)) → first_true rows ≡ None → first_holds rows ≡ false
no_first [] h = refl
no_first (row ∷ rows) h = go row.1 refl h
  where
    go : (t : Bool) → row.1 ≡ t → cond t (Some row.0) (first_true rows) ≡ None → row.1 ≡ false
    go true e k = cc
    go false e k = e

no_refusal : (method target : List ℕ) (minor : ℕ) (hosts : List (List ℕ)) (form : Option Absolute) (o : Chosen) → place_refusal method target minor hosts form o ≡ None → length hosts ≤ 1
unfolding place_refusal
no_refusal method target minor hosts form o h = ltb-false 1 (length hosts) (no_first (place_rows method target minor hosts form o) h)

given : (refusal : Option Reason) (a r : ReadRequest) → unless refusal a ≡ Ok r → (refusal ≡ None) × (a ≡ r)
given None a r e = (refl, cc)
given (Some reason) a r e = absurd (cc)

pub one_host : (line : RequestLine) (lines : List Field) (o : Chosen) (f : Framing) (r : ReadRequest) → placed line lines o f ≡ Ok r → length (all (codes "host") r.0.lines) ≤ 1
unfolding placed
one_host line lines o f r e =
    let g = given _ _ r e in
    let few : length (all (codes "host") (end_to_end lines)) ≤ length (all (codes "host") lines) = fewer _ (codes "host") lines in
    let left : length (all (codes "host") (own_lines o lines)) ≤ length (all (codes "host") (end_to_end lines)) = own_hosts o lines in
    let same : own_lines o lines ≡ r.0.lines = ap (λ (x : ReadRequest). x.0.lines) g.1 in
    let at : length (all (codes "host") lines) ≤ 1 = no_refusal _ _ _ _ _ _ g.0 in
    rw (sym same) (omega (arith, few, left, at))
