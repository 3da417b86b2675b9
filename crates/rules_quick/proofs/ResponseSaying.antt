-- What the lines of a plain response say of its body and its connection.
use Rattle.std.proofs.Common.{◌≡◌, ℕ, ◌≤◌, ◌==◌, ◌||◌, ◌&&◌, not, cond, Bool, true, false, List, [], ◌∷◌, refl, ap, ◌∙◌}
use Rattle.std.specs.Prelude.{map, filter, find, bytes_eq, codes, is_some, Option, Some, None, option_map, option_and_then, Result, Ok, Err}
use Rattle.std.specs.List.{list_any, flat_map}
use Rattle.std.proofs.lemmas.Bool.{and_parts, le-ltb, not-true}
use Rattle.std.proofs.lemmas.Slice.Eq.{bytes_eq-Decides}
use Rattle.httparse.specs.Grammar.{is_token_byte, is_token}
use Rattle.rules_fields.specs.Texts.{small, trimmed}
use Rattle.rules_fields.specs.Fields.{Field, is_named, all, has_line, elements_of}
use Rattle.rules_fields.specs.declared.types.Framing.{Framing}
use Rattle.rules_fields.specs.declared.types.Framing.TheVariants.{Length, Chunked, Close}
use Rattle.http1_message_parts.specs.declared.reason.Reason.{Reason}
use Rattle.http1_message_parts.specs.declared.reason.Reason.TheVariants.{BadCoding, UnknownCoding}
use Rattle.http1_message_parts.specs.Body.{length_of, sized, by_codings, framing}
use Rattle.http1_message.specs.Response.{response_framing, is_till_close, closes}
use Rattle.rules_quick.specs.Plain.{is_plain_connection, says_close}
use Rattle.rules_quick.specs.PlainResponses.{framing_by, plain_framing, has_any, ends}
use Rattle.rules_quick.proofs.Saying.{connection_is, Connection, nothing, stays, ends as ends_it}

-- a line is there where a value is
pub there : (name : List ℕ) (lines : List Field) → has_line name lines ≡ has_any (all name lines)
there name [] = refl
there name (f ∷ lines) = go (is_named name f) (there name lines)
  where
    go : (t : Bool) → has_line name lines ≡ has_any (all name lines)
        → is_some (option_map (λ g. g.1) (cond t (Some f) (find (is_named name) lines))) ≡ has_any (map (λ g. g.1) (cond t (f ∷ filter (is_named name) lines) (filter (is_named name) lines)))
    go true h = refl
    go false h = h

abbrev to_ok : Option Framing → Result Framing Reason
to_ok None = Err BadCoding
to_ok (Some f) = Ok f

chunked : elements_of (codes "chunked") ≡ codes "chunked" ∷ []
unfolding trimmed
chunked = refl

token : is_token (codes "chunked") ≡ true
unfolding is_token_byte
token = refl

chunked_alone : by_codings UnknownCoding (flat_map elements_of (codes "chunked" ∷ [])) ≡ Ok Chunked
chunked_alone = rw chunked (rw token refl)

till_close : (minor : ℕ) (lines : List Field) → has_line (codes "transfer-encoding") lines ≡ false → all (codes "content-length") lines ≡ [] → framing minor lines Close UnknownCoding ≡ Ok Close
till_close minor lines c a = rw (c, a) refl

sized_by : (minor : ℕ) (lines : List Field) (v : List ℕ) → has_line (codes "transfer-encoding") lines ≡ false → all (codes "content-length") lines ≡ v ∷ []
    → framing minor lines Close UnknownCoding ≡ sized (option_and_then (λ n. Some n) (length_of v))
sized_by minor lines v c a = rw (c, a) refl

chunked_by : (minor : ℕ) (lines : List Field) → has_line (codes "transfer-encoding") lines ≡ true → all (codes "content-length") lines ≡ [] → all (codes "transfer-encoding") lines ≡ codes "chunked" ∷ []
    → (minor == 0) ≡ false → framing minor lines Close UnknownCoding ≡ Ok Chunked
chunked_by minor lines c a b m = rw (c, a, m) (ap (λ (vs : List (List ℕ)). by_codings UnknownCoding (flat_map elements_of vs)) b ∙ chunked_alone)

of_length : (x : Option ℕ) (f : Framing) → option_map Length x ≡ Some f → sized (option_and_then (λ n. Some n) x) ≡ Ok f
of_length None f h = cc
of_length (Some n) f h = ap to_ok h

-- what was picked was tested
picked : (t : Bool) (x f : Framing) → cond t (Some x) None ≡ Some f → (t ≡ true) × (Some x ≡ Some f)
picked true x f h = (refl, h)
picked false x f h = cc

framing_is : (minor : ℕ) (lines : List Field) (lengths codings : List (List ℕ)) (f : Framing) → all (codes "content-length") lines ≡ lengths → all (codes "transfer-encoding") lines ≡ codings
    → framing_by minor lengths codings ≡ Some f → framing minor lines Close UnknownCoding ≡ Ok f
framing_is minor lines [] [] f a b e = till_close minor lines (there (codes "transfer-encoding") lines ∙ ap has_any b) a ∙ ap to_ok e
framing_is minor lines (v ∷ []) [] f a b e = sized_by minor lines v (there (codes "transfer-encoding") lines ∙ ap has_any b) a ∙ of_length (length_of v) f e
framing_is minor lines [] (c ∷ []) f a b e =
    let p = picked (not (minor == 0) && bytes_eq c (codes "chunked")) Chunked f e in
    let q = and_parts (not (minor == 0)) (bytes_eq c (codes "chunked")) p.0 in
    chunked_by minor lines (there (codes "transfer-encoding") lines ∙ ap has_any b) a (b ∙ ap (λ (x : List ℕ). x ∷ []) ((bytes_eq-Decides c (codes "chunked")).0 q.1)) (not-true (minor == 0) q.0)
    ∙ ap to_ok p.1
framing_is minor lines [] (c ∷ d ∷ codings) f a b e = cc
framing_is minor lines (v ∷ []) (c ∷ codings) f a b e = cc
framing_is minor lines (v ∷ w ∷ lengths) [] f a b e = cc
framing_is minor lines (v ∷ w ∷ lengths) (c ∷ codings) f a b e = cc

-- how the body of a plain response to a GET ends
pub body_ends : (minor status : ℕ) (lines : List Field) (lengths codings : List (List ℕ)) (f : Framing) → 200 ≤ status → all (codes "content-length") lines ≡ lengths → all (codes "transfer-encoding") lines ≡ codings
    → plain_framing minor status lengths codings ≡ Some f → response_framing (codes "GET") minor status lines ≡ Ok f
body_ends minor status lines lengths codings f le a b e =
    ap (λ (t : Bool). cond (t || status == 204 || status == 304) (Ok Framing.None) (framing minor lines Close UnknownCoding)) (le-ltb status 200 le) ∙ go (status == 204 || status == 304) e
  where
    go : (t : Bool) → cond t (Some Framing.None) (framing_by minor lengths codings) ≡ Some f → cond t (Ok Framing.None) (framing minor lines Close UnknownCoding) ≡ Ok f
    go true h = ap to_ok h
    go false h = framing_is minor lines lengths codings f a b h

closed_by : (values : List (List ℕ)) → Connection values → list_any (λ t. bytes_eq t (codes "close")) (map small (flat_map elements_of values)) ≡ says_close values
closed_by values (nothing n) = rw n refl
closed_by values (stays v n c l s) = rw n (rw (c, l) (rw s refl))
closed_by values (ends_it n l) = rw n (rw l refl)

-- whether the connection ends behind it
pub ends_are : (minor : ℕ) (lines : List Field) (f : Framing) → is_plain_connection (all (codes "connection") lines) ≡ true → closes minor lines f ≡ ends minor (says_close (all (codes "connection") lines)) f
ends_are minor lines f c = ap (λ (t : Bool). minor == 0 || t || is_till_close f) (closed_by (all (codes "connection") lines) (connection_is (all (codes "connection") lines) c))
