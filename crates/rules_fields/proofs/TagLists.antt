-- One tag of a list, and what follows it.
use Rattle.std.proofs.Common.{◌≡◌, ℕ, ◌-◌, ◌<◌, ◌==◌, suc, false, List, [], ◌∷◌, ◌++◌, length, sym, ap, ◌∙◌, arith}
use Rattle.std.specs.Prelude.{Option, Some, option_map, option_and_then}
use Rattle.std.specs.Borrow.{Bor}
use Rattle.rules_fields.specs.declared.tags.Tag.{Tag}
use Rattle.rules_fields.specs.Texts.{skip_blanks}
use Rattle.rules_fields.specs.Tags.{TagValue, tag_at, behind_comma, tags_within}
use Rattle.rules_fields.specs.TagValues.{tag_value}

abbrev pub Lent : Type 0
Lent = Tag × Bor (List ℕ)

abbrev pub rest_of : ℕ → List TagValue → Option (List ℕ) → Option (List TagValue)
rest_of n found rest = option_and_then (λ rest. tags_within n found rest) rest

abbrev pub tagged : ℕ → List TagValue → Option (TagValue × List ℕ) → Option (List TagValue)
tagged n found tag = option_and_then (λ t. rest_of n (found ++ t.0 ∷ []) (behind_comma (skip_blanks t.1))) tag

one_tag : (n : ℕ) (found : List TagValue) (text : List ℕ) → 0 < n → (length text == 0) ≡ false → tags_within n found text ≡ tagged (n - 1) found (tag_at text)
one_tag n found [] h e = cc
one_tag n found (b ∷ text) h e = let s : n ≡ suc (n - 1) = omega (arith, h) in ap (λ (k : ℕ). tags_within k found (b ∷ text)) s

-- what is left to read is read as what follows the tag and its comma
pub goes_on : (n : ℕ) (found : List TagValue) (text : List ℕ) (t : Lent) (tag : Option Lent) (left : Bor (List ℕ)) (rest : Option (Bor (List ℕ))) → 0 < n → (length text == 0) ≡ false → option_map (λ t. (tag_value t.0, t.1.now)) tag ≡ tag_at text → tag ≡ Some t → option_map (λ r. r.now) rest ≡ behind_comma (skip_blanks t.1.now) → rest ≡ Some left → tags_within n found text ≡ tags_within (n - 1) (found ++ tag_value t.0 ∷ []) left.now
goes_on n found text t tag left rest h e et eo er es =
    one_tag n found text h e
    ∙ ap (tagged (n - 1) found) (sym et ∙ ap (λ (o : Option Lent). option_map (λ t. (tag_value t.0, t.1.now)) o) eo)
    ∙ ap (rest_of (n - 1) (found ++ tag_value t.0 ∷ [])) (sym er ∙ ap (λ (o : Option (Bor (List ℕ))). option_map (λ r. r.now) o) es)
