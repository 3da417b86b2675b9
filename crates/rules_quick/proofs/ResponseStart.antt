-- The status line of a response that is read.
use Rattle.std.proofs.Common.{◌≡◌, ℕ, ◌==◌, ◌&&◌, not, cond, Bool, true, false, List, [], ◌∷◌, ◌++◌, take, drop, refl, sym, ap, ◌∙◌}
use Rattle.std.specs.Prelude.{bytes_eq, codes, Ok, Err}
use Rattle.std.specs.List.{list_all}
use Rattle.std.specs.Char.{is_ascii_digit}
use Rattle.std.proofs.lemmas.Bool.{and_parts, and_from, eqb-true}
use Rattle.std.proofs.lemmas.List.{take-append-drop}
use Rattle.std.proofs.lemmas.Slice.Eq.{bytes_eq-Decides}
use Rattle.httparse.specs.Grammar.{is_value_byte}
use Rattle.http1_message_parts.specs.declared.reason.Reason.{Reason}
use Rattle.http1_message_parts.specs.declared.reason.Reason.TheVariants.{BadStatusLine}
use Rattle.http1_message_parts.specs.Start.{is_status, is_reason, status_from, status_line}
use Rattle.rules_quick.proofs.Rows.{is_inner, is_row}
use Rattle.rules_quick.proofs.Written.{inner_by, all_inner}

-- what was answered was tested
tested : {A : Type 0} (t : Bool) (x y : A) (r : Reason) → cond t (Ok x) (Err r) ≡ Ok y → t ≡ true
tested true x y r h = refl
tested false x y r h = cc

digit : (b : ℕ) → is_ascii_digit b ≡ true → is_inner b ≡ true
digit b h = inner_by is_ascii_digit b refl refl h

space : (b : ℕ) → (b == 32) ≡ true → is_inner b ≡ true
space b h = rw (eqb-true b 32 h) refl

phrase_inner : (text : List ℕ) → is_reason text ≡ true → list_all is_inner text ≡ true
phrase_inner [] h = refl
phrase_inner (b ∷ phrase) h =
    let p = and_parts (b == 32) (list_all is_value_byte phrase) h in
    and_from (is_inner b) (list_all is_inner phrase) (space b p.0) (all_inner is_value_byte phrase refl refl p.1)

status_inner : (a b c : ℕ) (reason : List ℕ) → is_status a b c ≡ true → is_reason reason ≡ true → list_all is_inner (a ∷ b ∷ c ∷ reason) ≡ true
status_inner a b c reason s r =
    let p = and_parts (is_ascii_digit a && not (a == 48) && is_ascii_digit b) (is_ascii_digit c) s in
    let q = and_parts (is_ascii_digit a && not (a == 48)) (is_ascii_digit b) p.0 in
    let o = and_parts (is_ascii_digit a) (not (a == 48)) q.0 in
    and_from (is_inner a) (list_all is_inner (b ∷ c ∷ reason)) (digit a o.0)
    (and_from (is_inner b) (list_all is_inner (c ∷ reason)) (digit b q.1) (and_from (is_inner c) (list_all is_inner reason) (digit c p.1) (phrase_inner reason r)))

from_inner : (text : List ℕ) (line : ℕ × ℕ) → status_from text ≡ Ok line → list_all is_inner text ≡ true
from_inner [] line h = cc
from_inner (m ∷ []) line h = cc
from_inner (m ∷ s ∷ []) line h = cc
from_inner (m ∷ s ∷ a ∷ []) line h = cc
from_inner (m ∷ s ∷ a ∷ b ∷ []) line h = cc
from_inner (m ∷ s ∷ a ∷ b ∷ c ∷ reason) line h =
    let t = tested (is_ascii_digit m && s == 32 && is_status a b c && is_reason reason) _ line BadStatusLine h in
    let p = and_parts (is_ascii_digit m && s == 32 && is_status a b c) (is_reason reason) t in
    let q = and_parts (is_ascii_digit m && s == 32) (is_status a b c) p.0 in
    let o = and_parts (is_ascii_digit m) (s == 32) q.0 in
    and_from (is_inner m) (list_all is_inner (s ∷ a ∷ b ∷ c ∷ reason)) (digit m o.0)
    (and_from (is_inner s) (list_all is_inner (a ∷ b ∷ c ∷ reason)) (space s o.1) (status_inner a b c reason q.1 p.1))

-- it has no CR and no LF
pub start_row : (row : List ℕ) (line : ℕ × ℕ) → status_line row ≡ Ok line → is_row row ≡ true
start_row row line h = go (bytes_eq (take 7 row) (codes "HTTP/1.")) refl h
  where
    go : (t : Bool) → bytes_eq (take 7 row) (codes "HTTP/1.") ≡ t → cond t (status_from (drop 7 row)) (Err BadStatusLine) ≡ Ok line → is_row row ≡ true
    go true e k =
        let whole : row ≡ codes "HTTP/1." ++ drop 7 row = sym (take-append-drop 7 row) ∙ ap (λ (x : List ℕ). x ++ drop 7 row) ((bytes_eq-Decides (take 7 row) (codes "HTTP/1.")).0 e) in
        ap is_row whole ∙ from_inner (drop 7 row) line k
    go false e k = cc
