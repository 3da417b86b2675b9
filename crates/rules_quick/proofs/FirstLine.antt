-- The request line of a plain request.
use Rattle.std.proofs.Common.{◌≡◌, ℕ, ◌+◌, ◌==◌, ◌&&◌, not, true, List, [], ◌∷◌, ◌++◌, take, drop, length, refl, ap, ◌∙◌, ◌⊎◌, inl, inr}
use Rattle.std.specs.Prelude.{codes, bytes_eq, Ok}
use Rattle.std.specs.List.{list_all, position_or_len}
use Rattle.std.proofs.lemmas.Bool.{eqb-true, and_parts, and_from, or_cases}
use Rattle.std.proofs.lemmas.List.Folds.{list_all-append}
use Rattle.std.proofs.lemmas.Slice.Eq.{bytes_eq-Decides}
use Rattle.std.proofs.Math.Seq.{take-append_seam, drop-append-add}
use Rattle.httparse.specs.Grammar.{is_token_byte, is_token}
use Rattle.rules_fields.specs.Texts.{is_filled}
use Rattle.http1_message_parts.specs.Start.{is_target_byte, line_from, request_line, skip_empty}
use Rattle.rules_quick.specs.Plain.{is_plain_target, is_plain_method, start_text}
use Rattle.rules_quick.proofs.Rows.{is_inner, is_row}
use Rattle.rules_quick.proofs.Written.{all_inner, place_of}

-- a method is one of two
pub by_method : (P : List ℕ → Type 0) (method : List ℕ) → is_plain_method method ≡ true → P (codes "GET") → P (codes "HEAD") → P method
by_method P method h get head = go (or_cases (bytes_eq method (codes "GET")) (bytes_eq method (codes "HEAD")) h)
  where
    go : (bytes_eq method (codes "GET") ≡ true) ⊎ (bytes_eq method (codes "HEAD") ≡ true) → P method
    go (inl e) = rw ((bytes_eq-Decides method (codes "GET")).0 e) get
    go (inr e) = rw ((bytes_eq-Decides method (codes "HEAD")).0 e) head

-- what a plain target has
pub record PlainTarget (target : List ℕ) : Type 0 where
  pub bytes : list_all is_target_byte target ≡ true
  pub unmarked : list_all (λ b. not (b == 35)) target ≡ true
  pub filled : is_filled target ≡ true

both_parts : (path : List ℕ) → list_all (λ c. is_target_byte c && not (c == 35)) path ≡ true → (list_all is_target_byte path ≡ true) × (list_all (λ b. not (b == 35)) path ≡ true)
both_parts [] h = (refl, refl)
both_parts (b ∷ path) h =
    let p = and_parts (is_target_byte b && not (b == 35)) (list_all (λ c. is_target_byte c && not (c == 35)) path) h in
    let q = and_parts (is_target_byte b) (not (b == 35)) p.0 in
    let r = both_parts path p.1 in
    (and_from (is_target_byte b) (list_all is_target_byte path) q.0 r.0, and_from (not (b == 35)) (list_all (λ b. not (b == 35)) path) q.1 r.1)

pub target_parts : (target : List ℕ) → is_plain_target target ≡ true → PlainTarget target
target_parts [] h = cc
target_parts (b ∷ path) h =
    let p = and_parts (b == 47) (list_all (λ c. is_target_byte c && not (c == 35)) path) h in
    let r = both_parts path p.1 in
    rw (eqb-true b 47 p.0) (record { bytes = r.0; unmarked = r.1; filled = refl })

-- the version of the request line
abbrev version : List ℕ
version = codes "HTTP/1.1"

from_target : (method target : List ℕ) → is_token method ≡ true → PlainTarget target → (n : ℕ) → n ≡ length target
    → line_from method (take n (target ++ (32 ∷ version))) (drop (n + 1) (target ++ (32 ∷ version))) ≡ Ok (record { method = method; target = target; minor = 1 })
from_target method target t p n e =
    ap (λ (m : ℕ). line_from method (take m (target ++ (32 ∷ version))) (drop (m + 1) (target ++ (32 ∷ version)))) e
    ∙ ap (λ (x : List ℕ). line_from method x (drop (length target + 1) (target ++ (32 ∷ version)))) (take-append_seam target (32 ∷ version))
    ∙ ap (λ (x : List ℕ). line_from method target x) (drop-append-add target (32 ∷ version) 1)
    ∙ rw (t, p.filled, p.bytes) refl

get_token : is_token (codes "GET") ≡ true
unfolding is_token_byte
get_token = refl

head_token : is_token (codes "HEAD") ≡ true
unfolding is_token_byte
head_token = refl

pub start_back : (method target : List ℕ) → is_plain_method method ≡ true → is_plain_target target ≡ true
    → request_line (start_text method target) ≡ Ok (record { method = method; target = target; minor = 1 })
start_back method target m t =
    let p = target_parts target t in
    let place = place_of is_target_byte 32 target version refl p.bytes in
    by_method (λ x. request_line (start_text x target) ≡ Ok (record { method = x; target = target; minor = 1 })) method m
    (from_target (codes "GET") target get_token p (position_or_len (λ b. b == 32) (target ++ (32 ∷ version))) place)
    (from_target (codes "HEAD") target head_token p (position_or_len (λ b. b == 32) (target ++ (32 ∷ version))) place)

pub start_row : (method target : List ℕ) → is_plain_method method ≡ true → is_plain_target target ≡ true → is_row (start_text method target) ≡ true
start_row method target m t =
    let p = target_parts target t in
    let inner : list_all is_inner (target ++ (32 ∷ version)) ≡ true =
    list_all-append is_inner target (32 ∷ version) ∙ and_from (list_all is_inner target) true (all_inner is_target_byte target refl refl p.bytes) refl in
    by_method (λ x. is_row (start_text x target) ≡ true) method m inner inner

-- no empty line stands in front
pub start_first : (method target rest : List ℕ) → is_plain_method method ≡ true → skip_empty (start_text method target ++ rest) ≡ start_text method target ++ rest
start_first method target rest m = by_method (λ x. skip_empty (start_text x target ++ rest) ≡ start_text x target ++ rest) method m refl refl
