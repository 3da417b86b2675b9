-- Hexadecimal digits, written from the last one on.
use Rattle.std.proofs.Common.{◌≡◌, refl, sym, ap, ◌∙◌, subst, ℕ, zero, suc, ◌≢◌, ◌+◌, ◌/◌, ◌%◌, ◌^◌, ◌<◌, ◌==◌, Bool, true, false, cond, List, [], ◌∷◌, ◌++◌, length, drop, set, arith}
use Rattle.std.proofs.Math.Nat.{pow-suc}
use Rattle.std.proofs.lemmas.List.{drop-set}
use Rattle.std.proofs.lemmas.Bool.{eqb-true}
use Rattle.std.specs.Fmt.{digit_glyph, digits_onto, digits}
use Rattle.gateway_frames.specs.Frames.{size_line, line_end}

-- the digits of a number in front of a text, when so many more have room there
unfoldable pub onto : ℕ → ℕ → List ℕ → List ℕ
onto room n text = digits_onto (48 + room) 16 false n text

in_front : (k n : ℕ) (text behind : List ℕ) → digits_onto k 16 false n (text ++ behind) ≡ digits_onto k 16 false n text ++ behind
in_front zero n text behind = refl
in_front (suc k) n text behind =
    let glyph = digit_glyph false (n % 16) in
    go (n / 16 == 0) (glyph ∷ text) (digits_onto k 16 false (n / 16) (glyph ∷ (text ++ behind))) (digits_onto k 16 false (n / 16) (glyph ∷ text))
    (in_front k (n / 16) (glyph ∷ text) behind)
  where
    go : (t : Bool) (a b c : List ℕ) → b ≡ c ++ behind → cond t (a ++ behind) b ≡ cond t a c ++ behind
    go true a b c h = refl
    go false a b c h = h

pub onto_line : (n : ℕ) → onto 16 n line_end ≡ size_line n
unfolding onto size_line digits
onto_line n = in_front 64 n [] line_end

-- one more digit
pub onto_more : (room n : ℕ) (text : List ℕ)
    → onto (suc room) n text ≡ cond (n / 16 == 0) (digit_glyph false (n % 16) ∷ text) (onto room (n / 16) (digit_glyph false (n % 16) ∷ text))
unfolding onto
onto_more room n text = ap (λ k. digits_onto k 16 false n text) (let e : 48 + suc room ≡ suc (48 + room) = omega arith in e)

-- a number of so many digits has one less when the last one is taken
pub fewer_digits : (room n : ℕ) → n < 16 ^ suc room → n / 16 < 16 ^ room
fewer_digits room n h = omega (arith, h, pow-suc 16 room)

-- where some are left there is room for one
pub some_left : (room n : ℕ) → n < 16 ^ room → n ≢ 0 → 0 < room
some_left zero n h some = absurd (some (omega arith))
some_left (suc room) n h some = omega arith

-- what stands behind a place once a digit was written there
written : (at g : ℕ) (text : List ℕ) → at < length text → drop at (set text at g) ≡ g ∷ drop (suc at) text
written at g text h = drop-set text at g h ∙ ap (λ k. g ∷ drop k text) (let e : at + 1 ≡ suc at = omega arith in e)

by_digit : (from at n g size : ℕ) (text : List ℕ) → from ≡ suc at → at < length text → g ≡ digit_glyph false (n % 16)
    → onto from n (drop from text) ≡ size_line size
    → cond (n / 16 == 0) (drop at (set text at g)) (onto at (n / 16) (drop at (set text at g))) ≡ size_line size
by_digit from at n g size text is_next h is_digit all =
    rw (written at g text h, is_digit) (sym (onto_more at n (drop (suc at) text)) ∙ subst (λ k. onto k n (drop k text) ≡ size_line size) is_next all)

pub last_digit : (from at n g size : ℕ) (text : List ℕ) → from ≡ suc at → at < length text → g ≡ digit_glyph false (n % 16)
    → onto from n (drop from text) ≡ size_line size → n / 16 ≡ 0 → drop at (set text at g) ≡ size_line size
last_digit from at n g size text is_next h is_digit all none =
    let test : (n / 16 == 0) ≡ true = rw none in
    rw test at (by_digit from at n g size text is_next h is_digit all)

pub next_digit : (from at n g size : ℕ) (text : List ℕ) → from ≡ suc at → at < length text → g ≡ digit_glyph false (n % 16)
    → onto from n (drop from text) ≡ size_line size → n / 16 ≢ 0 → onto at (n / 16) (drop at (set text at g)) ≡ size_line size
next_digit from at n g size text is_next h is_digit all some = go (n / 16 == 0) refl (by_digit from at n g size text is_next h is_digit all)
  where
    go : (t : Bool) → (n / 16 == 0) ≡ t → cond t (drop at (set text at g)) (onto at (n / 16) (drop at (set text at g))) ≡ size_line size
        → onto at (n / 16) (drop at (set text at g)) ≡ size_line size
    go true e h = absurd (some (eqb-true (n / 16) 0 e))
    go false e h = h
