-- The pieces of an answer by their numbers.
use Rattle.std.proofs.Common.{◌≡◌, ◌≢◌, ◌==◌, refl, ap, ◌∙◌, ℕ, zero, suc, ◌+◌, ◌*◌, ◌/◌, ◌%◌, ◌<◌, Bool, true, false, cond, List, [], ◌∷◌, length, get_or, arith}
use Rattle.std.proofs.lemmas.Bool.{eqb-true, eqb-false}
use Rattle.gateway_frames.specs.declared.parts.Part.{Part}
use Rattle.gateway_frames.specs.declared.parts.PartPiece.{PartPiece}
use Rattle.gateway_frames.specs.Parts.{body_piece, part_pieces}

abbrev pub at : ℕ → ℕ → List Part → ℕ → PartPiece
at first len parts number = get_or (part_pieces first len parts) number PartPiece.End

-- two numbers further is one part further
further : (first len : ℕ) (p : Part) (parts : List Part) (n m : ℕ) → n ≡ suc (suc m) → at first len (p ∷ parts) n ≡ at (first + 1) len parts m
further first len p parts n m e = ap (at first len (p ∷ parts)) e

pub text_at : (parts : List Part) (first len i n : ℕ) → i < length parts → n ≡ 2 * i → at first len parts n ≡ PartPiece.Before (first + i)
text_at [] first len i n h e = absurd (omega arith)
text_at (p ∷ parts) first len zero n h e =
    ap (at first len (p ∷ parts)) e ∙ ap PartPiece.Before (let k : first ≡ first + 0 = omega arith in k)
text_at (p ∷ parts) first len (suc i) n h e =
    let m : n ≡ suc (suc (2 * i)) = omega arith in
    further first len p parts n (2 * i) m ∙ text_at parts (first + 1) len i (2 * i) (omega arith) refl
    ∙ ap PartPiece.Before (let k : first + 1 + i ≡ first + suc i = omega arith in k)

pub body_at : (parts : List Part) (first len i n : ℕ) (d : Part) → i < length parts → n ≡ 2 * i + 1
    → at first len parts n ≡ body_piece len (get_or parts i d)
body_at [] first len i n d h e = absurd (omega arith)
body_at (p ∷ parts) first len zero n d h e = ap (at first len (p ∷ parts)) e
body_at (p ∷ parts) first len (suc i) n d h e =
    let m : n ≡ suc (suc (2 * i + 1)) = omega arith in
    further first len p parts n (2 * i + 1) m ∙ body_at parts (first + 1) len i (2 * i + 1) d (omega arith) refl

pub after_at : (parts : List Part) (first len n : ℕ) → n ≡ 2 * length parts → at first len parts n ≡ PartPiece.After
after_at [] first len n e = ap (at first len []) e
after_at (p ∷ parts) first len n e =
    let m : n ≡ suc (suc (2 * length parts)) = omega arith in
    further first len p parts n (2 * length parts) m ∙ after_at parts (first + 1) len (2 * length parts) refl

pub end_at : (parts : List Part) (first len n : ℕ) → 2 * length parts < n → at first len parts n ≡ PartPiece.End
end_at [] first len zero h = absurd (omega arith)
end_at [] first len (suc n) h = refl
end_at (p ∷ parts) first len zero h = absurd (omega arith)
end_at (p ∷ parts) first len (suc zero) h = absurd (omega arith)
end_at (p ∷ parts) first len (suc (suc n)) h = end_at parts (first + 1) len n (omega arith)

-- a text or a part, by whether the number is even
pub some_at : (parts : List Part) (len n : ℕ) (d : Part) → n / 2 < length parts
    → at 0 len parts n ≡ cond (n % 2 == 0) (PartPiece.Before (n / 2)) (body_piece len (get_or parts (n / 2) d))
some_at parts len n d h = go (n % 2 == 0) refl
  where
    go : (t : Bool) → (n % 2 == 0) ≡ t → at 0 len parts n ≡ cond t (PartPiece.Before (n / 2)) (body_piece len (get_or parts (n / 2) d))
    go true e =
        let even : n % 2 ≡ 0 = eqb-true (n % 2) 0 e in
        text_at parts 0 len (n / 2) n h (omega arith) ∙ ap PartPiece.Before (let k : 0 + n / 2 ≡ n / 2 = omega arith in k)
    go false e =
        let odd : n % 2 ≢ 0 = eqb-false (n % 2) 0 e in
        body_at parts 0 len (n / 2) n d h (omega arith)
