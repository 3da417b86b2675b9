-- The first step of a text whose percent-codes are folded.
use Rattle.std.proofs.Common.{◌≡◌, ℕ, ◌<◌, List, [], ◌∷◌, ◌++◌, refl, true, false, length, drop, get_or, arith}
use Rattle.rules_reuse.specs.Keys.{folded, starts_code, plain_code}

pub folded-code : (text : List ℕ) → starts_code text ≡ true → folded text ≡ plain_code (get_or text 1 0) (get_or text 2 0) ++ folded (drop 3 text)
folded-code [] e = cc
folded-code (a ∷ []) e = cc
folded-code (a ∷ b ∷ []) e = cc
folded-code (a ∷ b ∷ c ∷ text) e = rw e refl

pub folded-other : (text : List ℕ) → starts_code text ≡ false → 0 < length text → folded text ≡ get_or text 0 0 ∷ folded (drop 1 text)
folded-other [] e l = absurd (omega (arith, l))
folded-other (a ∷ []) e l = refl
folded-other (a ∷ b ∷ []) e l = refl
folded-other (a ∷ b ∷ c ∷ text) e l = rw e refl
