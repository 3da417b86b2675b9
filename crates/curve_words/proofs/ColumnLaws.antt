-- One column or word further.
use Rattle.std.proofs.Common.{◌≡◌, ◌∙◌, ℕ, suc, ◌+◌, ◌==◌, ◌<◌, false, List, [], ◌∷◌, drop, length, refl, ap, sym, arith, rules}
use Rattle.std.specs.List.{prefix_len}
use Rattle.curve_words.specs.Words.{after_word}
use Rattle.curve_words.specs.Columns.{is_within, part_at, word_at}

pub part-more : (d m k : ℕ) (rest after : List ℕ) → k ≡ prefix_len (is_within d) rest → k < length rest → after ≡ drop (k + 1) rest → part_at d (suc m) rest ≡ part_at d m after
part-more d m k rest after is below left =
    let no : prefix_len (is_within d) rest == length rest ≡ false = search (rules, is, below, arith) in
    let same : drop (prefix_len (is_within d) rest + 1) rest ≡ after = ap (λ (n : ℕ). drop (n + 1) rest) (sym is) ∙ sym left in
    rw no (ap (part_at d m) same)

pub word-more : (m : ℕ) (rest after : List ℕ) → 0 < length rest → after ≡ after_word rest → word_at (suc m) rest ≡ word_at m after
word-more m [] after some left = absurd (omega (arith, some))
word-more m (x ∷ xs) after some left = ap (word_at m) (sym left)
