-- Bytes that are written piece by piece.
use Rattle.std.proofs.Common.{◌≡◌, ◌∙◌, ap, sym, ℕ, ◌+◌, ◌*◌, min, List, [], ◌∷◌, ◌++◌, length, take, drop, arith}
use Rattle.std.specs.Prelude.{map}
use Rattle.std.specs.List.{fold, range_with_len}
use Rattle.std.proofs.lemmas.List.{take_at, drop_at, take_min, drop_min, drop-drop}
use Rattle.std.proofs.lemmas.List.Sums.{fold-append}
use Rattle.std.proofs.lemmas.List.FromFn.{map-range_with_len_more}
use Rattle.seeded_hashing.specs.Pieces.{piece}

-- after n pieces the first eight bytes of the rest, or all of it, are the next piece
pub next_piece : (bytes rest x more : List ℕ) (n : ℕ) → rest ≡ drop (n * 8) bytes → rest ≡ x ++ more → length x ≡ min 8 (length rest) → x ≡ piece bytes n
next_piece bytes rest x more n is_rest split len =
    sym (take_at x more (min 8 (length rest)) len) ∙ ap (take (min 8 (length rest))) (sym split) ∙ take_min 8 rest ∙ ap (take 8) is_rest

-- and what follows it is the rest after n + 1
pub next_rest : (bytes rest x more : List ℕ) (n : ℕ) → rest ≡ drop (n * 8) bytes → rest ≡ x ++ more → length x ≡ min 8 (length rest) → more ≡ drop ((n + 1) * 8) bytes
next_rest bytes rest x more n is_rest split len =
    let one_more : n * 8 + 8 ≡ (n + 1) * 8 = omega arith in
    sym (drop_at x more (min 8 (length rest)) len) ∙ ap (drop (min 8 (length rest))) (sym split) ∙ drop_min 8 rest ∙ ap (drop 8) is_rest
    ∙ drop-drop 8 (n * 8) bytes ∙ ap (λ k. drop k bytes) one_more

-- one piece more is written
pub piece_written : {S : Type 0} (write : S → List ℕ → S) (s t u : S) (bytes : List ℕ) (n : ℕ) (x : List ℕ)
    → t ≡ fold write s (map (piece bytes) (range_with_len 0 n)) → x ≡ piece bytes n → u ≡ write t x
    → u ≡ fold write s (map (piece bytes) (range_with_len 0 (n + 1)))
piece_written write s t u bytes n x so_far is_piece written =
    written ∙ ap (λ r. write r x) so_far ∙ ap (write (fold write s (map (piece bytes) (range_with_len 0 n)))) is_piece
    ∙ sym (fold-append write s (map (piece bytes) (range_with_len 0 n)) (piece bytes n ∷ []))
    ∙ ap (fold write s) (sym (map-range_with_len_more (piece bytes) 0 n n (omega arith)))
