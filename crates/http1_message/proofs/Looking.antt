-- What an earlier look for the end of a head has passed needs no second one.
use Rattle.std.proofs.Common.{◌≡◌, ℕ, ◌+◌, ◌≤◌, Bool, true, false, cond, List, [], ◌∷◌, ◌++◌, length, take, drop, reverse, refl, sym, ap, ◌∙◌, arith, append_assoc}
use Rattle.std.specs.Prelude.{Option, Some, None, ◌==◌, ◌&&◌}
use Rattle.std.proofs.lemmas.List.{take-append-drop, length-take-le, append-nil, reverse-append}
use Rattle.http1_message_parts.specs.End.{ends_head, end_from, end_behind, head_end}

turned : (b : ℕ) (front passed : List ℕ) → reverse front ++ (b ∷ passed) ≡ reverse (b ∷ front) ++ passed
turned b front passed =
    sym (append_assoc (reverse front) (b ∷ []) passed)
    ∙ ap (λ (l : List ℕ). l ++ passed) (sym (reverse-append (b ∷ []) front))

-- where no head ends in the front, the first that ends is the first behind the front
pub behind_front : (n : ℕ) (passed front text : List ℕ) → end_from n passed front ≡ None → end_from n passed (front ++ text) ≡ end_from (n + length front) (reverse front ++ passed) text
behind_front n passed [] text h = ap (λ k. end_from k passed text) (omega arith)
behind_front n passed (b ∷ front) text h = go (b == 10 && ends_head passed) h (behind_front (n + 1) (b ∷ passed) front text)
  where
    go : (t : Bool) → cond t (Some (n + 1)) (end_from (n + 1) (b ∷ passed) front) ≡ None
        → (end_from (n + 1) (b ∷ passed) front ≡ None → end_from (n + 1) (b ∷ passed) (front ++ text) ≡ end_from (n + 1 + length front) (reverse front ++ (b ∷ passed)) text)
        → cond t (Some (n + 1)) (end_from (n + 1) (b ∷ passed) (front ++ text)) ≡ end_from (n + length (b ∷ front)) (reverse (b ∷ front) ++ passed) text
    go true k ih = absurd (cc)
    go false k ih =
        ih k
        ∙ ap (λ (m : ℕ). end_from m (reverse front ++ (b ∷ passed)) text) (omega arith)
        ∙ ap (λ (l : List ℕ). end_from (n + length (b ∷ front)) l text) (turned b front passed)

pub looks_on : (bytes : List ℕ) (from : ℕ) → from ≤ length bytes → head_end (take from bytes) ≡ None → end_behind from bytes ≡ head_end bytes
looks_on bytes from le h =
    let whole : take from bytes ++ drop from bytes ≡ bytes = take-append-drop from bytes in
    let far : length (take from bytes) ≡ from = length-take-le from bytes le in
    sym (
    ap (λ (l : List ℕ). end_from 0 [] l) (sym whole)
    ∙ behind_front 0 [] (take from bytes) (drop from bytes) h
    ∙ ap (λ (l : List ℕ). end_from (0 + length (take from bytes)) l (drop from bytes)) (append-nil (reverse (take from bytes)))
    ∙ ap (λ (m : ℕ). end_from m (reverse (take from bytes)) (drop from bytes)) (omega (arith, far))
    )
