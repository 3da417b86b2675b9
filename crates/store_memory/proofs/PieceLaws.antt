-- The ends of pieces, and the bytes from a place on.
use Rattle.std.proofs.Common.{arith, add-one, ◌≡◌, ℕ, zero, suc, ◌+◌, ◌-◌, ◌^◌, ◌<◌, ◌≤◌, List, [], ◌∷◌, ◌++◌, length, take, drop, sym, ap, ◌∙◌, Some, slice_get, get_or}
use Rattle.std.proofs.lemmas.List.{append-nil, length-append, length-drop, take_all, drop-append-le, drop_all}
use Rattle.std.proofs.lemmas.List.Concat.{flat_map-append}
use Rattle.std.proofs.lemmas.Option.{slice_get-get_or}
use Rattle.store_memory.specs.declared.pieces.Piece.{Piece}
use Rattle.store_memory.specs.Pieces.{bytes_of, EndAt}

-- how long the bytes of a piece and of those after it are
length_first : (x : Piece) (ps : List Piece) → length (x.bytes ++ bytes_of ps) ≡ length x.bytes + length (bytes_of ps)
length_first x ps = length-append x.bytes (bytes_of ps)

length_alone : (x : Piece) → length (x.bytes ++ []) ≡ length x.bytes
length_alone x = ap length (append-nil x.bytes)

end_at : (ps : List Piece) (place i : ℕ) (p : Piece) → EndAt place ps → slice_get ps i ≡ Some p → p.end ≡ place + length (bytes_of (take (suc i) ps))
end_at [] place i p h e = absurd cc
end_at (x ∷ xs) place zero p h e =
    let s : x ≡ p = cc in
    let n = length_alone x in
    ap (λ (q : Piece). q.end) (sym s) ∙ omega (arith, h.1, n)
end_at (x ∷ xs) place (suc i) p h e =
    let t = end_at xs x.end i p h.2 e in
    let n = length_first x (take (suc i) xs) in
    omega (arith, h.1, t, n)

-- how many bytes come up to the end of a piece
pub ends_at : (ps : List Piece) (place i : ℕ) (p : Piece) → EndAt place ps → slice_get ps i ≡ Some p → p.end ≡ place + length (bytes_of (take (i + 1) ps))
ends_at ps place i p h e = rw add-one (end_at ps place i p h e)

last_end : (x : Piece) (xs : List Piece) (place : ℕ) (p : Piece) → EndAt place (x ∷ xs) → slice_get (x ∷ xs) (length xs) ≡ Some p → p.end ≡ place + length (bytes_of (x ∷ xs))
last_end x [] place p h e =
    let s : x ≡ p = cc in
    let n = length_alone x in
    ap (λ (q : Piece). q.end) (sym s) ∙ omega (arith, h.1, n)
last_end x (y ∷ ys) place p h e =
    let t = last_end y ys x.end p h.2 e in
    let n = length_first x (y ∷ ys) in
    omega (arith, h.1, t, n)

-- the last end counts all bytes
pub ends_last : (ps : List Piece) (p : Piece) → EndAt 0 ps → slice_get ps (length ps - 1) ≡ Some p → p.end ≡ length (bytes_of ps)
ends_last [] p h e = absurd cc
ends_last (x ∷ xs) p h e =
    let k : suc (length xs) - 1 ≡ length xs = omega arith in
    let t = last_end x xs 0 p h (rw k at e) in
    omega (arith, t)

-- one piece more
pub ends_push : (ps : List Piece) (place : ℕ) (p : Piece) → EndAt place ps → 0 < length p.bytes → p.end ≡ place + length (bytes_of ps) + length p.bytes → p.end < 2 ^ 64 → EndAt place (ps ++ p ∷ [])
ends_push [] place p h some e small = (some, omega (arith, e), small)
ends_push (x ∷ xs) place p h some e small =
    let n = length_first x xs in
    (h.0, h.1, ends_push xs x.end p h.2 some (omega (arith, h.1, e, n)) small)

pub bytes_push : (ps : List Piece) (p : Piece) → bytes_of (ps ++ p ∷ []) ≡ bytes_of ps ++ p.bytes
bytes_push ps p = flat_map-append (λ (q : Piece). q.bytes) ps (p ∷ []) ∙ ap (λ (bs : List ℕ). bytes_of ps ++ bs) (append-nil p.bytes)

-- all bytes are fewer than 2^64
pub ends_small : (ps : List Piece) (place : ℕ) → EndAt place ps → place + length (bytes_of ps) < 2 ^ 64
ends_small [] place h = omega (arith, h)
ends_small (x ∷ xs) place h =
    let t = ends_small xs x.end h.2 in
    let n = length_first x xs in
    omega (arith, h.1, t, n)

length_next : (ps : List Piece) (i : ℕ) (p : Piece) → slice_get ps i ≡ Some p → length (bytes_of (take (suc i) ps)) ≡ length (bytes_of (take i ps)) + length p.bytes
length_next [] i p e = absurd cc
length_next (x ∷ xs) zero p e =
    let s : x ≡ p = cc in
    let n = length_alone x in
    let m = ap (λ (q : Piece). length q.bytes) s in
    omega (arith, n, m)
length_next (x ∷ xs) (suc i) p e =
    let t = length_next xs i p e in
    let n = length_first x (take (suc i) xs) in
    let m = length_first x (take i xs) in
    omega (arith, t, n, m)

-- the bytes up to the end of a piece are those before it, and its own
pub length_more : (ps : List Piece) (i : ℕ) (p : Piece) → slice_get ps i ≡ Some p → length (bytes_of (take (i + 1) ps)) ≡ length (bytes_of (take i ps)) + length p.bytes
length_more ps i p e = rw add-one (length_next ps i p e)

drop_past : (xs ys : List ℕ) (n : ℕ) → length xs ≤ n → drop n (xs ++ ys) ≡ drop (n - length xs) ys
drop_past [] ys n h = let k : n ≡ n - 0 = omega arith in ap (λ (j : ℕ). drop j ys) k
drop_past (x ∷ xs) ys zero h = absurd (omega (arith, h))
drop_past (x ∷ xs) ys (suc n) h =
    let k : n - length xs ≡ suc n - suc (length xs) = omega arith in
    drop_past xs ys n (omega (arith, h)) ∙ ap (λ (j : ℕ). drop j ys) k

from_next : (ps : List Piece) (i place : ℕ) (p : Piece) → slice_get ps i ≡ Some p → length (bytes_of (take i ps)) ≤ place → place < length (bytes_of (take (suc i) ps))
    → drop place (bytes_of ps) ≡ drop (place - length (bytes_of (take i ps))) p.bytes ++ bytes_of (drop (suc i) ps)
from_next [] i place p e low high = absurd cc
from_next (x ∷ xs) zero place p e low high =
    let s : x ≡ p = cc in
    let n = length_alone x in
    let k : place ≡ place - 0 = omega arith in
    drop-append-le place x.bytes (bytes_of xs) (omega (arith, high, n)) ∙ ap (λ (q : Piece). drop place q.bytes ++ bytes_of xs) s ∙ ap (λ (j : ℕ). drop j p.bytes ++ bytes_of xs) k
from_next (x ∷ xs) (suc i) place p e low high =
    let n = length_first x (take (suc i) xs) in
    let m = length_first x (take i xs) in
    let k : (place - length x.bytes) - length (bytes_of (take i xs)) ≡ place - length (x.bytes ++ bytes_of (take i xs)) = omega (arith, m) in
    drop_past x.bytes (bytes_of xs) place (omega (arith, low, m))
    ∙ from_next xs i (place - length x.bytes) p e (omega (arith, low, m)) (omega (arith, low, high, n, m))
    ∙ ap (λ (j : ℕ). drop j p.bytes ++ bytes_of (drop (suc i) xs)) k

-- the bytes from a place on: the rest of the piece that it is in, and the pieces after that
from_place : (ps : List Piece) (i place : ℕ) (p : Piece) → slice_get ps i ≡ Some p → length (bytes_of (take i ps)) ≤ place → place < length (bytes_of (take (i + 1) ps))
    → drop place (bytes_of ps) ≡ drop (place - length (bytes_of (take i ps))) p.bytes ++ bytes_of (drop (i + 1) ps)
from_place ps i place p e low high = rw add-one (from_next ps i place p e low (rw add-one at high))

-- the piece at an index
pub here : (ps : List Piece) (i : ℕ) (p : Piece) → i < length ps → p ≡ get_or ps i p → slice_get ps i ≡ Some p
here ps i p l e = slice_get-get_or ps i p l ∙ ap (λ (q : Piece). Some q) (sym e)

-- the same, where the place is counted from the end of the piece
pub inner_place : (ps : List Piece) (i place : ℕ) (p : Piece) → EndAt 0 ps → slice_get ps i ≡ Some p → length (bytes_of (take i ps)) ≤ place → place < length (bytes_of (take (i + 1) ps))
    → drop (length p.bytes - (p.end - place)) p.bytes ++ bytes_of (drop (i + 1) ps) ≡ drop place (bytes_of ps)
inner_place ps i place p h e low high =
    let t = ends_at ps 0 i p h e in
    let m = length_more ps i p e in
    let k : length p.bytes - (p.end - place) ≡ place - length (bytes_of (take i ps)) = omega (arith, t, m, low, high) in
    ap (λ (j : ℕ). drop j p.bytes ++ bytes_of (drop (i + 1) ps)) k ∙ sym (from_place ps i place p e low high)

pub last_place : (ps : List Piece) (i place : ℕ) (p : Piece) → EndAt 0 ps → slice_get ps i ≡ Some p → length (bytes_of (take i ps)) ≤ place → place < length (bytes_of (take (i + 1) ps)) → i + 1 ≡ length ps
    → drop (length p.bytes - (p.end - place)) p.bytes ≡ drop place (bytes_of ps)
last_place ps i place p h e low high last =
    let none : drop (i + 1) ps ≡ [] = drop_all (i + 1) ps (omega (arith, last)) in
    sym (append-nil (drop (length p.bytes - (p.end - place)) p.bytes)) ∙ ap (λ (qs : List Piece). drop (length p.bytes - (p.end - place)) p.bytes ++ bytes_of qs) (sym none) ∙ inner_place ps i place p h e low high

-- a part up to the end of a list
pub tail_is : {X : Type 0} → (xs : List X) (n : ℕ) → take (length xs - n) (drop n xs) ≡ drop n xs
tail_is xs n = take_all (length xs - n) (drop n xs) (let k = length-drop n xs in omega (arith, k))
