-- How much room the shortest form of a number wants.
use Rattle.std.proofs.Common.{ℕ, ◌+◌, ◌≤◌, Bool, true, false, cond, nat_lt, [], ◌∷◌, length, arith}
use Rattle.std.specs.Int.{w8, w16, w32, w64, to_be_bytes}
use Rattle.cache_words.specs.Forms.{room, shortest, numbers}

by_form : (n : ℕ) (a b c d e : Bool)
    → length (cond a ((0 + n) ∷ []) (cond b (0xcc ∷ to_be_bytes w8 n) (cond c (0xcd ∷ to_be_bytes w16 n) (cond d (0xce ∷ to_be_bytes w32 n) (cond e (0xcf ∷ to_be_bytes w64 n) []))))) ≤ 9
by_form n true b c d e = omega arith
by_form n false true c d e = omega arith
by_form n false false true d e = omega arith
by_form n false false false true e = omega arith
by_form n false false false false true = omega arith
by_form n false false false false false = omega arith

pub number_room : (n : ℕ) → length (shortest numbers n) ≤ 9
number_room n = by_form n (nat_lt n 128) (nat_lt n (room w8)) (nat_lt n (room w16)) (nat_lt n (room w32)) (nat_lt n (room w64))
