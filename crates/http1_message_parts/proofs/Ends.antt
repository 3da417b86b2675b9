-- Where a head ends: what stands in front of a LF is passed over.
use Rattle.std.proofs.Common.{◌≡◌, ℕ, zero, suc, ◌+◌, ◌<◌, ◌≤◌, ◌==◌, true, false, List, take, drop, length, reverse, get_or, Option, Some, None, ap, ◌∙◌, arith}
use Rattle.std.proofs.lemmas.Grind.{common_steps}
use Rattle.http1_message_parts.specs.End.{end_from, ends_head}

-- the first end from a place on
abbrev pub end_at : List ℕ → ℕ → Option ℕ
end_at bytes n = end_from n (reverse (take n bytes)) (drop n bytes)

pub passes_one : (bytes : List ℕ) (n : ℕ) → n < length bytes → (get_or bytes n 0 == 10) ≡ false → end_at bytes n ≡ end_at bytes (n + 1)
passes_one bytes n lt differs = grind (arith, common_steps)

pub passes_all : (bytes : List ℕ) (n k : ℕ) → n + k ≤ length bytes → ((j : ℕ) → j < k → (get_or bytes (n + j) 0 == 10) ≡ false) → end_at bytes n ≡ end_at bytes (n + k)
passes_all bytes n zero le differ = ap (end_at bytes) (omega arith)
passes_all bytes n (suc k) le differ =
    passes_all bytes n k (omega arith) (λ j lt. differ j (omega arith)) ∙ passes_one bytes (n + k) (omega arith) (differ k (omega arith)) ∙ ap (end_at bytes) (omega arith)

pub nothing_left : (bytes : List ℕ) → end_at bytes (length bytes) ≡ None
nothing_left bytes = grind (arith, common_steps)

pub ends_here : (bytes : List ℕ) (n : ℕ) → n < length bytes → (get_or bytes n 0 == 10) ≡ true → ends_head (reverse (take n bytes)) ≡ true → end_at bytes n ≡ Some (n + 1)
ends_here bytes n lt same ends = grind (arith, common_steps)

pub goes_on : (bytes : List ℕ) (n : ℕ) → n < length bytes → (get_or bytes n 0 == 10) ≡ true → ends_head (reverse (take n bytes)) ≡ false → end_at bytes n ≡ end_at bytes (n + 1)
goes_on bytes n lt same ends = grind (arith, common_steps)
