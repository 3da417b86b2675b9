-- The size of a chunk, digit by digit.
use Rattle.std.proofs.Common.{◌≡◌, ℕ, ◌+◌, ◌*◌, ◌^◌, ◌≤◌, ◌<◌, ◌==◌, List, [], ◌∷◌, ◌++◌, length, refl, ap, ◌∙◌, Bool, true, false, ◌&&◌, cond, nat_lt, arith}
use Rattle.std.specs.List.{list_all}
use Rattle.std.specs.Char.{is_ascii_hexdigit, digit_value}
use Rattle.std.proofs.lemmas.Bool.{lt-ltb}
use Rattle.rules_fields.specs.Texts.{is_filled}
use Rattle.rules_ffi_results.specs.declared.chunk.Place.{Place}
use Rattle.rules_ffi_results.specs.declared.chunk.Place.TheVariants.{Start, Size, Data, Trailers}
use Rattle.rules_ffi_results.specs.declared.chunk.Chunk.{Chunk}
use Rattle.rules_ffi_results.specs.Chunks.{is_line, behind_line, after, with_digit, lines_from, hex_value, chunk_at}

left : (a b : Bool) → (a && b) ≡ true → a ≡ true
left true b h = refl
left false b h = cc

right : (a b : Bool) → (a && b) ≡ true → b ≡ true
right true b h = h
right false b h = cc

grows : (digits : List ℕ) (value : ℕ) → value ≤ hex_value value digits
grows [] value = omega arith
grows (d ∷ digits) value = omega (arith, grows digits (value * 16 + digit_value d))

-- a digit has room, where the number that all of them make has
has_room : (d : ℕ) (digits : List ℕ) (value : ℕ) → hex_value (value * 16 + digit_value d) digits < 2 ^ 63 → nat_lt value (2 ^ 59) ≡ true
has_room d digits value h = lt-ltb value (2 ^ 59) (omega (arith, h, grows digits (value * 16 + digit_value d)))

more_digits : (digits : List ℕ) (n most value e : ℕ) (rest : List ℕ) → list_all is_ascii_hexdigit digits ≡ true → hex_value value digits < 2 ^ 63
    → lines_from n most (chunk_at Size value e) (digits ++ rest) ≡ lines_from (n + length digits) most (chunk_at Size (hex_value value digits) e) rest
more_digits [] n most value e rest h fits = ap (λ k. lines_from k most (chunk_at Size value e) rest) (let k : n ≡ n + 0 = omega arith in k)
more_digits (d ∷ digits) n most value e rest h fits =
    let is : is_ascii_hexdigit d ≡ true = left (is_ascii_hexdigit d) (list_all is_ascii_hexdigit digits) h in
    let all : list_all is_ascii_hexdigit digits ≡ true = right (is_ascii_hexdigit d) (list_all is_ascii_hexdigit digits) h in
    let next = value * 16 + digit_value d in
    let count : n + 1 + length digits ≡ n + length (d ∷ digits) = omega arith in
    rw (is, has_room d digits value fits)
    (more_digits digits (n + 1) most next e rest all fits ∙ ap (λ k. lines_from k most (chunk_at Size (hex_value next digits) e) rest) count)

-- lines end in front of what follows a size
ends : (n most size e : ℕ) (others : List ℕ) (t : Bool) → (let c = chunk_at (cond t Trailers Data) size e in lines_from n most c others ≡ (c, n))
ends n most size e [] true = refl
ends n most size e [] false = refl
ends n most size e (b ∷ others) true = refl
ends n most size e (b ∷ others) false = refl

behind_digits : (n most size e : ℕ) (others : List ℕ) → lines_from n most (chunk_at Size size e) (13 ∷ 10 ∷ others) ≡ (chunk_at (behind_line size) size e, n + 1 + 1)
behind_digits n most size e others = ends (n + 1 + 1) most size e others (size == 0)

pub size_is_read : (n most size e : ℕ) (digits others : List ℕ) → is_filled digits ≡ true → list_all is_ascii_hexdigit digits ≡ true → hex_value 0 digits < 2 ^ 63
    → lines_from n most (chunk_at Start size e) (digits ++ (13 ∷ 10 ∷ others)) ≡ (chunk_at (behind_line (hex_value 0 digits)) (hex_value 0 digits) e, n + length digits + 2)
size_is_read n most size e [] others filled h fits = cc
size_is_read n most size e (d ∷ digits) others filled h fits =
    let is : is_ascii_hexdigit d ≡ true = left (is_ascii_hexdigit d) (list_all is_ascii_hexdigit digits) h in
    let all : list_all is_ascii_hexdigit digits ≡ true = right (is_ascii_hexdigit d) (list_all is_ascii_hexdigit digits) h in
    let first = 0 * 16 + digit_value d in
    let value = hex_value first digits in
    let count : n + 1 + length digits + 1 + 1 ≡ n + length (d ∷ digits) + 2 = omega arith in
    rw is
    (more_digits digits (n + 1) most first e (13 ∷ 10 ∷ others) all fits ∙ behind_digits (n + 1 + length digits) most value e others
    ∙ ap (λ k. (chunk_at (behind_line value) value e, k)) count)
