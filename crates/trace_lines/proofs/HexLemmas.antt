-- One pair of digits more.
use Rattle.std.proofs.Common.{◌≡◌, ℕ, ◌+◌, ◌-◌, ◌*◌, ◌%◌, ◌<◌, ◌≤◌, List, length, take, drop, slice_index, [], ◌∷◌, ◌++◌, ⊎_elim, refl, ap, sym, ◌∙◌, arith}
use Rattle.std.specs.Prelude.{Option, Some, None, Ok, Err, ◌↔◌}
use Rattle.std.proofs.lemmas.Bool.{cases_lt}
use Rattle.std.proofs.lemmas.List.{append-nil, drop_all, drop-drop, get_or-drop, get_or-take}
use Rattle.hex.specs.Hex.{decode_pairs, pair_value, hex_digit_value}
use Rattle.hex.specs.declared.error.FromHexError.{FromHexError}
use Rattle.hex.specs.declared.error.FromHexError.TheVariants.{InvalidHexCharacter}
use Rattle.hex.proofs.Pairs.{prepend, drop-pair, cons_byte, prepend-cons_byte, decode_pairs-ok_pair, decode_pairs-err_pair}
use Rattle.trace_lines.specs.Digits.{IsMarked, result_bytes}
use Rattle.trace_lines.specs.Lines.{hex_bytes}

is_value : (o : Option ℕ) (n : ℕ) → IsMarked o n → 240 ≤ n → o ≡ Some (n - 240)
is_value (Some v) n is some = ap Some (omega (arith, is.0))
is_value None n is some = absurd (omega (arith, is, some))

no_value : (o : Option ℕ) (n : ℕ) → IsMarked o n → n < 240 → o ≡ None
no_value (Some v) n is none = absurd (omega (arith, is.0, none))
no_value None n is none = refl

pub pair_is : (a b high low i : ℕ) → IsMarked (hex_digit_value a) high → IsMarked (hex_digit_value b) low → 240 ≤ high → 240 ≤ low
    → pair_value a b i ≡ Ok ((high - 240) * 16 + (low - 240))
pair_is a b high low i is_high is_low some_high some_low =
    let first : hex_digit_value a ≡ Some (high - 240) = is_value (hex_digit_value a) high is_high some_high in
    let second : hex_digit_value b ≡ Some (low - 240) = is_value (hex_digit_value b) low is_low some_low in
    rw (first, second) refl

high_is_none : (a b high i : ℕ) → IsMarked (hex_digit_value a) high → high < 240 → pair_value a b i ≡ Err (InvalidHexCharacter a i)
high_is_none a b high i is none =
    let first : hex_digit_value a ≡ None = no_value (hex_digit_value a) high is none in
    rw first refl

low_after : (o : Option ℕ) (a b i : ℕ) → hex_digit_value a ≡ o → hex_digit_value b ≡ None → (e : FromHexError) × (pair_value a b i ≡ Err e)
low_after (Some v) a b i first second = (InvalidHexCharacter b (i + 1), rw (first, second) refl)
low_after None a b i first second = (InvalidHexCharacter a i, rw first refl)

low_is_none : (a b low i : ℕ) → IsMarked (hex_digit_value b) low → low < 240 → (e : FromHexError) × (pair_value a b i ≡ Err e)
low_is_none a b low i is none = low_after (hex_digit_value a) a b i refl (no_value (hex_digit_value b) low is none)

-- if all were digits, the bytes so far, in front of those of what is left, are all the bytes; else there are none
abbrev pub SoFar : ℕ → List ℕ → List ℕ → ℕ → Type 0
SoFar lowest s out i =
    (240 ≤ lowest → decode_pairs 0 s ≡ prepend out (decode_pairs (2 * i) (drop (2 * i) s)))
    × ((240 ≤ lowest → ⊥) → result_bytes (decode_pairs 0 s) ≡ None)

abbrev first : List ℕ → ℕ → ℕ
first s i = slice_index s (2 * i)

abbrev second : List ℕ → ℕ → ℕ
second s i = slice_index s (2 * i + 1)

-- a pair that does not read is refused with the whole text
refused_by : (s out : List ℕ) (i : ℕ) → 2 * i + 1 < length s → (e : FromHexError) × (pair_value (first s i) (second s i) (2 * i) ≡ Err e)
    → decode_pairs 0 s ≡ prepend out (decode_pairs (2 * i) (drop (2 * i) s)) → result_bytes (decode_pairs 0 s) ≡ None
refused_by s out i fits (e, bad) so_far =
    ap result_bytes (so_far ∙ ap (prepend out) (ap (decode_pairs (2 * i)) (drop-pair s i fits) ∙ decode_pairs-err_pair (2 * i) _ _ e _ bad))

refused_pair : (s out : List ℕ) (i high low : ℕ) → 2 * i + 1 < length s → IsMarked (hex_digit_value (first s i)) high → IsMarked (hex_digit_value (second s i)) low
    → ((240 ≤ high) × (240 ≤ low) → ⊥) → decode_pairs 0 s ≡ prepend out (decode_pairs (2 * i) (drop (2 * i) s)) → result_bytes (decode_pairs 0 s) ≡ None
refused_pair s out i high low fits is_high is_low bad so_far =
    ⊎_elim
    (λ (h : high < 240). refused_by s out i fits (InvalidHexCharacter (first s i) (2 * i), high_is_none (first s i) (second s i) high (2 * i) is_high h) so_far)
    (λ (h : 240 ≤ high). ⊎_elim
    (λ (l : low < 240). refused_by s out i fits (low_is_none (first s i) (second s i) low (2 * i) is_low l) so_far)
    (λ (l : 240 ≤ low). absurd (bad (h, l)))
    (cases_lt low 240))
    (cases_lt high 240)

-- one byte more is decoded
read_by : (s out : List ℕ) (i v : ℕ) → 2 * i + 1 < length s → pair_value (first s i) (second s i) (2 * i) ≡ Ok v
    → decode_pairs 0 s ≡ prepend out (decode_pairs (2 * i) (drop (2 * i) s))
    → decode_pairs 0 s ≡ prepend (out ++ v ∷ []) (decode_pairs (2 * (i + 1)) (drop (2 * (i + 1)) s))
read_by s out i v fits ok so_far =
    let rest : List ℕ = drop (2 * (i + 1)) s in
    let two : 2 * i + 2 ≡ 2 * (i + 1) = omega arith in
    so_far
    ∙ ap (prepend out) (ap (decode_pairs (2 * i)) (drop-pair s i fits) ∙ decode_pairs-ok_pair (2 * i) _ _ v rest ok ∙ ap (λ (k : ℕ). cons_byte v (decode_pairs k rest)) two)
    ∙ prepend-cons_byte out v _

-- a pair more
pub so_far_more : (s out : List ℕ) (i lowest high low after v : ℕ) → 2 * i + 1 < length s
    → IsMarked (hex_digit_value (first s i)) high → IsMarked (hex_digit_value (second s i)) low
    → ((240 ≤ after) ↔ ((240 ≤ lowest) × ((240 ≤ high) × (240 ≤ low)))) → (240 ≤ high → 240 ≤ low → v ≡ (high - 240) * 16 + (low - 240))
    → SoFar lowest s out i → SoFar after s (out ++ v ∷ []) (i + 1)
so_far_more s out i lowest high low after v fits is_high is_low joined spells so_far = (
  (λ (all : 240 ≤ after).
      let (before, (h, l)) = joined.0 all in
      read_by s out i v fits
      (pair_is (first s i) (second s i) high low (2 * i) is_high is_low h l ∙ ap Ok (sym (spells h l)))
      (so_far.0 before)),
  (λ (bad : 240 ≤ after → ⊥). ⊎_elim
      (λ (before : lowest < 240). so_far.1 (λ marked. absurd (omega (arith, marked, before))))
      (λ (before : 240 ≤ lowest). refused_pair s out i high low fits is_high is_low (λ pair. bad (joined.1 (before, pair))) (so_far.0 before))
      (cases_lt lowest 240)),
)

-- no pair is left
pub so_far_all : (s out : List ℕ) (i : ℕ) → length s ≤ 2 * i → decode_pairs 0 s ≡ prepend out (decode_pairs (2 * i) (drop (2 * i) s)) → decode_pairs 0 s ≡ Ok out
unfolding decode_pairs
so_far_all s out i all so_far = so_far ∙ ap (prepend out) (ap (decode_pairs (2 * i)) (drop_all (2 * i) s all)) ∙ ap Ok (append-nil out)

pair_at : (s rest pair : List ℕ) (i j : ℕ) → rest ≡ drop (2 * i) s → pair ≡ take 2 rest → j < 2 → slice_index pair j ≡ slice_index s (2 * i + j)
pair_at s rest pair i j is_rest is_pair below =
    ap (λ xs. slice_index xs j) is_pair ∙ get_or-take 2 rest j 0 below ∙ ap (λ xs. slice_index xs j) is_rest ∙ get_or-drop (2 * i) s j 0

-- the digits of the pair that comes next
pub first_of_pair : (s rest pair : List ℕ) (i : ℕ) → rest ≡ drop (2 * i) s → pair ≡ take 2 rest → slice_index pair 0 ≡ first s i
first_of_pair s rest pair i is_rest is_pair = pair_at s rest pair i 0 is_rest is_pair (omega arith) ∙ ap (slice_index s) (omega arith)

pub second_of_pair : (s rest pair : List ℕ) (i : ℕ) → rest ≡ drop (2 * i) s → pair ≡ take 2 rest → slice_index pair 1 ≡ second s i
second_of_pair s rest pair i is_rest is_pair = pair_at s rest pair i 1 is_rest is_pair (omega arith)

-- what is left after it
pub after_pair : (s rest after : List ℕ) (i : ℕ) → rest ≡ drop (2 * i) s → after ≡ drop 2 rest → after ≡ drop (2 * (i + 1)) s
after_pair s rest after i is_rest is_after = is_after ∙ ap (λ xs. drop 2 xs) is_rest ∙ drop-drop 2 (2 * i) s ∙ ap (λ k. drop k s) (omega arith)

-- an even number of digits are pairs
pub hex_bytes_are : (s : List ℕ) → length s % 2 ≡ 0 → hex_bytes s ≡ result_bytes (decode_pairs 0 s)
hex_bytes_are s even = grind arith
