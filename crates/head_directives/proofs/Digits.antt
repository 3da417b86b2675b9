-- A value that says a number of 32 bits is text: all its bytes were read, and are digits but for a sign.
use Rattle.std.proofs.Common.{◌≡◌, ℕ, ◌<◌, ◌*◌, ◌+◌, ◌-◌, ◌^◌, Bool, true, false, List, [], ◌∷◌, refl, cond, arith}
use Rattle.std.specs.Prelude.{Option, Some, None, All, nat_le, ◌==◌}
use Rattle.std.specs.Char.{is_ascii_digit}
use Rattle.std.specs.Str.{is_utf8}
use Rattle.std.proofs.lemmas.Bool.Decides.{nat_tests}
use Rattle.std.proofs.lemmas.Bool.{eqb-true}
use Rattle.std.proofs.lemmas.List.Elements.{All-nil, All-cons}
use Rattle.std.proofs.lemmas.Str.{IsUtf8-from_ascii}
use Rattle.std.proofs.lemmas.Str.Ascii.{IsAscii-from_all}
use Rattle.head_directives.specs.Seconds.{seconds_from, digits, seconds_of}
use Rattle.head_directives.specs.declared.TheConstants.{DELTA_SECONDS_OVERFLOW_VALUE}
use Rattle.head_directives.proofs.Texts.{is_text}

abbrev pub AllAscii : List ℕ → Type 0
AllAscii bytes = All (λ b. b < 128) bytes

digit_ascii : (b : ℕ) → is_ascii_digit b ≡ true → b < 128
digit_ascii b h = grind (arith, nat_tests)

step : (b m : ℕ) (bytes : List ℕ) (rest : Option ℕ) (t u : Bool) → is_ascii_digit b ≡ t → cond t (cond u (Some DELTA_SECONDS_OVERFLOW_VALUE) rest) None ≡ Some m → (DELTA_SECONDS_OVERFLOW_VALUE ≡ m → ⊥) → (rest ≡ Some m → AllAscii bytes) → AllAscii (b ∷ bytes)
step b m bytes rest false u e h o ih = cc
step b m bytes rest true true e h o ih = absurd (o (cc))
step b m bytes rest true false e h o ih = All-cons (λ x. x < 128) b bytes (digit_ascii b e) (ih h)

read_ascii : (n m : ℕ) (bytes : List ℕ) → seconds_from n bytes ≡ Some m → (DELTA_SECONDS_OVERFLOW_VALUE ≡ m → ⊥) → AllAscii bytes
read_ascii n m [] h o = All-nil (λ x. x < 128)
read_ascii n m (b ∷ bytes) h o =
    step b m bytes (seconds_from (10 * n + (b - 48)) bytes) (is_ascii_digit b) (nat_le (2 ^ 32) (10 * n + (b - 48))) refl h o (λ r. read_ascii (10 * n + (b - 48)) m bytes r o)

digits_ascii : (m : ℕ) (bytes : List ℕ) → digits bytes ≡ Some m → (DELTA_SECONDS_OVERFLOW_VALUE ≡ m → ⊥) → AllAscii bytes
digits_ascii m [] h o = cc
digits_ascii m (b ∷ bytes) h o = read_ascii 0 m (b ∷ bytes) h o

signed_ascii : (b m : ℕ) (bytes : List ℕ) (t : Bool) → (b == 43) ≡ t → cond t (digits bytes) (digits (b ∷ bytes)) ≡ Some m → (DELTA_SECONDS_OVERFLOW_VALUE ≡ m → ⊥) → AllAscii (b ∷ bytes)
signed_ascii b m bytes false e h o = digits_ascii m (b ∷ bytes) h o
signed_ascii b m bytes true e h o =
    let s : b ≡ 43 = eqb-true b 43 e in
    All-cons (λ x. x < 128) b bytes (omega (arith, s)) (digits_ascii m bytes h o)

seconds_ascii : (m : ℕ) (bytes : List ℕ) → seconds_of bytes ≡ Some m → (DELTA_SECONDS_OVERFLOW_VALUE ≡ m → ⊥) → AllAscii bytes
seconds_ascii m [] h o = All-nil (λ x. x < 128)
seconds_ascii m (b ∷ bytes) h o = signed_ascii b m bytes (b == 43) refl h o

pub read_text : (bytes : List ℕ) (m : ℕ) → seconds_of bytes ≡ Some m → (DELTA_SECONDS_OVERFLOW_VALUE ≡ m → ⊥) → is_utf8 bytes ≡ true
read_text bytes m h o = is_text bytes (IsUtf8-from_ascii bytes (IsAscii-from_all bytes (seconds_ascii m bytes h o)))
