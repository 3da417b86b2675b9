-- What a reader takes from the front of its input is a spelling, and each spelling is read.
use Rattle.std.proofs.Common.{◌≡◌, ℕ, suc, ◌+◌, ◌%◌, ◌<◌, ◌≤◌, ◌⊎◌, Bool, true, false, cond, ltb, List, [], ◌∷◌, ◌++◌, length, get_or, take, drop, Result, Ok, Err, refl, sym, ap, subst, ◌∙◌, arith, inl, inr}
use Rattle.std.specs.Int.{Width, w8, w16, w32, w64, byte_len, from_be_bytes, to_be_bytes}
use Rattle.std.proofs.lemmas.Bool.{cases_lt, ltb-false, le-ltb}
use Rattle.std.proofs.lemmas.List.{take_at, drop_at, take-append-drop, length-append, length-take, get_or-drop, get_or-take, get_or_past}
use Rattle.std.proofs.lemmas.Nat.{be_bytes_2, be_bytes_4, be_bytes_8, from_be_bytes-to_be_bytes_2, from_be_bytes-to_be_bytes_4, from_be_bytes-to_be_bytes_8}
use Rattle.cache_words.specs.declared.pack.fault.PackFault.{PackFault}
use Rattle.cache_words.specs.declared.pack.fault.PackFault.TheVariants.{Short}
use Rattle.cache_words.specs.Forms.{room}
use Rattle.cache_words.specs.Reading.{◌>>=◌, wide_at, front_at}

abbrev pub IsBytes : List ℕ → Type 0
IsBytes bytes = (i : ℕ) → get_or bytes i 0 < 256

pub IsBytes-drop : (n : ℕ) (bytes : List ℕ) → IsBytes bytes → IsBytes (drop n bytes)
IsBytes-drop n bytes h i = rw get_or-drop (h (n + i))

pub IsBytes-take : (n : ℕ) (bytes : List ℕ) → IsBytes bytes → IsBytes (take n bytes)
IsBytes-take n bytes h i =
    elim (cases_lt i n) [
      | inl lt ↦ rw (get_or-take n bytes i 0 lt) (h i)
      | inr le ↦ rw (get_or_past (take n bytes) i 0 (omega (arith, length-take n bytes))) (omega arith)
    ]

pub IsBytes-rest : (b : ℕ) (bytes : List ℕ) → IsBytes (b ∷ bytes) → IsBytes bytes
IsBytes-rest b bytes h i = h (suc i)

-- the value of a step that did not fail
pub bind_ok : {A B : Type 0} (r : Result A PackFault) (f : A → Result B PackFault) (y : B) → (r >>= f) ≡ Ok y → (x : A) × (r ≡ Ok x) × (f x ≡ Ok y)
bind_ok (Ok x) f y e = (x, refl, e)
bind_ok (Err d) f y e = absurd cc

-- a test that did not fail
pub guard_ok : {A : Type 0} (b : Bool) (d : PackFault) (x y : A) → cond b (Err d) (Ok x) ≡ Ok y → (b ≡ false) × (x ≡ y)
guard_ok true d x y e = absurd cc
guard_ok false d x y e = (refl, cc)

pub test_ok : {A : Type 0} (b : Bool) (d : PackFault) (x y : A) → cond b (Ok x) (Err d) ≡ Ok y → (b ≡ true) × (x ≡ y)
test_ok true d x y e = (refl, cc)
test_ok false d x y e = absurd cc

abbrev pub done : {A : Type 0} → A → Result A PackFault
done x = Ok x

pub ok_is : {A : Type 0} (x y : A) → done x ≡ done y → x ≡ y
ok_is x y e = cc

-- which of two steps was taken
pub chosen : {A : Type 0} (b : Bool) (x y : Result A PackFault) (z : Result A PackFault) → cond b x y ≡ z → ((b ≡ true) × (x ≡ z)) ⊎ ((b ≡ false) × (y ≡ z))
chosen true x y z e = inl (refl, e)
chosen false x y z e = inr (refl, e)

-- the front of the bytes spells the value, and this is the rest
pub record Takes {V : Type 0} (Spells : V → List ℕ → Type 0) (bytes : List ℕ) (v : V) (rest : List ℕ) : Type 0 where
  pub text : List ℕ
  pub spelled : Spells v text
  pub parts : bytes ≡ text ++ rest
  pub rest_fits : IsBytes rest

-- a reader and a grammar agree
pub record Agrees {V : Type 0} (read : List ℕ → Result (V × List ℕ) PackFault) (Spells : V → List ℕ → Type 0) : Type 0 where
  pub takes : (bytes : List ℕ) (x : V × List ℕ) → IsBytes bytes → read bytes ≡ Ok x → Takes Spells bytes x.0 x.1
  pub again : (v : V) (text rest : List ℕ) → Spells v text → read (text ++ rest) ≡ Ok (v, rest)

-- no spelling of one value begins a spelling of another
pub one_spelling : {V : Type 0} (read : List ℕ → Result (V × List ℕ) PackFault) (Spells : V → List ℕ → Type 0) → Agrees read Spells
    → (v w : V) (a b x y : List ℕ) → Spells v a → Spells w b → a ++ x ≡ b ++ y → (v ≡ w) × (x ≡ y)
one_spelling {V} read Spells agree v w a b x y s t e =
    let same : (v, x) ≡ (w, y) = ok_is (v, x) (w, y) (sym (agree.again v a x s) ∙ ap read e ∙ agree.again w b y t) in
    (ap (λ (p : V × List ℕ). p.0) same, ap (λ (p : V × List ℕ). p.1) same)

-- the same of a reader that gives no value
pub record Skips (read : List ℕ → Result (List ℕ) PackFault) (IsText : List ℕ → Type 0) : Type 0 where
  pub takes : (bytes rest : List ℕ) → IsBytes bytes → read bytes ≡ Ok rest → Takes {V = List ℕ} (λ _ text. IsText text) bytes [] rest
  pub again : (text rest : List ℕ) → IsText text → read (text ++ rest) ≡ Ok rest

-- ---- numbers of one width

pub record IsWide (w : Width) : Type 0 where
  pub len : (n : ℕ) → length (to_be_bytes w n) ≡ byte_len w
  pub back : (bytes : List ℕ) → length bytes ≡ byte_len w → IsBytes bytes → to_be_bytes w (from_be_bytes w bytes) ≡ bytes
  pub again : (n : ℕ) → n < room w → from_be_bytes w (to_be_bytes w n) ≡ n
  pub below : (bytes : List ℕ) → IsBytes bytes → from_be_bytes w bytes < room w

one_byte : (bytes : List ℕ) → length bytes ≡ 1 → IsBytes bytes → to_be_bytes w8 (from_be_bytes w8 bytes) ≡ bytes
one_byte [] len fits = absurd (omega arith)
one_byte (b ∷ []) len fits =
    let low : b < 256 = fits 0 in
    let same : from_be_bytes w8 (b ∷ []) % 256 ≡ b = omega arith in
    ap (λ (k : ℕ). k ∷ []) same
one_byte (b ∷ c ∷ rest) len fits = absurd (omega arith)

pub wide8 : IsWide w8
wide8 = record {
  len = λ n. refl;
  back = one_byte;
  again = λ n lt. omega arith;
  below = λ bytes fits. omega (arith, fits 0);
}

pub wide16 : IsWide w16
wide16 = record {
  len = λ n. refl;
  back = λ bytes len fits. be_bytes_2 bytes _ len fits refl;
  again = λ n lt. from_be_bytes-to_be_bytes_2 n lt;
  below = λ bytes fits. omega (arith, fits 0, fits 1);
}

pub wide32 : IsWide w32
wide32 = record {
  len = λ n. refl;
  back = λ bytes len fits. be_bytes_4 bytes _ len fits refl;
  again = λ n lt. from_be_bytes-to_be_bytes_4 n lt;
  below = λ bytes fits. omega (arith, fits 0, fits 1, fits 2, fits 3);
}

pub wide64 : IsWide w64
wide64 = record {
  len = λ n. refl;
  back = λ bytes len fits. be_bytes_8 bytes _ len fits refl;
  again = λ n lt. from_be_bytes-to_be_bytes_8 n lt;
  below = λ bytes fits. omega (arith, fits 0, fits 1, fits 2, fits 3, fits 4, fits 5, fits 6, fits 7);
}

pub wide_takes : (w : Width) (wide : IsWide w) (bytes : List ℕ) (x : ℕ × List ℕ) → IsBytes bytes → wide_at w bytes ≡ Ok x
    → (x.0 < room w) × (bytes ≡ to_be_bytes w x.0 ++ x.1) × IsBytes x.1
wide_takes w wide bytes x fits e =
    let g = guard_ok (ltb (length bytes) (byte_len w)) Short (from_be_bytes w (take (byte_len w) bytes), drop (byte_len w) bytes) x e in
    let long : byte_len w ≤ length bytes = ltb-false _ _ g.0 in
    let front_fits : IsBytes (take (byte_len w) bytes) = IsBytes-take (byte_len w) bytes fits in
    let front : to_be_bytes w (from_be_bytes w (take (byte_len w) bytes)) ≡ take (byte_len w) bytes =
    wide.back (take (byte_len w) bytes) (omega (arith, length-take (byte_len w) bytes)) front_fits in
    subst (λ (y : ℕ × List ℕ). (y.0 < room w) × (bytes ≡ to_be_bytes w y.0 ++ y.1) × IsBytes y.1) g.1
    (wide.below (take (byte_len w) bytes) front_fits, rw front (sym (take-append-drop (byte_len w) bytes)), IsBytes-drop (byte_len w) bytes fits)

pub wide_again : (w : Width) (wide : IsWide w) (n : ℕ) (rest : List ℕ) → n < room w → wide_at w (to_be_bytes w n ++ rest) ≡ Ok (n, rest)
wide_again w wide n rest lt =
    let len = wide.len n in
    let long : ltb (length (to_be_bytes w n ++ rest)) (byte_len w) ≡ false = le-ltb _ _ (omega (arith, length-append (to_be_bytes w n) rest)) in
    rw (long, take_at (to_be_bytes w n) rest (byte_len w) len, drop_at (to_be_bytes w n) rest (byte_len w) len, wide.again n lt) refl

-- ---- so many bytes

pub front_takes : (n : ℕ) (bytes : List ℕ) (x : List ℕ × List ℕ) → IsBytes bytes → front_at n bytes ≡ Ok x
    → (length x.0 ≡ n) × (bytes ≡ x.0 ++ x.1) × IsBytes x.1
unfolding front_at
front_takes n bytes x fits e =
    let g = guard_ok (ltb (length bytes) n) Short (take n bytes, drop n bytes) x e in
    let long : n ≤ length bytes = ltb-false _ _ g.0 in
    subst (λ (y : List ℕ × List ℕ). (length y.0 ≡ n) × (bytes ≡ y.0 ++ y.1) × IsBytes y.1) g.1
    (omega (arith, length-take n bytes), sym (take-append-drop n bytes), IsBytes-drop n bytes fits)

pub front_again : (front rest : List ℕ) → front_at (length front) (front ++ rest) ≡ Ok (front, rest)
unfolding front_at
front_again front rest =
    let long : ltb (length (front ++ rest)) (length front) ≡ false = le-ltb _ _ (omega (arith, length-append front rest)) in
    rw (long, take_at front rest (length front) refl, drop_at front rest (length front) refl) refl
