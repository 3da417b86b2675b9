-- What is written is a spelling, and the shortest one.
use Rattle.std.proofs.Common.{◌≡◌, ℕ, suc, ◌/◌, ◌%◌, ◌^◌, ◌<◌, ◌≤◌, true, false, pos, List, [], ◌∷◌, length, get_or, Option, Some, None, refl, ap, arith, inl, inr, nat_lt, add-zero, lit≤}
use Rattle.std.specs.Prelude.{flat_map, IsUtf8, IfSome}
use Rattle.std.specs.Int.{byte_len, to_be_bytes}
use Rattle.std.proofs.lemmas.Bool.{cases_lt}
use Rattle.std.proofs.lemmas.Bool.Decides.{nat_tests}
use Rattle.cache_words.specs.Time.{second}
use Rattle.cache_words.specs.Key.{Key}
use Rattle.cache_words.specs.Forms.{Form, Forms, Stands, StandsBelow, StandsBehind, shortest, shortest_behind, numbers, arrays, texts, byte_strings, room}
use Rattle.cache_words.specs.Spelling.{SpellList}
use Rattle.cache_words.specs.Pack.{SpellsText, SpellsBytes, SpellsHash, SpellsOptionalHash, SpellsMoment, SpellsKey, IsHash, text_of, bytes_of, hash_of, optional_hash_of, moment_of, key_text_of}
use Rattle.cache_words.proofs.FormLaws.{shortest_stands}

pub number_spelled : (n : ℕ) → n < 2 ^ 64 → Stands numbers n (shortest numbers n)
number_spelled n lt = shortest_stands numbers n (inr (inr (inr (inl lt))))

pub array_spelled : (n : ℕ) → n < 2 ^ 32 → Stands arrays n (shortest arrays n)
array_spelled n lt = shortest_stands arrays n (inr (inl lt))

pub text_spelled : (v : List ℕ) → length v < 2 ^ 32 → IsUtf8 v → SpellsText v (text_of v)
text_spelled v lt utf8 = (shortest texts (length v), shortest_stands texts (length v) (inr (inr (inl lt))), utf8, refl)

pub bytes_spelled : (v : List ℕ) → length v < 2 ^ 32 → SpellsBytes v (bytes_of v)
bytes_spelled v lt = (shortest byte_strings (length v), shortest_stands byte_strings (length v) (inr (inr (inl lt))), refl)

each_spelled : (ns : List ℕ) → ((i : ℕ) → get_or ns i 0 < 256) → SpellList (StandsBelow 256) ns (flat_map (shortest numbers) ns)
each_spelled [] fits = refl
each_spelled (n ∷ ns) fits = (shortest numbers n, flat_map (shortest numbers) ns, (fits 0, number_spelled n (omega (arith, fits 0))), each_spelled ns (λ i. fits (suc i)), refl)

pub hash_spelled : (v : List ℕ) → IsHash v → SpellsHash v (hash_of v)
hash_spelled v h = record {
  head = shortest arrays 16;
  body = flat_map (shortest numbers) v;
  sixteen = h.0;
  array = array_spelled 16 (omega arith);
  each = each_spelled v h.1;
  parts = refl;
}

pub optional_hash_spelled : (v : Option (List ℕ)) → IfSome v IsHash → SpellsOptionalHash v (optional_hash_of v)
optional_hash_spelled None h = refl
optional_hash_spelled (Some v) h = hash_spelled v h

pub moment_spelled : (s n : ℕ) → s < 2 ^ 63 → n < second
    → SpellsMoment (record { seconds = pos s; nanoseconds = n }) (moment_of (record { seconds = pos s; nanoseconds = n }))
moment_spelled s n lt low =
    let none : n / second ≡ 0 = omega arith in
    let all : n % second ≡ n = omega arith in
    record {
      head = shortest arrays 2;
      first = shortest numbers s;
      behind = shortest numbers n;
      s = s;
      n = n;
      array = array_spelled 2 (omega arith);
      seconds = number_spelled s (omega arith);
      nanoseconds = number_spelled n (omega arith);
      low = omega arith;
      fits = omega arith;
      value = rw (none, all, add-zero) refl;
      parts = refl;
    }

pub key_spelled : (k : Key) → IsHash k.primary → IfSome k.variance IsHash → length k.user_tag < 2 ^ 32 → IsUtf8 k.user_tag → SpellsKey k (key_text_of k)
key_spelled k primary variance lt utf8 = record {
  head = shortest arrays 3;
  first = hash_of k.primary;
  second = optional_hash_of k.variance;
  third = text_of k.user_tag;
  array = array_spelled 3 (omega arith);
  primary = hash_spelled k.primary primary;
  variance = optional_hash_spelled k.variance variance;
  user_tag = text_spelled k.user_tag lt utf8;
  parts = refl;
}

-- ---- the shortest form

-- no later form is shorter
abbrev AllLonger : ℕ → List Form → Type 0
AllLonger n [] = Unit {0}
AllLonger n (f ∷ fs) = (n ≤ byte_len f.width) × AllLonger n fs

-- each form's number takes the bytes of its width, and no later form is shorter
abbrev Rise : List Form → Type 0
Rise [] = Unit {0}
Rise (f ∷ fs) = ((n : ℕ) → length (to_be_bytes f.width n) ≡ byte_len f.width) × AllLonger (byte_len f.width) fs × Rise fs

longer_behind : (fs : List Form) (least n : ℕ) (text : List ℕ) → AllLonger least fs → Rise fs → StandsBehind fs n text → suc least ≤ length text
longer_behind [] least n text all rise s = absurd s
longer_behind (f ∷ fs) least n text all rise s =
    elim s [
      | inl here ↦
          let len : length text ≡ suc (length (to_be_bytes f.width n)) = ap length here.1 in
          omega (arith, rise.0 n, all.0)
      | inr later ↦ longer_behind fs least n text all.1 rise.2 later
    ]

shortest_behind_least : (fs : List Form) (n : ℕ) (text : List ℕ) → Rise fs → StandsBehind fs n text → length (shortest_behind fs n) ≤ length text
shortest_behind_least [] n text rise s = absurd s
shortest_behind_least (f ∷ fs) n text rise s =
    elim (cases_lt n (room f.width)) [
      | inl low ↦
          let test : nat_lt n (room f.width) ≡ true = grind (arith, nat_tests) in
          rw (test, rise.0 n) (elim s [
            | inl here ↦
                let len : length text ≡ suc (length (to_be_bytes f.width n)) = ap length here.1 in
                omega (arith, rise.0 n)
            | inr later ↦ longer_behind fs (byte_len f.width) n text rise.1 rise.2 later
          ])
      | inr high ↦
          let test : nat_lt n (room f.width) ≡ false = grind (arith, nat_tests) in
          rw test (elim s [ inl here ↦ absurd (omega (arith, here.0)) | inr later ↦ shortest_behind_least fs n text rise.2 later ])
    ]

some_byte : (fs : List Form) (n : ℕ) (text : List ℕ) → StandsBehind fs n text → 1 ≤ length text
some_byte [] n text s = absurd s
some_byte (f ∷ fs) n text s =
    elim s [
      | inl here ↦
          let len : length text ≡ suc (length (to_be_bytes f.width n)) = ap length here.1 in
          omega arith
      | inr later ↦ some_byte fs n text later
    ]

pub shortest_least : (forms : Forms) → Rise forms.wide → (n : ℕ) (text : List ℕ) → Stands forms n text → length (shortest forms n) ≤ length text
shortest_least forms rise n text s =
    elim (cases_lt n forms.count) [
      | inl low ↦
          let test : nat_lt n forms.count ≡ true = grind (arith, nat_tests) in
          rw test (elim s [
            | inl here ↦
                let len : length text ≡ 1 = ap length here.1 in
                omega arith
            | inr later ↦ some_byte forms.wide n text later
          ])
      | inr high ↦
          let test : nat_lt n forms.count ≡ false = grind (arith, nat_tests) in
          rw test (elim s [ inl here ↦ absurd (omega (arith, here.0)) | inr later ↦ shortest_behind_least forms.wide n text rise later ])
    ]

numbers_rise : Rise numbers.wide
numbers_rise = (λ n. refl, (lit≤ tt, (lit≤ tt, (lit≤ tt, tt))), (λ n. refl, (lit≤ tt, (lit≤ tt, tt)), (λ n. refl, (lit≤ tt, tt), (λ n. refl, tt, tt))))

arrays_rise : Rise arrays.wide
arrays_rise = (λ n. refl, (lit≤ tt, tt), (λ n. refl, tt, tt))

texts_rise : Rise texts.wide
texts_rise = (λ n. refl, (lit≤ tt, (lit≤ tt, tt)), (λ n. refl, (lit≤ tt, tt), (λ n. refl, tt, tt)))

byte_strings_rise : Rise byte_strings.wide
byte_strings_rise = (λ n. refl, (lit≤ tt, (lit≤ tt, tt)), (λ n. refl, (lit≤ tt, tt), (λ n. refl, tt, tt)))

pub number_least : (n : ℕ) (text : List ℕ) → Stands numbers n text → length (shortest numbers n) ≤ length text
number_least = shortest_least numbers numbers_rise

pub array_least : (n : ℕ) (text : List ℕ) → Stands arrays n text → length (shortest arrays n) ≤ length text
array_least = shortest_least arrays arrays_rise

pub text_least : (n : ℕ) (text : List ℕ) → Stands texts n text → length (shortest texts n) ≤ length text
text_least = shortest_least texts texts_rise

pub bytes_least : (n : ℕ) (text : List ℕ) → Stands byte_strings n text → length (shortest byte_strings n) ≤ length text
bytes_least = shortest_least byte_strings byte_strings_rise
