-- Which entries are asked for more than once, one request after another, and by keys what it is by numbers.
use Rattle.std.proofs.Common.{◌≡◌, ℕ, ◌+◌, ◌≤◌, ◌<◌, ◌&&◌, ◌||◌, ltb, eqb, Bool, true, false, cond, List, [], ◌∷◌, ◌++◌, Option, Some, refl, ap, ap₂, sym, ◌∙◌, arith, length, get_or, inl, inr}
use Rattle.std.specs.Prelude.{not, slice_index}
use Rattle.std.proofs.lemmas.Bool.{cases_lt, lt-ltb, le-ltb, eqb-true, eq-eqb}
use Rattle.std.proofs.lemmas.List.{length_push, get_or_past, get_or_append_left}
use Rattle.cache_entries.specs.declared.entry.CacheEntryKey.{CacheEntryKey}
use Rattle.cache_entries.specs.Entry.{same_entry}
use Rattle.curve_sizes.specs.declared.when.When.{When}
use Rattle.curve_sizes.specs.Requests.{Request, asks, removes, is_among, entries_in, AreFirst}
use Rattle.curve_sizes.specs.Numbers.{numbered, AreNumbered, Agrees}
use Rattle.curve_sizes.proofs.CellPlaces.{same-numbered}
use Rattle.curve_sizes.proofs.FedLaws.{not-among}
use Rattle.curve_keys.specs.declared.repeats.Repeats.{Repeats}
use Rattle.curve_keys.specs.declared.keyed.KeyedCurve.{KeyedCurve}
use Rattle.curve_keys.specs.Keys.{keyed, number_of, AreRenamed, none, ask, removal, unknown, IsFedKeys}
use Rattle.curve_keys.specs.Repeats.{is_repeated, is_once, repeated_in, repeated_bytes_in, asked_again, asked_once, CountsAsk, AreRepeats, HasRepeats}
use Rattle.curve_keys.proofs.Renaming.{AreSame, same-both}
use Rattle.curve_keys.proofs.KeyedLaws.{weight_by}
use Rattle.curve_keys.proofs.FirstWeights.{among-same}

-- ---- one request more

-- what is among numbered requests
among-below : (k n : ℕ) (requests : List Request) → AreNumbered k requests → ((m : ℕ) → m < k → is_among (numbered m) requests ≡ true) → n ≤ k → is_among (numbered n) requests ≡ ltb n k
among-below k n requests numbers known le = elim (cases_lt n k) [
  | inl l ↦ known n l ∙ sym (lt-ltb n k l)
  | inr l ↦
      let q : n ≡ k = omega (arith, l, le) in
      ap (λ (m : ℕ). is_among (numbered m) requests) q ∙ not-among k requests numbers ∙ sym (le-ltb n k l)
]

module _ (ws ws' : List ℕ) (old new : Repeats) (entry w own : ℕ) (t : When) (requests : List Request) (le : entry ≤ length ws) (same : entry < length ws → ws' ≡ ws) (next : entry ≡ length ws → ws' ≡ ws ++ w ∷ [])
    (own_is : own ≡ slice_index ws' entry) (numbers : AreNumbered (length ws) requests) (known : (n : ℕ) → n < length ws → is_among (numbered n) requests ≡ true)
    (c : CountsAsk entry own old new) (r : AreRepeats ws old requests) where
  among-is : is_among (numbered entry) requests ≡ ltb entry (length old.again.items)
  among-is = among-below (length ws) entry requests numbers known le ∙ ap (λ (k : ℕ). ltb entry k) (sym r.entries)

  once-is : asked_once old entry ≡ is_once (numbered entry) requests
  once-is = ap₂ (λ (a b : Bool). a && not b) (sym among-is) (r.again_are entry)

  -- one that is no other's number, and the next number isn't among those that were asked for again
  new-again : ltb entry (length old.again.items) ≡ false → asked_again old entry ≡ false
  new-again f = elim (cases_lt entry (length old.again.items)) [
    | inl l ↦ absurd (let e = sym f ∙ lt-ltb entry (length old.again.items) l in cc)
    | inr l ↦ get_or_past old.again.items entry false l
  ]

  again-next : (n : ℕ) → asked_again new n ≡ is_repeated (numbered n) (asks (numbered entry) w t ∷ requests)
  again-next n = c.again n ∙ by_test (eqb n entry) refl
    where
      itself : (b : Bool) → ltb entry (length old.again.items) ≡ b → b ≡ (b || asked_again old entry)
      itself true i = refl
      itself false i = sym (new-again i)

      by_test : (b : Bool) → eqb n entry ≡ b → cond b (ltb entry (length old.again.items)) (asked_again old n) ≡ is_repeated (numbered n) (asks (numbered entry) w t ∷ requests)
      by_test true i =
          let q = eqb-true n entry i in
          let s : same_entry (numbered entry) (numbered n) ≡ true = same-numbered entry n ∙ eq-eqb entry n (sym q) in
          itself (ltb entry (length old.again.items)) refl
          ∙ ap₂ (λ (a b : Bool). a || b) (sym among-is) (r.again_are entry)
          ∙ ap (λ (m : ℕ). is_among (numbered m) requests || is_repeated (numbered m) requests) (sym q)
          ∙ sym (ap (λ (a : Bool). (a && is_among (numbered n) requests) || is_repeated (numbered n) requests) s)
      by_test false i =
          let s : same_entry (numbered entry) (numbered n) ≡ false = same-numbered entry n ∙ turned (eqb entry n) refl in
          r.again_are n ∙ sym (ap (λ (a : Bool). (a && is_among (numbered n) requests) || is_repeated (numbered n) requests) s)
        where
          turned : (b : Bool) → eqb entry n ≡ b → b ≡ false
          turned true j = absurd (let e = sym i ∙ eq-eqb n entry (sym (eqb-true entry n j)) in cc)
          turned false j = refl

  entries-next : length new.again.items ≡ length ws'
  entries-next = elim (cases_lt entry (length ws)) [
    | inl l ↦
        let e = r.entries in
        c.known (omega (arith, e, l)) ∙ e ∙ sym (ap (λ (xs : List ℕ). length xs) (same l))
    | inr l ↦
        let q : entry ≡ length ws = omega (arith, l, le) in
        let e = r.entries in
        let k = c.next (q ∙ sym e) in
        let n = ap (λ (xs : List ℕ). length xs) (next q) in
        let p = length_push ws w in
        omega (arith, e, k, n, p)
  ]

  agrees-before : (weight : CacheEntryKey → ℕ) → Agrees weight ws' → Agrees weight ws
  agrees-before weight a n l = elim (cases_lt entry (length ws)) [
    | inl m ↦
        let long = ap (λ (xs : List ℕ). length xs) (same m) in
        a n (omega (arith, long, l)) ∙ ap (λ (xs : List ℕ). get_or xs n 0) (same m)
    | inr m ↦
        let q : entry ≡ length ws = omega (arith, m, le) in
        let long = ap (λ (xs : List ℕ). length xs) (next q) in
        let p = length_push ws w in
        a n (omega (arith, long, p, l)) ∙ ap (λ (xs : List ℕ). get_or xs n 0) (next q) ∙ get_or_append_left ws (w ∷ []) 0 n l
  ]

  own-weight : (weight : CacheEntryKey → ℕ) → Agrees weight ws' → own ≡ weight (numbered entry)
  own-weight weight a =
      let e = entries-next in
      let below : entry < length ws' = elim (cases_lt entry (length ws)) [
        | inl l ↦ let long = ap (λ (xs : List ℕ). length xs) (same l) in omega (arith, long, l)
        | inr l ↦
            let q : entry ≡ length ws = omega (arith, l, le) in
            let long = ap (λ (xs : List ℕ). length xs) (next q) in
            let p = length_push ws w in
            omega (arith, long, p, q)
      ] in
      own_is ∙ sym (a entry below)

  pub repeats-asked : AreRepeats ws' new (asks (numbered entry) w t ∷ requests)
  repeats-asked = record {
    entries = entries-next;
    again_are = again-next;
    keys_are =
        let k = c.keys_are ∙ ap (λ (b : Bool). old.keys + cond b 1 0) once-is in
        let i = r.keys_are in
        omega (arith, k, i);
    bytes_are = λ weight a.
        let k = c.bytes_are ∙ ap₂ (λ (b : Bool) (v : ℕ). old.bytes + cond b v 0) once-is (own-weight weight a) in
        let i = r.bytes_are weight (agrees-before weight a) in
        omega (arith, k, i);
  }

-- a removal asks for nothing
pub repeats-removed : (ws : List ℕ) (r : Repeats) (e : CacheEntryKey) (requests : List Request) → AreRepeats ws r requests → AreRepeats ws r (removes e ∷ requests)
repeats-removed ws r e requests h = record { entries = h.entries; again_are = h.again_are; keys_are = h.keys_are; bytes_are = h.bytes_are }

-- ---- by keys and by numbers

module _ (number : List ℕ → Option ℕ) (apart : (key other : List ℕ) (n : ℕ) → number key ≡ Some n → number other ≡ Some n → key ≡ other) where
  at : (k : List ℕ) (m : ℕ) → number k ≡ Some m → AreSame number apart (keyed k) (numbered m)
  at k m h = record { key = k; n = m; first = refl; has = h; second = refl }

  repeated-same : (key : List ℕ) (n : ℕ) → number key ≡ Some n → (requests numbers : List Request) → AreRenamed number requests numbers → is_repeated (keyed key) requests ≡ is_repeated (numbered n) numbers
  repeated-same key n has _ _ none = refl
  repeated-same key n has _ _ (ask k w m when requests numbers h r) =
      ap₂ (λ (a b : Bool). a || b)
      (ap₂ (λ (a b : Bool). a && b) (same-both number apart (keyed k) (keyed key) (numbered m) (numbered n) (at k m h) (at key n has)) (among-same number apart key n has requests numbers r))
      (repeated-same key n has requests numbers r)
  repeated-same key n has _ _ (removal k m requests numbers h r) = repeated-same key n has requests numbers r
  repeated-same key n has _ _ (unknown k requests numbers h r) = repeated-same key n has requests numbers r

  once-same : (key : List ℕ) (n : ℕ) → number key ≡ Some n → (requests numbers : List Request) → AreRenamed number requests numbers → is_once (keyed key) requests ≡ is_once (numbered n) numbers
  once-same key n has requests numbers r = ap₂ (λ (a b : Bool). a && not b) (among-same number apart key n has requests numbers r) (repeated-same key n has requests numbers r)

  entries-same : (requests numbers : List Request) → AreRenamed number requests numbers → entries_in requests ≡ entries_in numbers
  entries-same _ _ none = refl
  entries-same _ _ (ask key w n when requests numbers h r) =
      ap₂ (λ (b : Bool) (m : ℕ). cond b 0 1 + m) (among-same number apart key n h requests numbers r) (entries-same requests numbers r)
  entries-same _ _ (removal key n requests numbers h r) = entries-same requests numbers r
  entries-same _ _ (unknown key requests numbers h r) = entries-same requests numbers r

  count-same : (requests numbers : List Request) → AreRenamed number requests numbers → repeated_in requests ≡ repeated_in numbers
  count-same _ _ none = refl
  count-same _ _ (ask key w n when requests numbers h r) =
      ap₂ (λ (b : Bool) (m : ℕ). cond b 1 0 + m) (once-same key n h requests numbers r) (count-same requests numbers r)
  count-same _ _ (removal key n requests numbers h r) = count-same requests numbers r
  count-same _ _ (unknown key requests numbers h r) = count-same requests numbers r

  module _ (weight weight' : CacheEntryKey → ℕ) (weighs : (key : List ℕ) (n : ℕ) → number key ≡ Some n → weight (keyed key) ≡ weight' (numbered n)) where
    bytes-same : (requests numbers : List Request) → AreRenamed number requests numbers → repeated_bytes_in weight requests ≡ repeated_bytes_in weight' numbers
    bytes-same _ _ none = refl
    bytes-same _ _ (ask key w n when requests numbers h r) =
        ap₂ (λ (b : Bool) (m : ℕ). cond b (weight (keyed key)) 0 + m) (once-same key n h requests numbers r) (bytes-same requests numbers r)
        ∙ ap (λ (v : ℕ). cond (is_once (numbered n) numbers) v 0 + repeated_bytes_in weight' numbers) (weighs key n h)
    bytes-same _ _ (removal key n requests numbers h r) = bytes-same requests numbers r
    bytes-same _ _ (unknown key requests numbers h r) = bytes-same requests numbers r

-- how many keys were asked for, and how many of them more than once
pub keyed-entries : (c : KeyedCurve) (requests : List Request) → IsFedKeys c requests → length c.curve.curve.weights.items ≡ entries_in requests
keyed-entries c requests f = f.fed.fed.entries ∙ sym (entries-same (number_of c.numbers) f.keys.apart requests f.numbers f.keys.renamed)

pub keyed-repeats : (c : KeyedCurve) (requests : List Request) (weight : CacheEntryKey → ℕ) → IsFedKeys c requests → AreFirst weight requests → HasRepeats weight c.repeats requests
keyed-repeats c requests weight f a =
    let ws = c.curve.curve.weights.items in
    let k = f.keys in
    record {
      keys_are = f.repeats_are.keys_are ∙ sym (count-same (number_of c.numbers) k.apart requests f.numbers k.renamed);
      bytes_are = f.repeats_are.bytes_are (weight_by ws) (λ n l. refl) ∙ sym (bytes-same (number_of c.numbers) k.apart weight (weight_by ws) (k.first weight a) requests f.numbers k.renamed);
    }
