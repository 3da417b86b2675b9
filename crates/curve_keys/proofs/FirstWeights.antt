-- The weight that a key has: what its first request says.
use Rattle.std.proofs.Common.{◌≡◌, ℕ, zero, suc, ◌+◌, ◌-◌, ◌<◌, ◌||◌, ◌&&◌, Bool, true, false, cond, List, [], ◌∷◌, Option, Some, None, refl, ap, ap₂, sym, ◌∙◌, subst, arith, Vec, Global}
use Rattle.std.specs.HashMap.{HashMap}
use Rattle.seeded_hashing.specs.declared.seeded_state.SeededState.{SeededState}
use Rattle.std.specs.Prelude.{not, slice_index}
use Rattle.std.proofs.lemmas.Bool.{false≢true}
use Rattle.cache_entries.specs.declared.entry.CacheEntryKey.{CacheEntryKey}
use Rattle.cache_entries.specs.Entry.{same_entry}
use Rattle.cache_entries.specs.SameEntry.{same_entry-tells}
use Rattle.curve_sizes.specs.declared.when.When.{When}
use Rattle.curve_sizes.specs.Requests.{Request, asks, removes, is_among, AreFirst}
use Rattle.curve_sizes.specs.Numbers.{numbered}
use Rattle.curve_keys.specs.declared.keyed.KeyedCurve.{KeyedCurve}
use Rattle.curve_keys.specs.Keys.{keyed, number_of, AreRenamed, none, ask, removal, unknown, AreKeyed, IsFedKeys}
use Rattle.curve_keys.specs.Pasts.{repeated, first_weight, asked_known}
use Rattle.curve_keys.specs.Repeats.{AreRepeats}
use Rattle.curve_timed.specs.Counting.{IsFedTimed}
use Rattle.curve_keys.proofs.Renaming.{AreSame, same-both}
use Rattle.curve_keys.proofs.KeyedLaws.{keyed-known}

-- ---- weights that agree at what was asked for

or-left : (a b : Bool) → a ≡ true → (a || b) ≡ true
or-left true b e = refl
or-left false b e = absurd (false≢true e)

or-right : (a b : Bool) → b ≡ true → (a || b) ≡ true
or-right true b e = refl
or-right false b e = e

alike : (weight weight' : CacheEntryKey → ℕ) (requests : List Request) → ((e : CacheEntryKey) → is_among e requests ≡ true → weight' e ≡ weight e) → AreFirst weight requests → AreFirst weight' requests
alike weight weight' [] same h = tt
alike weight weight' (asks e w t ∷ before) same h = (
  λ new. same e (or-left (same_entry e e) (is_among e before) (same_entry-tells.itself e)) ∙ h.0 new,
  alike weight weight' before (λ x among. same x (or-right (same_entry e x) (is_among x before) among)) h.1,
)
alike weight weight' (removes e ∷ before) same h = alike weight weight' before same h

-- one request more changes no weight of those before
same-first : (e x : CacheEntryKey) (w : ℕ) (when : When) (before : List Request) → is_among x before ≡ true → first_weight x (asks e w when ∷ before) ≡ first_weight x before
same-first e x w when before among = rw among (by_test (same_entry e x))
  where
    by_test : (t : Bool) → cond (t && not true) w (first_weight x before) ≡ first_weight x before
    by_test true = refl
    by_test false = refl

own-first : (e : CacheEntryKey) (w : ℕ) (when : When) (before : List Request) → is_among e before ≡ false → first_weight e (asks e w when ∷ before) ≡ w
own-first e w when before new = rw (same_entry-tells.itself e, new) refl

-- the weights that the first requests say
pub first-weights : (requests : List Request) → AreFirst (λ e. first_weight e requests) requests
first-weights [] = tt
first-weights (asks e w t ∷ before) = (
  λ new. own-first e w t before new,
  alike (λ x. first_weight x before) (λ x. first_weight x (asks e w t ∷ before)) before (λ x among. same-first e x w t before among) (first-weights before),
)
first-weights (removes e ∷ before) = first-weights before

-- ---- keys with numbers were asked for

module _ (number : List ℕ → Option ℕ) (apart : (key other : List ℕ) (n : ℕ) → number key ≡ Some n → number other ≡ Some n → key ≡ other) (key : List ℕ) (n : ℕ) (has : number key ≡ Some n) where
  at : (k : List ℕ) (m : ℕ) → number k ≡ Some m → AreSame number apart (keyed k) (numbered m)
  at k m h = record { key = k; n = m; first = refl; has = h; second = refl }

  pub among-same : (requests numbers : List Request) → AreRenamed number requests numbers → is_among (keyed key) requests ≡ is_among (numbered n) numbers
  among-same _ _ none = refl
  among-same _ _ (ask k w m when requests numbers h r) =
      ap₂ (λ (a b : Bool). a || b) (same-both number apart (keyed k) (keyed key) (numbered m) (numbered n) (at k m h) (at key n has)) (among-same requests numbers r)
  among-same _ _ (removal k m requests numbers h r) = among-same requests numbers r
  among-same _ _ (unknown k requests numbers h r) = among-same requests numbers r

pub among-known : (c : KeyedCurve) (requests : List Request) (key : List ℕ) (n : ℕ) → number_of c.numbers key ≡ Some n → IsFedKeys c requests → is_among (keyed key) requests ≡ true
among-known c requests key n has f =
    among-same (number_of c.numbers) f.keys.apart key n has requests f.numbers f.keys.renamed ∙ f.fed.fed.known n (f.keys.below key n has)

pub weight-known : (c : KeyedCurve) (requests : List Request) (key : List ℕ) (n : ℕ) → number_of c.numbers key ≡ Some n → IsFedKeys c requests
    → first_weight (keyed key) requests ≡ slice_index c.curve.curve.weights.items n
weight-known c requests key n has f = f.keys.first (λ e. first_weight e requests) (first-weights requests) key n has

-- ---- several requests

more-one : (n : ℕ) (r : Request) (before : List Request) → repeated (n + 1) r before ≡ r ∷ repeated n r before
more-one n r before = let e : n + 1 ≡ suc n = omega arith in ap (λ (m : ℕ). repeated m r before) e

pub repeated-more : (n : ℕ) (r : Request) (before : List Request) → repeated n r (r ∷ before) ≡ r ∷ repeated n r before
repeated-more zero r before = refl
repeated-more (suc n) r before = ap (λ (l : List Request). r ∷ l) (repeated-more n r before)

-- one, and those that are left
pub repeated-first : (n : ℕ) (r : Request) (before : List Request) → 0 < n → repeated (n - 1) r (r ∷ before) ≡ repeated n r before
repeated-first n r before some =
    let e : n - 1 + 1 ≡ n = omega (arith, some) in
    repeated-more (n - 1) r before ∙ sym (more-one (n - 1) r before) ∙ ap (λ (m : ℕ). repeated m r before) e

-- a known key was asked for once more
pub fed-again : (c c' : KeyedCurve) (requests : List Request) (key : List ℕ) (i w n : ℕ) (when : When) → c'.is_broken ≡ c.is_broken → c'.numbers ≡ c.numbers → c'.curve.curve.weights.items ≡ c.curve.curve.weights.items
    → number_of c.numbers key ≡ Some n → ((numbers : List Request) → IsFedTimed c.curve numbers → IsFedTimed c'.curve (asks (numbered n) w when ∷ numbers))
    → ((numbers : List Request) → IsFedTimed c.curve numbers → AreRepeats c.curve.curve.weights.items c.repeats numbers → AreRepeats c'.curve.curve.weights.items c'.repeats (asks (numbered n) w when ∷ numbers))
    → IsFedKeys c (repeated i (asks (keyed key) w when) requests) → IsFedKeys c' (repeated (i + 1) (asks (keyed key) w when) requests)
fed-again c c' requests key i w n when whole same weights has more again f = subst (IsFedKeys c') (sym (more-one i (asks (keyed key) w when) requests)) done
  where
    done : IsFedKeys c' (asks (keyed key) w when ∷ repeated i (asks (keyed key) w when) requests)
    done = record {
      whole = whole ∙ f.whole;
      numbers = asks (numbered n) w when ∷ f.numbers;
      keys = subst (λ (l : List ℕ). AreKeyed (number_of c'.numbers) l (asks (keyed key) w when ∷ repeated i (asks (keyed key) w when) requests) (asks (numbered n) w when ∷ f.numbers)) (sym weights)
          (keyed-known (number_of c.numbers) (number_of c'.numbers) c.curve.curve.weights.items (repeated i (asks (keyed key) w when) requests) f.numbers key w n when
          (λ other. ap (λ (t : HashMap (Vec ℕ Global) ℕ SeededState). number_of t other) same) has f.keys);
      fed = more f.numbers f.fed;
      repeats_are = again f.numbers f.fed f.repeats_are;
    }

-- ---- keys by the weights that they have

pub known-none : (c : KeyedCurve) (requests : List Request) (key : List ℕ) (when : When) (times : ℕ) → number_of c.numbers key ≡ None → IsFedKeys c requests
    → (false ≡ is_among (keyed key) requests) × IsFedKeys c (asked_known key when times requests)
known-none c requests key when times has f =
    let no = f.keys.others key has in
    (sym no, subst (λ (b : Bool). IsFedKeys c (cond b (repeated times (asks (keyed key) (first_weight (keyed key) requests) when) requests) requests)) (sym no) f)

pub known-some : (c c' : KeyedCurve) (requests : List Request) (key : List ℕ) (n : ℕ) (when : When) (times : ℕ) → number_of c.numbers key ≡ Some n → IsFedKeys c requests
    → IsFedKeys c' (repeated times (asks (keyed key) (slice_index c.curve.curve.weights.items n) when) requests)
    → (true ≡ is_among (keyed key) requests) × IsFedKeys c' (asked_known key when times requests)
known-some c c' requests key n when times has f done =
    let yes = among-known c requests key n has f in
    let own = weight-known c requests key n has f in (
      sym yes,
      subst (λ (b : Bool). IsFedKeys c' (cond b (repeated times (asks (keyed key) (first_weight (keyed key) requests) when) requests) requests)) (sym yes)
          (subst (λ (w : ℕ). IsFedKeys c' (repeated times (asks (keyed key) w when) requests)) (sym own) done),
    )
