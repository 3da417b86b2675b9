-- Keys and their numbers, one request after another, and what the curve then shows of the requests by keys.
use Rattle.std.proofs.Common.{◌≡◌, ℕ, ◌<◌, Bool, true, false, cond, List, [], ◌∷◌, ◌++◌, Option, Some, None, refl, ap, sym, ◌∙◌, subst, arith, length, get_or, ◌⊎◌, inl, inr}
use Rattle.std.specs.Prelude.{MatchOption}
use Rattle.std.proofs.lemmas.List.{length_push, get_or_push, get_or_append_left}
use Rattle.cache_entries.specs.declared.entry.CacheEntryKey.{CacheEntryKey}
use Rattle.cache_entries.specs.Keys.{same_bytes}
use Rattle.cache_entries.specs.SameEntry.{same_bytes-tells}
use Rattle.curve_sizes.specs.declared.row.CurveRow.{CurveRow}
use Rattle.curve_sizes.specs.declared.when.When.{When}
use Rattle.curve_sizes.specs.Requests.{Request, asks, removes, steps_of, is_among, AreFirst, AreFound}
use Rattle.curve_sizes.specs.Numbers.{numbered, number_in, mark_of}
use Rattle.curve_keys.specs.declared.keyed.KeyedCurve.{KeyedCurve}
use Rattle.curve_keys.specs.Keys.{keyed, number_of, AreRenamed, none, ask, removal, unknown, AreKeyed, IsFedKeys, IsNumbered, Counts}
use Rattle.curve_keys.proofs.Renaming.{same-keyed, finds-same, found-same, odd-same, bytes-same, said-same, asked-same}

pub none-some : (n : ℕ) (o : Option ℕ) → o ≡ None → o ≡ Some n → ⊥
none-some n o p q = let e : None ≡ Some n = sym p ∙ q in cc

renamed-more : (old new : List ℕ → Option ℕ) → ((key : List ℕ) (n : ℕ) → old key ≡ Some n → new key ≡ Some n) → (requests numbers : List Request) → AreRenamed old requests numbers → AreRenamed new requests numbers
renamed-more old new more _ _ none = none
renamed-more old new more _ _ (ask key w n when requests numbers h r) = ask key w n when requests numbers (more key n h) (renamed-more old new more requests numbers r)
renamed-more old new more _ _ (removal key n requests numbers h r) = removal key n requests numbers (more key n h) (renamed-more old new more requests numbers r)
renamed-more old new more _ _ (unknown key requests numbers h r) = unknown key requests numbers h (renamed-more old new more requests numbers r)

-- a key that is no other and not asked for before isn't asked for then
still-none : (key other : List ℕ) (w : ℕ) (when : When) (requests : List Request) → same_bytes key other ≡ false → is_among (keyed other) requests ≡ false → is_among (keyed other) (asks (keyed key) w when ∷ requests) ≡ false
still-none key other w when requests f h = rw (same-keyed key other ∙ f, h) refl

pub keyed-known : (old new : List ℕ → Option ℕ) (ws : List ℕ) (requests numbers : List Request) (key : List ℕ) (w n : ℕ) (when : When) → ((other : List ℕ) → new other ≡ old other) → old key ≡ Some n
    → AreKeyed old ws requests numbers → AreKeyed new ws (asks (keyed key) w when ∷ requests) (asks (numbered n) w when ∷ numbers)
keyed-known old new ws requests numbers key w n when same has k = record {
  renamed = ask key w n when requests numbers (same key ∙ has) (renamed-more old new (λ other m h. same other ∙ h) requests numbers k.renamed);
  apart = λ a b m p q. k.apart a b m (sym (same a) ∙ p) (sym (same b) ∙ q);
  below = λ a m p. k.below a m (sym (same a) ∙ p);
  first = λ weight a other m h. k.first weight a.1 other m (sym (same other) ∙ h);
  others = λ other h. still-none key other w when requests (differs other (same_bytes key other) refl (sym (same other) ∙ h)) (k.others other (sym (same other) ∙ h));
}
  where
    differs : (other : List ℕ) (t : Bool) → same_bytes key other ≡ t → old other ≡ None → t ≡ false
    differs other true t h = absurd (none-some n (old other) h (subst (λ (x : List ℕ). old x ≡ Some n) (same_bytes-tells.equal key other t) has))
    differs other false t h = refl

pub keyed-next : (old new : List ℕ → Option ℕ) (ws : List ℕ) (requests numbers : List Request) (key : List ℕ) (w : ℕ) (when : When)
    → ((other : List ℕ) → new other ≡ cond (same_bytes key other) (Some (length ws)) (old other)) → old key ≡ None
    → AreKeyed old ws requests numbers → AreKeyed new (ws ++ w ∷ []) (asks (keyed key) w when ∷ requests) (asks (numbered (length ws)) w when ∷ numbers)
keyed-next old new ws requests numbers key w when is has k = record {
  renamed = ask key w (length ws) when requests numbers at-key (renamed-more old new more requests numbers k.renamed);
  apart = λ a b m p q. apart-by a b m (back a m p) (back b m q);
  below = λ a m p. below-by a m (back a m p);
  first = λ weight a other m h. first-by weight a other m (back other m h);
  others = λ other h. let d = differs other h (same_bytes key other) refl in still-none key other w when requests d (k.others other (sym (ap (λ (b : Bool). cond b (Some (length ws)) (old other)) d) ∙ sym (is other) ∙ h));
}
  where
    at-key : new key ≡ Some (length ws)
    at-key = is key ∙ ap (λ (b : Bool). cond b (Some (length ws)) (old key)) (same_bytes-tells.itself key)

    more-by : (other : List ℕ) (m : ℕ) (t : Bool) → same_bytes key other ≡ t → old other ≡ Some m → cond t (Some (length ws)) (old other) ≡ Some m
    more-by other m true t h = absurd (none-some m (old other) (subst (λ (x : List ℕ). old x ≡ None) (same_bytes-tells.equal key other t) has) h)
    more-by other m false t h = h

    more : (other : List ℕ) (m : ℕ) → old other ≡ Some m → new other ≡ Some m
    more other m h = is other ∙ more-by other m (same_bytes key other) refl h

    back-by : (other : List ℕ) (m : ℕ) (t : Bool) → same_bytes key other ≡ t → cond t (Some (length ws)) (old other) ≡ Some m → ((key ≡ other) × (m ≡ length ws)) ⊎ (old other ≡ Some m)
    back-by other m true t h = inl (same_bytes-tells.equal key other t, cc)
    back-by other m false t h = inr h

    back : (other : List ℕ) (m : ℕ) → new other ≡ Some m → ((key ≡ other) × (m ≡ length ws)) ⊎ (old other ≡ Some m)
    back other m h = back-by other m (same_bytes key other) refl (sym (is other) ∙ h)

    apart-by : (a b : List ℕ) (m : ℕ) → ((key ≡ a) × (m ≡ length ws)) ⊎ (old a ≡ Some m) → ((key ≡ b) × (m ≡ length ws)) ⊎ (old b ≡ Some m) → a ≡ b
    apart-by a b m (inl p) (inl q) = sym p.0 ∙ q.0
    apart-by a b m (inl p) (inr q) = let l = k.below b m q in absurd (omega (arith, l, p.1))
    apart-by a b m (inr p) (inl q) = let l = k.below a m p in absurd (omega (arith, l, q.1))
    apart-by a b m (inr p) (inr q) = k.apart a b m p q

    below-by : (a : List ℕ) (m : ℕ) → ((key ≡ a) × (m ≡ length ws)) ⊎ (old a ≡ Some m) → m < length (ws ++ w ∷ [])
    below-by a m (inl p) = let n = length_push ws w in omega (arith, n, p.1)
    below-by a m (inr p) = let n = length_push ws w in let l = k.below a m p in omega (arith, n, l)

    first-by : (weight : CacheEntryKey → ℕ) → AreFirst weight (asks (keyed key) w when ∷ requests) → (a : List ℕ) (m : ℕ) → ((key ≡ a) × (m ≡ length ws)) ⊎ (old a ≡ Some m)
        → weight (keyed a) ≡ get_or (ws ++ w ∷ []) m 0
    first-by weight f a m (inl p) = ap (λ (x : List ℕ). weight (keyed x)) (sym p.0) ∙ f.0 (k.others key has) ∙ sym (get_or_push ws w 0 m (sym p.1))
    first-by weight f a m (inr p) = k.first weight f.1 a m p ∙ sym (get_or_append_left ws (w ∷ []) 0 m (k.below a m p))

    differs : (other : List ℕ) → new other ≡ None → (t : Bool) → same_bytes key other ≡ t → same_bytes key other ≡ false
    differs other h true t = absurd (none-some (length ws) (new other) h (is other ∙ ap (λ (b : Bool). cond b (Some (length ws)) (old other)) t))
    differs other h false t = t

-- a key that is asked for, whether it has a number or gets the next one
pub keyed-asked : (old new : List ℕ → Option ℕ) (ws ws' : List ℕ) (requests numbers : List Request) (key : List ℕ) (w n : ℕ) (when : When) → IsNumbered old new key (length ws) n
    → (n < length ws → ws' ≡ ws) → (n ≡ length ws → ws' ≡ ws ++ w ∷ [])
    → AreKeyed old ws requests numbers → AreKeyed new ws' (asks (keyed key) w when ∷ requests) (asks (numbered n) w when ∷ numbers)
keyed-asked old new ws ws' requests numbers key w n when i known next k = by_case (old key) refl i
  where
    by_case : (o : Option ℕ) → old key ≡ o → MatchOption o ((n ≡ length ws) × ((other : List ℕ) → new other ≡ cond (same_bytes key other) (Some (length ws)) (old other))) (λ m. (n ≡ m) × ((other : List ℕ) → new other ≡ old other))
        → AreKeyed new ws' (asks (keyed key) w when ∷ requests) (asks (numbered n) w when ∷ numbers)
    by_case None q h =
        subst (λ (m : ℕ). AreKeyed new ws' (asks (keyed key) w when ∷ requests) (asks (numbered m) w when ∷ numbers)) (sym h.0)
        (subst (λ (l : List ℕ). AreKeyed new l (asks (keyed key) w when ∷ requests) (asks (numbered (length ws)) w when ∷ numbers)) (sym (next h.0))
        (keyed-next old new ws requests numbers key w when h.1 q k))
    by_case (Some m) q h =
        let has : old key ≡ Some n = q ∙ ap (λ (x : ℕ). Some x) (sym h.0) in
        subst (λ (l : List ℕ). AreKeyed new l (asks (keyed key) w when ∷ requests) (asks (numbered n) w when ∷ numbers)) (sym (known (k.below key n has)))
        (keyed-known old new ws requests numbers key w n when h.1 has k)

pub keyed-removed : (number : List ℕ → Option ℕ) (ws : List ℕ) (requests numbers : List Request) (key : List ℕ) (n : ℕ) → number key ≡ Some n
    → AreKeyed number ws requests numbers → AreKeyed number ws (removes (keyed key) ∷ requests) (removes (numbered n) ∷ numbers)
keyed-removed number ws requests numbers key n has k = record {
  renamed = removal key n requests numbers has k.renamed;
  apart = k.apart;
  below = k.below;
  first = λ weight a other m h. k.first weight a other m h;
  others = λ other h. k.others other h;
}

pub keyed-unknown : (number : List ℕ → Option ℕ) (ws : List ℕ) (requests numbers : List Request) (key : List ℕ) → number key ≡ None
    → AreKeyed number ws requests numbers → AreKeyed number ws (removes (keyed key) ∷ requests) numbers
keyed-unknown number ws requests numbers key has k = record {
  renamed = unknown key requests numbers (k.others key has) k.renamed;
  apart = k.apart;
  below = k.below;
  first = λ weight a other m h. k.first weight a other m h;
  others = λ other h. k.others other h;
}

-- ---- what the curve shows

abbrev pub weight_by : List ℕ → CacheEntryKey → ℕ
weight_by ws e = get_or ws (number_in e) 0

rows-found : (number : List ℕ → Option ℕ) (weight : CacheEntryKey → ℕ) (ws : List ℕ) (mark : Option ℕ) (requests numbers : List Request) (rows : List CurveRow) → AreFirst weight requests → AreKeyed number ws requests numbers
    → AreFound (weight_by ws) mark (steps_of numbers) rows → AreFound weight mark (steps_of requests) rows
rows-found number weight ws mark requests numbers [] a k h = tt
rows-found number weight ws mark requests numbers (r ∷ rows) a k h = (
  (
    h.0.0 ∙ sym (finds-same number k.apart weight (weight_by ws) (k.first weight a) r.limit mark requests numbers k.renamed),
    h.0.1 ∙ sym (found-same number k.apart weight (weight_by ws) (k.first weight a) r.limit mark requests numbers k.renamed),
  ),
  rows-found number weight ws mark requests numbers rows a k h.1,
)

pub keyed-found : (c : KeyedCurve) (requests : List Request) (weight : CacheEntryKey → ℕ) → IsFedKeys c requests → AreFirst weight requests
    → AreFound weight (mark_of c.curve.curve.watermark) (steps_of requests) c.curve.curve.table
keyed-found c requests weight f a =
    let s = f.fed.fed.shown (weight_by c.curve.curve.weights.items) (λ n l. refl) in
    rows-found (number_of c.numbers) weight c.curve.curve.weights.items (mark_of c.curve.curve.watermark) requests f.numbers c.curve.curve.table a f.keys s.rows

pub keyed-counts : (c : KeyedCurve) (requests : List Request) (weight : CacheEntryKey → ℕ) → IsFedKeys c requests → AreFirst weight requests → Counts weight c.curve.curve.totals requests
keyed-counts c requests weight f a =
    let ws = c.curve.curve.weights.items in
    let s = f.fed.fed.shown (weight_by ws) (λ n l. refl) in
    let k = f.keys in
    record {
      asked = s.totals.asked ∙ sym (asked-same (number_of c.numbers) k.apart requests f.numbers k.renamed);
      odd = s.totals.odd ∙ sym (odd-same (number_of c.numbers) k.apart weight (weight_by ws) (k.first weight a) 0 None requests f.numbers k.renamed);
      bytes = s.totals.bytes ∙ sym (bytes-same (number_of c.numbers) k.apart weight (weight_by ws) (k.first weight a) 0 None requests f.numbers k.renamed);
      said = s.totals.said ∙ sym (said-same (number_of c.numbers) k.apart requests f.numbers k.renamed);
    }
