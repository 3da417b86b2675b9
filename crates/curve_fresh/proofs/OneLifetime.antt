-- With one lifetime for all, and moments that don't go back, a greater limit finds no less fresh: of each entry the greater has loaded no more, and
-- where both have loaded it as often, the lesser has done so no later.
use Rattle.std.proofs.Common.{◌≡◌, ℕ, ◌+◌, ◌≤◌, ◌&&◌, ◌||◌, ltb, eqb, Bool, true, false, cond, List, [], ◌∷◌, length, Option, Some, None, ◌⊎◌, inl, inr, refl, ap, ◌∙◌, arith}
use Rattle.std.specs.Prelude.{not}
use Rattle.std.proofs.lemmas.Bool.{ltb-true, ltb-false, false≢true, true≢false, cases_eq}
use Rattle.cache_entries.specs.declared.entry.CacheEntryKey.{CacheEntryKey}
use Rattle.cache_entries.specs.Entry.{same_entry}
use Rattle.curve_loads.specs.Steps.{has_row, held}
use Rattle.curve_loads.specs.Finds.{IsAtMost}
use Rattle.curve_loads.proofs.Entries.{same-is}
use Rattle.curve_loads.proofs.Fronts.{found-held}
use Rattle.curve_fresh.specs.Fresh.{Timed, asks, removes, steps_of, stale_from, stale_in, is_fresh, fresh_finds}
use Rattle.curve_fresh.specs.Moments.{HasLifetime, AreUpTo, AreInOrder}
use Rattle.curve_fresh.proofs.Entries.{Mark, all, all_of, none-less}

at-most-itself : (mark : Option ℕ) → IsAtMost mark mark
at-most-itself None = tt
at-most-itself (Some n) = omega arith

later : (m m' lifetime : ℕ) → m ≤ m' → stale_from m lifetime ≤ stale_from m' lifetime
later m m' lifetime l = by_test (eqb lifetime 0)
  where
    by_test : (t : Bool) → cond t m (m + lifetime + 1) ≤ cond t m' (m' + lifetime + 1)
    by_test true = l
    by_test false = omega (arith, l)

module _ (weight : CacheEntryKey → ℕ) (limit limit' : ℕ) (mark : Option ℕ) (lifetime : ℕ) (le : limit ≤ limit') where
  abbrev lesser : CacheEntryKey → List Timed → ℕ
  lesser e requests = stale_in weight limit mark e requests

  abbrev greater : CacheEntryKey → List Timed → ℕ
  greater e requests = stale_in weight limit' mark e requests

  -- each request for an entry, with whether the two find it fresh
  marks : List Timed → List Mark
  marks [] = []
  marks (asks x m l ∷ before) = record { entry = x; lesser = cond (is_fresh weight limit mark x m before) 1 0; greater = cond (is_fresh weight limit' mark x m before) 1 0 } ∷ marks before
  marks (removes x ∷ before) = marks before

  all-lesser : (requests : List Timed) → all (λ k. k.lesser) (marks requests) ≡ fresh_finds weight limit mark requests
  unfolding marks
  all-lesser [] = refl
  all-lesser (asks x m l ∷ before) = ap (λ (n : ℕ). cond (is_fresh weight limit mark x m before) 1 0 + n) (all-lesser before)
  all-lesser (removes x ∷ before) = all-lesser before

  all-greater : (requests : List Timed) → all (λ k. k.greater) (marks requests) ≡ fresh_finds weight limit' mark requests
  unfolding marks
  all-greater [] = refl
  all-greater (asks x m l ∷ before) = ap (λ (n : ℕ). cond (is_fresh weight limit' mark x m before) 1 0 + n) (all-greater before)
  all-greater (removes x ∷ before) = all-greater before

  -- of one entry
  record IsBehind (e : CacheEntryKey) (requests : List Timed) : Type 0 where
    less : all_of (λ k. k.lesser) e (marks requests) ≤ all_of (λ k. k.greater) e (marks requests)
    late : all_of (λ k. k.lesser) e (marks requests) ≡ all_of (λ k. k.greater) e (marks requests) → lesser e requests ≤ greater e requests
    bound : (m : ℕ) → AreUpTo m requests → lesser e requests ≤ stale_from m lifetime

  -- a request for the entry itself, by the tests of both
  record IsNext (m a b s t a' b' s' t' : ℕ) (before : List Timed) : Type 0 where
    less : a' ≤ b'
    late : a' ≡ b' → s' ≤ t'
    bound : (n : ℕ) → m ≤ n → AreUpTo n before → s' ≤ stale_from n lifetime

  by-tests : (m a b s t : ℕ) (before : List Timed) (ha hb : Bool) → (ha ≡ true → hb ≡ true) → a ≤ b → (a ≡ b → s ≤ t) → ((n : ℕ) → AreUpTo n before → s ≤ stale_from n lifetime) → AreUpTo m before
      → (fa fb : Bool) → (ha && ltb m s) ≡ fa → (hb && ltb m t) ≡ fb
      → IsNext m a b s t (cond fa 1 0 + a) (cond fb 1 0 + b) (cond fa s (stale_from m lifetime)) (cond fb t (stale_from m lifetime)) before
  by-tests m a b s t before ha hb h less late bound up true true p q =
      record { less = omega (arith, less); late = λ e. late (omega (arith, e)); bound = λ n l u. bound n u }
  by-tests m a b s t before ha hb h less late bound up false false p q =
      record { less = omega (arith, less); late = λ e. omega arith; bound = λ n l u. later m n lifetime l }
  by-tests m a b s t before ha hb h less late bound up false true p q =
      record { less = omega (arith, less); late = λ e. absurd (omega (arith, less, e)); bound = λ n l u. later m n lifetime l }
  by-tests m a b s t before ha hb h less late bound up true false p q =
      let apart : a ≡ b → ⊥ = λ e. both ha hb (ltb m s) (ltb m t) refl refl p q h (late e) in
      record { less = strict (cases_eq a b) apart; late = λ e. bound m up; bound = λ n l u. bound n u }
    where
      both : (ha hb x y : Bool) → ltb m s ≡ x → ltb m t ≡ y → (ha && x) ≡ true → (hb && y) ≡ false → (ha ≡ true → hb ≡ true) → s ≤ t → ⊥
      both false hb x y i j p q h l = false≢true p
      both true hb false y i j p q h l = false≢true p
      both true false true y i j p q h l = false≢true (h refl)
      both true true true true i j p q h l = true≢false q
      both true true true false i j p q h l = let u = ltb-true m s i in let v = ltb-false m t j in omega (arith, u, v, l)

      strict : (a ≡ b) ⊎ (a ≡ b → ⊥) → (a ≡ b → ⊥) → 1 + a ≤ 0 + b
      strict (inl e) n = absurd (n e)
      strict (inr e) n = omega (arith, e, less)

  behind : (requests : List Timed) → HasLifetime lifetime requests → AreInOrder requests → (e : CacheEntryKey) → IsBehind e requests
  unfolding marks
  behind [] h o e = record { less = omega arith; late = λ q. omega arith; bound = λ m u. omega arith }
  behind (removes x ∷ before) h o e = let i = behind before h o e in record { less = i.less; late = i.late; bound = i.bound }
  behind (asks x m l ∷ before) h o e = by_test (same_entry x e) refl (behind before h.1 o.1 e)
    where
      by_test : (t : Bool) → same_entry x e ≡ t → IsBehind e before → IsBehind e (asks x m l ∷ before)
      by_test false p i =
          let y = ap {B = ℕ} (λ (b : Bool). cond b (cond (is_fresh weight limit mark x m before) 1 0) 0) p in
          let z = ap {B = ℕ} (λ (b : Bool). cond b (cond (is_fresh weight limit' mark x m before) 1 0) 0) p in
          let s = ap (λ (b : Bool). cond (not b || (has_row e (held weight limit mark (steps_of before)) && ltb m (lesser e before))) (lesser e before) (stale_from m l)) p in
          let t = ap (λ (b : Bool). cond (not b || (has_row e (held weight limit' mark (steps_of before)) && ltb m (greater e before))) (greater e before) (stale_from m l)) p in
          let less = i.less in
          record {
            less = omega (arith, y, z, less);
            late = λ q. let r = i.late (omega (arith, q, y, z)) in omega (arith, r, s, t);
            bound = λ n u. let r = i.bound n u.1 in omega (arith, r, s);
          }
      by_test true p i =
          let same = same-is x e p in
          let fresh' = λ (limit : ℕ). ap (λ (k : CacheEntryKey). is_fresh weight limit mark k m before) same in
          let n = by-tests m (all_of (λ k. k.lesser) e (marks before)) (all_of (λ k. k.greater) e (marks before)) (lesser e before) (greater e before) before
          (has_row e (held weight limit mark (steps_of before))) (has_row e (held weight limit' mark (steps_of before)))
          (found-held limit limit' mark mark le (at-most-itself mark) weight (steps_of before) e) i.less i.late i.bound o.0
          (is_fresh weight limit mark e m before) (is_fresh weight limit' mark e m before) refl refl in
          let y = ap {B = ℕ} (λ (b : Bool). cond b (cond (is_fresh weight limit mark x m before) 1 0) 0) p ∙ ap {B = ℕ} (λ (b : Bool). cond b 1 0) (fresh' limit) in
          let z = ap {B = ℕ} (λ (b : Bool). cond b (cond (is_fresh weight limit' mark x m before) 1 0) 0) p ∙ ap {B = ℕ} (λ (b : Bool). cond b 1 0) (fresh' limit') in
          let life : stale_from m l ≡ stale_from m lifetime = ap (stale_from m) h.0 in
          let s = ap (λ (b : Bool). cond (not b || is_fresh weight limit mark e m before) (lesser e before) (stale_from m l)) p ∙ ap (cond (is_fresh weight limit mark e m before) (lesser e before)) life in
          let t = ap (λ (b : Bool). cond (not b || is_fresh weight limit' mark e m before) (greater e before) (stale_from m l)) p ∙ ap (cond (is_fresh weight limit' mark e m before) (greater e before)) life in
          let less = n.less in
          record {
            less = omega (arith, y, z, less);
            late = λ q. let r = n.late (omega (arith, q, y, z)) in omega (arith, r, s, t);
            bound = λ k u. let r = n.bound k u.0 u.1 in omega (arith, r, s);
          }

  pub no-less-fresh : (requests : List Timed) → HasLifetime lifetime requests → AreInOrder requests → fresh_finds weight limit mark requests ≤ fresh_finds weight limit' mark requests
  no-less-fresh requests h o =
      let a = all-lesser requests in
      let b = all-greater requests in
      let c = none-less (λ k. k.lesser) (λ k. k.greater) (length (marks requests)) (marks requests) (omega arith) (λ e. (behind requests h o e).less) in
      omega (arith, a, b, c)
