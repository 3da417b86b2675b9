-- The names after a number is given or taken back.
use Rattle.std.proofs.Common.{◌≡◌, ◌≢◌, ℕ, inl, inr, cond, Option, Some, None, sym, refl, ap, ◌∙◌}
use Rattle.std.proofs.lemmas.Bool.{cases_eq, eq-eqb, ne_eqb}
use Rattle.cache_entries.specs.declared.entry.CacheEntryKey.{CacheEntryKey}
use Rattle.lru_numbers.specs.Names.{IsOneToOne, HasNoNumber, with_name, without_name}
use Rattle.lru_numbers.proofs.PlaceLaws.{none_some}

pub with-here : (names : ℕ → Option CacheEntryKey) (k : ℕ) (e : CacheEntryKey) → with_name names k e k ≡ Some e
with-here names k e = ap (λ b. cond b (Some e) (names k)) (eq-eqb k k refl)

pub with-other : (names : ℕ → Option CacheEntryKey) (k : ℕ) (e : CacheEntryKey) (i : ℕ) → i ≢ k → with_name names k e i ≡ names i
with-other names k e i m = ap (λ b. cond b (Some e) (names i)) (ne_eqb i k m)

pub without-here : (names : ℕ → Option CacheEntryKey) (k : ℕ) → without_name names k k ≡ None
without-here names k = ap (λ b. cond b None (names k)) (eq-eqb k k refl)

pub without-other : (names : ℕ → Option CacheEntryKey) (k i : ℕ) → i ≢ k → without_name names k i ≡ names i
without-other names k i m = ap (λ b. cond b None (names i)) (ne_eqb i k m)

pub one-with : (names : ℕ → Option CacheEntryKey) (k : ℕ) (e : CacheEntryKey) → IsOneToOne names → HasNoNumber names e → IsOneToOne (with_name names k e)
one-with names k e one none i j x p q = elim (cases_eq i k) [
  | inl a ↦ elim (cases_eq j k) [
    | inl b ↦ a ∙ sym b
    | inr m ↦ absurd (none j (sym (with-other names k e j m) ∙ q ∙ sym (sym (ap (with_name names k e) a ∙ with-here names k e) ∙ p)))
  ]
  | inr n ↦ elim (cases_eq j k) [
    | inl b ↦ absurd (none i (sym (with-other names k e i n) ∙ p ∙ sym (sym (ap (with_name names k e) b ∙ with-here names k e) ∙ q)))
    | inr m ↦ one i j x (sym (with-other names k e i n) ∙ p) (sym (with-other names k e j m) ∙ q)
  ]
]

pub one-without : (names : ℕ → Option CacheEntryKey) (k : ℕ) → IsOneToOne names → IsOneToOne (without_name names k)
one-without names k one i j x p q = elim (cases_eq i k) [
  | inl a ↦ absurd (none_some x (without_name names k i) (ap (without_name names k) a ∙ without-here names k) p)
  | inr n ↦ elim (cases_eq j k) [
    | inl b ↦ absurd (none_some x (without_name names k j) (ap (without_name names k) b ∙ without-here names k) q)
    | inr m ↦ one i j x (sym (without-other names k i n) ∙ p) (sym (without-other names k j m) ∙ q)
  ]
]
