-- An edit of a key's alive numbers: those of other keys are as before.
use Rattle.std.proofs.Common.{◌≡◌, ℕ, refl, ap, sym, ◌∙◌, true, false, subst, cond, nat_eq}
use Rattle.std.specs.Prelude.{◌==◌, ◌&&◌, ◌||◌, not, Bool, List, Option, Some}
use Rattle.std.specs.Cmp.Lexicographic.{pointwise}
use Rattle.std.specs.HashMap as hash
use Rattle.std.specs.HashMap.{HashMap}
use Rattle.store_memory.specs.declared.alive.numbers.Numbers.{Numbers}
use Rattle.cache_entries.specs.SameEntry.{same_bytes-tells}
use Rattle.store_memory.specs.Alive.{is_among, is_in, is_pair, has}

module _ {S : Type 0} (m n : HashMap (List ℕ) Numbers S) (k : List ℕ) (number : ℕ) (s t : Numbers) (e : hash.get (pointwise nat_eq) m k ≡ Some s)
    (u : (q : List ℕ) → hash.get (pointwise nat_eq) n q ≡ cond (pointwise nat_eq k q) (Some t) (hash.get (pointwise nat_eq) m q)) where
  edited : (f : Bool → Bool → Bool) → ((b : Bool) → b ≡ f b false) → ((i : ℕ) → is_among t i ≡ f (is_among s i) (number == i))
      → (q : List ℕ) (i : ℕ) → has n q i ≡ f (has m q i) (is_pair k number q i)
  edited f keeps h q i = ap (λ (o : Option Numbers). is_in o i) (u q) ∙ by_test (pointwise nat_eq k q) refl
    where
      by_test : (v : Bool) → pointwise nat_eq k q ≡ v → is_in (cond v (Some t) (hash.get (pointwise nat_eq) m q)) i ≡ f (has m q i) (v && (number == i))
      by_test true v =
          h i ∙ subst (λ (j : List ℕ). f (is_among s i) (number == i) ≡ f (has m j i) (number == i)) (same_bytes-tells.equal k q v)
          (ap (λ (o : Option Numbers). f (is_in o i) (number == i)) (sym e))
      by_test false v = keeps (has m q i)

  or_false : (b : Bool) → b ≡ (b || false)
  or_false true = refl
  or_false false = refl

  and_true : (b : Bool) → b ≡ (b && true)
  and_true true = refl
  and_true false = refl

  pub added : ((i : ℕ) → is_among t i ≡ (is_among s i || (number == i))) → (q : List ℕ) (i : ℕ) → has n q i ≡ (has m q i || is_pair k number q i)
  added h = edited (λ a b. a || b) or_false h

  pub taken : ((i : ℕ) → is_among t i ≡ (is_among s i && not (number == i))) → (q : List ℕ) (i : ℕ) → has n q i ≡ (has m q i && not (is_pair k number q i))
  taken h = edited (λ a b. a && not b) and_true h

  pub unchanged : ((i : ℕ) → is_among t i ≡ is_among s i) → (q : List ℕ) (i : ℕ) → has n q i ≡ has m q i
  unchanged h = edited (λ a b. a) (λ b. refl) h
