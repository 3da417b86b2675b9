-- Uniform requests by their own entries and weights.
use Rattle.std.proofs.Common.{◌≡◌, ◌||◌, Bool, true, false, cond, List, [], ◌∷◌, refl, ap, sym, ◌∙◌, subst, inl, inr}
use Rattle.std.specs.List.{AllByRecursion}
use Rattle.std.proofs.lemmas.Bool.{false≢true, or_cases}
use Rattle.cache_entries.specs.Entry.{same_entry}
use Rattle.cache_entries.specs.Keys.{same_bytes}
use Rattle.cache_entries.specs.SameEntry.{same_bytes-tells, same-sym}
use Rattle.cache_changes.specs.Changes.{stored_key}
use Rattle.curve_loads.proofs.Entries.{same-self}
use Rattle.tier_model.specs.Keys.{Entry, alone}
use Rattle.tier_model.specs.Rows.{weight_for}
use Rattle.tier_loads.specs.Holds.{AreApart}
use Rattle.tier_loads.specs.Requests.{PlainRequest, asks, purges, entry_of}
use Rattle.tier_loads.specs.Uniform.{AreAlike, IsUniform, IsWeighed, AreUniform, used_in, weight_in}
use Rattle.tier_loads.proofs.Stored.{entry-is}

-- a request that is alike to all has the entry of each that has its stored key
one-entry : (r : PlainRequest) (requests : List PlainRequest) → AllByRecursion (AreAlike r) requests → (k : Entry) → used_in requests k ≡ true → same_bytes (stored_key (entry_of r)) (stored_key k) ≡ true → entry_of r ≡ k
one-entry r [] a k u h = absurd (false≢true u)
one-entry r (s ∷ requests) a k u h = elim (or_cases (same_entry (alone (entry_of s)) (alone k)) (used_in requests k) u) [
  | inl here ↦
      let same : entry_of s ≡ k = entry-is (entry_of s) k here in
      (a.0 (subst (λ (j : Entry). same_bytes (stored_key (entry_of r)) (stored_key j) ≡ true) (sym same) h)).0 ∙ same
  | inr further ↦ one-entry r requests a.1 k further h
]

turned-key : (a b : Entry) → same_bytes (stored_key a) (stored_key b) ≡ true → same_bytes (stored_key b) (stored_key a) ≡ true
turned-key a b h = same-sym same_bytes same_bytes-tells (stored_key b) (stored_key a) ∙ h

apart-in : (requests : List PlainRequest) → IsUniform requests → AreApart (used_in requests)
apart-in [] i a b ua ub h = absurd (false≢true ua)
apart-in (r ∷ requests) i a b ua ub h = elim (or_cases (same_entry (alone (entry_of r)) (alone a)) (used_in requests a) ua) [
  | inl first ↦
      let is : entry_of r ≡ a = entry-is (entry_of r) a first in
      elim (or_cases (same_entry (alone (entry_of r)) (alone b)) (used_in requests b) ub) [
        | inl second ↦ sym is ∙ entry-is (entry_of r) b second
        | inr later ↦ sym is ∙ one-entry r requests i.0 b later (subst (λ (j : Entry). same_bytes (stored_key j) (stored_key b) ≡ true) (sym is) h)
      ]
  | inr further ↦
      elim (or_cases (same_entry (alone (entry_of r)) (alone b)) (used_in requests b) ub) [
        | inl second ↦
            let is : entry_of r ≡ b = entry-is (entry_of r) b second in
            sym (one-entry r requests i.0 a further (subst (λ (j : Entry). same_bytes (stored_key j) (stored_key a) ≡ true) (sym is) (turned-key a b h))) ∙ is
        | inr later ↦ apart-in requests i.1 a b further later h
      ]
]

-- ---- the entries

or-right : (a b : Bool) → b ≡ true → (a || b) ≡ true
or-right true b h = refl
or-right false b h = h

used-more : (r : PlainRequest) (requests some : List PlainRequest) → AllByRecursion (λ s. used_in requests (entry_of s) ≡ true) some → AllByRecursion (λ s. used_in (r ∷ requests) (entry_of s) ≡ true) some
used-more r requests [] h = tt
used-more r requests (s ∷ some) h = (or-right (same_entry (alone (entry_of r)) (alone (entry_of s))) (used_in requests (entry_of s)) h.0, used-more r requests some h.1)

all-used : (requests : List PlainRequest) → AllByRecursion (λ r. used_in requests (entry_of r) ≡ true) requests
all-used [] = tt
all-used (r ∷ requests) = (ap (λ (b : Bool). b || used_in requests (entry_of r)) (same-self (alone (entry_of r))), used-more r requests requests (all-used requests))

-- ---- the weights

weighed-more : (r : PlainRequest) (requests some : List PlainRequest) → AllByRecursion (AreAlike r) some → AllByRecursion (λ s. IsWeighed (weight_in requests) s) some
    → AllByRecursion (λ s. IsWeighed (weight_in (r ∷ requests)) s) some
weighed-more r requests [] a h = tt
weighed-more r requests (purges k ∷ some) a h = (tt, weighed-more r requests some a.1 h.1)
weighed-more (purges k) requests (asks c ∷ some) a h = (h.0, weighed-more (purges k) requests some a.1 h.1)
weighed-more (asks b) requests (asks c ∷ some) a h = (by_test (same_entry (alone b.entry) (alone c.entry)) refl, weighed-more (asks b) requests some a.1 h.1)
  where
    by_test : (t : Bool) → same_entry (alone b.entry) (alone c.entry) ≡ t → weight_for c.body ≡ cond t (weight_for b.body) (weight_in requests (alone c.entry))
    by_test true t =
        let same : b.entry ≡ c.entry = entry-is b.entry c.entry t in
        sym (a.0 (subst (λ (j : Entry). same_bytes (stored_key b.entry) (stored_key j) ≡ true) same (same_bytes-tells.itself (stored_key b.entry)))).1
    by_test false t = h.0

first-weighed : (r : PlainRequest) (requests : List PlainRequest) → IsWeighed (weight_in (r ∷ requests)) r
first-weighed (asks b) requests = sym (ap (λ (t : Bool). cond t (weight_for b.body) (weight_in requests (alone b.entry))) (same-self (alone b.entry)))
first-weighed (purges k) requests = tt

all-weighed : (requests : List PlainRequest) → IsUniform requests → AllByRecursion (λ r. IsWeighed (weight_in requests) r) requests
all-weighed [] i = tt
all-weighed (r ∷ requests) i = (first-weighed r requests, weighed-more r requests requests i.0 (all-weighed requests i.1))

pub chosen-uniform : (requests : List PlainRequest) → IsUniform requests → AreUniform (used_in requests) (weight_in requests) requests
chosen-uniform requests i = record { apart = apart-in requests i; used = all-used requests; weighed = all-weighed requests i }
