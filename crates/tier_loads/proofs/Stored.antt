-- Bodies by stored keys, of entries in use.
use Rattle.std.proofs.Common.{◌≡◌, ℕ, Bool, true, false, cond, Option, Some, None, refl, ap, sym, ◌∙◌, subst}
use Rattle.std.specs.Prelude.{option_map}
use Rattle.std.proofs.lemmas.Bool.{false≢true}
use Rattle.std.specs.Ordering.{nat_cmp, eq_by_cmp}
use Rattle.std.specs.Cmp.Lexicographic.{slice_cmp, texts_ties, nat_list_cmp_total}
use Rattle.std.specs.FinMap.{get, get-insert, get-remove}
use Rattle.cache_entries.specs.Entry.{same_entry, key_of}
use Rattle.cache_entries.specs.Keys.{same_bytes}
use Rattle.cache_entries.specs.SameEntry.{same_bytes-tells, same-sym}
use Rattle.cache_changes.specs.Changes.{StoredKey, stored_key}
use Rattle.curve_loads.proofs.Entries.{same-self, same-is}
use Rattle.tier_model.specs.Keys.{Entry, alone}
use Rattle.tier_model.specs.Rows.{Numbered, Bodies, FinishedBody, body_of, with_body, without_body}
use Rattle.tier_loads.specs.Holds.{AreApart}

pub entry-is : (j k : Entry) → same_entry (alone j) (alone k) ≡ true → j ≡ k
entry-is j k h = ap key_of (same-is (alone j) (alone k) h)

-- two entries in use have one stored key exactly where they are the same
pub same-stored : (in_use : Entry → Bool) → AreApart in_use → (j k : Entry) → in_use j ≡ true → in_use k ≡ true → same_bytes (stored_key j) (stored_key k) ≡ same_entry (alone j) (alone k)
same-stored in_use apart j k uj uk = by_tests (same_bytes (stored_key j) (stored_key k)) (same_entry (alone j) (alone k)) refl refl
  where
    by_tests : (a b : Bool) → same_bytes (stored_key j) (stored_key k) ≡ a → same_entry (alone j) (alone k) ≡ b → same_bytes (stored_key j) (stored_key k) ≡ same_entry (alone j) (alone k)
    by_tests true true h i = h ∙ sym i
    by_tests true false h i =
        absurd (false≢true (sym i ∙ subst (λ (e : Entry). same_entry (alone j) (alone e) ≡ true) (apart j k uj uk h) (same-self (alone j))))
    by_tests false true h i =
        absurd (false≢true (sym h ∙ subst (λ (e : Entry). same_bytes (stored_key j) (stored_key e) ≡ true) (entry-is j k i) (same_bytes-tells.itself (stored_key j))))
    by_tests false false h i = h ∙ sym i

ties-same : (k j : StoredKey) → eq_by_cmp (slice_cmp nat_cmp) k j ≡ same_bytes j k
ties-same k j = sym (texts_ties k j) ∙ same-sym same_bytes same_bytes-tells k j

-- the body alone, of none or of one that is held
of_gone : (v : Bool) (o : Option Numbered) → option_map (λ x. x.body) (cond v None o) ≡ cond v None (option_map (λ x. x.body) o)
of_gone true o = refl
of_gone false o = refl

of_held : (v : Bool) (y : Numbered) (o : Option Numbered) → option_map (λ x. x.body) (cond v (Some y) o) ≡ cond v (Some y.body) (option_map (λ x. x.body) o)
of_held true y o = refl
of_held false y o = refl

module _ (in_use : Entry → Bool) (apart : AreApart in_use) (k j : Entry) (uk : in_use k ≡ true) (uj : in_use j ≡ true) where
  pub body_of-without : (bodies : Bodies) → body_of (stored_key j) (without_body (stored_key k) bodies) ≡ cond (same_entry (alone k) (alone j)) None (body_of (stored_key j) bodies)
  body_of-without bodies =
      ap (option_map (λ (x : Numbered). x.body)) (get-remove nat_list_cmp_total bodies (stored_key k) (stored_key j))
      ∙ of_gone (eq_by_cmp (slice_cmp nat_cmp) (stored_key j) (stored_key k)) (get bodies (stored_key j))
      ∙ ap (λ v. cond v None (body_of (stored_key j) bodies)) (ties-same (stored_key j) (stored_key k) ∙ same-stored in_use apart k j uk uj)

pub body_of-with : (in_use : Entry → Bool) → AreApart in_use → (n : ℕ) (b : FinishedBody) (j : Entry) → in_use b.entry ≡ true → in_use j ≡ true → (bodies : Bodies)
    → body_of (stored_key j) (with_body n b bodies) ≡ cond (same_entry (alone b.entry) (alone j)) (Some b.body) (body_of (stored_key j) bodies)
body_of-with in_use apart n b j ub uj bodies =
    ap (option_map (λ (x : Numbered). x.body)) (get-insert nat_list_cmp_total bodies (stored_key b.entry) (record { number = n; body = b.body }) (stored_key j))
    ∙ of_held (eq_by_cmp (slice_cmp nat_cmp) (stored_key j) (stored_key b.entry)) (record { number = n; body = b.body }) (get bodies (stored_key j))
    ∙ ap (λ v. cond v (Some b.body) (body_of (stored_key j) bodies)) (ties-same (stored_key j) (stored_key b.entry) ∙ same-stored in_use apart b.entry j ub uj)
