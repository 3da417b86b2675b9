-- Rows and bodies agree after each change of both.
use Rattle.std.proofs.Common.{◌≡◌, ℕ, ◌||◌, Bool, true, false, cond, List, [], ◌∷◌, ◌++◌, Option, Some, None, refl, ap, sym, ◌∙◌, subst}
use Rattle.std.specs.Prelude.{not, is_some}
use Rattle.std.specs.List.{AllByRecursion}
use Rattle.cache_entries.specs.declared.entry.CacheEntryKey.{CacheEntryKey}
use Rattle.cache_entries.specs.declared.rows.Tracked.{Tracked}
use Rattle.cache_entries.specs.Entry.{same_entry}
use Rattle.cache_entries.specs.Rows.{without_row, AreDistinct}
use Rattle.cache_changes.specs.Changes.{stored_key, key_alone}
use Rattle.curve_loads.specs.Steps.{has_row, row_for, put_first}
use Rattle.curve_loads.proofs.Entries.{same-is}
use Rattle.curve_loads.proofs.Rows.{has-here, has-further, has-without, has-gone}
use Rattle.tier_model.specs.declared.state.Body.{Body}
use Rattle.tier_model.specs.Keys.{Entry, alone}
use Rattle.tier_model.specs.Rows.{Bodies, FinishedBody, body_of, with_body, without_body, without_key}
use Rattle.tier_loads.specs.Holds.{AreApart, Agrees}
use Rattle.tier_loads.proofs.Distinct.{has-push, last-once}
use Rattle.tier_loads.proofs.Stored.{entry-is, body_of-without, body_of-with}

module _ (in_use : Entry → Bool) (apart : AreApart in_use) where
  abbrev AreOwn : List Tracked → Type 0
  AreOwn rows = AllByRecursion (λ r. (k : Entry) × (in_use k ≡ true) × (r.entry ≡ alone k)) rows

  own-without : (e : CacheEntryKey) (rows : List Tracked) → AreOwn rows → AreOwn (without_row e rows)
  own-without e [] h = tt
  own-without e (r ∷ rows) h = by_test (same_entry r.entry e) (own-without e rows h.1)
    where
      by_test : (t : Bool) → AreOwn (without_row e rows) → AreOwn (cond (not t) (r ∷ without_row e rows) (without_row e rows))
      by_test true ih = ih
      by_test false ih = (h.0, ih)

  own-front : (front : List Tracked) (r : Tracked) → AreOwn (front ++ r ∷ []) → AreOwn front
  own-front [] r h = tt
  own-front (x ∷ front) r h = (h.0, own-front front r h.1)

  own-last : (front : List Tracked) (r : Tracked) → AreOwn (front ++ r ∷ []) → (k : Entry) × (in_use k ≡ true) × (r.entry ≡ alone k)
  own-last [] r h = h.0
  own-last (x ∷ front) r h = own-last front r h.1

  -- a body is stored under an entry that is put first
  pub agrees-put : (weight : CacheEntryKey → ℕ) (n : ℕ) (b : FinishedBody) (rows : List Tracked) (bodies : Bodies) → in_use b.entry ≡ true → Agrees in_use rows bodies
      → Agrees in_use (put_first weight (alone b.entry) rows) (with_body n b bodies)
  agrees-put weight n b rows bodies u a = record {
    both = λ j uj. by_test j uj (same_entry (alone b.entry) (alone j)) refl;
    own = ((b.entry, u, refl), own-without (alone b.entry) rows a.own);
  }
    where
      by_test : (j : Entry) → in_use j ≡ true → (t : Bool) → same_entry (alone b.entry) (alone j) ≡ t
          → is_some (body_of (stored_key j) (with_body n b bodies)) ≡ has_row (alone j) (put_first weight (alone b.entry) rows)
      by_test j uj true t =
          ap (λ (o : Option Body). is_some o) (body_of-with in_use apart n b j u uj bodies ∙ ap (λ v. cond v (Some b.body) (body_of (stored_key j) bodies)) t)
          ∙ sym (has-here (alone j) (row_for weight (alone b.entry)) (without_row (alone b.entry) rows) t)
      by_test j uj false t =
          ap (λ (o : Option Body). is_some o) (body_of-with in_use apart n b j u uj bodies ∙ ap (λ v. cond v (Some b.body) (body_of (stored_key j) bodies)) t) ∙ a.both j uj
          ∙ sym (has-further (alone j) (row_for weight (alone b.entry)) (without_row (alone b.entry) rows) t ∙ has-without (alone j) (alone b.entry) rows t)

  -- an entry that has a row is put first
  pub agrees-use : (weight : CacheEntryKey → ℕ) (k : Entry) (rows : List Tracked) (bodies : Bodies) → in_use k ≡ true → has_row (alone k) rows ≡ true → Agrees in_use rows bodies
      → Agrees in_use (put_first weight (alone k) rows) bodies
  agrees-use weight k rows bodies u h a = record {
    both = λ j uj. a.both j uj ∙ by_test j (same_entry (alone k) (alone j)) refl;
    own = ((k, u, refl), own-without (alone k) rows a.own);
  }
    where
      by_test : (j : Entry) → (t : Bool) → same_entry (alone k) (alone j) ≡ t → has_row (alone j) rows ≡ has_row (alone j) (put_first weight (alone k) rows)
      by_test j true t =
          subst (λ (e : Entry). has_row (alone e) rows ≡ true) (entry-is k j t) h ∙ sym (has-here (alone j) (row_for weight (alone k)) (without_row (alone k) rows) t)
      by_test j false t = sym (has-further (alone j) (row_for weight (alone k)) (without_row (alone k) rows) t ∙ has-without (alone j) (alone k) rows t)

  -- an entry goes, and what is stored under its key
  pub agrees-remove : (k : Entry) (rows : List Tracked) (bodies : Bodies) → in_use k ≡ true → Agrees in_use rows bodies → Agrees in_use (without_row (alone k) rows) (without_body (stored_key k) bodies)
  agrees-remove k rows bodies u a = record { both = λ j uj. by_test j uj (same_entry (alone k) (alone j)) refl; own = own-without (alone k) rows a.own }
    where
      by_test : (j : Entry) → in_use j ≡ true → (t : Bool) → same_entry (alone k) (alone j) ≡ t
          → is_some (body_of (stored_key j) (without_body (stored_key k) bodies)) ≡ has_row (alone j) (without_row (alone k) rows)
      by_test j uj true t =
          ap (λ (o : Option Body). is_some o) (body_of-without in_use apart k j u uj bodies ∙ ap (λ v. cond v None (body_of (stored_key j) bodies)) t)
          ∙ sym (subst (λ (e : CacheEntryKey). has_row e (without_row (alone k) rows) ≡ false) (same-is (alone k) (alone j) t) (has-gone (alone k) rows))
      by_test j uj false t =
          ap (λ (o : Option Body). is_some o) (body_of-without in_use apart k j u uj bodies ∙ ap (λ v. cond v None (body_of (stored_key j) bodies)) t) ∙ a.both j uj
          ∙ sym (has-without (alone j) (alone k) rows t)

  -- the last entry is evicted, and what is stored under its key
  pub agrees-evict : (front : List Tracked) (r : Tracked) (bodies : Bodies) → AreDistinct (front ++ r ∷ []) → Agrees in_use (front ++ r ∷ []) bodies
      → Agrees in_use front (without_key (key_alone r.entry) bodies)
  agrees-evict front r bodies d a =
      subst (λ (e : CacheEntryKey). Agrees in_use front (without_key (key_alone e) bodies)) (sym is)
      (record { both = λ j uj. by_test j uj (same_entry (alone k) (alone j)) refl; own = own-front front r a.own })
    where
      k : Entry
      k = (own-last front r a.own).0

      u : in_use k ≡ true
      u = (own-last front r a.own).1

      is : r.entry ≡ alone k
      is = (own-last front r a.own).2

      once : has_row (alone k) front ≡ false
      once = subst (λ (e : CacheEntryKey). has_row e front ≡ false) is (last-once front r d)

      both : (j : Entry) → has_row (alone j) (front ++ r ∷ []) ≡ (has_row (alone j) front || same_entry (alone k) (alone j))
      both j = has-push (alone j) front r ∙ ap (λ (e : CacheEntryKey). has_row (alone j) front || same_entry e (alone j)) is

      or_false : (b : Bool) → (b || false) ≡ b
      or_false true = refl
      or_false false = refl

      by_test : (j : Entry) → in_use j ≡ true → (t : Bool) → same_entry (alone k) (alone j) ≡ t → is_some (body_of (stored_key j) (without_body (stored_key k) bodies)) ≡ has_row (alone j) front
      by_test j uj true t =
          ap (λ (o : Option Body). is_some o) (body_of-without in_use apart k j u uj bodies ∙ ap (λ v. cond v None (body_of (stored_key j) bodies)) t)
          ∙ sym (subst (λ (e : Entry). has_row (alone e) front ≡ false) (entry-is k j t) once)
      by_test j uj false t =
          ap (λ (o : Option Body). is_some o) (body_of-without in_use apart k j u uj bodies ∙ ap (λ v. cond v None (body_of (stored_key j) bodies)) t) ∙ a.both j uj ∙ both j
          ∙ ap (λ (b : Bool). has_row (alone j) front || b) t ∙ or_false (has_row (alone j) front)
