-- Purges are taken.
use Rattle.std.proofs.Common.{◌≡◌, ℕ, refl, ap, sym, ◌∙◌, Bool, true, false, subst, cond, [], ◌∷◌, length}
use Rattle.std.specs.Prelude.{Ok, List, Option, Some, None, ◌||◌, find, map}
use Rattle.cache_entries.specs.Keys.{same_bytes}
use Rattle.cache_entries.specs.SameEntry.{same_bytes-tells, same-sym}
use Rattle.std.specs.FinMap.{get}
use Rattle.tier_model.specs.Rows.{Numbered, Bodies, without_body}
use Rattle.tier_model.proofs.BodyLaws.{held-without}
use Rattle.tier_requests.proofs.ShelfLaws.{same-bodies}
use Rattle.cache_words.specs.Time.{MomentValue}
use Rattle.cache_words.specs.Key.{CacheKeyValue}
use Rattle.cache_entries.specs.declared.entry.CacheEntryKey.{CacheEntryKey}
use Rattle.cache_changes.specs.Changes.{StoredKey}
use Rattle.cache_evict.specs.Managed.{taken_out}
use Rattle.tier_model.specs.declared.event.Action.TheVariants.{Purge}
use Rattle.tier_model.specs.declared.event.Answer.TheVariants.{Purged}
use Rattle.tier_model.specs.Keys.{entry_of, alone, stored_key_of}
use Rattle.tier_model.specs.Shelf.{InFlight, Shelf, flies_for, look, look_by, is_there, marked, removed}
use Rattle.tier_model.specs.State.{State}
use Rattle.tier_model.specs.After.{after_purge, with_counts}
use Rattle.tier_single.specs.Acts.{Took}
use Rattle.tier_single.proofs.TookLaws.{plain_call}

module _ (s : State) (t : MomentValue) (key : CacheKeyValue) where
  abbrev found : Bool
  found = is_there (look (stored_key_of key) s.shelf)

  purged_by : (v : Bool) → found ≡ v → Took s t (Purge key) (Ok (Purged v)) (after_purge s key v)
  purged_by v e = (
    plain_call t (Purge key) (Ok (Purged v)) false,
    refl,
    refl,
    record { read = tt; outcome = ap (λ (v : Bool). Purged v) (sym e); begins = refl; asks = tt },
    kept v ∙ ap (λ (v : Bool). with_counts s.shelf.writes s.lock (after_purge s key v)) (sym e),
  )
    where
      kept : (v : Bool) → after_purge s key v ≡ with_counts s.shelf.writes s.lock (after_purge s key v)
      kept true = refl
      kept false = refl

  -- in n shards, by a stored key and an entry that are those of the key
  pub Took-purged : (n : ℕ) (k : StoredKey) (e : CacheEntryKey) → length s.managed.shards ≡ n → k ≡ stored_key_of key → e ≡ alone (entry_of key) → is_there (look k s.shelf) ≡ true
      → Took s t (Purge key) (Ok (Purged true)) (record s { shelf = removed k s.shelf; managed = taken_out n e s.managed })
  Took-purged n k e count stored entry there =
      subst (λ (x : ℕ). Took s t (Purge key) (Ok (Purged true)) (record s { shelf = removed k s.shelf; managed = taken_out x e s.managed })) count
      (rw (stored, entry) (purged_by true (sym (ap (λ (x : StoredKey). is_there (look x s.shelf)) stored) ∙ there)))

  pub Took-not-purged : (k : StoredKey) → k ≡ stored_key_of key → is_there (look k s.shelf) ≡ false → Took s t (Purge key) (Ok (Purged false)) s
  Took-not-purged k stored none = purged_by false (sym (ap (λ (x : StoredKey). is_there (look x s.shelf)) stored) ∙ none)

-- ---- a key that has nothing

open_none : (o : Option InFlight) (b : Option Numbered) → is_there (look_by o b) ≡ false → (o ≡ None) × (b ≡ None)
open_none None None e = (refl, refl)
open_none None (Some b) e = absurd cc
open_none (Some f) b e = absurd cc

-- its writes in flight are marked already
marked-none : (k : StoredKey) (fs : List InFlight) → find (flies_for k) fs ≡ None → map (marked (Some k)) fs ≡ fs
marked-none k [] e = refl
marked-none k (f ∷ fs) e = by_key (same_bytes f.key k) refl f.removed refl e (marked-none k fs (rest (flies_for k f) refl e))
  where
    rest : (v : Bool) → flies_for k f ≡ v → cond (flies_for k f) (Some f) (find (flies_for k) fs) ≡ None → find (flies_for k) fs ≡ None
    rest true is e = let both : Some f ≡ None = sym (ap (λ (v : Bool). cond v (Some f) (find (flies_for k) fs)) is) ∙ e in absurd cc
    rest false is e = sym (ap (λ (v : Bool). cond v (Some f) (find (flies_for k) fs)) is) ∙ e

    both_same : same_bytes k f.key ≡ same_bytes f.key k
    both_same = same-sym same_bytes same_bytes-tells k f.key

    by_key : (v : Bool) → same_bytes f.key k ≡ v → (w : Bool) → f.removed ≡ w → cond (flies_for k f) (Some f) (find (flies_for k) fs) ≡ None → map (marked (Some k)) fs ≡ fs → map (marked (Some k)) (f ∷ fs) ≡ f ∷ fs
    by_key v is w was e same =
        let stays : f.removed || same_bytes k f.key ≡ f.removed = kept v w is was e in
        λ i. record f { removed = stays i } ∷ same i
      where
        kept : (v w : Bool) → same_bytes f.key k ≡ v → f.removed ≡ w → cond (flies_for k f) (Some f) (find (flies_for k) fs) ≡ None → f.removed || same_bytes k f.key ≡ f.removed
        kept v true is was e = rw was refl
        kept false false is was e = rw (was, both_same, is) refl
        kept true false is was e =
            let flies : flies_for k f ≡ true = rw (is, was) refl in
            let both : Some f ≡ None = sym (ap (λ (v : Bool). cond v (Some f) (find (flies_for k) fs)) flies) ∙ e in
            absurd cc

without-none : (k : StoredKey) (bodies : Bodies) → get bodies k ≡ None → without_body k bodies ≡ bodies
without-none k bodies none = same-bodies (without_body k bodies) bodies (λ j. held-without j k bodies ∙ by_key j (same_bytes k j) refl)
  where
    by_key : (j : StoredKey) (v : Bool) → same_bytes k j ≡ v → cond v None (get bodies j) ≡ get bodies j
    by_key j true e = sym (ap (λ (i : StoredKey). get bodies i) (sym (same_bytes-tells.equal k j e)) ∙ none)
    by_key j false e = refl

-- what isn't there leaves nothing when it is removed
pub removed-none : (k : StoredKey) (shelf : Shelf) → is_there (look k shelf) ≡ false → removed k shelf ≡ shelf
removed-none k shelf none =
    let both = open_none (find (flies_for k) shelf.flying) (get shelf.bodies k) none in
    λ i. record { bodies = without-none k shelf.bodies both.1 i; flying = marked-none k shelf.flying both.0 i; readers = shelf.readers; writes = shelf.writes }
