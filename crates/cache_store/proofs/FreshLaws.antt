-- Look-ups for a fresh response that find a stale one.
use Rattle.std.proofs.Common.{◌≡◌, ℕ, refl, ap, sym, ◌∙◌, subst, true, false}
use Rattle.std.specs.Prelude.{Bool, Option, Some, None, Ok, Err, if◌then◌else◌}
use Rattle.cache_words.specs.Time.{MomentValue}
use Rattle.cache_changes.specs.Store.{Stored}
use Rattle.cache_entries.specs.declared.entry.CacheEntryId.{CacheEntryId}
use Rattle.cache_heads.specs.Fresh.{is_fresh_at}
use Rattle.cache_heads.specs.declared.meta.CacheMeta.{CacheMeta}
use Rattle.cache_store.specs.declared.storage.store.FoundAt.{FoundAt}
use Rattle.cache_store.specs.declared.storage.store.FoundAt.TheVariants.{Fresh, Stale}
use Rattle.cache_store.specs.declared.storage.store.FreshLook.TheVariants as for_fresh
use Rattle.cache_store.specs.Answers.{Look, in_flight, finished}
use Rattle.cache_store.specs.StoreState.{StoreState}
use Rattle.cache_store.specs.Looks.{LookAtAnswer, LookFreshAnswer}
use Rattle.cache_store.specs.Readers.{Reader, PartsReader, SameStoreState}
use Rattle.cache_store.proofs.SameLaws.{joined-parted}

unchanged : (old new : StoreState) → new ≡ old → SameStoreState old new
unchanged old new e = subst (λ (h : StoreState). SameStoreState old h) (sym e) (record { store = refl; next = refl; readings = λ n. refl })

module _ {H : Type 0} (reader : H → Reader) (weight : H → ℕ) (id : H → Option CacheEntryId) (weigh : Stored CacheMeta → ℕ) (stored : Option CacheEntryId) (moment : MomentValue) (old : StoreState) where
  is-stale : (meta : CacheMeta) (hit : H) (found : CacheMeta × H) (v : Bool) → Stale meta hit ≡ (if v then Fresh found.0.internal.fresh_until found.1 else Stale found.0 found.1) → (v ≡ false) × (hit ≡ found.1)
  is-stale meta hit found true e = absurd cc
  is-stale meta hit found false e = (refl, cc)

  pub stale : (meta : CacheMeta) (hit : H) (at : FoundAt H) → at ≡ Stale meta hit → (look : Option Look) (mid new : StoreState) → LookAtAnswer reader weight id weigh stored moment look old (Ok (Some at)) mid → PartsReader (reader hit) mid new
      → LookFreshAnswer reader weight id weigh stored moment look old (Ok for_fresh.Stale) new
  stale meta hit at s look mid new (Ok None, a, t, e) p = absurd cc
  stale meta hit at s look mid new (Err f, a, t, e) p = absurd cc
  stale meta hit at s None mid new (Ok (Some found), a, t, e) p = absurd (let none = a.0 in cc)
  stale meta hit at s (Some (finished x)) mid new (Ok (Some found), a, t, e) p =
      let told = is-stale meta hit found (is_fresh_at found.0.internal.fresh_until moment) cc in (
        refl,
        ap (λ (m : CacheMeta). is_fresh_at m.internal.fresh_until moment) (sym a.0.0) ∙ told.0,
        unchanged old new (subst (λ (r : Reader). PartsReader r mid new) (ap reader told.1 ∙ a.0.1) p ∙ a.1),
      )
  stale meta hit at s (Some (in_flight x)) mid new (Ok (Some found), a, t, e) p =
      let told = is-stale meta hit found (is_fresh_at found.0.internal.fresh_until moment) cc in (
        refl,
        ap (λ (m : CacheMeta). is_fresh_at m.internal.fresh_until moment) (sym a.0.0) ∙ told.0,
        joined-parted x.write.number old mid new a.1 (subst (λ (r : Reader). PartsReader r mid new) (ap reader told.1 ∙ a.0.1) p),
      )
