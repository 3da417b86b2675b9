-- What a look-up finds that a request may not have.
use Rattle.std.proofs.Common.{◌≡◌, ℕ, refl, ap, sym, ◌∙◌, subst, true, false}
use Rattle.std.specs.Prelude.{Bool, Option, Some, None, Ok, Err, Result, if◌then◌else◌}
use Rattle.cache_words.specs.Time.{MomentValue}
use Rattle.cache_heads.specs.declared.meta.CacheMeta.{CacheMeta}
use Rattle.cache_store.specs.Answers.{Look, in_flight, finished}
use Rattle.cache_store.specs.StoreState.{StoreState}
use Rattle.cache_entries.specs.declared.entry.CacheEntryId.{CacheEntryId}
use Rattle.cache_changes.specs.Store.{Stored}
use Rattle.cache_store.specs.Looks.{LookAnswer, LookAtAnswer, answer_at}
use Rattle.cache_store.specs.Readers.{Reader, PartsReader, IsJoined, IsParted, SameStoreState}
use Rattle.request_store.specs.Looks.{is_hidden, valid_look, IsValidFound, IsValidFoundAt}

module _ {H : Type 0} (reader : H → Reader) (since : Option MomentValue) (meta : CacheMeta) (hit : H) (old mid : StoreState) where
  hides : (look : Look) (shown : CacheMeta) → meta ≡ shown → is_hidden since meta ≡ true → (if is_hidden since shown then None else Some look) ≡ None
  hides look shown e h = ap (λ (b : Bool). if b then None else Some look) (ap (is_hidden since) (sym e) ∙ h)

  -- what is hidden and spent leaves all as it was
  pub hidden-found : (look : Option Look) (new : StoreState) → LookAnswer reader look old (Ok (Some (meta, hit))) mid → is_hidden since meta ≡ true → PartsReader (reader hit) mid new
      → ((n : ℕ) (a b c : StoreState) → IsJoined n a b → IsParted n b c → SameStoreState a c) → IsValidFound reader (valid_look since look) old None new
  hidden-found None new a h p law = absurd (let e = a.0 in cc)
  hidden-found (Some (finished x)) new a h p law =
      let same : new ≡ old = subst (λ (r : Reader). PartsReader r mid new) a.0.1 p ∙ a.1 in
      (hides (finished x) x.meta a.0.0 h, subst (λ (s : StoreState). SameStoreState old s) (sym same) (record { store = refl; next = refl; readings = λ n. refl }))
  hidden-found (Some (in_flight x)) new a h p law =
      (hides (in_flight x) x.meta a.0.0 h, law x.write.number old mid new a.1 (subst (λ (r : Reader). PartsReader r mid new) a.0.1 p))

  -- what is not hidden is found
  pub shown-found : (look : Option Look) → LookAnswer reader look old (Ok (Some (meta, hit))) mid → (is_hidden since meta ≡ false) → IsValidFound reader (valid_look since look) old (Some (meta, hit)) mid
  shown-found None a h = absurd (let e = a.0 in cc)
  shown-found (Some (finished x)) a h =
      subst (λ (o : Option Look). LookAnswer reader o old (Ok (Some (meta, hit))) mid) (sym (ap (λ (b : Bool). if b then None else Some (finished x)) (ap (is_hidden since) (sym a.0.0) ∙ h))) a
  shown-found (Some (in_flight x)) a h =
      subst (λ (o : Option Look). LookAnswer reader o old (Ok (Some (meta, hit))) mid) (sym (ap (λ (b : Bool). if b then None else Some (in_flight x)) (ap (is_hidden since) (sym a.0.0) ∙ h))) a

-- where a look-up at a moment finds nothing, nothing is there
module _ {H : Type 0} (reader : H → Reader) (weight : H → ℕ) (id : H → Option CacheEntryId) (weigh : Stored CacheMeta → ℕ) (stored : Option CacheEntryId) (moment : MomentValue) (since : Option MomentValue) (old new : StoreState) where
  nothing-found : (look : Option Look) → LookAnswer reader look old (Ok None) new → IsValidFound reader (valid_look since look) old None new
  nothing-found None a = (refl, subst (λ (s : StoreState). SameStoreState old s) (sym a.1) (record { store = refl; next = refl; readings = λ n. refl }))
  nothing-found (Some (finished x)) a = absurd a.0
  nothing-found (Some (in_flight x)) a = absurd a.0

  pub absent-at : (look : Option Look) → LookAtAnswer reader weight id weigh stored moment look old (Ok None) new → IsValidFoundAt reader weight id weigh stored moment since look old None new
  absent-at look (Ok None, a, t, e) = (None, nothing-found look a, t, refl)
  absent-at look (Ok (Some found), a, t, e) = absurd cc
  absent-at look (Err fault, a, t, e) = absurd cc
