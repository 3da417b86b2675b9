-- Each change keeps two states in agreement.
use Rattle.std.proofs.Common.{◌≡◌, ℕ, refl, ap, sym, ◌∙◌, true, false, cond, [], ◌∷◌, ◌++◌}
use Rattle.std.specs.Prelude.{◌==◌, Bool, List, Option, Some, None, option_map, not, find, filter, map}
use Rattle.cache_entries.specs.Keys.{same_bytes}
use Rattle.cache_changes.specs.Changes.{StoredKey, Write, Change, begins, appends, ends, finishes, leaves, renews, removes, admits, uses, reweighs, departs, evicts, key_alone, is_key}
use Rattle.cache_changes.specs.Store.{Stored, Flying, Store, is_of, has_number, body_at, flying_at, begun, with_bytes, ended, renewed, renewed_flying, marked, landed, with_body, removed_from, after}
use Rattle.cache_changes.proofs.RowLaws.{find-map}
use Rattle.cache_store.specs.Agree.{settled, settled_flying, Agree}
use Rattle.cache_store.proofs.BodyLaws.{body-put, body-removed}

module _ {M : Type 0} where
  -- writes in flight, each changed
  through : (g : Flying M → Flying M) → ((f : Flying M) → settled_flying (g f) ≡ settled_flying (g (settled_flying f)))
      → (fs : List (Flying M)) → map settled_flying (map g fs) ≡ map (λ f. settled_flying (g f)) (map settled_flying fs)
  through g h [] = refl
  through g h (f ∷ fs) = λ i. h f i ∷ through g h fs i

  mapped : (g : Flying M → Flying M) → ((f : Flying M) → settled_flying (g f) ≡ settled_flying (g (settled_flying f)))
      → (fs gs : List (Flying M)) → map settled_flying fs ≡ map settled_flying gs → map settled_flying (map g fs) ≡ map settled_flying (map g gs)
  mapped g h fs gs e = through g h fs ∙ ap (map (λ f. settled_flying (g f))) e ∙ sym (through g h gs)

  on_one : (n : ℕ) (change : Flying M → Flying M) → ((f : Flying M) → settled_flying (change f) ≡ settled_flying (change (settled_flying f)))
      → (f : Flying M) → settled_flying (cond (has_number n f) (change f) f) ≡ settled_flying (cond (has_number n f) (change (settled_flying f)) (settled_flying f))
  on_one n change h f = by_test (has_number n f)
    where
      by_test : (v : Bool) → settled_flying (cond v (change f) f) ≡ settled_flying (cond v (change (settled_flying f)) (settled_flying f))
      by_test true = h f
      by_test false = refl

  renewed_one : (n : ℕ) (meta : M) (x : Stored M) → settled (renewed n meta x) ≡ settled (renewed n meta (settled x))
  renewed_one n meta x = by_test (n == x.write.number)
    where
      by_test : (v : Bool) → settled (cond v (record x { meta = meta }) x) ≡ settled (cond v (record (settled x) { meta = meta }) (settled x))
      by_test true = refl
      by_test false = refl

  -- a write begins, and one lands
  pushed : (w : Write M) (fs : List (Flying M)) → map settled_flying (fs ++ begun w ∷ []) ≡ map settled_flying fs ++ begun w ∷ []
  pushed w [] = refl
  pushed w (f ∷ fs) = ap (λ (l : List (Flying M)). settled_flying f ∷ l) (pushed w fs)

  gone : (n : ℕ) (fs : List (Flying M)) → map settled_flying (landed n fs) ≡ landed n (map settled_flying fs)
  gone n [] = refl
  gone n (f ∷ fs) = by_test (has_number n f) (gone n fs)
    where
      by_test : (v : Bool) → map settled_flying (landed n fs) ≡ landed n (map settled_flying fs)
          → map settled_flying (cond (not v) (f ∷ landed n fs) (landed n fs)) ≡ cond (not v) (settled_flying f ∷ landed n (map settled_flying fs)) (landed n (map settled_flying fs))
      by_test true ih = ih
      by_test false ih = ap (λ (l : List (Flying M)). settled_flying f ∷ l) ih

  landed_both : (n : ℕ) (fs gs : List (Flying M)) → map settled_flying fs ≡ map settled_flying gs → map settled_flying (landed n fs) ≡ map settled_flying (landed n gs)
  landed_both n fs gs e = gone n fs ∙ ap (landed n) e ∙ sym (gone n gs)

  -- the body of a key
  stored_option : (o : Option (Flying M)) → option_map settled (option_map (λ f. f.stored) o) ≡ option_map (λ f. f.stored) (option_map settled_flying o)
  stored_option None = refl
  stored_option (Some f) = refl

  landing : (n : ℕ) (fs gs : List (Flying M)) → map settled_flying fs ≡ map settled_flying gs
      → option_map settled (option_map (λ f. f.stored) (find (has_number n) fs)) ≡ option_map settled (option_map (λ f. f.stored) (find (has_number n) gs))
  landing n fs gs e =
      stored_option (find (has_number n) fs) ∙ ap (option_map (λ f. f.stored)) (sym (find-map (has_number n) settled_flying fs (λ f. refl)) ∙ ap (find (has_number n)) e ∙ find-map (has_number n) settled_flying gs (λ f. refl))
      ∙ sym (stored_option (find (has_number n) gs))

  unfoldable placed : StoredKey → Option (Stored M) → Option (Stored M) → Option (Stored M)
  placed k None b = b
  placed k (Some x) b = cond (same_bytes x.write.key k) (Some x) b

  placed_body : (k : StoredKey) (o : Option (Stored M)) (xs : List (Stored M)) → find (is_of k) (with_body o xs) ≡ placed k o (find (is_of k) xs)
  unfolding placed
  placed_body k None xs = refl
  placed_body k (Some x) xs = body-put x xs k

  placed_settled : (k : StoredKey) (o b : Option (Stored M)) → option_map settled (placed k o b) ≡ placed k (option_map settled o) (option_map settled b)
  unfolding placed
  placed_settled k None b = refl
  placed_settled k (Some x) b = by_test (same_bytes x.write.key k)
    where
      by_test : (v : Bool) → option_map settled (cond v (Some x) b) ≡ cond v (Some (settled x)) (option_map settled b)
      by_test true = refl
      by_test false = refl

  finish_body : (n : ℕ) (k : StoredKey) (s t : Store M) → Agree s t
      → option_map settled (find (is_of k) (with_body (option_map (λ f. f.stored) (flying_at n s)) s.bodies)) ≡ option_map settled (find (is_of k) (with_body (option_map (λ f. f.stored) (flying_at n t)) t.bodies))
  finish_body n k s t a =
      ap (option_map settled) (placed_body k (option_map (λ f. f.stored) (flying_at n s)) s.bodies) ∙ placed_settled k (option_map (λ f. f.stored) (flying_at n s)) (body_at k s)
      ∙ (λ i. placed k (landing n s.flying t.flying a.flying i) (a.bodies k i))
      ∙ sym (ap (option_map settled) (placed_body k (option_map (λ f. f.stored) (flying_at n t)) t.bodies) ∙ placed_settled k (option_map (λ f. f.stored) (flying_at n t)) (body_at k t))

  renew_body : (n : ℕ) (meta : M) (k : StoredKey) (xs : List (Stored M)) → option_map settled (find (is_of k) (map (renewed n meta) xs)) ≡ option_map (λ x. settled (renewed n meta x)) (option_map settled (find (is_of k) xs))
  renew_body n meta k xs = ap (option_map settled) (find-map (is_of k) (renewed n meta) xs (λ x. same_of x)) ∙ by_option (find (is_of k) xs)
    where
      same_of : (x : Stored M) → is_of k (renewed n meta x) ≡ is_of k x
      same_of x = by_test (n == x.write.number)
        where
          by_test : (v : Bool) → is_of k (cond v (record x { meta = meta }) x) ≡ is_of k x
          by_test true = refl
          by_test false = refl

      by_option : (o : Option (Stored M)) → option_map settled (option_map (renewed n meta) o) ≡ option_map (λ x. settled (renewed n meta x)) (option_map settled o)
      by_option None = refl
      by_option (Some x) = ap (λ (y : Stored M). Some y) (renewed_one n meta x)

  nothing_gone : (xs : List (Stored M)) → filter (λ x. not (is_key x.write.key None)) xs ≡ xs
  nothing_gone [] = refl
  nothing_gone (x ∷ xs) = ap (λ (l : List (Stored M)). x ∷ l) (nothing_gone xs)

  none_settled : (v : Bool) (o : Option (Stored M)) → option_map settled (cond v None o) ≡ cond v None (option_map settled o)
  none_settled true o = refl
  none_settled false o = refl

  remove_body : (key : Option StoredKey) (k : StoredKey) (s t : Store M) → Agree s t
      → option_map settled (find (is_of k) (filter (λ x. not (is_key x.write.key key)) s.bodies)) ≡ option_map settled (find (is_of k) (filter (λ x. not (is_key x.write.key key)) t.bodies))
  remove_body None k s t a = ap (λ (xs : List (Stored M)). option_map settled (find (is_of k) xs)) (nothing_gone s.bodies) ∙ a.bodies k ∙ sym (ap (λ (xs : List (Stored M)). option_map settled (find (is_of k) xs)) (nothing_gone t.bodies))
  remove_body (Some j) k s t a =
      ap (option_map settled) (body-removed j s.bodies k) ∙ none_settled (same_bytes j k) (body_at k s) ∙ ap (cond (same_bytes j k) None) (a.bodies k)
      ∙ sym (ap (option_map settled) (body-removed j t.bodies k) ∙ none_settled (same_bytes j k) (body_at k t))

  removed-agree : (key : Option StoredKey) (s t : Store M) → Agree s t → Agree (removed_from key s) (removed_from key t)
  removed-agree key s t a = record { bodies = λ k. remove_body key k s t a; flying = mapped (marked key) (λ f. refl) s.flying t.flying a.flying }

  pub agree-after : (c : Change M) (s t : Store M) → Agree s t → Agree (after c s) (after c t)
  agree-after (begins w) s t a = record { bodies = a.bodies; flying = pushed w s.flying ∙ ap (λ (fs : List (Flying M)). fs ++ begun w ∷ []) a.flying ∙ sym (pushed w t.flying) }
  agree-after (appends n bytes) s t a = record { bodies = a.bodies; flying = mapped (λ f. cond (has_number n f) (with_bytes bytes f) f) (on_one n (with_bytes bytes) (λ f. refl)) s.flying t.flying a.flying }
  agree-after (ends n) s t a = record { bodies = a.bodies; flying = mapped (λ f. cond (has_number n f) (ended f) f) (on_one n ended (λ f. refl)) s.flying t.flying a.flying }
  agree-after (finishes w) s t a = record { bodies = λ k. finish_body w.number k s t a; flying = landed_both w.number s.flying t.flying a.flying }
  agree-after (leaves n) s t a = record { bodies = a.bodies; flying = landed_both n s.flying t.flying a.flying }
  agree-after (renews n meta) s t a = record {
    bodies = λ k. renew_body n meta k s.bodies ∙ ap (option_map (λ x. settled (renewed n meta x))) (a.bodies k) ∙ sym (renew_body n meta k t.bodies);
    flying = mapped (renewed_flying n meta) (λ f. λ i. record (settled_flying f) { stored = renewed_one n meta f.stored i }) s.flying t.flying a.flying;
  }
  agree-after (removes k) s t a = removed-agree (Some k) s t a
  agree-after (evicts e) s t a = removed-agree (key_alone e) s t a
  agree-after (admits e w) s t a = a
  agree-after (uses e w) s t a = a
  agree-after (reweighs e w) s t a = a
  agree-after (departs e) s t a = a
