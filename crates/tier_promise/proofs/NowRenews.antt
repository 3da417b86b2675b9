-- Bodies and writes in flight stay those that the changes leave, as a body is renewed and its entry weighed anew.
use Rattle.std.proofs.Common.{◌≡◌, ℕ, refl, ap, sym, ◌∙◌, true, false, subst, cond, [], ◌∷◌, arith}
use Rattle.std.specs.Prelude.{Bool, List, Option, Some, None, option_map, map}
use Rattle.std.specs.List.{AllByRecursion}
use Rattle.std.specs.FinMap.{get, insert}
use Rattle.std.proofs.lemmas.Bool.{eq-eqb}
use Rattle.cache_entries.specs.Keys.{same_bytes}
use Rattle.cache_entries.specs.SameEntry.{same_bytes-tells}
use Rattle.cache_heads.specs.declared.meta.CacheMeta.{CacheMeta}
use Rattle.cache_changes.specs.Changes.{StoredKey, stored_key}
use Rattle.tier_model.specs.Keys.{Entry}
use Rattle.tier_model.specs.Rows.{Numbered, Bodies, with_meta}
use Rattle.tier_model.specs.Shelf.{InFlight}
use Rattle.tier_promise.specs.Promise.{Write, Changes, renews, bytes_of, is_done, flying, body_of}
use Rattle.tier_promise.specs.Promise as now_is
use Rattle.tier_model.proofs.BodyLaws.{held-with}
use Rattle.tier_promise.proofs.NowLists.{all-mapped}
use Rattle.tier_promise.proofs.NowFits.{Numbers, Told, told_write, BodyFits, ShelfFits}
use Rattle.tier_promise.proofs.NowOrder.{IsOrderly, IsFlightOf, IsBodyOf, flights-of, body-of, kept-as-is, other-landed, other-body}

-- those that a change leaves as they are
map-as-is : {X : Type 0} (g : X → X) (xs : List X) → AllByRecursion (λ x. g x ≡ x) xs → map g xs ≡ xs
map-as-is g [] all = refl
map-as-is {X = X} g (x ∷ xs) all = ap (λ (y : X). y ∷ map g xs) all.0 ∙ ap (λ (ys : List X). x ∷ ys) (map-as-is g xs all.1)

module _ (numbers : Numbers) (bodies : Bodies) (fs : List InFlight) (next : ℕ) (c : Changes) (f : ShelfFits numbers bodies fs next c) (o : IsOrderly c) (k : StoredKey) (b : Numbered) (w : Write) (held : get bodies k ≡ Some b)
    (at : body_of k c ≡ Some w) (e : Entry) (own : stored_key e ≡ k) (meta : CacheMeta) where
  abbrev bytes : ℕ → List ℕ
  bytes = λ m. bytes_of m c

  abbrev done : ℕ → Bool
  done = λ m. is_done m c

  abbrev new : Numbered
  new = record b { body = record b.body { meta = meta } }

  abbrev with_it : Write → Write
  with_it = now_is.with_meta w.number e meta

  i : IsBodyOf k c w
  i = body-of k c o w at

  -- what is held of it is what the changes say
  pub body-fits : BodyFits numbers bytes done k (Some b) (Some w)
  body-fits = subst (λ (y : Option Numbered). BodyFits numbers bytes done k y (Some w)) held (subst (λ (y : Option Write). BodyFits numbers bytes done k (get bodies k) y) at (f.bodies k))

  -- none in flight is renewed
  flying_as_is : (j : StoredKey) → map with_it (flying j c) ≡ flying j c
  flying_as_is j = map-as-is with_it (flying j c) (all-mapped (IsFlightOf j c) (λ v. with_it v ≡ v) (flying j c) (λ v h. kept-as-is w.number e meta v (other-landed w.number v.number c i.landed h.flies.yet)) (flights-of j c o))

  new_body : BodyFits numbers bytes done k (Some new) (Some (with_it w))
  new_body = subst (λ (y : Write). BodyFits numbers bytes done k (Some new) (Some y)) (sym (ap (λ (v : Bool). cond v (record w { entry = e; meta = meta }) w) (eq-eqb w.number w.number refl))) (
    ap (λ (t : Told). record { number = t.number; key = k; meta = meta }) body-fits.0 ∙ ap (λ (j : StoredKey). record { number = Some w.number; key = j; meta = meta }) (sym own),
    body-fits.1,
    body-fits.2,
  )

  old_body : (j : StoredKey) → same_bytes k j ≡ false → (v : Option Write) → body_of j c ≡ v → BodyFits numbers bytes done j (get bodies j) v → BodyFits numbers bytes done j (get bodies j) (option_map with_it v)
  old_body j apart None is h = h
  old_body j apart (Some u) is h = subst (λ (y : Write). BodyFits numbers bytes done j (get bodies j) (Some y)) (sym (kept-as-is w.number e meta u (other-body j k u w c o is at apart))) h

  bodies_of : (j : StoredKey) → BodyFits numbers bytes done j (get (with_meta k meta bodies) j) (option_map with_it (body_of j c))
  bodies_of j = subst (λ (y : Option Numbered). BodyFits numbers bytes done j y (option_map with_it (body_of j c))) (sym held_then) (by_key (same_bytes k j) refl)
    where
      held_then : get (with_meta k meta bodies) j ≡ cond (same_bytes k j) (Some new) (get bodies j)
      held_then = rw held (subst (λ (y : StoredKey). get (insert bodies y new) j ≡ cond (same_bytes y j) (Some new) (get bodies j)) own
          (held-with j b.number (record { entry = e; body = record b.body { meta = meta } }) bodies))

      by_key : (v : Bool) → same_bytes k j ≡ v → BodyFits numbers bytes done j (cond v (Some new) (get bodies j)) (option_map with_it (body_of j c))
      by_key true t =
          let here : BodyFits numbers bytes done k (Some new) (option_map with_it (body_of k c)) = subst (λ (y : Option Write). BodyFits numbers bytes done k (Some new) (option_map with_it y)) (sym at) new_body in
          subst (λ (y : StoredKey). BodyFits numbers bytes done y (Some new) (option_map with_it (body_of y c))) (same_bytes-tells.equal k j t) here
      by_key false t = old_body j t (body_of j c) refl (f.bodies j)

  pub shelf-renews : ShelfFits numbers (with_meta k meta bodies) fs next (renews w.number e meta ∷ c)
  shelf-renews = record {
    below = λ n m h. let x = f.below n m h in (x.0, omega (arith, x.1));
    apart = f.apart;
    fresh = λ m h. f.fresh m (omega (arith, h));
    flights = λ j. ap (map told_write) (flying_as_is j) ∙ f.flights j;
    each = f.each;
    bodies = bodies_of;
  }
