-- How a store of one body finishes a write.
use Rattle.std.proofs.Common.{◌≡◌, ◌==◌, ℕ, [], ◌∷◌, true, false, cond, refl, subst}
use Rattle.std.specs.Prelude.{Bool, List, Option, Some, None, is_some, not, find, filter, length}
use Rattle.cache_heads.specs.declared.meta.CacheMeta.{CacheMeta}
use Rattle.cache_changes.specs.Changes.{Write, finishes}
use Rattle.cache_changes.specs.Store.{Stored, Flying, after, has_number, is_of}
use Rattle.cache_store.specs.Agree.{Agree}
use Rattle.cache_store.specs.Answers.{FinishesWith, alive_key}
use Rattle.cache_store.proofs.BodyLaws.{agree-by}
use Rattle.test_requests.specs.declared.one_body.Flight.{Flight}
use Rattle.test_requests.specs.declared.one_body.OneBody.{OneBody}
use Rattle.test_requests.specs.OneBody.{bodies_in, flights_in, flying_in, held_in, stored_in}

-- the one write is the one body then, where the body before it goes
landed-agree : (n : ℕ) (f : Flying CacheMeta) (bs : List (Stored CacheMeta)) → (n == f.stored.write.number) ≡ true → filter (λ y. not (is_of f.stored.write.key y)) bs ≡ []
    → (w : Write CacheMeta) → w.number ≡ n → Agree (record { bodies = f.stored ∷ []; flying = [] }) (after (finishes w) (record { bodies = bs; flying = f ∷ [] }))
landed-agree n f bs e none w is = rw (is, e, none) (agree-by _ _ (λ k. refl) refl)

pub landed : (n size : ℕ) (s : OneBody) (f : Flight) (g : Option Flight) → s.flight ≡ Some f → g ≡ None
    → is_some (alive_key (find (has_number n) (flights_in s.flight))) ≡ true → filter (λ y. not (is_of f.row.key y)) (bodies_in s.body) ≡ [] → size ≡ length f.row.bytes.items
    → FinishesWith n size (held_in s) (record { store = record { bodies = stored_in f.row ∷ []; flying = flights_in g }; next = s.next; readings = [] })
landed n size s f g flew flies alive room long =
    by_test (n == f.row.number) refl (subst (λ (x : Option Flight). is_some (alive_key (find (has_number n) (flights_in x))) ≡ true) flew alive)
  where
    by_test : (b : Bool) → (n == f.row.number) ≡ b → is_some (alive_key (cond b (Some (flying_in f)) None)) ≡ true
        → FinishesWith n size (held_in s) (record { store = record { bodies = stored_in f.row ∷ []; flying = flights_in g }; next = s.next; readings = [] })
    by_test true e a = (
      stored_in f.row,
      long,
      record {
        shown = rw (flew, e) refl;
        store = λ w is. rw (flew, flies) (landed-agree n (flying_in f) (bodies_in s.body) e room w is);
        next = refl;
        readings = rw (flew, e) refl;
      },
    )
    by_test false e a = absurd cc
