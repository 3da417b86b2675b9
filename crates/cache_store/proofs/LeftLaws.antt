-- Readers of a write that is in flight no more.
use Rattle.std.proofs.Common.{arith, ◌≡◌, ℕ, refl, ap, sym, ◌∙◌, true, false, cond}
use Rattle.std.specs.Prelude.{◌==◌, ◌||◌, Bool, List, Option, Some, None, option_map, option_and_then, find}
use Rattle.std.proofs.lemmas.Bool.{eqb-true}
use Rattle.std.proofs.lemmas.Bool.Decides.{nat_tests}
use Rattle.cache_heads.specs.declared.meta.CacheMeta.{CacheMeta}
use Rattle.cache_changes.specs.Changes.{Changes, finishes}
use Rattle.cache_changes.specs.Writes.{bytes_of, has_ended, IsOrderly}
use Rattle.cache_changes.specs.Store.{Stored, Flying, Store, has_number, flying_at, landed, after, store_of}
use Rattle.cache_changes.proofs.FlightLaws.{flying-landed}
use Rattle.cache_changes.proofs.FoundLaws.{store_of-is}
use Rattle.cache_changes.proofs.RowLaws.{find-map, find-passes}
use Rattle.cache_store.specs.Agree.{settled_flying, Agree}
use Rattle.cache_store.specs.Answers.{left_behind, left, IsFinished}
use Rattle.cache_store.specs.StoreState.{Reading, StoreState, left_with}
use Rattle.cache_store.specs.Readers.{left_at, readable_of, readable, reading_at, whole_of, is_whole}

-- states that agree have the same writes in flight
agreed : (n : ℕ) (s t : Store CacheMeta) → Agree s t → option_map settled_flying (flying_at n s) ≡ option_map settled_flying (flying_at n t)
agreed n s t a =
    sym (find-map (has_number n) settled_flying s.flying (λ g. refl)) ∙ ap (find (has_number n)) a.flying ∙ find-map (has_number n) settled_flying t.flying (λ g. refl)

-- of a write in flight changes say the bytes and whether its end came
came : (n : ℕ) (s : Store CacheMeta) (changes : Changes CacheMeta) (f : Flying CacheMeta) → IsOrderly changes → Agree s (store_of changes) → flying_at n s ≡ Some f
    → (f.stored.bytes ≡ bytes_of n changes) × (f.ended ≡ has_ended n changes)
came n s changes f o a e = by_option (flying_at n (store_of changes)) refl (sym (agreed n s (store_of changes) a) ∙ ap (option_map settled_flying) e)
  where
    by_option : (g : Option (Flying CacheMeta)) → flying_at n (store_of changes) ≡ g → option_map settled_flying g ≡ Some (settled_flying f)
        → (f.stored.bytes ≡ bytes_of n changes) × (f.ended ≡ has_ended n changes)
    by_option None t h = absurd cc
    by_option (Some g) t h =
        let flight = (store_of-is changes o).flights n g in
        let told = flight.0 t in
        let alike : settled_flying g ≡ settled_flying f = cc in (
          sym (ap (λ (x : Flying CacheMeta). x.stored.bytes) alike) ∙ ap (λ (x : Stored CacheMeta). x.bytes) told.1.stored ∙ ap (λ (m : ℕ). bytes_of m changes) told.0,
          sym (ap (λ (x : Flying CacheMeta). x.ended) alike) ∙ told.1.ended ∙ ap (λ (m : ℕ). has_ended m changes) told.0,
        )

-- a write in flight has the bytes that came
pub bytes-came : (n : ℕ) (s : Store CacheMeta) (changes : Changes CacheMeta) (f : Flying CacheMeta) → IsOrderly changes → Agree s (store_of changes) → flying_at n s ≡ Some f
    → f.stored.bytes ≡ bytes_of n changes
bytes-came n s changes f o a e = (came n s changes f o a e).0

-- all of a write in flight came just where its end did
pub end-came : (n : ℕ) (h : StoreState) (f : Flying CacheMeta) (changes : Changes CacheMeta) → IsOrderly changes → Agree h.store (store_of changes) → flying_at n h.store ≡ Some f
    → is_whole n h ≡ has_ended n changes
end-came n h f changes o a e = ap (λ (x : Option (Flying CacheMeta)). whole_of x (reading_at n h.readings)) e ∙ (came n h.store changes f o a e).1

-- what readers are left with
abbrev given : ℕ → List ℕ → Bool → Reading → Reading
given n bytes whole r = cond (n == r.number) (record r { left = Some bytes; whole = whole }) r

given-number : (n : ℕ) (bytes : List ℕ) (whole : Bool) (r : Reading) → (n == (given n bytes whole r).number) ≡ (n == r.number)
given-number n bytes whole r = by_test (n == r.number)
  where
    by_test : (v : Bool) → (n == (cond v (record r { left = Some bytes; whole = whole }) r).number) ≡ (n == r.number)
    by_test true = refl
    by_test false = refl

left-with : (n : ℕ) (bytes : List ℕ) (whole : Bool) (rs : List Reading) (r : Reading) → reading_at n rs ≡ Some r
    → reading_at n (left_with n bytes whole rs) ≡ Some (record r { left = Some bytes; whole = whole })
left-with n bytes whole rs r e =
    find-map (λ (x : Reading). n == x.number) (given n bytes whole) rs (given-number n bytes whole) ∙ ap (option_map (given n bytes whole)) e
    ∙ ap (λ (v : Bool). Some (cond v (record r { left = Some bytes; whole = whole }) r)) (find-passes (λ (x : Reading). n == x.number) rs r e)

same-number : (n : ℕ) → (n == n) ≡ true
same-number n = grind (arith, nat_tests)

gone : (n m : ℕ) (fs : List (Flying CacheMeta)) → m ≡ n → find (has_number n) (landed m fs) ≡ None
gone n m fs e = flying-landed n m fs ∙ ap (λ (v : Bool). cond v None (find (has_number n) fs)) (ap (λ (k : ℕ). k == n) e ∙ same-number n)

none-settled : (o : Option (Flying CacheMeta)) → option_map settled_flying o ≡ None → o ≡ None
none-settled None e = refl
none-settled (Some f) e = absurd cc

-- in flight no more, with readers: what these are left with
past-flight : (is_finished : Bool) (n : ℕ) (f : Flying CacheMeta) (r : Reading) (old new : StoreState) → flying_at n old.store ≡ Some f → reading_at n old.readings ≡ Some r
    → new.readings ≡ left_behind is_finished n (flying_at n old.store) old.readings
    → reading_at n new.readings ≡ Some (record r { left = Some f.stored.bytes; whole = is_finished || f.ended })
past-flight is_finished n f r old new e t rest =
    ap (reading_at n) (rest ∙ ap (λ (x : Option (Flying CacheMeta)). left_behind is_finished n x old.readings) e)
    ∙ left-with n f.stored.bytes (is_finished || f.ended) old.readings r t

-- the bytes of these
past-bytes : (n : ℕ) (r : Reading) (bytes : List ℕ) (new : StoreState) → flying_at n new.store ≡ None → reading_at n new.readings ≡ Some r → r.left ≡ Some bytes → readable n new ≡ Some (bytes, true)
past-bytes n r bytes new none e l =
    ap (λ (x : Option (Flying CacheMeta)). readable_of x (left_at n new.readings)) none
    ∙ ap (λ (o : Option Reading). option_map (λ (bytes : List ℕ). (bytes, true)) (option_and_then (λ (x : Reading). x.left) o)) e
    ∙ ap (option_map (λ (bytes : List ℕ). (bytes, true))) l

-- whether they are all of the write
past-whole : (n : ℕ) (r : Reading) (new : StoreState) → flying_at n new.store ≡ None → reading_at n new.readings ≡ Some r → is_whole n new ≡ r.whole
past-whole n r new none e = ap (λ (x : Option (Flying CacheMeta)). whole_of x (reading_at n new.readings)) none ∙ ap (whole_of None) e

-- a write that is given up
module _ (n : ℕ) (h : StoreState) (f : Flying CacheMeta) (r : Reading) (changes : Changes CacheMeta) (o : IsOrderly changes) (a : Agree h.store (store_of changes)) (e : flying_at n h.store ≡ Some f)
    (t : reading_at n h.readings ≡ Some r) where
  left-reading : reading_at n (left n h).readings ≡ Some (record r { left = Some f.stored.bytes; whole = f.ended })
  left-reading = past-flight false n f r h (left n h) e t refl

  pub left-read : readable n (left n h) ≡ Some (bytes_of n changes, true)
  left-read =
      past-bytes n (record r { left = Some f.stored.bytes; whole = f.ended }) f.stored.bytes (left n h) (gone n n h.store.flying refl) left-reading refl
      ∙ ap (λ (bytes : List ℕ). Some (bytes, true)) (bytes-came n h.store changes f o a e)

  pub left-whole : is_whole n (left n h) ≡ has_ended n changes
  left-whole =
      past-whole n (record r { left = Some f.stored.bytes; whole = f.ended }) (left n h) (gone n n h.store.flying refl) left-reading ∙ (came n h.store changes f o a e).1

-- a write that is finished
module _ (n : ℕ) (x : Stored CacheMeta) (old new : StoreState) (f : Flying CacheMeta) (r : Reading) (e : flying_at n old.store ≡ Some f) (t : reading_at n old.readings ≡ Some r)
    (b : IsFinished n x old new) where
  landed-none : flying_at n new.store ≡ None
  landed-none =
      let w = f.stored.write in
      let own : w.number ≡ n = sym (eqb-true n w.number (find-passes (has_number n) old.store.flying f e)) in
      none-settled (flying_at n new.store) (agreed n new.store (after (finishes w) old.store) (b.store w own) ∙ ap (option_map settled_flying) (gone n w.number old.store.flying own))

  landed-reading : reading_at n new.readings ≡ Some (record r { left = Some f.stored.bytes; whole = true })
  landed-reading = past-flight true n f r old new e t b.readings

  pub landed-read : (changes : Changes CacheMeta) → IsOrderly changes → Agree old.store (store_of changes) → readable n new ≡ Some (bytes_of n changes, true)
  landed-read changes o a =
      past-bytes n (record r { left = Some f.stored.bytes; whole = true }) f.stored.bytes new landed-none landed-reading refl
      ∙ ap (λ (bytes : List ℕ). Some (bytes, true)) (bytes-came n old.store changes f o a e)

  pub landed-whole : is_whole n new ≡ true
  landed-whole = past-whole n (record r { left = Some f.stored.bytes; whole = true }) new landed-none landed-reading
