-- A write that was refused: none began, or it was given up at once, and a number is used up.
use Rattle.std.proofs.Common.{◌≡◌, ℕ, ◌+◌, ◌-◌, ◌^◌, ◌<◌, refl, ap, sym, ◌∙◌, arith, Bool, true, false, cond, Some, None, Option, List, [], ◌∷◌, ◌++◌, inl, inr, eq-eqb, eqb-true}
use Rattle.std.specs.Prelude.{◌==◌, ◌⊎◌, not, find, filter, Err}
use Rattle.std.specs.List.{AllByRecursion}
use Rattle.cache_heads.specs.declared.meta.CacheMeta.{CacheMeta}
use Rattle.cache_changes.specs.Changes.{StoredKey}
use Rattle.cache_store.specs.declared.storage.StoreFault.{StoreFault}
use Rattle.cache_store.specs.declared.storage.StoreFault.TheVariants as fault
use Rattle.cache_store.specs.Answers as answers
use Rattle.cache_store.specs.Answers.{Look, left}
use Rattle.cache_store.specs.StoreState.{StoreState}
use Rattle.cache_store.specs.Looks.{LookAnswer, TagAnswer, asked}
use Rattle.cache_store.specs.Misses.{BeginAnswer}
use Rattle.cache_store.specs.Renewals.{Refused}
use Rattle.store_memory.specs.Misses.{are_numbers_spent}
use Rattle.store_memory.specs.Readings as readings
use Rattle.request_store.specs.Begins.{IsLeftAgain, IsNotBegun}
use Rattle.tier_model.specs.declared.event.TierFault.TheVariants.{NumbersSpent}
use Rattle.tier_model.specs.Calls.{nothing_done}
use Rattle.tier_model.specs.Shelf.{InFlight, Shelf, has_number, flying_at, begun, left_with, readers_left, landed}
use Rattle.tier_requests.specs.Shelves.{shelf_of, IsBelow}
use Rattle.tier_requests.specs.Faults.{out_of_memory, begin_fault_for}
use Rattle.tier_requests.specs.Rows.{BeginsNot}
use Rattle.tier_requests.proofs.ShelfLaws.{shelf-begun, shelf-left}
use Rattle.tier_requests.proofs.OwnLaws.{tagged, begun-in, unspent}

-- ---- a write that is given up at once

-- a number that is smaller is another one
smaller : (n m : ℕ) → m < n → (n == m) ≡ false
smaller n m less = by_test (n == m) refl
  where
    by_test : (t : Bool) → (n == m) ≡ t → t ≡ false
    by_test true e = let same : n ≡ m = eqb-true n m e in absurd (omega (arith, less, same))
    by_test false e = refl

filter-new : (n : ℕ) (new : InFlight) (fs : List InFlight) → new.number ≡ n → AllByRecursion (λ f. f.number < n) fs → filter (λ f. not (has_number n f)) (fs ++ new ∷ []) ≡ fs
filter-new n new [] same below = ap (λ (t : Bool). cond (not t) (new ∷ []) []) (eq-eqb n new.number (sym same))
filter-new n new (f ∷ fs) same below =
    ap (λ (t : Bool). cond (not t) (f ∷ filter (λ g. not (has_number n g)) (fs ++ new ∷ [])) (filter (λ g. not (has_number n g)) (fs ++ new ∷ []))) (smaller n f.number below.0)
    ∙ ap (λ (xs : List InFlight). f ∷ xs) (filter-new n new fs same below.1)

find-new : (n : ℕ) (new : InFlight) (fs : List InFlight) → new.number ≡ n → AllByRecursion (λ f. f.number < n) fs → flying_at n (fs ++ new ∷ []) ≡ Some new
find-new n new [] same below = ap (λ (t : Bool). cond t (Some new) None) (eq-eqb n new.number (sym same))
find-new n new (f ∷ fs) same below =
    ap (λ (t : Bool). cond t (Some f) (find (has_number n) (fs ++ new ∷ []))) (smaller n f.number below.0) ∙ find-new n new fs same below.1

landed-new : (k : StoredKey) (meta : CacheMeta) (s : Shelf) → IsBelow s → landed false s.writes (record (begun k meta s) { writes = s.writes + 1 }) ≡ record s { writes = s.writes + 1 }
landed-new k meta s below = λ j. record s { flying = filter-new s.writes new s.flying refl below.flying j; readers = readers j; writes = s.writes + 1 }
  where
    new : InFlight
    new = record { number = s.writes; key = k; meta = meta; bytes = []; ended = false; removed = false }

    readers : readers_left false s.writes (flying_at s.writes (s.flying ++ new ∷ [])) s.readers ≡ s.readers
    readers =
        ap (λ (o : Option InFlight). readers_left false s.writes o s.readers) (find-new s.writes new s.flying refl below.flying)
        ∙ ap (λ o. left_with s.writes [] false o s.readers) (below.readers s.writes (omega arith))

-- ---- why a write is refused

look-fault : (look : Option Look) (f : StoreFault) (old new : StoreState) → LookAnswer readings.reader_of look old (Err f) new → f ≡ fault.Memory
look-fault None f old new a = let never = a.0 in absurd cc
look-fault (Some (answers.finished x)) f old new a = a.0
look-fault (Some (answers.in_flight x)) f old new a = a.0

tag-fault : (named : Option ℕ) (look : Option Look) (f : StoreFault) (old new : StoreState) → TagAnswer readings.reader_of named look old (Err f) new → (f ≡ fault.Memory) ⊎ (f ≡ fault.WriteRemoved)
tag-fault None look f old new a = inl (look-fault look f old new a)
tag-fault (Some n) None f old new a = let e = a.0 in inr cc
tag-fault (Some n) (Some look) f old new a = inl (look-fault (Some look) f old new a)

-- a meta is refused for other causes than a number
never-spent : (meta : CacheMeta) (f : StoreFault) → Refused meta f → f ≡ fault.WriteNumbersSpent → ⊥
never-spent meta f (inl c) spent = let cause = c.0 in absurd cc
never-spent meta f (inr c) spent = let cause = c.0 in absurd cc

module _ (k : StoredKey) (meta : CacheMeta) (f : StoreFault) (h0 h : StoreState) (below : IsBelow (shelf_of h0)) where
  abbrev IsRefused : Type 0
  IsRefused = IsNotBegun readings.reader_of (λ m. m) tagged true (are_numbers_spent h0) k meta f h0 h

  abbrev Left : Type 0
  Left = IsLeftAgain readings.reader_of (λ m. m) tagged true (are_numbers_spent h0) k meta f h0 h

  -- the numbers were spent
  refused-spent : f ≡ fault.WriteNumbersSpent → IsRefused → BeginsNot (shelf_of h0) (NumbersSpent nothing_done) (shelf_of h)
  refused-spent spent (inl a) = by_spent (are_numbers_spent h0) refl a
    where
      by_spent : (t : Bool) → are_numbers_spent h0 ≡ t → BeginAnswer {H = ℕ} (λ m. m) t k meta h0 (Err f) h → BeginsNot (shelf_of h0) (NumbersSpent nothing_done) (shelf_of h)
      by_spent true e a = inl (refl, eqb-true h0.next (2 ^ 64 - 1) e, ap shelf_of a.1)
      by_spent false e a = absurd (never-spent meta f a.0 spent)
  refused-spent spent (inr a) = absurd (by_fault (tag-fault (tagged a.miss) (asked true k (tagged a.miss) a.mid.store) f a.mid a.mid a.refused))
    where
      by_fault : (f ≡ fault.Memory) ⊎ (f ≡ fault.WriteRemoved) → ⊥
      by_fault (inl e) = absurd cc
      by_fault (inr e) = absurd cc

  left-again : Left → shelf_of h ≡ record (shelf_of h0) { writes = h0.next + 1 }
  left-again a =
      let b = (begun-in k meta a.miss (are_numbers_spent h0) h0 a.mid a.begun).0 in
      ap shelf_of a.left ∙ shelf-left a.miss a.mid ∙ ap (λ (n : ℕ). landed false n (shelf_of a.mid)) b.number ∙ ap (landed false h0.next) (ap shelf_of b.begun ∙ shelf-begun k meta h0) ∙ landed-new k meta (shelf_of h0) below

  -- and else there was no memory
  refused-else : (f ≡ fault.WriteNumbersSpent → ⊥) → IsRefused → BeginsNot (shelf_of h0) out_of_memory (shelf_of h)
  refused-else other (inl a) = by_spent (are_numbers_spent h0) refl a
    where
      by_spent : (t : Bool) → are_numbers_spent h0 ≡ t → BeginAnswer {H = ℕ} (λ m. m) t k meta h0 (Err f) h → BeginsNot (shelf_of h0) out_of_memory (shelf_of h)
      by_spent true e a = absurd (other (let e = a.0 in cc))
      by_spent false e a = inr (refl, unspent h0 e, inl (ap shelf_of a.1))
  refused-else other (inr a) = inr (refl, unspent h0 (begun-in k meta a.miss (are_numbers_spent h0) h0 a.mid a.begun).1, inr (left-again a))

module _ (k : StoredKey) (meta : CacheMeta) (h0 h : StoreState) (below : IsBelow (shelf_of h0)) where
  pub refused-as : (f : StoreFault) → IsNotBegun readings.reader_of (λ m. m) tagged true (are_numbers_spent h0) k meta f h0 h → BeginsNot (shelf_of h0) (begin_fault_for f) (shelf_of h)
  refused-as fault.WriteNumbersSpent a = refused-spent k meta fault.WriteNumbersSpent h0 h below refl a
  refused-as f a = refused-else k meta f h0 h below (λ e. absurd cc) a
