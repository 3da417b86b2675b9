-- A state that stands for a history is sound in itself.
use Rattle.std.proofs.Common.{◌≡◌, ℕ, ◌+◌, ◌≤◌, ◌<◌, refl, ap, sym, ◌∙◌, subst, cond, [], ◌∷◌, arith}
use Rattle.std.specs.Prelude.{Bool, List, Option, Some, None, map, find}
use Rattle.std.specs.List.{AllByRecursion}
use Rattle.std.specs.FinMap.{get}
use Rattle.cache_changes.specs.Store.{Flying, store_of}
use Rattle.cache_changes.proofs.OrderLaws.{number_of, Rising, flights-rise}
use Rattle.cache_changes.proofs.WriteLaws.{same_number, above_apart}
use Rattle.tier_model.specs.Calls.{History}
use Rattle.tier_model.specs.Histories.{Kept, Opening, changes_of}
use Rattle.tier_model.specs.Shelf.{InFlight, Readers, has_number, flying_at}
use Rattle.tier_model.specs.State.{streaming, Request, State}
use Rattle.tier_model.specs.Past.{plain, streams, streamers}
use Rattle.tier_model.proofs.CallLaws.{itself}
use Rattle.tier_model.proofs.ReaderLaws.{CountFits, sum-taken}
use Rattle.tier_model.proofs.OpenLaws.{the-write}
use Rattle.tier_model.proofs.StandLaws.{Stands, opened_request}
use Rattle.tier_promise.proofs.NowRequests.{IsSound}

-- where numbers rise, a write is found by its number
above : (b : ℕ) (gs : List (Flying Kept)) → Rising b gs → AllByRecursion (λ g. b ≤ g.number) (map plain gs)
above b [] r = tt
above b (g ∷ gs) r = (r.0, lower (map plain gs) (above (number_of g + 1) gs r.1))
  where
    lower : (fs : List InFlight) → AllByRecursion (λ f. number_of g + 1 ≤ f.number) fs → AllByRecursion (λ f. b ≤ f.number) fs
    lower [] a = tt
    lower (f ∷ fs) a = (omega (arith, a.0, r.0), lower fs a.1)

once : (b : ℕ) (gs : List (Flying Kept)) → Rising b gs → AllByRecursion (λ f. flying_at f.number (map plain gs) ≡ Some f) (map plain gs)
once b [] r = tt
once b (g ∷ gs) r =
    (ap (λ (v : Bool). cond v (Some (plain g)) (find (has_number (number_of g)) (map plain gs))) (same_number (number_of g)), later (map plain gs) (above (number_of g + 1) gs r.1) (once (number_of g + 1) gs r.1))
  where
    later : (fs : List InFlight) → AllByRecursion (λ f. number_of g + 1 ≤ f.number) fs → AllByRecursion (λ f. flying_at f.number (map plain gs) ≡ Some f) fs
        → AllByRecursion (λ f. cond (has_number f.number (plain g)) (Some (plain g)) (find (has_number f.number) (map plain gs)) ≡ Some f) fs
    later [] a h = tt
    later (f ∷ fs) a h =
        (ap (λ (v : Bool). cond v (Some (plain g)) (find (has_number f.number) (map plain gs))) (above_apart (number_of g) f.number (omega (arith, a.0))) ∙ h.0, later fs a.1 h.1)

module _ (start : Opening) (s : State) (h : History) (past : Stands start s h) where
  one_write : (i j n : ℕ) (p q : Request) → get s.requests i ≡ Some p → get s.requests j ≡ Some q → p.write ≡ Some n → q.write ≡ Some n → i ≡ j
  one_write i j n p q e f u v =
      let a = the-write start i p h (opened_request start s h past i p e) past.writes n u in
      let b = the-write start j q h (opened_request start s h past j q f) past.writes n v in
      let left : Some n ≡ Some a.write.number = sym u ∙ a.number in
      let right : Some n ≡ Some b.write.number = sym v ∙ b.number in
      let same : a.write.number ≡ b.write.number = cc in
      past.writes.apart i j a.write b.write a.held b.held same

  there_by : (n : ℕ) (o : Option Readers) (k : ℕ) → get s.shelf.readers n ≡ o → CountFits n o k (changes_of start h) → 0 < k → (r : Readers) × (get s.shelf.readers n ≡ Some r)
  there_by n None k e fits pos = let none : k ≡ 0 = fits in absurd (omega (arith, pos, none))
  there_by n (Some r) k e fits pos = (r, e)

  readers_there : (id n place : ℕ) (q : Request) → get s.requests id ≡ Some q → q.reader ≡ streaming n place → (r : Readers) × (get s.shelf.readers n ≡ Some r)
  readers_there id n place q e is =
      let sum = sum-taken (streams n) s.requests id (Some q) e in
      let one : streams n q ≡ 1 = ap (λ r. streams n (record q { reader = r })) is ∙ ap (λ (v : Bool). cond v 1 0) (itself n) in
      there_by n (get s.shelf.readers n) (streamers n s.requests) refl (past.counted n) (omega (arith, sum, one))

  pub IsSound-stands : IsSound s
  IsSound-stands = record {
    one = subst (λ (fs : List InFlight). AllByRecursion (λ f. flying_at f.number fs ≡ Some f) fs) (sym past.holds.leaves.flights) (once 0 (store_of (changes_of start h)).flying (flights-rise (changes_of start h) past.holds.leaves.orderly));
    apart = one_write;
    readers = readers_there;
  }
