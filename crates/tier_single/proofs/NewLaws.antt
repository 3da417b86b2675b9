-- In a state with a history in which no request is open, nothing flies, no write has readers and nothing is held of the lock.
use Rattle.std.proofs.Common.{◌≡◌, ℕ, ◌+◌, ◌<◌, List, [], ◌∷◌, Option, Some, None, cond, refl, ap, sym, ◌∙◌, subst, arith, eq-eqb}
use Rattle.std.specs.Prelude.{Bool, MatchOption, find, length, map}
use Rattle.std.specs.FinMap.{FinMap, empty, entries, get, len, empty_of_len, get-empty, len-empty, len-entries, same_map, nat_cmp-IsAntisymmetric}
use Rattle.std.specs.List.{sum_by}
use Rattle.std.specs.Ordering.{nat_cmp}
use Rattle.std.proofs.lemmas.Cmp.{nat_cmp_total}
use Rattle.std.proofs.lemmas.List.{nil_from_length}
use Rattle.std.proofs.lemmas.List.Sums.{sum_by-cons}
use Rattle.cache_entries.specs.declared.rows.Tracked.{Tracked}
use Rattle.cache_changes.specs.Changes.{Write, Changes}
use Rattle.cache_changes.specs.Store.{Flying, Store, IsStateOf, has_number, store_of}
use Rattle.cache_changes.specs.Writes.{IsInFlight}
use Rattle.cache_changes.proofs.FoundLaws.{store_of-is}
use Rattle.cache_lock.specs.State.{empty_lock}
use Rattle.tier_model.specs.Calls.{History, opened_for}
use Rattle.tier_model.specs.Histories.{Kept, Opening, changes_of}
use Rattle.tier_model.specs.Keys.{Entry}
use Rattle.tier_model.specs.Past.{HasPast, IsRequestOf, count_of, plain, streamers, streams}
use Rattle.tier_model.specs.Shelf.{Readers}
use Rattle.tier_model.specs.State.{Request, State}
use Rattle.tier_model.specs.Started.{all_rows}
use Rattle.tier_model.proofs.StandLaws.{Stands-lawful, IsOrderly-lawful}
use Rattle.tier_model.proofs.UnheldLaws.{unheld-past}
use Rattle.tier_model.proofs.WriteLaws.{IsWriteOf}

-- ---- writes in flight

first_found : (f : Flying Kept) (fs : List (Flying Kept)) → find (has_number f.stored.write.number) (f ∷ fs) ≡ Some f
first_found f fs = ap (λ (v : Bool). cond v (Some f) (find (has_number f.stored.write.number) fs)) (eq-eqb f.stored.write.number f.stored.write.number refl)

none_fly : (s : Store Kept) (changes : Changes Kept) → IsStateOf s changes → ((w : Write Kept) → IsInFlight w changes → ⊥) → s.flying ≡ []
none_fly s changes is none = by_list s.flying refl
  where
    by_list : (fs : List (Flying Kept)) → s.flying ≡ fs → fs ≡ []
    by_list [] e = refl
    by_list (f ∷ fs) e = absurd (none f.stored.write ((is.flights f.stored.write.number f).0 (ap (λ (xs : List (Flying Kept)). find (has_number f.stored.write.number) xs) e ∙ first_found f fs)).1.flies)

-- ---- readers

none_streams : (n : ℕ) → streamers n (empty {X = Request} {R = nat_cmp}) ≡ 0
none_streams n =
    ap (λ (l : List (ℕ × Request)). sum_by (streams n) (map (λ e. e.1) l))
    (nil_from_length (entries (empty {X = Request} {R = nat_cmp})) (sym (len-entries (empty {X = Request} {R = nat_cmp})) ∙ len-empty nat_cmp Request))

none_read : (readers : FinMap nat_cmp Readers) → ((n : ℕ) → count_of (get readers n) ≡ 0) → ((n : ℕ) (r : Readers) → get readers n ≡ Some r → 0 < r.count) → len readers ≡ 0
none_read readers counted kept =
    ap (λ (m : FinMap nat_cmp Readers). len m) (same_map nat_cmp_total nat_cmp-IsAntisymmetric readers empty (λ n. by_row n (get readers n) refl ∙ sym (get-empty nat_cmp n)))
    ∙ len-empty nat_cmp Readers
  where
    by_row : (n : ℕ) (o : Option Readers) → get readers n ≡ o → o ≡ None
    by_row n None e = refl
    by_row n (Some r) e = let none : r.count ≡ 0 = ap count_of (sym e) ∙ counted n in absurd (omega (arith, none, kept n r e))

-- ---- both

module _ (start : Opening) (s : State) (h : History) (past : HasPast start s h) (none : len s.requests ≡ 0) where
  closed : (id : ℕ) → opened_for id h ≡ None
  closed id =
      let row : get s.requests id ≡ None = ap (λ (m : FinMap nat_cmp Request). get m id) (empty_of_len s.requests none) ∙ get-empty nat_cmp id in
      subst (λ (o : Option Request). MatchOption o (opened_for id h ≡ None) (λ q. IsRequestOf start id q h)) row (past.matches.requests id)

  unwritten : (w : Write Kept) → IsInFlight w (changes_of start h) → ⊥
  unwritten w flies =
      let owner = past.matches.held.owned w flies in
      subst (λ (o : Option Entry). IsWriteOf start w o (changes_of start h)) (closed owner.0) ((Stands-lawful start h past.lawful).writes.each owner.0 w owner.1)

  nothing_flies : s.shelf.flying ≡ []
  nothing_flies =
      past.matches.flights
      ∙ ap (λ (fs : List (Flying Kept)). map plain fs) (none_fly (store_of (changes_of start h)) (changes_of start h) (store_of-is (changes_of start h) (IsOrderly-lawful start h past.lawful)) unwritten)

  nobody_reads : len s.shelf.readers ≡ 0
  nobody_reads =
      none_read s.shelf.readers
      (λ n. past.matches.counted n ∙ ap (streamers n) (empty_of_len s.requests none) ∙ none_streams n) past.matches.kept

-- such a state: nothing flies, no write has readers, and nothing is held of the lock
pub record IsIdle (s : State) : Type 0 where
  pub flying : s.shelf.flying ≡ []
  pub readers : len s.shelf.readers ≡ 0
  pub lock : s.lock ≡ record (empty_lock s.lock.age) { next = s.lock.next }

pub idle-alone : (start : Opening) (s : State) (h : History) → HasPast start s h → len s.requests ≡ 0 → IsIdle s
idle-alone start s h past none =
    record { flying = nothing_flies start s h past none; readers = nobody_reads start s h past none; lock = unheld-past start s h past none }

-- ---- rows

abbrev more : List Tracked → List (List Tracked) → Type 0
more rows shards = sum_by length (rows ∷ shards) ≡ length rows + sum_by length shards

pub untracked : (shards : List (List Tracked)) → sum_by length shards ≡ 0 → all_rows shards ≡ []
untracked [] e = refl
untracked ([] ∷ shards) e = let sum : more [] shards = sum_by-cons length [] shards in untracked shards (omega (arith, sum, e))
untracked ((r ∷ rows) ∷ shards) e =
    let sum : more (r ∷ rows) shards = sum_by-cons length (r ∷ rows) shards in
    absurd (omega (arith, sum, e))

pub none_counted : (shards : List (List Tracked)) → all_rows shards ≡ [] → sum_by length shards ≡ 0
none_counted [] e = refl
none_counted ([] ∷ shards) e = let sum : more [] shards = sum_by-cons length [] shards in omega (arith, sum, none_counted shards e)
none_counted ((r ∷ rows) ∷ shards) e = absurd cc
