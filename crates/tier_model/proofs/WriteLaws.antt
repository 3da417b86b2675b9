-- The writes that open requests have are in flight, each under its request's key, and no two share a number.
use Rattle.std.proofs.Common.{◌≡◌, ℕ, ◌<◌, refl, ap, sym, ◌∙◌, true, false, subst, cond, [], ◌∷◌, ◌==◌, arith, inl, inr}
use Rattle.std.specs.Prelude.{Bool, List, Option, Some, None, option_map, Ok, ◌&&◌, ◌⊎◌}
use Rattle.cache_heads.specs.Merged.{with_provenance_of}
use Rattle.std.specs.List.{AllByRecursion}
use Rattle.std.proofs.lemmas.Bool.{eqb-true}
use Rattle.cache_words.specs.Time.{MomentValue}
use Rattle.cache_changes.specs.Changes.{stored_key, Write, Change, Changes, begins}
use Rattle.cache_changes.specs.Writes.{BeginsBelow, IsInFlight}
use Rattle.cache_changes.proofs.WriteLaws.{above_apart, began_below}
use Rattle.tier_model.specs.declared.event.Action.{Action}
use Rattle.tier_model.specs.declared.event.Action.TheVariants.{Open, LookUp, Begin, Revalidate, Piece, Finish, Drop, Purge, Put}
use Rattle.tier_model.specs.declared.event.Answer.TheVariants.{Opened, Found, Begun, Written, Dropped, Purged}
use Rattle.tier_model.specs.Keys.{Entry, entry_of, alone}
use Rattle.tier_model.specs.Response.{Judged, kept}
use Rattle.tier_model.specs.Calls.{Call, History, Outcome, extended, judged_of, finished_by, opened_for, entry_after, is_begin_of}
use Rattle.cache_changes.specs.Store.{Stored}
use Rattle.tier_model.specs.Histories.{Kept, Opening, writes_begun, write_begun, begun_by, renewal_by, is_landing, write_after, write_held, seen_by, begin_changes, changes_of}
use Rattle.tier_model.proofs.CallLaws.{Inside, call_at, changes_at, itself}
use Rattle.tier_model.proofs.LandLaws.{Spares, clears_spare, look_spare, begin_spare, piece_spare, renewal_spare, IsApart, finish_spare, drop_spare, put_spare, lander}

module _ (start : Opening) where
  -- a call lands no write but that of its request
  pub changes_spare : (n : ℕ) (action : Action) (o : Outcome) (c : Call) (h : History) → n < writes_begun start h → ((r : ℕ) → lander action o ≡ Some r → IsApart n (write_held start r h))
      → AllByRecursion (Spares n) (changes_at start action o c h (changes_of start h))
  changes_spare n (LookUp id) (Ok (Found fresh true given)) c h below apart = look_spare n (opened_for id h) (changes_of start h)
  changes_spare n (Begin id head given) (Ok Begun) c h below apart = begin_spare n (begun_by start id c h)
  changes_spare n (Revalidate id head given) o c h below apart = renewal_spare n (renewal_by start id c h) o (changes_of start h)
  changes_spare n (Piece id bytes last) (Ok Written) c h below apart = piece_spare n (write_held start id h) bytes last
  changes_spare n (Finish id) o c h below apart = finish_spare n (write_held start id h) o (changes_of start h) (λ e. apart id (ap (λ v. cond v (Some id) None) e))
  changes_spare n (Drop id) (Ok a) c h below apart = drop_spare n (write_held start id h) (apart id refl)
  changes_spare n (Purge key) (Ok (Purged true)) c h below apart = clears_spare n (entry_of key)
  changes_spare n (Put key pieces given) o c h below apart = put_spare n (writes_begun start h) (finished_by c) o (above_apart n (writes_begun start h) below)
  changes_spare n _ _ c h below apart = tt

  pub flies_on : (w : Write Kept) (changes : Changes Kept) (cs : List (Change Kept)) → AllByRecursion (Spares w.number) cs → IsInFlight w changes → IsInFlight w (extended changes cs)
  flies_on w changes [] h f = f
  flies_on w changes (c ∷ cs) h f =
      flies_on w (c ∷ changes) cs h.1 (record { since = c ∷ f.since; before = f.before; split = ap (λ (past : Changes Kept). c ∷ past) f.split; flies = (h.0, f.flies) })

  -- ---- the writes of requests

  -- a write of an open request for that entry is in flight, under its key
  abbrev pub IsWriteOf : Write Kept → Option Entry → Changes Kept → Type 0
  IsWriteOf w None changes = ⊥
  IsWriteOf w (Some e) changes = IsInFlight w changes × (w.key ≡ stored_key e) × (w.meta.entry ≡ alone e)

  pub record WritesFit (h : History) : Type 0 where
    pub each : (id : ℕ) (w : Write Kept) → write_held start id h ≡ Some w → IsWriteOf w (opened_for id h) (changes_of start h)
    pub apart : (i j : ℕ) (v w : Write Kept) → write_held start i h ≡ Some v → write_held start j h ≡ Some w → v.number ≡ w.number → i ≡ j

  is_flying : (w : Write Kept) (o : Option Entry) (changes : Changes Kept) → IsWriteOf w o changes → IsInFlight w changes
  is_flying w None changes p = absurd p
  is_flying w (Some e) changes p = p.0

  pub flies-of : (h : History) → WritesFit h → (id : ℕ) (w : Write Kept) → write_held start id h ≡ Some w → IsInFlight w (changes_of start h)
  flies-of h fits id w e = is_flying w (opened_for id h) (changes_of start h) (fits.each id w e)

  -- numbers that are not one
  apart_by : (m n : ℕ) → (m ≡ n → ⊥) → (m == n) ≡ false
  apart_by m n h = by_test (m == n) refl
    where
      by_test : (v : Bool) → (m == n) ≡ v → v ≡ false
      by_test true e = absurd (h (eqb-true m n e))
      by_test false e = refl

  -- where a write comes from: its request begins it, or has it already
  held_from : (id : ℕ) (new : Option (Write Kept)) (action : Action) (o : Outcome) (old : Option (Write Kept)) (v : Write Kept) → write_after id new action o old ≡ Some v
      → ((is_begin_of id action o ≡ true) × (new ≡ Some v)) ⊎ (old ≡ Some v)
  held_from id new (Begin r head given) (Ok Begun) old v e = by_test (r == id) e
    where
      by_test : (t : Bool) → cond t new old ≡ Some v → ((t ≡ true) × (new ≡ Some v)) ⊎ (old ≡ Some v)
      by_test true e = inl (refl, e)
      by_test false e = inr e
  held_from id new (Finish r) o old v e = by_test ((r == id) && is_landing o) e
    where
      by_test : (t : Bool) → cond t None old ≡ Some v → ((false ≡ true) × (new ≡ Some v)) ⊎ (old ≡ Some v)
      by_test true e = absurd cc
      by_test false e = inr e
  held_from id new (Drop r) (Ok a) old v e = by_test (r == id) e
    where
      by_test : (t : Bool) → cond t None old ≡ Some v → ((false ≡ true) × (new ≡ Some v)) ⊎ (old ≡ Some v)
      by_test true e = absurd cc
      by_test false e = inr e
  held_from id new _ _ old v e = inr e

  -- a write that stays is not the one that lands
  survivor : (id r : ℕ) (new : Option (Write Kept)) (action : Action) (o : Outcome) (old : Option (Write Kept)) (w : Write Kept) → write_after id new action o old ≡ Some w
      → lander action o ≡ Some r → (r == id) ≡ false
  survivor id r new (Finish x) o old w e l = by_landing (is_landing o) e l
    where
      by_test : (t : Bool) → (x == id) ≡ t → cond (t && true) None old ≡ Some w → x ≡ r → (r == id) ≡ false
      by_test true is e same = absurd cc
      by_test false is e same = ap (λ (y : ℕ). y == id) (sym same) ∙ is

      by_landing : (v : Bool) → cond ((x == id) && v) None old ≡ Some w → cond v (Some x) None ≡ Some r → (r == id) ≡ false
      by_landing true e l = by_test (x == id) refl e (let same : x ≡ r = cc in same)
      by_landing false e l = absurd cc
  survivor id r new (Drop x) (Ok a) old w e l = by_test (x == id) refl e (let same : x ≡ r = cc in same)
    where
      by_test : (t : Bool) → (x == id) ≡ t → cond t None old ≡ Some w → x ≡ r → (r == id) ≡ false
      by_test true is e same = absurd cc
      by_test false is e same = ap (λ (y : ℕ). y == id) (sym same) ∙ is
  survivor id r new _ _ old w e l = absurd cc

  number_begun : (n : ℕ) (e : Option Entry) (x : Option (Stored Kept)) (j : Option Judged) (w : Write Kept) → write_begun n e x j ≡ Some w → w.number ≡ n
  number_begun n (Some e) x (Some (kept meta)) w p =
      let same : record { number = n; key = stored_key e; meta = record { entry = alone e; meta = with_provenance_of (option_map (λ y. y.meta.meta) x) meta } } ≡ w = cc in
      ap (λ (v : Write Kept). v.number) (sym same)
  number_begun n (Some e) x (Some _) w p = absurd cc
  number_begun n (Some e) x None w p = absurd cc
  number_begun n None x j w p = absurd cc

  one_begins : (i j : ℕ) (action : Action) (o : Outcome) → is_begin_of i action o ≡ true → is_begin_of j action o ≡ true → i ≡ j
  one_begins i j (Begin r head given) (Ok Begun) p q = sym (eqb-true r i p) ∙ eqb-true r j q
  one_begins i j _ _ p q = absurd cc

  -- what a call may do to the requests: it opens one that isn't open, and drops one for good
  abbrev pub IsPlain : Action → Outcome → History → Type 0
  IsPlain (Open id key asks) (Ok a) h = opened_for id h ≡ None
  IsPlain (Drop id) (Ok a) h = a ≡ Dropped
  IsPlain _ _ h = Unit {0}

  -- the entry of a request that keeps its write stays
  entry_stays : (id : ℕ) (new : Option (Write Kept)) (action : Action) (o : Outcome) (old : Option (Write Kept)) (w : Write Kept) (h : History) → IsPlain action o h → (opened_for id h ≡ None → ⊥)
      → write_after id new action o old ≡ Some w → entry_after id action o (opened_for id h) ≡ opened_for id h
  entry_stays id new (Open r key asks) (Ok Opened) old w h p there e = by_test (r == id) refl
    where
      by_test : (t : Bool) → (r == id) ≡ t → cond t (Some (entry_of key)) (opened_for id h) ≡ opened_for id h
      by_test true is = absurd (there (ap (λ (x : ℕ). opened_for x h) (sym (eqb-true r id is)) ∙ p))
      by_test false is = refl
  entry_stays id new (Drop r) (Ok Dropped) old w h p there e = by_test (r == id) e
    where
      by_test : (t : Bool) → cond t None old ≡ Some w → cond t None (opened_for id h) ≡ opened_for id h
      by_test true e = absurd cc
      by_test false e = refl
  entry_stays id new _ _ old w h p there e = refl

  module _ (t : MomentValue) (i : Inside) (h : History) (fits : WritesFit h) (below : AllByRecursion (BeginsBelow (writes_begun start h)) (changes_of start h)) where
    held_below : (id : ℕ) (w : Write Kept) → write_held start id h ≡ Some w → w.number < writes_begun start h
    held_below id w e =
        let f = flies-of h fits id w e in
        began_below (writes_begun start h) w (changes_of start h) below (record { since = f.since; before = f.before; split = f.split })

    -- one that a request has already
    old_fits : (action : Action) (o : Outcome) (id : ℕ) (w : Write Kept) → IsPlain action o h → write_held start id (call_at t action i o ∷ h) ≡ Some w → write_held start id h ≡ Some w
        → IsWriteOf w (opened_for id (call_at t action i o ∷ h)) (changes_of start (call_at t action i o ∷ h))
    old_fits action o id w p e was = moved (opened_for id h) (fits.each id w was) refl
      where
        c : Call
        c = call_at t action i o

        apart : (r : ℕ) → lander action o ≡ Some r → IsApart w.number (write_held start r h)
        apart r l v held = apart_by v.number w.number
            (λ same. let one : r ≡ id = fits.apart r id v w held was same in
            let other : (r == id) ≡ false = survivor id r (begun_by start id c h) action o (write_held start id h) w e l in
            let is : (r == id) ≡ true = ap (λ (x : ℕ). x == id) one ∙ itself id in absurd cc)

        on : IsInFlight w (changes_of start h) → IsInFlight w (changes_of start (c ∷ h))
        on f = flies_on w (changes_of start h) (changes_at start action o c h (changes_of start h)) (changes_spare w.number action o c h (held_below id w was) apart) f

        moved : (x : Option Entry) → IsWriteOf w x (changes_of start h) → opened_for id h ≡ x → IsWriteOf w (opened_for id (c ∷ h)) (changes_of start (c ∷ h))
        moved None q is = absurd q
        moved (Some y) q is =
            subst (λ (z : Option Entry). IsWriteOf w z (changes_of start (c ∷ h)))
            (sym (entry_stays id (begun_by start id c h) action o (write_held start id h) w h p (λ none. let no : Some y ≡ None = sym is ∙ none in absurd cc) e ∙ is))
            (on q.0, q.1, q.2)

    -- one that begins
    new_fits : (n : ℕ) (e : Option Entry) (x : Option (Stored Kept)) (j : Option Judged) (w : Write Kept) → write_begun n e x j ≡ Some w
        → IsWriteOf w e (extended (changes_of start h) (begin_changes (write_begun n e x j)))
    new_fits n (Some e) y (Some (kept meta)) w p =
        let v : Write Kept = record { number = n; key = stored_key e; meta = record { entry = alone e; meta = with_provenance_of (option_map (λ x. x.meta.meta) y) meta } } in
        let same : v ≡ w = cc in
        subst (λ (x : Write Kept). IsWriteOf x (Some e) (begins v ∷ changes_of start h)) same
        (record { since = []; before = changes_of start h; split = refl; flies = tt }, refl, refl)
    new_fits n (Some e) y (Some _) w p = absurd cc
    new_fits n (Some e) y None w p = absurd cc
    new_fits n None y j w p = absurd cc

    begun_fits : (action : Action) (o : Outcome) (id : ℕ) (w : Write Kept) → is_begin_of id action o ≡ true → begun_by start id (call_at t action i o) h ≡ Some w
        → IsWriteOf w (opened_for id (call_at t action i o ∷ h)) (changes_of start (call_at t action i o ∷ h))
    begun_fits (Begin r head given) (Ok Begun) id w is e =
        subst (λ (x : ℕ). IsWriteOf w (opened_for id h) (extended (changes_of start h) (begin_changes (begun_by start x (call_at t (Begin r head given) i (Ok Begun)) h)))) (sym (eqb-true r id is))
        (new_fits (writes_begun start h) (opened_for id h) (seen_by start id h) (judged_of (call_at t (Begin r head given) i (Ok Begun))) w e)
    begun_fits _ _ id w is e = absurd cc

    pub WritesFit-after : (action : Action) (o : Outcome) → IsPlain action o h → WritesFit (call_at t action i o ∷ h)
    WritesFit-after action o p = record { each = each; apart = apart }
      where
        c : Call
        c = call_at t action i o

        from : (id : ℕ) (w : Write Kept) → write_held start id (c ∷ h) ≡ Some w → ((is_begin_of id action o ≡ true) × (begun_by start id c h ≡ Some w)) ⊎ (write_held start id h ≡ Some w)
        from id w e = held_from id (begun_by start id c h) action o (write_held start id h) w e

        each : (id : ℕ) (w : Write Kept) → write_held start id (c ∷ h) ≡ Some w → IsWriteOf w (opened_for id (c ∷ h)) (changes_of start (c ∷ h))
        each id w e = elim (from id w e) [
          | inl new ↦ begun_fits action o id w new.0 new.1
          | inr old ↦ old_fits action o id w p e old
        ]

        new_number : (id : ℕ) (w : Write Kept) → begun_by start id c h ≡ Some w → w.number ≡ writes_begun start h
        new_number id w e = number_begun (writes_begun start h) (opened_for id h) (seen_by start id h) (judged_of c) w e

        apart : (k j : ℕ) (v w : Write Kept) → write_held start k (c ∷ h) ≡ Some v → write_held start j (c ∷ h) ≡ Some w → v.number ≡ w.number → k ≡ j
        apart k j v w e f same = elim (from k v e) [
          | inl new ↦ elim (from j w f) [
            | inl also ↦ one_begins k j action o new.0 also.0
            | inr old ↦ let a : v.number ≡ writes_begun start h = new_number k v new.1 in let b : w.number < writes_begun start h = held_below j w old in absurd (omega arith)
          ]
          | inr was ↦ elim (from j w f) [
            | inl also ↦ let a : w.number ≡ writes_begun start h = new_number j w also.1 in let b : v.number < writes_begun start h = held_below k v was in absurd (omega arith)
            | inr old ↦ fits.apart k j v w was old same
          ]
        ]
