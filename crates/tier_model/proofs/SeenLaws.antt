-- What a request has seen began, under the request's key.
use Rattle.std.proofs.Common.{◌≡◌, ℕ, refl, ap, sym, ◌∙◌, true, false, cond, [], ◌∷◌, ◌==◌, inl, inr}
use Rattle.std.specs.Prelude.{Bool, List, Option, Some, None, Ok, ◌&&◌}
use Rattle.cache_entries.specs.SameEntry.{same_bytes-tells}
use Rattle.cache_changes.specs.Changes.{StoredKey, stored_key, Write, Change, Changes}
use Rattle.cache_changes.specs.Store.{Stored, store_of, shown_at}
use Rattle.cache_changes.specs.Writes.{HasBegun, IsShown, IsOrderly}
use Rattle.cache_changes.proofs.BodyLaws.{one_life}
use Rattle.cache_changes.proofs.FoundLaws.{store_of-is}
use Rattle.cache_changes.proofs.WriteLaws.{Life, alive_began, began_more, life, life-began}
use Rattle.tier_model.specs.declared.event.Action.{Action}
use Rattle.tier_model.specs.declared.event.Action.TheVariants.{Open, LookUp, Begin, Revalidate, Drop}
use Rattle.tier_model.specs.declared.event.Answer.TheVariants.{Opened, Found, Absent, Dropped}
use Rattle.tier_model.specs.Keys.{Entry, entry_of}
use Rattle.tier_model.specs.Calls.{History, Outcome, extended, opened_for, entry_after, is_confirmation}
use Rattle.tier_model.specs.Histories.{Kept, Opening, changes_of, seen_by, seen_after, shown_for}
use Rattle.tier_model.proofs.CallLaws.{changes_at}

-- a number begins one write
pub one_begun : (v w : Write Kept) (changes : Changes Kept) → IsOrderly changes → HasBegun v changes → HasBegun w changes → v.number ≡ w.number → v ≡ w
one_begun v w changes o a b same =
    let x = life-began v changes o a in
    let y = life-began w changes o b in
    let one : Life Kept = record { write = v; flies = x.flies; alive = x.alive } in
    let other : Life Kept = record { write = w; flies = y.flies; alive = y.alive } in
    ap (λ (z : Life Kept). z.write) (one_life one other (sym x.is ∙ ap (λ (n : ℕ). life n changes) same ∙ y.is))

began_extended : (w : Write Kept) (changes : Changes Kept) (cs : List (Change Kept)) → HasBegun w changes → HasBegun w (extended changes cs)
began_extended w changes [] b = b
began_extended w changes (c ∷ cs) b = began_extended w (c ∷ changes) cs (began_more w c changes b)

orderly_before : (changes : Changes Kept) (cs : List (Change Kept)) → IsOrderly (extended changes cs) → IsOrderly changes
orderly_before changes [] o = o
orderly_before changes (c ∷ cs) o = (orderly_before (c ∷ changes) cs o).1

shown_began : (k : StoredKey) (w : Write Kept) (changes : Changes Kept) → IsShown k w changes → HasBegun w changes × (w.key ≡ k)
shown_began k w changes s = elim s [
  | inl h ↦ (alive_began w changes h.flying.alive, same_bytes-tells.equal w.key k h.flying.of_key)
  | inr h ↦ (alive_began w changes h.1.alive, same_bytes-tells.equal w.key k h.1.of_key)
]

-- what a request that is open for that entry has seen
abbrev pub IsSeenOf : Option (Stored Kept) → Option Entry → Changes Kept → Type 0
IsSeenOf None e changes = Unit {0}
IsSeenOf (Some x) None changes = Unit {0}
IsSeenOf (Some x) (Some e) changes = HasBegun x.write changes × (x.write.key ≡ stored_key e)

shown_seen : (e : Option Entry) (changes : Changes Kept) → IsOrderly changes → IsSeenOf (shown_for e changes) e changes
shown_seen None changes o = tt
shown_seen (Some e) changes o = by_shown (shown_at (stored_key e) (store_of changes)) refl
  where
    by_shown : (x : Option (Stored Kept)) → shown_at (stored_key e) (store_of changes) ≡ x → IsSeenOf x (Some e) changes
    by_shown None is = tt
    by_shown (Some x) is = shown_began (stored_key e) x.write changes (((store_of-is changes o).shown (stored_key e) x).0 is).0

seen_extended : (x : Option (Stored Kept)) (e : Option Entry) (changes : Changes Kept) (cs : List (Change Kept)) → IsSeenOf x e changes → IsSeenOf x e (extended changes cs)
seen_extended None e changes cs s = tt
seen_extended (Some x) None changes cs s = tt
seen_extended (Some x) (Some e) changes cs s = (began_extended x.write changes cs s.0, s.1)

either_seen : (v : Bool) (x : Option (Stored Kept)) (e : Option Entry) (changes : Changes Kept) → IsSeenOf x e changes → IsSeenOf (cond v None x) e changes
either_seen true x e changes s = tt
either_seen false x e changes s = s

module _ (id : ℕ) (e : Option Entry) (changes : Changes Kept) (shown : Option (Stored Kept)) (shows : IsSeenOf shown e changes) (old : Option (Stored Kept)) (was : IsSeenOf old e changes) where
  seen_step : (action : Action) (o : Outcome) → IsSeenOf (seen_after id shown action o old) (entry_after id action o e) changes
  seen_step (Open r key asks) (Ok Opened) = by_test (r == id)
    where
      by_test : (v : Bool) → IsSeenOf (cond v None old) (cond v (Some (entry_of key)) e) changes
      by_test true = tt
      by_test false = was
  seen_step (LookUp r) (Ok (Found fresh complete given)) = by_test (r == id)
    where
      by_test : (v : Bool) → IsSeenOf (cond v (cond fresh None shown) old) e changes
      by_test true = either_seen fresh shown e changes shows
      by_test false = was
  seen_step (LookUp r) (Ok (Absent given)) = either_seen (r == id) old e changes was
  seen_step (Begin r head given) (Ok a) = either_seen (r == id) old e changes was
  seen_step (Revalidate r head given) o = either_seen ((r == id) && is_confirmation o) old e changes was
  seen_step (Drop r) (Ok Dropped) = by_test (r == id)
    where
      by_test : (v : Bool) → IsSeenOf (cond v None old) (cond v None e) changes
      by_test true = tt
      by_test false = was
  seen_step (Drop r) (Ok a) = either_seen (r == id) old e changes was
  seen_step _ _ = was

pub seen-of : (start : Opening) (id : ℕ) (h : History) → IsOrderly (changes_of start h) → IsSeenOf (seen_by start id h) (opened_for id h) (changes_of start h)
seen-of start id [] o = tt
seen-of start id (c ∷ h) o =
    let cs : List (Change Kept) = changes_at start c.event.action c.outcome c h (changes_of start h) in
    let before = orderly_before (changes_of start h) cs o in
    seen_extended (seen_by start id (c ∷ h)) (opened_for id (c ∷ h)) (changes_of start h) cs
    (seen_step id (opened_for id h) (changes_of start h) (shown_for (opened_for id h) (changes_of start h)) (shown_seen (opened_for id h) (changes_of start h) before) (seen_by start id h)
    (seen-of start id h before) c.event.action c.outcome)
