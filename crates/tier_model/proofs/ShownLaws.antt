-- What the bodies and the writes in flight that are left report of writes.
use Rattle.std.proofs.Common.{◌≡◌, ℕ, refl, ap, sym, ◌∙◌, true, false, subst, cond, inl, inr}
use Rattle.std.specs.Prelude.{Bool, List, Option, Some, None, option_map, is_some, find}
use Rattle.std.specs.FinMap.{get}
use Rattle.cache_entries.specs.Keys.{same_bytes}
use Rattle.cache_changes.specs.Changes.{StoredKey, Write, Changes}
use Rattle.cache_changes.specs.Writes.{bytes_of, has_ended, meta_of, IsOrderly, IsAliveInFlight, IsFound, IsShown, IsBody}
use Rattle.std.specs.Option.{option_or}
use Rattle.cache_changes.specs.Store.{Stored, Flying, store_of, body_at, shown_at, flying_at, flies_for, stored_of, has_number as held_number, IsFlight}
use Rattle.cache_changes.proofs.FoundLaws.{store_of-is}
use Rattle.cache_changes.proofs.OrderLaws.{flights-rise, found_number}
use Rattle.cache_changes.proofs.RowLaws.{find-some, find-passes, was_false}
use Rattle.cache_changes.proofs.WriteLaws.{and_true, both_true}
use Rattle.cache_evict.specs.Managed.{Managed}
use Rattle.tier_model.specs.Histories.{Kept, told_of}
use Rattle.tier_model.specs.Shelf.{InFlight, Look, absent, in_flight, finished, look_by, flies_for as flies_in}
use Rattle.tier_model.specs.State.{Seen}
use Rattle.tier_model.specs.Past.{plain, plain_seen}
use Rattle.tier_model.proofs.FlightLaws.{find-plain}
use Rattle.tier_model.specs.Rows.{Numbered, Bodies}
use Rattle.tier_model.proofs.BodyLaws.{view, AreSame}
use Rattle.tier_model.proofs.ChangeLaws.{Leaves}

-- ---- what the bodies that are left report of writes

-- where none is first in flight, none flies
none_flies : (k : StoredKey) (v : Write Kept) (changes : Changes Kept) → IsOrderly changes → find (flies_for k) (store_of changes).flying ≡ None → IsAliveInFlight k v changes → ⊥
none_flies k v changes o e f =
    let flight : Flying Kept = record { stored = stored_of v changes; ended = has_ended v.number changes; removed = false } in
    let is : IsFlight flight changes = record { flies = f.flies; stored = refl; ended = refl; alive = (λ t. f.alive, λ a. refl) } in
    let there : flying_at v.number (store_of changes) ≡ Some flight = ((store_of-is changes o).flights v.number flight).1 (refl, is) in
    let some : is_some (find (flies_for k) (store_of changes).flying) ≡ true = find-some (held_number v.number) (flies_for k) (store_of changes).flying flight there (both_true (same_bytes v.key k) true f.of_key refl) in
    absurd cc

-- the first in flight
first_flies : (k : StoredKey) (g : Flying Kept) (changes : Changes Kept) → IsOrderly changes → find (flies_for k) (store_of changes).flying ≡ Some g
    → IsAliveInFlight k g.stored.write changes × (g.stored ≡ stored_of g.stored.write changes)
first_flies k g changes o e =
    let there : flying_at g.stored.write.number (store_of changes) ≡ Some g = found_number 0 (flies_for k) (store_of changes).flying g (flights-rise changes o) e in
    let h = (((store_of-is changes o).flights g.stored.write.number g).0 there).1 in
    let parts = and_true (same_bytes g.stored.write.key k) _ (find-passes (flies_for k) (store_of changes).flying g e) in
    (record { of_key = parts.0; alive = h.alive.0 (was_false g.removed parts.1); flies = h.flies }, h.stored)

shown_first : (k : StoredKey) (g : Flying Kept) (changes : Changes Kept) → find (flies_for k) (store_of changes).flying ≡ Some g → shown_at k (store_of changes) ≡ Some g.stored
shown_first k g changes e = ap (λ (o : Option (Flying Kept)). option_or (option_map (λ f. f.stored) o) (body_at k (store_of changes))) e

shown_body : (k : StoredKey) (changes : Changes Kept) → find (flies_for k) (store_of changes).flying ≡ None → shown_at k (store_of changes) ≡ body_at k (store_of changes)
shown_body k changes e = ap (λ (o : Option (Flying Kept)). option_or (option_map (λ f. f.stored) o) (body_at k (store_of changes))) e

held_there : (o : Option Numbered) (b : Numbered) (x : Option (Stored Kept)) → o ≡ Some b → AreSame o x → (y : Stored Kept) × (x ≡ Some y) × (view y ≡ b)
held_there None b x there e = absurd cc
held_there (Some c) b None there e = absurd cc
held_there (Some c) b (Some y) there e =
    let same : c ≡ b = cc in
    let pair : c ≡ view y = cc in
    (y, refl, sym pair ∙ same)

held_none : (o : Option Numbered) (x : Option (Stored Kept)) → o ≡ None → AreSame o x → x ≡ None
held_none None None there e = refl
held_none None (Some y) there e = absurd cc
held_none (Some c) x there e = absurd cc

held_back : (o : Option Numbered) (x : Option (Stored Kept)) (y : Stored Kept) → x ≡ Some y → AreSame o x → (b : Numbered) × (o ≡ Some b) × (b ≡ view y)
held_back None (Some z) y there e = absurd cc
held_back None None y there e = absurd cc
held_back (Some b) None y there e = absurd cc
held_back (Some b) (Some z) y there e =
    let same : z ≡ y = cc in
    let pair : b ≡ view z = cc in
    (b, refl, pair ∙ ap view same)

-- the write of a body that is held
pub record Shows (k : StoredKey) (b : Numbered) (changes : Changes Kept) : Type 0 where
  pub write : Write Kept
  pub body : IsBody k write changes
  pub at : body_at k (store_of changes) ≡ Some (stored_of write changes)
  pub number : write.number ≡ b.number
  pub tells : told_of changes write ≡ b.body

-- the write in flight that is found
pub record ShowsFlight (k : StoredKey) (f : InFlight) (changes : Changes Kept) : Type 0 where
  pub write : Write Kept
  pub shown : IsShown k write changes
  pub flying : IsAliveInFlight k write changes
  pub number : f.number ≡ write.number
  pub meta : f.meta ≡ (meta_of write changes).meta
  pub bytes : f.bytes ≡ bytes_of write.number changes

-- what a look-up finds is what changes show
abbrev pub IsSeen : Look → Option (Stored Kept) → Type 0
IsSeen absent shown = Unit {0}
IsSeen (in_flight f) shown = option_map plain_seen shown ≡ Some (record { number = f.number; meta = f.meta })
IsSeen (finished x) shown = option_map plain_seen shown ≡ Some (record { number = x.number; meta = x.body.meta })

pub seen_found : (fresh : Bool) (shown : Option (Stored Kept)) (x : Seen) → option_map plain_seen shown ≡ Some x → cond fresh None (Some x) ≡ option_map plain_seen (cond fresh None shown)
seen_found true shown x e = refl
seen_found false shown x e = sym e

sees_by : (f : Option (Flying Kept)) (x : Option (Stored Kept)) → IsSeen (look_by (option_map plain f) (option_map view x)) (option_or (option_map (λ f. f.stored) f) x)
sees_by (Some g) x = refl
sees_by None (Some y) = refl
sees_by None None = tt

plain_back : (o : Option (Flying Kept)) (f : InFlight) → option_map plain o ≡ Some f → (g : Flying Kept) × (o ≡ Some g) × (plain g ≡ f)
plain_back None f e = absurd cc
plain_back (Some g) f e = (g, refl, cc)

plain_none : (o : Option (Flying Kept)) → option_map plain o ≡ None → o ≡ None
plain_none None e = refl
plain_none (Some g) e = absurd cc

module _ (N n : ℕ) (bodies : Bodies) (fs : List InFlight) (m : Managed) (changes : Changes Kept) (l : Leaves N n bodies fs m changes) where
  pub shows : (k : StoredKey) (b : Numbered) → get bodies k ≡ Some b → Shows k b changes
  shows k b e =
      let there = held_there (get bodies k) b (body_at k (store_of changes)) e (l.bodies k) in
      let x : Stored Kept = there.0 in
      let body = ((store_of-is changes l.orderly).bodies k x).0 there.1 in
      record {
        write = x.write;
        body = body.0;
        at = there.1 ∙ ap (λ (y : Stored Kept). Some y) body.1;
        number = ap (λ (y : Numbered). y.number) there.2;
        tells = ap (λ (y : Stored Kept). (view y).body) (sym body.1) ∙ ap (λ (y : Numbered). y.body) there.2;
      }

  -- the body of a write is held
  pub is_held : (k : StoredKey) (w : Write Kept) → IsBody k w changes → (b : Numbered) × (get bodies k ≡ Some b) × (b ≡ view (stored_of w changes))
  is_held k w i =
      let at = ((store_of-is changes l.orderly).bodies k (stored_of w changes)).1 (i, refl) in
      held_back (get bodies k) (body_at k (store_of changes)) (stored_of w changes) at (l.bodies k)

  first_in : (k : StoredKey) → find (flies_in k) fs ≡ option_map plain (find (flies_for k) (store_of changes).flying)
  first_in k = ap (find (flies_in k)) l.flights ∙ find-plain (flies_for k) (flies_in k) (store_of changes).flying (λ f. refl)

  pub sees : (k : StoredKey) (x : Look) → look_by (find (flies_in k) fs) (get bodies k) ≡ x → IsSeen x (shown_at k (store_of changes))
  sees k x e =
      subst (λ (y : Look). IsSeen y (shown_at k (store_of changes)))
      (sym (ap (λ (o : Option InFlight). look_by o (get bodies k)) (first_in k) ∙ ap (look_by (option_map plain (find (flies_for k) (store_of changes).flying))) (l.bodies k)) ∙ e)
      (sees_by (find (flies_for k) (store_of changes).flying) (body_at k (store_of changes)))

  pub shows_flight : (k : StoredKey) (f : InFlight) → find (flies_in k) fs ≡ Some f → ShowsFlight k f changes
  shows_flight k f e =
      let x = plain_back (find (flies_for k) (store_of changes).flying) f (sym (first_in k) ∙ e) in
      let h = first_flies k x.0 changes l.orderly x.1 in
      let shown = ((store_of-is changes l.orderly).shown k x.0.stored).0 (shown_first k x.0 changes x.1) in
      record {
        write = x.0.stored.write;
        shown = shown.0;
        flying = h.0;
        number = ap (λ (g : InFlight). g.number) (sym x.2);
        meta = ap (λ (g : InFlight). g.meta) (sym x.2) ∙ ap (λ (y : Stored Kept). y.meta.meta) h.1;
        bytes = ap (λ (g : InFlight). g.bytes) (sym x.2) ∙ ap (λ (y : Stored Kept). y.bytes) h.1;
      }

  -- where no write in flight is found
  module _ (k : StoredKey) (none : find (flies_in k) fs ≡ None) where
    none_first : find (flies_for k) (store_of changes).flying ≡ None
    none_first = plain_none (find (flies_for k) (store_of changes).flying) (sym (first_in k) ∙ none)

    pub none_in_flight : (v : Write Kept) → IsAliveInFlight k v changes → ⊥
    none_in_flight v f = none_flies k v changes l.orderly none_first f

    pub body_shown : (b : Numbered) (x : Shows k b changes) → IsShown k x.write changes
    body_shown b x = inr (none_in_flight, x.body)

  pub shown_found : (k : StoredKey) (w : Write Kept) → IsShown k w changes → IsFound k changes
  shown_found k w s = elim s [
    | inl h ↦ (w, h.flying.of_key, h.flying.alive)
    | inr h ↦ (w, h.1.of_key, h.1.alive)
  ]
