-- The writes in flight of the state are those of the changes.
use Rattle.std.proofs.Common.{◌≡◌, ℕ, refl, ap, sym, ◌∙◌, true, false, subst, cond, [], ◌∷◌}
use Rattle.std.specs.Prelude.{Bool, ◌==◌, List, Option, Some, None, option_map, not, find}
use Rattle.std.specs.Option.{option_or}
use Rattle.std.proofs.lemmas.Bool.{eqb-true}
use Rattle.std.proofs.lemmas.List.Folds.{find-append}
use Rattle.cache_entries.specs.declared.entry.CacheEntryKey.{CacheEntryKey}
use Rattle.cache_changes.specs.Changes.{Write, Change, Changes, StoredKey, begins, appends, ends, finishes, leaves, renews, removes, admits, uses, reweighs, departs, evicts, key_alone, is_key}
use Rattle.cache_changes.specs.Writes.{has_ended, MayCome, IsOrderly}
use Rattle.cache_changes.specs.Store.{Stored, Flying, Store, stored_of, has_number, flying_at, begun, with_bytes, renewed, renewed_flying, ended, marked, landed, after, store_of}
use Rattle.cache_changes.proofs.RowLaws.{not_true, not_false, find-map, find-kept, find-gone}
use Rattle.cache_changes.proofs.WriteLaws.{Life, life, life_by, lived, life_number, fresh_life, fresh_bytes, fresh_end, fresh_meta}

abbrev pub live : {M : Type 0} → Write M → Bool → Life M
live w a = record { write = w; flies = true; alive = a }

-- what the changes say of a write in flight
abbrev pub flight : {M : Type 0} → Write M → Bool → Changes M → Flying M
flight w a changes = record { stored = stored_of w changes; ended = has_ended w.number changes; removed = not a }

abbrev pub flying_of : {M : Type 0} → Changes M → Option (Life M) → Option (Flying M)
flying_of changes None = None
flying_of changes (Some x) = cond x.flies (Some (flight x.write x.alive changes)) None

-- a change that does the same to a write in flight as to what is known of it
moved : {M : Type 0} (n : ℕ) (c : Change M) (before : Changes M) (change : Option (Flying M) → Option (Flying M)) → change None ≡ None
    → ((w : Write M) (a : Bool) → n ≡ w.number → change (Some (flight w a before)) ≡ flying_of (c ∷ before) (Some (lived c (live w a))))
    → (o : Option (Life M)) → ((x : Life M) → o ≡ Some x → n ≡ x.write.number) → change (flying_of before o) ≡ flying_of (c ∷ before) (option_map (lived c) o)
moved n c before change none step None number = none
moved {M = M} n c before change none step (Some x) number = by_flag x.flies
  where
    by_flag : (f : Bool) → change (flying_of before (Some (record x { flies = f }))) ≡ flying_of (c ∷ before) (Some (lived c (record x { flies = f })))
    by_flag true = step x.write x.alive (number x refl)
    by_flag false = none

option_or_none : {X : Type 0} (o : Option X) → option_or o None ≡ o
option_or_none None = refl
option_or_none (Some x) = refl

-- look-ups after edits
on_number : {M : Type 0} (n m : ℕ) (change : Flying M → Flying M) (f : Flying M) → (change f).stored.write ≡ f.stored.write → has_number n (cond (has_number m f) (change f) f) ≡ has_number n f
on_number {M = M} n m change f h = by_test (has_number m f)
  where
    by_test : (v : Bool) → has_number n (cond v (change f) f) ≡ has_number n f
    by_test true = ap (λ (w : Write M). n == w.number) h
    by_test false = refl

pub flying-landed : {M : Type 0} (n m : ℕ) (fs : List (Flying M)) → find (has_number n) (landed m fs) ≡ cond (m == n) None (find (has_number n) fs)
flying-landed {M = M} n m fs = by_test (m == n) refl
  where
    by_test : (v : Bool) → (m == n) ≡ v → find (has_number n) (landed m fs) ≡ cond v None (find (has_number n) fs)
    by_test true e = find-gone (has_number n) (λ f. not (has_number m f)) fs (λ f t. not_true (has_number m f) (subst (λ (k : ℕ). has_number k f ≡ true) (sym (eqb-true m n e)) t))
    by_test false e = find-kept (has_number n) (λ f. not (has_number m f)) fs (λ f t. not_false (has_number m f) (subst (λ (k : ℕ). (m == k) ≡ false) (eqb-true n f.stored.write.number t) e))

renewed_write : {M : Type 0} (m : ℕ) (meta : M) (x : Stored M) → (renewed m meta x).write ≡ x.write
renewed_write m meta x = by_test (m == x.write.number)
  where
    by_test : (v : Bool) → (cond v (record x { meta = meta }) x).write ≡ x.write
    by_test true = refl
    by_test false = refl

no_flight : {M : Type 0} (v : Bool) → cond {A = Option (Flying M)} v None None ≡ None
no_flight true = refl
no_flight false = refl

begin_step : {M : Type 0} (v w : Write M) (a : Bool) (before : Changes M) → Some (flight w a before) ≡ flying_of (begins v ∷ before) (Some (lived (begins v) (live w a)))
begin_step v w true before = refl
begin_step v w false before = refl

append_step : {M : Type 0} (m : ℕ) (bytes : List ℕ) (w : Write M) (a v : Bool) (before : Changes M) → (m == w.number) ≡ v
    → Some (cond (m == w.number) (with_bytes bytes (flight w a before)) (flight w a before)) ≡ flying_of (appends m bytes ∷ before) (Some (lived (appends m bytes) (live w a)))
append_step m bytes w true true before e = rw e refl
append_step m bytes w true false before e = rw e refl
append_step m bytes w false true before e = rw e refl
append_step m bytes w false false before e = rw e refl

end_step : {M : Type 0} (m : ℕ) (w : Write M) (a v : Bool) (before : Changes M) → (m == w.number) ≡ v
    → Some (cond (m == w.number) (ended (flight w a before)) (flight w a before)) ≡ flying_of (ends m ∷ before) (Some (lived (ends m) (live w a)))
end_step m w true true before e = rw e refl
end_step m w true false before e = rw e refl
end_step m w false true before e = rw e refl
end_step m w false false before e = rw e refl

finish_step : {M : Type 0} (v w : Write M) (a t : Bool) (before : Changes M) → (v.number == w.number) ≡ t
    → cond (v.number == w.number) None (Some (flight w a before)) ≡ flying_of (finishes v ∷ before) (Some (lived (finishes v) (live w a)))
finish_step v w a true before e = rw e refl
finish_step v w true false before e = rw e refl
finish_step v w false false before e = rw e refl

leave_step : {M : Type 0} (m : ℕ) (w : Write M) (a t : Bool) (before : Changes M) → (m == w.number) ≡ t
    → cond (m == w.number) None (Some (flight w a before)) ≡ flying_of (leaves m ∷ before) (Some (lived (leaves m) (live w a)))
leave_step m w a true before e = rw e refl
leave_step m w true false before e = rw e refl
leave_step m w false false before e = rw e refl

renew_step : {M : Type 0} (m : ℕ) (meta : M) (w : Write M) (a v : Bool) (before : Changes M) → (m == w.number) ≡ v
    → Some (renewed_flying m meta (flight w a before)) ≡ flying_of (renews m meta ∷ before) (Some (lived (renews m meta) (live w a)))
renew_step m meta w true true before e = rw e refl
renew_step m meta w true false before e = rw e refl
renew_step m meta w false true before e = rw e refl
renew_step m meta w false false before e = rw e refl

remove_step : {M : Type 0} (k : StoredKey) (w : Write M) (a v : Bool) (before : Changes M) → is_key w.key (Some k) ≡ v
    → Some (marked (Some k) (flight w a before)) ≡ flying_of (removes k ∷ before) (Some (lived (removes k) (live w a)))
remove_step k w true true before e = rw e refl
remove_step k w true false before e = rw e refl
remove_step k w false v before e = refl

evict_step : {M : Type 0} (e : CacheEntryKey) (w : Write M) (a v : Bool) (before : Changes M) → is_key w.key (key_alone e) ≡ v
    → Some (marked (key_alone e) (flight w a before)) ≡ flying_of (evicts e ∷ before) (Some (lived (evicts e) (live w a)))
evict_step e w true true before h = rw h refl
evict_step e w true false before h = rw h refl
evict_step e w false v before h = refl

-- each change
flying-after : {M : Type 0} (n : ℕ) (c : Change M) (before : Changes M) (s : Store M) → MayCome c before → IsOrderly before → flying_at n s ≡ flying_of before (life n before)
    → flying_at n (after c s) ≡ flying_of (c ∷ before) (life n (c ∷ before))
flying-after {M = M} n (begins w) before s may o h = find-append (has_number n) s.flying (begun w ∷ []) ∙ by_test (n == w.number) refl
  where
    fresh : flight w true (begins w ∷ before) ≡ begun w
    fresh = λ i. record {
      stored = record { write = w; meta = fresh_meta w before may o i; bytes = fresh_bytes w.number before may o i };
      ended = fresh_end w.number before may o i;
      removed = false;
    }

    by_test : (v : Bool) → (n == w.number) ≡ v → option_or (flying_at n s) (cond v (Some (begun w)) None) ≡ flying_of (begins w ∷ before) (life_by (cond v (Some w) None) (begins w) (life n before))
    by_test true e =
        let none : life n before ≡ None = ap (λ (k : ℕ). life k before) (eqb-true n w.number e) ∙ fresh_life w.number before may in
        ap (λ (x : Option (Flying M)). option_or x (Some (begun w))) (h ∙ ap (flying_of before) none) ∙ ap (λ (f : Flying M). Some f) (sym fresh)
    by_test false e = option_or_none (flying_at n s) ∙ h ∙ moved n (begins w) before (λ x. x) refl (λ v a t. begin_step w v a before) (life n before) (life_number n before)
flying-after n (appends m bytes) before s may o h =
    find-map (has_number n) (λ f. cond (has_number m f) (with_bytes bytes f) f) s.flying (λ f. on_number n m (with_bytes bytes) f refl)
    ∙ ap (option_map (λ f. cond (has_number m f) (with_bytes bytes f) f)) h
    ∙ moved n (appends m bytes) before (option_map (λ f. cond (has_number m f) (with_bytes bytes f) f)) refl (λ w a t. append_step m bytes w a (m == w.number) before refl) (life n before) (life_number n before)
flying-after n (ends m) before s may o h =
    find-map (has_number n) (λ f. cond (has_number m f) (ended f) f) s.flying (λ f. on_number n m ended f refl)
    ∙ ap (option_map (λ f. cond (has_number m f) (ended f) f)) h
    ∙ moved n (ends m) before (option_map (λ f. cond (has_number m f) (ended f) f)) refl (λ w a t. end_step m w a (m == w.number) before refl) (life n before) (life_number n before)
flying-after {M = M} n (finishes v) before s may o h =
    flying-landed n v.number s.flying ∙ ap (cond (v.number == n) None) h
    ∙ moved n (finishes v) before (cond (v.number == n) None) (no_flight (v.number == n))
    (λ w a t. ap (λ (k : ℕ). cond {A = Option (Flying M)} (v.number == k) None (Some (flight w a before))) t ∙ finish_step v w a (v.number == w.number) before refl) (life n before) (life_number n before)
flying-after {M = M} n (leaves m) before s may o h =
    flying-landed n m s.flying ∙ ap (cond (m == n) None) h
    ∙ moved n (leaves m) before (cond (m == n) None) (no_flight (m == n))
    (λ w a t. ap (λ (k : ℕ). cond {A = Option (Flying M)} (m == k) None (Some (flight w a before))) t ∙ leave_step m w a (m == w.number) before refl) (life n before) (life_number n before)
flying-after {M = M} n (renews m meta) before s may o h =
    find-map (has_number n) (renewed_flying m meta) s.flying (λ f. ap (λ (w : Write M). n == w.number) (renewed_write m meta f.stored))
    ∙ ap (option_map (renewed_flying m meta)) h
    ∙ moved n (renews m meta) before (option_map (renewed_flying m meta)) refl (λ w a t. renew_step m meta w a (m == w.number) before refl) (life n before) (life_number n before)
flying-after n (removes k) before s may o h =
    find-map (has_number n) (marked (Some k)) s.flying (λ f. refl)
    ∙ ap (option_map (marked (Some k))) h
    ∙ moved n (removes k) before (option_map (marked (Some k))) refl (λ w a t. remove_step k w a (is_key w.key (Some k)) before refl) (life n before) (life_number n before)
flying-after n (evicts e) before s may o h =
    find-map (has_number n) (marked (key_alone e)) s.flying (λ f. refl)
    ∙ ap (option_map (marked (key_alone e))) h
    ∙ moved n (evicts e) before (option_map (marked (key_alone e))) refl (λ w a t. evict_step e w a (is_key w.key (key_alone e)) before refl) (life n before) (life_number n before)
flying-after {M = M} n (admits e x) before s may o h = h ∙ moved n (admits e x) before (λ x. x) refl (λ w a t. by_flag w a) (life n before) (life_number n before)
  where
    by_flag : (w : Write M) (a : Bool) → Some (flight w a before) ≡ flying_of (admits e x ∷ before) (Some (lived (admits e x) (live w a)))
    by_flag w true = refl
    by_flag w false = refl
flying-after {M = M} n (uses e x) before s may o h = h ∙ moved n (uses e x) before (λ x. x) refl (λ w a t. by_flag w a) (life n before) (life_number n before)
  where
    by_flag : (w : Write M) (a : Bool) → Some (flight w a before) ≡ flying_of (uses e x ∷ before) (Some (lived (uses e x) (live w a)))
    by_flag w true = refl
    by_flag w false = refl
flying-after {M = M} n (reweighs e x) before s may o h = h ∙ moved n (reweighs e x) before (λ x. x) refl (λ w a t. by_flag w a) (life n before) (life_number n before)
  where
    by_flag : (w : Write M) (a : Bool) → Some (flight w a before) ≡ flying_of (reweighs e x ∷ before) (Some (lived (reweighs e x) (live w a)))
    by_flag w true = refl
    by_flag w false = refl
flying-after {M = M} n (departs e) before s may o h = h ∙ moved n (departs e) before (λ x. x) refl (λ w a t. by_flag w a) (life n before) (life_number n before)
  where
    by_flag : (w : Write M) (a : Bool) → Some (flight w a before) ≡ flying_of (departs e ∷ before) (Some (lived (departs e) (live w a)))
    by_flag w true = refl
    by_flag w false = refl

-- the writes in flight of the state
pub flying_at-is : {M : Type 0} (n : ℕ) (changes : Changes M) → IsOrderly changes → flying_at n (store_of changes) ≡ flying_of changes (life n changes)
flying_at-is n [] o = refl
flying_at-is n (c ∷ before) o = flying-after n c before (store_of before) o.0 o.1 (flying_at-is n before o.1)
