-- A tier before its first call is what the promise says then, and its lock is sound after each lawful history.
use Rattle.std.proofs.Common.{◌≡◌, ℕ, refl, ap, sym, ◌∙◌, false, subst, [], ◌∷◌}
use Rattle.std.specs.Prelude.{List, Option, None, option_map, map}
use Rattle.std.specs.Cmp.Lexicographic.{slice_cmp}
use Rattle.std.specs.FinMap.{get, get-empty}
use Rattle.std.specs.Ordering.{nat_cmp}
use Rattle.cache_changes.specs.Changes.{StoredKey}
use Rattle.cache_changes.specs.Uses.{AreShardsOf, admissions, rows_of}
use Rattle.cache_entries.specs.Rows.{admitted}
use Rattle.cache_entries.specs.declared.rows.Tracked.{Tracked}
use Rattle.cache_lock.specs.State.{LockState}
use Rattle.tier_model.specs.Calls.{History}
use Rattle.tier_model.specs.Histories.{Kept, Opening}
use Rattle.tier_model.specs.Rows.{Numbered}
use Rattle.tier_model.specs.State.{State}
use Rattle.tier_model.specs.State as state
use Rattle.tier_model.specs.Past.{state_of, lock_changes_of, IsLawful}
use Rattle.tier_promise.specs.Promise.{Write, Changes, puts, bytes_of, is_done, flying, body_of, rows, ended, waiting, now_of}
use Rattle.tier_model.proofs.BeganLaws.{ages, began-there}
use Rattle.tier_model.proofs.LockLaws.{lock-is}
use Rattle.tier_model.proofs.GrantedLaws.{LocksFit-lawful}
use Rattle.tier_model.proofs.StandLaws.{Stands, Stands-lawful}
use Rattle.tier_promise.proofs.NowFits.{told_write, BodyFits, OpenFits, NowFits}
use Rattle.tier_promise.proofs.NowQuiet.{IsLocked}

abbrev loading : List Tracked → Changes
loading l = map (λ r. puts r.entry r.weight) l

no_bytes : (m : ℕ) (l : List Tracked) → bytes_of m (loading l) ≡ []
no_bytes m [] = refl
no_bytes m (r ∷ l) = no_bytes m l

none_done : (m : ℕ) (l : List Tracked) → is_done m (loading l) ≡ false
none_done m [] = refl
none_done m (r ∷ l) = none_done m l

none_fly : (k : StoredKey) (l : List Tracked) → flying k (loading l) ≡ []
none_fly k [] = refl
none_fly k (r ∷ l) = none_fly k l

pub no_body : (k : StoredKey) (l : List Tracked) → body_of k (loading l) ≡ None
no_body k [] = refl
no_body k (r ∷ l) = no_body k l

none_ended : (m : ℕ) (l : List Tracked) → ended m (loading l) ≡ None
none_ended m [] = refl
none_ended m (r ∷ l) = none_ended m l

none_waits : (k : StoredKey) (l : List Tracked) → waiting k (loading l) ≡ None
none_waits k [] = refl
none_waits k (r ∷ l) = none_waits k l

pub rows-loaded : (l : List Tracked) → rows_of {M = Kept} (admissions l) ≡ rows (loading l)
rows-loaded [] = refl
rows-loaded (r ∷ l) = ap (admitted r.entry r.weight) (rows-loaded l)

pub start-fits : (start : Opening) → IsLawful start [] → NowFits start.settings (state_of start []) [] (now_of start.settings start.loaded [])
start-fits start l =
    let past : Stands start (state_of start []) [] = Stands-lawful start [] l in
    record {
      numbers = λ n. None;
      permits = λ n. None;
      wait = refl;
      some = l.0;
      made = past.made;
      rows = subst (λ (n : ℕ). AreShardsOf n (state_of start []).managed.shards (rows (loading start.loaded))) past.made.shards
          (subst (λ (all : List Tracked). AreShardsOf (state.shards_of (state_of start [])) (state_of start []).managed.shards all) (rows-loaded start.loaded) past.holds.leaves.rows);
      shelf = record {
        below = λ n m h. absurd cc;
        apart = λ i j m g h. absurd cc;
        fresh = λ m h. (no_bytes m start.loaded, none_done m start.loaded);
        flights = λ k. ap (map told_write) (none_fly k start.loaded);
        each = tt;
        bodies = λ k. subst (λ (x : Option Numbered). BodyFits (λ n. None) (λ m. bytes_of m (loading start.loaded)) (λ m. is_done m (loading start.loaded)) k x (body_of k (loading start.loaded))) (sym (get-empty (slice_cmp nat_cmp) k))
            (subst (λ (v : Option Write). BodyFits (λ n. None) (λ m. bytes_of m (loading start.loaded)) (λ m. is_done m (loading start.loaded)) k None v) (sym (no_body k start.loaded)) tt);
      };
      lock = record {
        below = λ n p h. absurd cc;
        apart = λ i j p q g h e. absurd cc;
        fresh = λ m h. none_ended m start.loaded;
        ends = λ n p h. absurd cc;
        given = λ n p h. absurd cc;
        waits = λ k. none_waits k start.loaded;
      };
      requests = λ id. subst (λ (o : Option state.Request). OpenFits start.settings (λ n. None) (λ n. None) (state_of start []).shelf (loading start.loaded) o None) (sym (get-empty nat_cmp id)) tt;
    }

pub IsLocked-lawful : (start : Opening) (h : History) → IsLawful start h → IsLocked start.settings.age (state_of start h) (lock_changes_of start h)
IsLocked-lawful start h l = record {
  granted = (LocksFit-lawful start h l).granted;
  began = λ n y e. began-there start.settings.age start.first_core (lock_changes_of start h) n y (sym (ap (λ (x : LockState). option_map ages (get x.cores n)) (lock-is start h)) ∙ e);
}
