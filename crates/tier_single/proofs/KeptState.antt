-- What is so of each tier's state: it follows from the history that led to it, so each event leaves it so.
use Rattle.std.proofs.Common.{◌≡◌, ℕ, ◌+◌, ◌<◌, ◌≤◌, refl, ap, sym, ◌∙◌, true, false, subst, cond, inl, inr, [], ◌∷◌, ◌++◌, length, arith}
use Rattle.std.specs.Prelude.{◌==◌, Bool, List, Option, Some, None, find, filter, map, unwrap_or}
use Rattle.std.specs.List.{AllByRecursion}
use Rattle.std.specs.FinMap.{get}
use Rattle.std.proofs.lemmas.Bool.{eqb-true, cases_lt}
use Rattle.std.proofs.lemmas.List.{get_or_past}
use Rattle.rand_core.specs.Stream.{Stream}
use Rattle.cache_words.specs.Time.{DurationValue, MomentValue}
use Rattle.cache_entries.specs.declared.rows.Tracked.{Tracked}
use Rattle.cache_entries.specs.Entry.{same_entry}
use Rattle.cache_entries.specs.Rows.{weight_of, AreDistinct}
use Rattle.cache_changes.specs.Changes.{Write, Change, Changes, begins, admits, uses, reweighs, departs, evicts}
use Rattle.cache_changes.specs.Writes.{BeginsBelow, IsOrderly}
use Rattle.cache_changes.specs.Store.{Flying, begun, store_of}
use Rattle.cache_changes.specs.Uses.{shard_of, in_shard, rows_after, rows_of, AreShardsOf}
use Rattle.cache_changes.proofs.OrderLaws.{number_of, Rising, flights-rise}
use Rattle.cache_changes.proofs.WriteLaws.{life, fresh_life, all_begin_less}
use Rattle.cache_evict.specs.Managed.{Managed, rows_at, IsSharded}
use Rattle.cache_lock.specs.State.{LockState}
use Rattle.tier_model.specs.declared.event.Action.{Action}
use Rattle.tier_model.specs.declared.event.Event.{Event}
use Rattle.tier_model.specs.Calls.{Call, Outcome, History}
use Rattle.tier_model.specs.Histories.{Kept, Opening, writes_begun, changes_of}
use Rattle.tier_model.specs.Shelf.{InFlight, Readers}
use Rattle.tier_model.specs.State.{State}
use Rattle.tier_model.specs.Step.{Allows}
use Rattle.tier_model.specs.After.{after}
use Rattle.tier_model.specs.Past.{plain, streamers, lock_changes_of, HasPast}
use Rattle.tier_model.specs.Started.{settings_of}
use Rattle.tier_model.proofs.BeganLaws.{age_is}
use Rattle.tier_model.proofs.ReaderLaws.{CountFits}
use Rattle.tier_model.proofs.StandLaws.{Stands, Stands-lawful}
use Rattle.tier_model.proofs.Carried.{more_past}
use Rattle.tier_requests.specs.Shelves.{IsBelow}
use Rattle.tier_single.specs.Acts.{Took, StepsBy}
use Rattle.tier_single.specs.States.{HasAPastOf}
use Rattle.tier_single.proofs.ShardLaws.{distinct-without, distinct-admitted, distinct-reweighed}

-- ---- the order of use is in shards

distinct-after : (c : Change Kept) (rows : List Tracked) → AreDistinct rows → AreDistinct (rows_after c rows)
distinct-after (admits e w) rows d = distinct-admitted e w rows d
distinct-after (uses e w) rows d = distinct-admitted e (unwrap_or (weight_of e rows) w) rows d
distinct-after (reweighs e w) rows d = distinct-reweighed e w rows d
distinct-after (departs e) rows d = distinct-without e rows d
distinct-after (evicts e) rows d = distinct-without e rows d
distinct-after _ rows d = d

distinct-rows : (changes : Changes Kept) → AreDistinct (rows_of changes)
distinct-rows [] = tt
distinct-rows (c ∷ before) = distinct-after c (rows_of before) (distinct-rows before)

none-kept : (p q : Tracked → Bool) (rows : List Tracked) → find q rows ≡ None → find q (filter p rows) ≡ None
none-kept p q [] e = refl
none-kept p q (r ∷ rows) e = by_test (p r) e (none-kept p q rows)
  where
    kept : (t : Bool) → cond t (Some r) (find q rows) ≡ None → (find q rows ≡ None → find q (filter p rows) ≡ None) → cond t (Some r) (find q (filter p rows)) ≡ None
    kept true e rest = absurd cc
    kept false e rest = rest e

    gone : (t : Bool) → cond t (Some r) (find q rows) ≡ None → find q rows ≡ None
    gone true e = absurd cc
    gone false e = e

    by_test : (v : Bool) → (e : cond (q r) (Some r) (find q rows) ≡ None) → (find q rows ≡ None → find q (filter p rows) ≡ None) → find q (cond v (r ∷ filter p rows) (filter p rows)) ≡ None
    by_test true e rest = kept (q r) e rest
    by_test false e rest = rest (gone (q r) e)

distinct-kept : (p : Tracked → Bool) (rows : List Tracked) → AreDistinct rows → AreDistinct (filter p rows)
distinct-kept p [] d = tt
distinct-kept p (r ∷ rows) d = by_test (p r) (distinct-kept p rows d.1)
  where
    by_test : (v : Bool) → AreDistinct (filter p rows) → AreDistinct (cond v (r ∷ filter p rows) (filter p rows))
    by_test true rest = (none-kept p (λ x. same_entry x.entry r.entry) rows d.0, rest)
    by_test false rest = rest

home-shard : (n s : ℕ) (rows : List Tracked) → AllByRecursion (λ r. shard_of n r.entry ≡ s) (in_shard n s rows)
home-shard n s [] = tt
home-shard n s (r ∷ rows) = by_test (shard_of n r.entry == s) refl (home-shard n s rows)
  where
    by_test : (v : Bool) → (shard_of n r.entry == s) ≡ v → AllByRecursion (λ r. shard_of n r.entry ≡ s) (in_shard n s rows)
        → AllByRecursion (λ r. shard_of n r.entry ≡ s) (cond v (r ∷ in_shard n s rows) (in_shard n s rows))
    by_test true e rest = (eqb-true (shard_of n r.entry) s e, rest)
    by_test false e rest = rest

-- what is so of the rows of each shard, and of none
each-shard : (P : ℕ → List Tracked → Type 0) (n : ℕ) (m : Managed) (all : List Tracked) → AreShardsOf n m.shards all → ((s : ℕ) → P s []) → ((s : ℕ) → P s (in_shard n s all)) → (s : ℕ) → P s (rows_at m.shards s)
each-shard P n m all are none some s = elim (cases_lt s n) [
  | inl within ↦ subst (λ (l : List Tracked). P s l) (sym (are.each s within)) (some s)
  | inr past ↦ subst (λ (l : List Tracked). P s l) (sym (get_or_past m.shards s [] (omega (arith, past, are.count)))) (none s)
]

pub sharded-by : (n : ℕ) (m : Managed) (changes : Changes Kept) → 0 < n → AreShardsOf n m.shards (rows_of changes) → IsSharded n m
sharded-by n m changes some are = record {
  some = some;
  count = are.count;
  distinct = each-shard (λ s l. AreDistinct l) n m (rows_of changes) are (λ s. tt) (λ s. distinct-kept (λ r. shard_of n r.entry == s) (rows_of changes) (distinct-rows changes));
  home = each-shard (λ s l. AllByRecursion (λ r. shard_of n r.entry ≡ s) l) n m (rows_of changes) are (λ s. tt) (λ s. home-shard n s (rows_of changes));
}

-- ---- what is in flight, or read, has begun

-- what stands before the last stays below it
rising-ends : (b : ℕ) (x : Flying Kept) (fs : List (Flying Kept)) → Rising b (fs ++ x ∷ []) → (b ≤ number_of x) × AllByRecursion (λ f. number_of f < number_of x) fs
rising-ends b x [] r = (r.0, tt)
rising-ends b x (f ∷ fs) r = let rest = rising-ends (number_of f + 1) x fs r.1 in (omega (arith, r.0, rest.0), (omega (arith, rest.0), rest.1))

flights-below : (n : ℕ) (changes : Changes Kept) (fs : List (Flying Kept)) → fs ≡ (store_of changes).flying → IsOrderly changes → AllByRecursion (BeginsBelow n) changes → AllByRecursion (λ f. number_of f < n) fs
flights-below n changes [] is o below = tt
flights-below n changes (f ∷ fs) is o below =
    let w : Write Kept = record f.stored.write { number = n } in
    let rising : Rising 0 ((f ∷ fs) ++ begun w ∷ []) = subst (λ (l : List (Flying Kept)). Rising 0 (l ++ begun w ∷ [])) (sym is) (flights-rise (begins w ∷ changes) (below, o)) in
    (rising-ends 0 (begun w) (f ∷ fs) rising).1

plain-below : (n : ℕ) (fs : List (Flying Kept)) → AllByRecursion (λ f. number_of f < n) fs → AllByRecursion (λ f. f.number < n) (map plain fs)
plain-below n [] h = tt
plain-below n (f ∷ fs) h = (h.0, plain-below n fs h.1)

no-readers : (n k : ℕ) (o : Option Readers) (changes : Changes Kept) → life n changes ≡ None → CountFits n o k changes → o ≡ None
no-readers n k None changes none fits = refl
no-readers n k (Some r) changes none fits = let both : None ≡ Some fits.2.0 = sym none ∙ fits.2.1 in absurd cc

pub below-stands : (start : Opening) (s : State) (h : History) → Stands start s h → IsBelow s.shelf
below-stands start s h past =
    let leaves = past.holds.leaves in
    let changes = changes_of start h in
    record {
      flying = subst (λ (l : List InFlight). AllByRecursion (λ f. f.number < s.shelf.writes) l) (sym leaves.flights)
          (plain-below s.shelf.writes (store_of changes).flying (subst (λ (n : ℕ). AllByRecursion (λ f. number_of f < n) (store_of changes).flying) (sym past.count)
          (flights-below (writes_begun start h) changes (store_of changes).flying refl leaves.orderly leaves.below)));
      readers = λ n above. no-readers n (streamers n s.requests) (get s.shelf.readers n) changes
          (fresh_life n changes (all_begin_less (writes_begun start h) n changes (subst (λ (k : ℕ). k ≤ n) past.count above) leaves.below)) (past.counted n);
    }

-- ---- each event leaves it so

-- what a state is to a past of it
stands-past : (start : Opening) (s : State) (h : History) → HasPast start s h → Stands start s h
stands-past start s h p = subst (λ (x : State). Stands start x h) (sym p.state) (Stands-lawful start h p.lawful)

-- what is so of the state of each tier of n shards that was made with that watermark and that age
abbrev pub IsKept : ℕ → Option ℕ → DurationValue → State → Type 0
IsKept n mark age s = IsSharded n s.managed × IsBelow s.shelf × HasAPastOf mark age s

-- a state with a history that began with these settings
pub kept-past : (n : ℕ) (mark : Option ℕ) (age : DurationValue) (start : Opening) (s : State) (h : History)
    → start.settings.shards ≡ n → start.settings.watermark ≡ mark → start.settings.age ≡ age → HasPast start s h → IsKept n mark age s
kept-past n mark age start s h count marked aged past =
    let stands = stands-past start s h past in
    let leaves = stands.holds.leaves in (
      subst (λ (k : ℕ). IsSharded k s.managed) (stands.made.shards ∙ count) (sharded-by (length s.managed.shards) s.managed (changes_of start h) leaves.some leaves.rows),
      below-stands start s h stands,
      (start, h, past, marked, aged),
    )

module _ (n : ℕ) (mark : Option ℕ) (age : DurationValue) where
  pub kept-call : (old : State) (c : Call) (new : State) → Allows old c → new ≡ after old c → IsKept n mark age old → IsKept n mark age new
  kept-call old c new allowed is kept =
      let past = kept.2 in
      kept-past n mark age past.0 new (c ∷ past.1) (sym (stands-past past.0 old past.1 past.2).made.shards ∙ kept.0.count) past.3 past.4 (more_past past.0 old past.1 c new allowed is past.2)

  -- an event that was taken, at any moment
  pub kept-took : (old : State) (t : MomentValue) (a : Action) (o : Outcome) (new : State) → IsKept n mark age old → Took old t a o new → IsKept n mark age new
  kept-took old t a o new kept took = kept-call old took.0 new took.3 took.4 kept

  pub kept-steps : (old : State) (s : Stream) (e : Event) (o : Outcome) (new : State) (rest : Stream) → IsKept n mark age old → StepsBy old s e o new rest → IsKept n mark age new
  kept-steps old s e o new rest kept step = kept-call old step.0 new step.3 step.4 kept

  -- what it was made with
  pub kept-settings : (s : State) → IsKept n mark age s → settings_of s ≡ record { shards = n; limit = s.managed.limit; watermark = mark; age = age; wait = s.wait }
  kept-settings s kept =
      let past = kept.2 in
      let made = (stands-past past.0 s past.1 past.2).made in
      let watermark : s.managed.watermark ≡ mark = made.watermark ∙ past.3 in
      let aged : s.lock.age ≡ age =
      ap (λ (x : LockState). x.age) past.2.matches.lock ∙ age_is past.0.settings.age past.0.first_core (lock_changes_of past.0 past.1) ∙ past.4 in
      λ i. record { shards = kept.0.count i; limit = s.managed.limit; watermark = watermark i; age = aged i; wait = s.wait }
