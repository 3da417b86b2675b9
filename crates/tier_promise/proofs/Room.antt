-- Room as the promise has it, by rows, follows from room as a state has it, by shards; and numbers are used up by calls alone.
use Rattle.std.proofs.Common.{◌≡◌, ℕ, ◌+◌, ◌≤◌, ◌<◌, refl, ap, sym, ◌∙◌, true, false, subst, [], ◌∷◌, length, arith, inl, inr}
use Rattle.std.specs.Prelude.{option_map, Bool, List, Option, Some, None, ◌==◌, ◌^◌, ◌-◌, ◌*◌, ◌⊎◌, Ok, Err}
use Rattle.std.proofs.lemmas.Bool.{eq-eqb}
use Rattle.cache_entries.specs.declared.entry.CacheEntryKey.{CacheEntryKey}
use Rattle.cache_entries.specs.declared.rows.Tracked.{Tracked}
use Rattle.cache_entries.specs.Rows.{all_weights, weight_of, without_row}
use Rattle.cache_changes.specs.Uses.{AreShardsOf, shard_of, in_shard}
use Rattle.cache_changes.proofs.ManyShards.{length-shards}
use Rattle.cache_changes.proofs.RowLaws.{find-kept}
use Rattle.cache_entries.specs.Entry.{same_entry}
use Rattle.cache_entries.specs.SameEntry.{same_entry-tells}
use Rattle.cache_evict.specs.Managed.{Managed, rows_of, Fits, IsWithin}
use Rattle.cache_evict.specs.Managed as managed
use Rattle.lru_core.specs.Cores.{shard_bound}
use Rattle.lru_core.specs.declared.rows.TheConstants.{MOST_ROWS}
use Rattle.tier_model.specs.declared.event.Done.{Done}
use Rattle.tier_model.specs.declared.event.TierFault.{TierFault}
use Rattle.tier_model.specs.declared.event.TierFault.TheVariants.{NumbersSpent, TooHeavy, TooLong, Memory}
use Rattle.tier_model.specs.State.{Settings, State, shards_of}
use Rattle.tier_model.specs.Answers as answers
use Rattle.tier_model.specs.Calls.{History, Outcome, writes_after, nothing_done}
use Rattle.tier_model.specs.Histories.{Opening, writes_begun}
use Rattle.tier_model.proofs.RowSteps.{IsMade, shard-below}
use Rattle.tier_promise.specs.Promise.{beside, FitsBeside, WouldBeHeavy, WouldBeLong, WouldBeFull, KeepsOut, StaysOut, SomeRanOut, Needs, Changes, Entering, a_use, a_body, a_renewal, rows}

-- what an entry weighs stands in its shard
weight-beside : (n s : ℕ) (e : CacheEntryKey) → (shard_of n e == s) ≡ true → (rows : List Tracked) → weight_of e (in_shard n s rows) ≡ weight_of e rows
weight-beside n s e same rows =
    ap (option_map (λ r. r.weight)) (find-kept (λ r. same_entry r.entry e) (λ r. shard_of n r.entry == s) rows
    (λ r t. subst (λ (x : CacheEntryKey). (shard_of n x == s) ≡ true) (sym (same_entry-tells.equal r.entry e t)) same))

module _ (x : Settings) (m : Managed) (all : List Tracked) (pos : 0 < x.shards) (made : IsMade x m) (a : AreShardsOf x.shards m.shards all) where
  beside-is : (e : CacheEntryKey) → rows_of x.shards e m ≡ beside x e all
  beside-is e = a.each (shard_of x.shards e) (shard-below x.shards e pos)

  pub has-room : (e : CacheEntryKey) → Fits x.shards m → FitsBeside x e all
  has-room e f = subst (λ (rows : List Tracked). IsWithin x.shards rows) (beside-is e)
      (f.0 (shard_of x.shards e) [] (let below = shard-below x.shards e pos in let many = made.shards in omega (arith, below, many)))

  weight-is : (e : CacheEntryKey) → weight_of e (rows_of x.shards e m) ≡ weight_of e all
  weight-is e = ap (weight_of e) (beside-is e) ∙ weight-beside x.shards (shard_of x.shards e) e (eq-eqb (shard_of x.shards e) (shard_of x.shards e) refl) all

  heavy : (e : CacheEntryKey) (w : ℕ) → managed.IsHeavy x.shards e w m → WouldBeHeavy x e w all
  heavy e w h = subst (λ (rows : List Tracked). shard_bound x.shards < all_weights (without_row e rows) + w) (beside-is e) h

  not-heavy : (e : CacheEntryKey) (w : ℕ) → WouldBeHeavy x e w all → managed.IsHeavy x.shards e w m
  not-heavy e w h = subst (λ (rows : List Tracked). shard_bound x.shards < all_weights (without_row e rows) + w) (sym (beside-is e)) h

  long : (e : CacheEntryKey) → managed.IsLong x.shards e m → WouldBeLong x e all
  long e h = elim h.1 [
    | inl shard ↦ inl (subst (λ (rows : List Tracked). shard_bound x.shards ≤ length rows) (beside-is e) shard)
    | inr most ↦ inr (subst (λ (k : ℕ). MOST_ROWS ≤ k) (length-shards x.shards m.shards all pos a) most)
  ]

  not-long : (e : CacheEntryKey) → weight_of e all ≡ None → WouldBeLong x e all → managed.IsLong x.shards e m
  not-long e new h = (
    weight-is e ∙ new,
    elim h [
      | inl shard ↦ inl (subst (λ (rows : List Tracked). shard_bound x.shards ≤ length rows) (sym (beside-is e)) shard)
      | inr most ↦ inr (subst (λ (k : ℕ). MOST_ROWS ≤ k) (sym (length-shards x.shards m.shards all pos a)) most)
    ],
  )

  full : (e : CacheEntryKey) → managed.IsFull x.shards e m → WouldBeFull x e all
  full e h = subst (λ (rows : List Tracked). 2 ^ 64 ≤ shard_of x.shards e + x.shards * length rows) (beside-is e) h.1

  not-full : (e : CacheEntryKey) → weight_of e all ≡ None → WouldBeFull x e all → managed.IsFull x.shards e m
  not-full e new h = (weight-is e ∙ new, subst (λ (rows : List Tracked). 2 ^ 64 ≤ shard_of x.shards e + x.shards * length rows) (sym (beside-is e)) h)

  no-other : (e : CacheEntryKey) (w : ℕ) → managed.HasNoOtherReason x.shards e w m → (weight_of e all ≡ None) × (WouldBeHeavy x e w all → ⊥) × (WouldBeLong x e all → ⊥) × (WouldBeFull x e all → ⊥)
  no-other e w h =
      let new : weight_of e all ≡ None = sym (weight-is e) ∙ h.0 in
      (new, λ p. h.1 (not-heavy e w p), λ p. h.2 (not-long e new p), λ p. h.3 (not-full e new p))

-- why a state keeps an entry out is why the promise says
pub kept-out : (x : Settings) (s : State) (all : List Tracked) → 0 < x.shards → IsMade x s.managed → AreShardsOf x.shards s.managed.shards all
    → (e : CacheEntryKey) (w : ℕ) (done : Done) (f : TierFault) → answers.IsKeptOut s e w done f → KeepsOut x e w done f all
kept-out x s all pos made a e w done (TooHeavy d) p =
    (p.0, heavy x s.managed all pos made a e w (subst (λ (n : ℕ). managed.IsHeavy n e w s.managed) made.shards p.1))
kept-out x s all pos made a e w done (TooLong d) p =
    let is = subst (λ (n : ℕ). managed.IsLong n e s.managed) made.shards p.1 in
    (p.0, sym (weight-is x s.managed all pos made a e) ∙ is.0, long x s.managed all pos made a e is)
kept-out x s all pos made a e w done (NumbersSpent d) p =
    let is = subst (λ (n : ℕ). managed.IsFull n e s.managed) made.shards p.1 in
    (p.0, sym (weight-is x s.managed all pos made a e) ∙ is.0, full x s.managed all pos made a e is)
kept-out x s all pos made a e w done (Memory d) p =
    let alone = no-other x s.managed all pos made a e w (subst (λ (n : ℕ). managed.HasNoOtherReason n e w s.managed) made.shards p.1) in
    (p.0, alone.0, alone.1, alone.2, alone.3)
kept-out x s all pos made a e w done _ p = absurd p

-- no more writes began than calls were made, beside those before
more : (n : ℕ) (b : Bool) → writes_after n b ≤ n + 1
more n true = omega arith
more n false = omega arith

pub writes-by-calls : (start : Opening) (h : History) → writes_begun start h ≤ start.first + length h
writes-by-calls start [] = omega arith
writes-by-calls start (c ∷ h) = let one = more (writes_begun start h) c.began in let ih = writes-by-calls start h in omega (arith, one, ih)

-- a use that a state refuses
pub use-out : (x : Settings) (s : State) (all : List Tracked) → 0 < x.shards → IsMade x s.managed → AreShardsOf x.shards s.managed.shards all
    → (e : CacheEntryKey) (w : ℕ) (f : TierFault) → (weight_of e (rows_of (shards_of s) e s.managed) ≡ None) × answers.IsKeptOut s e w nothing_done f → StaysOut x (a_use e w) f all
use-out x s all pos made a e w f p = (
  sym (weight-is x s.managed all pos made a e) ∙ subst (λ (n : ℕ). weight_of e (rows_of n e s.managed) ≡ None) made.shards p.0,
  kept-out x s all pos made a e w nothing_done f p.1,
)

-- a look-up, a begin or a put that finds no number
pub no-number : (x : Settings) (used : ℕ) (needs : Needs) (c : Changes) (f : TierFault) → needs.number ≡ true → 2 ^ 64 - 1 ≤ used → f ≡ NumbersSpent nothing_done → SomeRanOut x used needs (Err f) c
no-number x used needs c f number l is = inr (inl (ap (λ (y : TierFault). let said : Outcome = Err y in said) is, number, l))

pub no-memory : (x : Settings) (used : ℕ) (needs : Needs) (c : Changes) (f : TierFault) → needs.memory ≡ true → f ≡ Memory nothing_done → SomeRanOut x used needs (Err f) c
no-memory x used needs c f memory is = inl (ap (λ (y : TierFault). let said : Outcome = Err y in said) is, memory)

pub no-room : (x : Settings) (used : ℕ) (needs : Needs) (c : Changes) (f : TierFault) → StaysOut x needs.entering f (rows c) → SomeRanOut x used needs (Err f) c
no-room x used needs c f out = inr (inr (f, refl, out))

-- the shelf's numbers are spent only after that many calls
pub spent-by-calls : (start : Opening) (h : History) (n used : ℕ) → n ≡ writes_begun start h → n ≡ 2 ^ 64 - 1 → start.first + length h ≤ used → 2 ^ 64 - 1 ≤ used
spent-by-calls start h n used is all l = let b = writes-by-calls start h in omega (arith, is, all, b, l)
