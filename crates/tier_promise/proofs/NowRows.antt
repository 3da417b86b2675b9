-- What is said of an outcome by the row of its event, and what a row needs.
use Rattle.std.proofs.Common.{◌≡◌, ℕ, ◌≤◌, refl, true, inl, inr}
use Rattle.std.specs.Prelude.{◌-◌, ◌^◌, List, Err}
use Rattle.cache_entries.specs.declared.entry.CacheEntryKey.{CacheEntryKey}
use Rattle.cache_entries.specs.declared.rows.Tracked.{Tracked}
use Rattle.tier_model.specs.declared.event.Done.{Done}
use Rattle.tier_model.specs.declared.event.TierFault.{TierFault}
use Rattle.tier_model.specs.declared.event.TierFault.TheVariants.{NoRequest, NumbersSpent, TooHeavy, TooLong, Memory}
use Rattle.tier_model.specs.Calls.{Outcome, nothing_done, done_of}
use Rattle.tier_model.specs.State.{Settings}
use Rattle.tier_promise.specs.Promise.{Changes, EventRow, Needs, Whether, KeepsOut, ComesSo, SomeRanOut, answer_alone, far_of, ran_out}

-- an event of a request that isn't open
abbrev pub row_closed : EventRow
row_closed = answer_alone (Err NoRequest)

-- an outcome is the row's, as far as it came, or something that the row needs ran out
abbrev pub Answered : Settings → ℕ → Outcome → EventRow → Changes → Type 0
Answered x used o row c = Whether (ran_out o) (SomeRanOut x used row.needs o c) ((o ≡ row.outcome) × ComesSo x row.needs.entering (far_of o) c)

pub memory-out : (x : Settings) (used : ℕ) (needs : Needs) (c : Changes) → needs.memory ≡ true → SomeRanOut x used needs (Err (Memory nothing_done)) c
memory-out x used needs c memory = inl (refl, memory)

pub number-out : (x : Settings) (used : ℕ) (needs : Needs) (c : Changes) → needs.number ≡ true → 2 ^ 64 - 1 ≤ used → SomeRanOut x used needs (Err (NumbersSpent nothing_done)) c
number-out x used needs c number spent = inr (inl (refl, number, spent))

-- what was done before an entry was kept out
pub keeps_out-done : (x : Settings) (e : CacheEntryKey) (w : ℕ) (done : Done) (f : TierFault) (rows : List Tracked) → KeepsOut x e w done f rows → done_of f ≡ done
keeps_out-done x e w done (TooHeavy told) rows p = p.0
keeps_out-done x e w done (TooLong told) rows p = p.0
keeps_out-done x e w done (NumbersSpent told) rows p = p.0
keeps_out-done x e w done (Memory told) rows p = p.0
keeps_out-done x e w done _ rows p = absurd p
