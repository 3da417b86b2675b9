-- The calls of a replay.
use Rattle.std.proofs.Common.{◌≡◌, ℕ, ◌+◌, List, [], ◌∷◌, map, sym, refl, ◌∙◌, subst}
use Rattle.rand_core.specs.Stream.{Stream}
use Rattle.tier_model.specs.declared.event.Event.{Event}
use Rattle.cache_evict.specs.Managed.{IsSharded}
use Rattle.tier_model.specs.Calls.{Call, Outcome, AreCallsOf, extended}
use Rattle.tier_model.specs.State.{State, shards_of}
use Rattle.tier_model.specs.Past.{CarriesPast, HasPast}
use Rattle.tier_model.specs.Started.{opening_of}
use Rattle.tier_model.proofs.StartedLaws.{opening_past}
use Rattle.tier_promise.specs.Promise.{Promise}
use Rattle.tier_single.specs.Takes.{CarriesPromise}
use Rattle.tier_recorded.specs.declared.history.Record.{Record}
use Rattle.tier_recorded.specs.declared.snapshot.Snapshot.{Snapshot}
use Rattle.tier_recorded.specs.Notes.{note_of}
use Rattle.tier_recorded.specs.Histories.{IsReplay, AreCallsIn}
use Rattle.tier_recorded.specs.Openings.{Opens}

events-of : (es : List Event) (os : List Outcome) (cs : List Call) → AreCallsOf es os cs → map (λ (c : Call). c.event) cs ≡ es
events-of [] [] [] are = refl
events-of (e ∷ es) (o ∷ os) (c ∷ cs) are = λ i. are.0 i ∷ events-of es os cs are.2 i
events-of [] [] (c ∷ cs) are = absurd are
events-of [] (o ∷ os) cs are = absurd are
events-of (e ∷ es) [] cs are = absurd are
events-of (e ∷ es) (o ∷ os) [] are = absurd are

notes-of : (es : List Event) (os : List Outcome) (cs : List Call) → AreCallsOf es os cs → map (λ (c : Call). note_of c.outcome) cs ≡ map note_of os
notes-of [] [] [] are = refl
notes-of (e ∷ es) (o ∷ os) (c ∷ cs) are = λ i. note_of (are.1 i) ∷ notes-of es os cs are.2 i
notes-of [] [] (c ∷ cs) are = absurd are
notes-of [] (o ∷ os) cs are = absurd are
notes-of (e ∷ es) [] cs are = absurd are
notes-of (e ∷ es) (o ∷ os) [] are = absurd are

pub replay-calls : (old : State) (s : Stream) (history : List Record) (new : State) (rest : Stream) → IsReplay old s history new rest
    → (calls : List Call) × AreCallsIn history calls × CarriesPast old calls new × CarriesPromise old calls
replay-calls old s history new rest p = (
  p.1.calls,
  (events-of (map (λ (r : Record). r.event) history) p.0 p.1.calls p.1.are_of, notes-of (map (λ (r : Record). r.event) history) p.0 p.1.calls p.1.are_of ∙ sym p.2),
  p.1.past,
  p.1.promise,
)

-- from the opening that a snapshot describes, the tier has the history's calls as its past, and they keep the promise
pub replay-promise : {R : Type 0} (n : ℕ) (opening : Snapshot R) (first : State) (s : Stream) (history : List Record) (tier : State) (rest : Stream)
    → Opens n opening first → IsReplay first s history tier rest
    → (calls : List Call) × AreCallsIn history calls × HasPast (opening_of first) tier (extended [] calls)
    × Promise (opening_of first).settings ((opening_of first).first + (opening_of first).first_core) (opening_of first).loaded (extended [] calls)
replay-promise n opening first s history tier rest opens replay =
    let calls = replay-calls first s history tier rest replay in
    let sharded : IsSharded (shards_of first) first.managed = subst (λ (k : ℕ). IsSharded k first.managed) (sym opens.sharded.count) opens.sharded in
    let begun = opening_past first opens.only_order sharded in
    (calls.0, calls.1, calls.2 (opening_of first) [] begun, calls.3 (opening_of first) [] begun)
