-- What a look-up finds, by what the tier answers.
use Rattle.std.specs.Prelude.{◌≡◌, ◌⊎◌, ℕ, Bool, true, false, List, [], Option, Some, Ok, is_ok, MatchBool}
use Rattle.cache_words.specs.Time.{MomentValue}
use Rattle.gateway_types.specs.declared.looks.Permit.{Permit}
use Rattle.tier_model.specs.declared.event.Action.{Action}
use Rattle.tier_model.specs.declared.event.Answer.{Answer}
use Rattle.tier_model.specs.declared.event.LockGiven.{LockGiven}
use Rattle.gateway_rules.specs.declared.stored.Stored.{Stored}
use Rattle.gateway_exchanges.specs.declared.found.Look.{Look}
use Rattle.gateway_exchanges.specs.declared.outs.Out.{Out}
use Rattle.gateway_state.specs.declared.state.Gateway.{Gateway}
use Rattle.gateway_state.specs.AtTier.{answer_in, key_with, IsAnswered, IsHit, IsLook, TakesAnytime}

-- who doesn't ask for the permit gets none
abbrev pub permit_of : Bool → LockGiven → Permit
permit_of true LockGiven.Write = Permit.Write
permit_of true LockGiven.Read = Permit.Wait
permit_of _ _ = Permit.None

-- fresh, whole, and who may fetch
abbrev pub lookup_of : Bool → Answer → Bool × Bool × Permit
lookup_of lock (Answer.Found fresh complete given) = (fresh, complete, permit_of lock given)
lookup_of lock (Answer.Absent given) = (false, false, permit_of lock given)
lookup_of lock _ = (false, false, Permit.None)

abbrev pub body_of : Answer → List ℕ
body_of (Answer.Bytes body) = body
body_of _ = []

-- the tier hit a whole and fresh body
pub record IsHitLook (t : MomentValue) (key : List ℕ) (old new : Gateway) (before after : Out) (look : Look) : Type 0 where
  pub found : Stored × List ℕ
  pub hit : IsHit t key old new before after (Ok (Some found))
  pub look_is : look ≡ record { found = Some found.0; body = found.1; fresh = true; whole = true; permit = Permit.None }

-- the body of what a request found was read, where it is whole
pub record IsRead (x : ℕ) (found : Look) (old new : Gateway) (before after : Out) (look : Look) : Type 0 where
  pub answer : Answer
  pub read : IsAnswered (TakesAnytime (Action.Read x)) answer_in old new before after (Ok (Some answer))
  pub look_is : look ≡ record found { body = body_of answer }

abbrev pub IsReadIf : ℕ → Look → Gateway → Gateway → Out → Out → Look → Type 0
IsReadIf x found old new before after look = MatchBool found.whole (IsRead x found old new before after look) (look ≡ found)

-- a request that is open at the tier looked up
pub record IsLooked (t : MomentValue) (x : ℕ) (past lock : Bool) (old new : Gateway) (before after : Out) (look : Look) : Type 0 where
  pub behind : Gateway
  pub between : Gateway
  pub middle : Out
  pub later : Out
  pub answer : Answer
  pub found : Option Stored
  pub looks : IsLook t x past old behind before middle (Ok (Some (answer, found)))
  pub reads : IsReadIf x (record { found = found; body = []; fresh = (lookup_of lock answer).0; whole = (lookup_of lock answer).1; permit = (lookup_of lock answer).2 }) between new later after look

-- by a hit, or by a request that was opened under that key
pub record IsLookedAt (t : MomentValue) (x : ℕ) (key : List ℕ) (past lock : Bool) (new : Gateway) (after : Out) (look : Look) : Type 0 where
  pub closed : Gateway
  pub opened : Gateway
  pub first : Out
  pub second : Out
  pub opens : IsAnswered (TakesAnytime (Action.Open x (key_with key) lock)) is_ok closed opened first second (Ok true)
  pub looked : IsLooked t x past lock opened new second after look

pub record IsHitAt (t : MomentValue) (key : List ℕ) (old new : Gateway) (before after : Out) (look : Look) : Type 0 where
  pub asked : Gateway
  pub same : asked.tier ≡ old.tier
  pub hits : IsHitLook t key asked new before after look

abbrev pub IsFound : MomentValue → ℕ → List ℕ → Bool → Bool → Gateway → Gateway → Out → Out → Look → Type 0
IsFound t x key past lock old new before after look =
    IsHitAt t key old new before after look ⊎ IsLookedAt t x key past lock new after look
