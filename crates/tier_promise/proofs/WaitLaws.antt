-- What polls say of waits, by their rows.
use Rattle.std.proofs.Common.{◌≡◌, ◌≢◌, ℕ, ◌+◌, refl, ap, ◌∙◌, true, false, ◌∷◌, length}
use Rattle.std.specs.Prelude.{Bool, List, Option, Some, None, Ok, Err}
use Rattle.std.specs.Option.{option_or}
use Rattle.cache_words.specs.Time.{MomentValue, at_least, elapsed}
use Rattle.cache_entries.specs.declared.rows.Tracked.{Tracked}
use Rattle.cache_lock.specs.declared.status.LockStatus.{LockStatus}
use Rattle.cache_lock.specs.declared.status.LockStatus.TheVariants as status
use Rattle.tier_model.specs.declared.event.Action.TheVariants as on
use Rattle.tier_model.specs.declared.event.Answer.TheVariants as answer
use Rattle.tier_model.specs.Calls.{Call, History, Outcome}
use Rattle.tier_model.specs.State.{Settings}
use Rattle.tier_model.specs.Standings.{time_waited}
use Rattle.tier_model.specs.Polls.{told_in_time}
use Rattle.tier_model.specs.Answers.{is_past}
use Rattle.tier_promise.specs.Promise.{Permit, Request, Hold, waits, Now, ended, row_of, poll_by, now_of, AreRight}
use Rattle.tier_promise.proofs.Founds.{said-as}

-- a wait that is told an end doesn't go on
abbrev still_waits : Outcome
still_waits = Ok (answer.Waited None)

abbrev told_so : Option LockStatus → Outcome
told_so e = Ok (answer.Waited e)

ends : (e : Option LockStatus) (how : LockStatus) → still_waits ≢ told_so (option_or e (Some how))
ends None how says = cc
ends (Some other) how says = cc

abbrev goes_on : Bool → Bool → Option LockStatus → Outcome
goes_on aged over e = told_so (option_or e (told_in_time aged over))

over_ends : (aged : Bool) (e : Option LockStatus) → still_waits ≢ goes_on aged true e
over_ends true e says = ends e status.AgeTimeout says
over_ends false e says = ends e status.WaitTimeout says

module _ (s : Settings) (used : ℕ) (loaded : List Tracked) (h : History) (c : Call) (id : ℕ) (q : Request) (p : Permit) (first : Option MomentValue) (right : AreRight s used loaded (c ∷ h)) (is : c.event.action ≡ on.Poll id)
    (at : (now_of s loaded h).request id ≡ Some q) (hold : q.hold ≡ waits p first) where
  abbrev now : Now
  now = now_of s loaded h

  abbrev t : MomentValue
  t = c.event.moment

  abbrev aged : Bool
  aged = at_least (elapsed p.given t) s.age

  abbrev over : Bool
  over = is_past s.wait q.waited (time_waited first t)

  says : c.outcome ≡ still_waits → still_waits ≡ goes_on aged over (ended p.number now.changes)
  says o =
      let said = said-as s (used + length h) c now (on.Poll id) (Ok (answer.Waited None)) is o right.0 in
      said.0 ∙ ap (λ (y : Option Request). (row_of y (λ r. poll_by s r.hold t r now.changes)).outcome) at
      ∙ ap (λ (y : Hold). (poll_by s y t q now.changes).outcome) hold

  pub ends-with-age : aged ≡ true → c.outcome ≢ still_waits
  ends-with-age e o = ends (ended p.number now.changes) status.AgeTimeout (says o ∙ ap (λ (v : Bool). goes_on v over (ended p.number now.changes)) e)

  pub ends-with-bound : over ≡ true → c.outcome ≢ still_waits
  ends-with-bound e o = over_ends aged (ended p.number now.changes) (says o ∙ ap (λ (v : Bool). goes_on aged v (ended p.number now.changes)) e)
