-- The row of a poll of a wait, and the tier after it.
use Rattle.std.proofs.Common.{◌≡◌, ℕ, ◌+◌, refl, ap, ◌∙◌, true, false, subst, cond, ◌∷◌, length}
use Rattle.std.specs.Prelude.{Bool, List, Option}
use Rattle.cache_words.specs.Time.{MomentValue, at_least, elapsed}
use Rattle.cache_entries.specs.declared.rows.Tracked.{Tracked}
use Rattle.tier_model.specs.declared.event.Action.TheVariants as on
use Rattle.tier_model.specs.Calls.{Call, History}
use Rattle.tier_model.specs.State.{Settings}
use Rattle.tier_model.specs.Standings.{time_waited}
use Rattle.tier_model.specs.Answers.{is_past}
use Rattle.tier_promise.specs.Promise.{Permit, Request, Hold, Now, EventRow, Whether, ComesSo, SomeRanOut, far_of, ran_out, no_needs, ended, row_of, poll_row, poll_by, after, now_of}
use Rattle.tier_laws.specs.Waits.{PollsWait}
use Rattle.tier_laws.proofs.Says.{said-of, next-of, none-out}

module _ (s : Settings) (used : ℕ) (loaded : List Tracked) (h : History) (c : Call) (id : ℕ) (q : Request) (p : Permit) (first : Option MomentValue) (polls : PollsWait s used loaded h c id q p first) where
  abbrev now : Now
  now = now_of s loaded h

  abbrev t : MomentValue
  t = c.event.moment

  -- the row of the poll
  abbrev pub row : EventRow
  row = poll_row (ended p.number now.changes) (at_least (elapsed p.given t) s.age) (is_past s.wait q.waited (time_waited first t)) t p first q

  abbrev row_at : Option Request → EventRow
  row_at o = row_of o (λ r. poll_by s r.hold t r now.changes)

  pub row-is : (after s c t (on.Poll id) now).row ≡ row
  row-is = ap row_at polls.request ∙ ap (λ (y : Hold). poll_by s y t q now.changes) polls.wait

  needs-none : (after s c t (on.Poll id) now).row.needs ≡ no_needs
  needs-none = ap (λ (r : EventRow). r.needs) row-is

  -- it never runs out
  by-room : (v : Bool) → Whether v (SomeRanOut s (used + length h) (after s c t (on.Poll id) now).row.needs c.outcome now.changes)
      ((c.outcome ≡ (after s c t (on.Poll id) now).row.outcome) × ComesSo s (after s c t (on.Poll id) now).row.needs.entering (far_of c.outcome) now.changes)
      → cond v now (after s c t (on.Poll id) now).now ≡ (after s c t (on.Poll id) now).now
  by-room true said = absurd (none-out s (used + length h) c.outcome now.changes (subst (λ n. SomeRanOut s (used + length h) n c.outcome now.changes) needs-none said))
  by-room false said = refl

  pub now-is : now_of s loaded (c ∷ h) ≡ (after s c t (on.Poll id) now).now
  now-is = next-of s c now (on.Poll id) polls.polls ∙ by-room (ran_out c.outcome) (said-of s (used + length h) c now (on.Poll id) polls.polls polls.right.0)
