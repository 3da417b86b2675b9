-- What a right call's outcome and the tier after it are, by its action.
use Rattle.std.proofs.Common.{◌≡◌, ℕ, ap, subst, cond, inl, inr}
use Rattle.cache_words.specs.Time.{MomentValue}
use Rattle.tier_model.specs.declared.event.Action.{Action}
use Rattle.tier_model.specs.Calls.{Call, Outcome}
use Rattle.tier_model.specs.State.{Settings}
use Rattle.tier_promise.specs.Promise.{Changes, Now, Whether, ComesSo, SomeRanOut, no_needs, far_of, ran_out, after, IsRight}

abbrev pub Said : Settings → ℕ → Call → Now → MomentValue → Action → Outcome → Type 0
Said s used c now t a o = Whether (ran_out o) (SomeRanOut s used (after s c t a now).row.needs o now.changes)
    ((o ≡ (after s c t a now).row.outcome) × ComesSo s (after s c t a now).row.needs.entering (far_of o) now.changes)

pub said-of : (s : Settings) (used : ℕ) (c : Call) (now : Now) (a : Action) → c.event.action ≡ a → IsRight s used c now → Said s used c now c.event.moment a c.outcome
said-of s used c now a is r = subst (λ (y : Action). Said s used c now c.event.moment y c.outcome) is r.outcome

pub next-of : (s : Settings) (c : Call) (now : Now) (a : Action) → c.event.action ≡ a
    → cond (ran_out c.outcome) now (after s c c.event.moment c.event.action now).now ≡ cond (ran_out c.outcome) now (after s c c.event.moment a now).now
next-of s c now a is = ap (λ (y : Action). cond (ran_out c.outcome) now (after s c c.event.moment y now).now) is

-- what takes nothing never runs out
pub none-out : (s : Settings) (used : ℕ) (o : Outcome) (c : Changes) → SomeRanOut s used no_needs o c → ⊥
none-out s used o c p = elim p [
  | inl memory ↦ let no = memory.1 in absurd cc
  | inr rest ↦ elim rest [
    | inl number ↦ let no = number.1 in absurd cc
    | inr room ↦ absurd room.2
  ]
]
