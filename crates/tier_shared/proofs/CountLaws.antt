-- Calls that are counted.
use Rattle.std.proofs.Common.{◌≡◌, ℕ, ◌+◌, List, [], ◌∷◌, ◌++◌, length, Ok, Err, refl, sym, subst, ◌∙◌, arith}
use Rattle.std.specs.Prelude.{Result, IfErr}
use Rattle.std.proofs.lemmas.List.{length_push}
use Rattle.rand_core.specs.Stream.{Stream}
use Rattle.tier_model.specs.declared.event.Event.{Event}
use Rattle.tier_model.specs.Calls.{Outcome}
use Rattle.tier_model.specs.State.{State}
use Rattle.tier_single.specs.Takes.{Takes}
use Rattle.tier_single.proofs.RunLaws.{Takes-none, Takes-more}
use Rattle.tier_recorded.specs.declared.snapshot.Snapshot.{Snapshot}
use Rattle.tier_recorded.specs.Openings.{Opens}
use Rattle.tier_shared.specs.Counted.{CountedState, IsCounted}

-- no call yet
pub counted-none : {R : Type 0} (n : ℕ) (a : CountedState R) (s rest : Stream) → Opens n a.opening a.tier → s ≡ rest → a.calls ≡ 0 → IsCounted n a s rest
counted-none n a s rest opens words none = record {
  events = [];
  outcomes = [];
  first = a.tier;
  count = sym none;
  opens = opens;
  takes = subst (λ (x : Stream). Takes a.tier s [] [] a.tier x) words (Takes-none a.tier s);
}

-- one call more
pub counted-more : {R : Type 0} (n : ℕ) (a b : CountedState R) (s mid rest : Stream) (e : Event) (o : Outcome)
    → IsCounted n a s mid → Takes a.tier mid (e ∷ []) (o ∷ []) b.tier rest → b.opening ≡ a.opening → b.calls ≡ a.calls + 1 → IsCounted n b s rest
counted-more {R} n a b s mid rest e o is takes same more = record {
  events = is.events ++ e ∷ [];
  outcomes = is.outcomes ++ o ∷ [];
  first = is.first;
  count = (let longer = length_push is.events e in omega (arith, longer, is.count, more));
  opens = subst (λ (x : Snapshot R). Opens n x is.first) (sym same) is.opens;
  takes = Takes-more is.first s is.events is.outcomes a.tier mid e o b.tier rest is.takes takes;
}

-- other counts than that of the calls don't matter
pub counted-as : {R : Type 0} (n : ℕ) (a b : CountedState R) (s rest : Stream) → IsCounted n a s rest → b.opening ≡ a.opening → b.tier ≡ a.tier → b.calls ≡ a.calls → IsCounted n b s rest
counted-as {R} n a b s rest is opening tier calls = record {
  events = is.events;
  outcomes = is.outcomes;
  first = is.first;
  count = is.count ∙ sym calls;
  opens = subst (λ (x : Snapshot R). Opens n x is.first) (sym opening) is.opens;
  takes = subst (λ (x : State). Takes is.first s is.events is.outcomes x rest) (sym tier) is.takes;
}

-- ---- of results

pub first-err : {T E : Type 0} (P Q : E → Type 0) (r : Result T E) → IfErr r (λ e. P e × Q e) → IfErr r P
first-err P Q (Ok x) h = tt
first-err P Q (Err e) h = h.0

pub none-left : (n a b : ℕ) → n ≡ 0 → n + a ≡ b → a ≡ b
none-left n a b e h = omega (arith, e, h)
