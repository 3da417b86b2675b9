-- Hits whose calls are counted.
use Rattle.std.proofs.Common.{◌≡◌, ℕ, ◌+◌, ◌++◌, List, [], ◌∷◌, length, Bool, true, false, Some, None, Option, Ok, Err, ap, sym, subst, cond, ◌∙◌, arith, length-append}
use Rattle.std.specs.Prelude.{Result}
use Rattle.rand_core.specs.Stream.{Stream}
use Rattle.cache_words.specs.Time.{MomentValue}
use Rattle.cache_words.specs.Key.{CacheKeyValue}
use Rattle.tier_model.specs.declared.event.Action.TheVariants.{Open, LookUp, Drop}
use Rattle.tier_model.specs.declared.event.Answer.TheVariants.{Opened, Dropped}
use Rattle.tier_model.specs.declared.event.Event.{Event}
use Rattle.tier_model.specs.declared.event.TierFault.{TierFault}
use Rattle.tier_model.specs.Calls.{Outcome}
use Rattle.tier_model.specs.State.{State}
use Rattle.tier_promise.specs.Promise.{Whether}
use Rattle.tier_single.specs.declared.found.Hit.{Hit}
use Rattle.tier_single.specs.Hits.{is_of_open, at_moment, MatchHit, HitTakes}
use Rattle.tier_single.specs.Takes.{Takes}
use Rattle.tier_single.proofs.RunLaws.{Takes-join}
use Rattle.tier_recorded.specs.declared.snapshot.Snapshot.{Snapshot}
use Rattle.tier_recorded.specs.Openings.{Opens}
use Rattle.tier_recorded.specs.Hits.{hit_calls}
use Rattle.tier_shared.specs.Counted.{CountedState, IsCounted, CountsAll}
use Rattle.tier_shared.proofs.CountLaws.{counted-as}

-- some calls more
pub counted-all : {R : Type 0} (n : ℕ) (a b : CountedState R) (s mid rest : Stream) (es : List Event) (os : List Outcome)
    → IsCounted n a s mid → Takes a.tier mid es os b.tier rest → b.opening ≡ a.opening → b.calls ≡ a.calls + length es → IsCounted n b s rest
counted-all {R} n a b s mid rest es os is takes same more = record {
  events = is.events ++ es;
  outcomes = is.outcomes ++ os;
  first = is.first;
  count = (let longer = length-append is.events es in omega (arith, longer, is.count, more));
  opens = subst (λ (x : Snapshot R). Opens n x is.first) (sym same) is.opens;
  takes = Takes-join is.first s is.events is.outcomes a.tier mid es os b.tier rest is.takes takes;
}

module _ (t : MomentValue) (id : ℕ) (key : CacheKeyValue) where
  -- the calls of a hit are counted
  pub counted-hit : {R : Type 0} (n : ℕ) (a b : CountedState R) (s mid : Stream) (o : Result (Option Hit) TierFault) → IsCounted n a s mid → HitTakes a.tier mid t id key o b.tier
      → b.opening ≡ a.opening → b.calls ≡ a.calls + hit_calls o → IsCounted n b s mid
  counted-hit n a b s mid (Ok (Some h)) is takes same more = counted-all n a b s mid mid _ _ is takes same more
  counted-hit n a b s mid (Ok None) is takes same more = counted-as n a b s mid is same takes (omega (arith, more))
  counted-hit {R} n a b s mid (Err f) is takes same more = by_fault (is_of_open f) takes more
    where
      by_fault : (v : Bool) → Whether v (Takes a.tier mid (at_moment t (Open id key false) ∷ []) (Err f ∷ []) b.tier mid)
          (Takes a.tier mid (at_moment t (Open id key false) ∷ at_moment t (LookUp id) ∷ at_moment t (Drop id) ∷ []) (Ok Opened ∷ Err f ∷ Ok Dropped ∷ []) b.tier mid)
          → b.calls ≡ a.calls + cond v 1 3 → IsCounted n b s mid
      by_fault true takes more = counted-all n a b s mid mid _ _ is takes same more
      by_fault false takes more = counted-all n a b s mid mid _ _ is takes same more

  -- and told
  pub counts-hit : {R : Type 0} (old new : CountedState R) (s : Stream) (o : Result (Option Hit) TierFault) → HitTakes old.tier s t id key o new.tier
      → new ≡ record old { tier = new.tier; calls = old.calls + hit_calls o } → MatchHit t id key o (λ (es : List Event) (os : List Outcome). CountsAll old s es os new s) (new ≡ old)
  counts-hit {R} old new s (Ok (Some h)) takes is = record { takes = takes; others = is ∙ ap (λ (r : R). record old { tier = new.tier; rng = r; calls = old.calls + 4 }) (sym (ap (λ (x : CountedState R). x.rng) is)) }
  counts-hit old new s (Ok None) takes is = let none : old.calls + 0 ≡ old.calls = omega arith in is ∙ (λ i. record old { tier = takes i; calls = none i })
  counts-hit {R} old new s (Err f) takes is = by_fault (is_of_open f) takes is
    where
      by_fault : (v : Bool) → Whether v (Takes old.tier s (at_moment t (Open id key false) ∷ []) (Err f ∷ []) new.tier s)
          (Takes old.tier s (at_moment t (Open id key false) ∷ at_moment t (LookUp id) ∷ at_moment t (Drop id) ∷ []) (Ok Opened ∷ Err f ∷ Ok Dropped ∷ []) new.tier s)
          → new ≡ record old { tier = new.tier; calls = old.calls + cond v 1 3 }
          → Whether v (CountsAll old s (at_moment t (Open id key false) ∷ []) (Err f ∷ []) new s)
          (CountsAll old s (at_moment t (Open id key false) ∷ at_moment t (LookUp id) ∷ at_moment t (Drop id) ∷ []) (Ok Opened ∷ Err f ∷ Ok Dropped ∷ []) new s)
      by_fault true takes is = record { takes = takes; others = is ∙ ap (λ (r : R). record old { tier = new.tier; rng = r; calls = old.calls + 1 }) (sym (ap (λ (x : CountedState R). x.rng) is)) }
      by_fault false takes is = record { takes = takes; others = is ∙ ap (λ (r : R). record old { tier = new.tier; rng = r; calls = old.calls + 3 }) (sym (ap (λ (x : CountedState R). x.rng) is)) }
