use Rattle.std.proofs.Common.{◌≡◌, ◌∷◌, [], Some, None, true, false, refl, Bool, Option, ap, sym, ◌∙◌, subst}
use Rattle.std.specs.Prelude.{option_map}
use Rattle.std.specs.FinMap.{get}
use Rattle.std.specs.Option.{option_eq}
use Rattle.rand_core.specs.Stream.{Stream}
use Rattle.cache_words.specs.Time.{MomentValue}
use Rattle.tier_model.specs.State.{State}
use Rattle.tier_model.specs.declared.event.Action.TheVariants.{LookUp}
use Rattle.tier_single.specs.Hits.{answer_found, at_moment}
use Rattle.tier_single.specs.Takes.{Takes}
use Rattle.tier_single.proofs.tier.Tier.lookup_stale.Goals as goal

-- the test of the code
asked : (eq : Bool → Bool → Bool) (o : Option Bool) → true ≡ option_eq eq o (Some true) → eq false true ≡ false → o ≡ Some true
asked eq None is apart = absurd cc
asked eq (Some true) is apart = refl
asked eq (Some false) is apart = absurd (cc (is, apart))

pub returns-then-eq-clause-takes : goal.returns-then-eq-clause-takes
returns-then-eq-clause-takes g c = λ not (s : Stream).
    let asks : c.asks.result ≡ Some true = asked _ c.asks.result c.if-eq.ensures refl in
    absurd (not (sym (ap (λ (x : State). option_map (λ q. q.asks) (get x.requests c.args.request)) c.self.view_is) ∙ sym c.asks.ensures ∙ asks))

pub returns-clause-takes : goal.returns-clause-takes
returns-clause-takes g c = λ not (s : Stream).
    subst (λ (t : MomentValue). Takes c.args.self.now s (at_moment t (LookUp c.args.request) ∷ []) (answer_found c.find.result ∷ []) c.find.new.self s) c.last_moment.ensures (c.find.ensures.takes s)
