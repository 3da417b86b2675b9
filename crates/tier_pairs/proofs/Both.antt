-- Runs of two tiers.
use Rattle.std.proofs.Common.{◌≡◌, ℕ, suc, ◌+◌, ◌<◌, List, ◌∷◌, [], ◌++◌, take, drop, length, get_or, drop-cons, Option, Some, Ok, Err, refl, ap, sym, ◌∙◌, subst, inl, inr}
use Rattle.std.specs.Prelude.{Result, OnOk, Vec}
use Rattle.std.specs.declared.alloc.Global.{Global}
use Rattle.std.proofs.lemmas.List.{append-nil, take-append-drop, take_more}
use Rattle.rand_core.specs.Stream.{Stream}
use Rattle.cache_evict.specs.Managed.{rows_at}
use Rattle.curve_loads.specs.Finds.{IsFront}
use Rattle.tier_model.specs.declared.event.TierFault.{TierFault}
use Rattle.tier_model.specs.State.{Settings, State, empty_state}
use Rattle.tier_loads.specs.Requests.{PlainRequest}
use Rattle.tier_served.specs.Serves.{Serves}
use Rattle.tier_pairs.specs.Two.{ServesBoth, Stops, RunsTwo, AreComparable, AreUniform, AreFound, FindsByLoads, pairs_of, all_seen}
use Rattle.tier_loads.specs.Uniform.{weight_in}
use Rattle.tier_served.specs.declared.request.Request.{Request}
use Rattle.tier_served.specs.declared.request.Served.{Served}
use Rattle.tier_pairs.specs.declared.side_by_side.Pair.{Pair}
use Rattle.tier_pairs.specs.declared.side_by_side.Side.TheVariants.{Lesser, Greater}
use Rattle.tier_pairs.specs.declared.side_by_side.Stopped.{Stopped}
use Rattle.tier_pairs.proofs.Comparing.{compared}

-- the pairs so far, and one more
pub both-more : (l g : State) (s : Stream) (requests : List Request) (pairs : List Pair) (l1 g1 : State) (left : Stream) (r : Request) (a b : Served) (l2 g2 : State) (right rest : Stream)
    → ServesBoth l g s requests pairs l1 g1 left → Serves l1 left r (Ok a) l2 right → Serves g1 right r (Ok b) g2 rest
    → ServesBoth l g s (requests ++ r ∷ []) (pairs ++ record { lesser = a; greater = b } ∷ []) l2 g2 rest
both-more l g s [] [] l1 g1 left r a b l2 g2 right rest both first second = (
  l2,
  g2,
  right,
  rest,
  subst (λ (x : State). Serves x s r (Ok a) l2 right) both.0 (subst (λ (x : Stream). Serves l1 x r (Ok a) l2 right) both.2 first),
  subst (λ (x : State). Serves x right r (Ok b) g2 rest) both.1 second,
  (refl, refl, refl),
)
both-more l g s (q ∷ requests) (p ∷ pairs) l1 g1 left r a b l2 g2 right rest both first second =
    (both.0, both.1, both.2, both.3, both.4, both.5, both-more both.0 both.1 both.3 requests pairs l1 g1 left r a b l2 g2 right rest both.6 first second)
both-more l g s [] (p ∷ pairs) l1 g1 left r a b l2 g2 right rest both first second = absurd both
both-more l g s (q ∷ requests) [] l1 g1 left r a b l2 g2 right rest both first second = absurd both

-- a list around one of its items
pub around : (xs : List Request) (i : ℕ) (x : Request) → i < length xs → x ≡ get_or xs i x → xs ≡ take i xs ++ x ∷ drop (suc i) xs
around xs i x inside is = sym (take-append-drop i xs) ∙ ap (λ (rest : List Request). take i xs ++ rest) (drop-cons xs i x inside ∙ ap (λ (y : Request). y ∷ drop (suc i) xs) (sym is))

-- ---- one request more

module _ (l g : State) (s : Stream) (requests : List Request) (i : ℕ) (r : Request) (inside : i < length requests) (is : r ≡ get_or requests i r) (pairs : Vec Pair Global) (l1 g1 : State) (left : Stream)
    (both : ServesBoth l g s (take i requests) pairs.items l1 g1 left) where
  -- one request more was served
  pub both_next : (a b : Served) (l2 g2 : State) (right rest : Stream) (items : List Pair) → Serves l1 left r (Ok a) l2 right → Serves g1 right r (Ok b) g2 rest
      → items ≡ pairs.items ++ record { lesser = a; greater = b } ∷ [] → ServesBoth l g s (take (i + 1) requests) items l2 g2 rest
  both_next a b l2 g2 right rest items first second more =
      let next : take (i + 1) requests ≡ take i requests ++ r ∷ [] = take_more requests i r inside ∙ ap (λ (x : Request). take i requests ++ x ∷ []) (sym is) in
      subst (λ (ps : List Pair). ServesBoth l g s (take (i + 1) requests) ps l2 g2 rest) (sym more)
      (subst (λ (rs : List Request). ServesBoth l g s rs (pairs.items ++ record { lesser = a; greater = b } ∷ []) l2 g2 rest) (sym next)
      (both-more l g s (take i requests) pairs.items l1 g1 left r a b l2 g2 right rest both first second))

  -- the lesser one refused it
  pub stops_lesser : (f : TierFault) (l2 : State) (rest : Stream) → Serves l1 left r (Err f) l2 rest → Stops l g s requests (record { pairs = pairs; fault = f; side = Some Lesser }) l2 g1 rest
  stops_lesser f l2 rest refused = inr (take i requests, r, drop (suc i) requests, l1, g1, left, around requests i r inside is, both, (refused, refl))

  -- or the greater one
  pub stops_greater : (told : Served) (f : TierFault) (l2 g2 : State) (right rest : Stream) → Serves l1 left r (Ok told) l2 right → Serves g1 right r (Err f) g2 rest
      → Stops l g s requests (record { pairs = pairs; fault = f; side = Some Greater }) l2 g2 rest
  stops_greater told f l2 g2 right rest first refused = inr (take i requests, r, drop (suc i) requests, l1, g1, left, around requests i r inside is, both, (told, right, first, refused))

-- ---- what they find

module _ (a b : Settings) (c : AreComparable a b) (requests : List Request) (seen : List (Option PlainRequest)) (u : AreUniform requests seen) (l g : State) (s : Stream) (l' g' : State) (rest : Stream) (il : l ≡ empty_state a)
    (ig : g ≡ empty_state b) where
  pub finds_of : (result : Result (Vec Pair Global) Stopped) → RunsTwo l g s requests result l' g' rest → FindsByLoads a b seen requests (pairs_of result)
  finds_of (Ok pairs) run =
      subst (λ (rs : List Request). AreFound (weight_in (all_seen seen)) a b [] rs pairs.items) (append-nil requests)
      (compared a b c requests [] seen (subst (λ (rs : List Request). AreUniform rs seen) (sym (append-nil requests)) u) pairs.items l g s l' g' rest il ig run).0
  finds_of (Err stopped) run = elim run [
    | inl none ↦ subst (λ (ps : List Pair). AreFound (weight_in (all_seen seen)) a b [] requests ps) (sym none.2) tt
    | inr some ↦
        subst (λ (rs : List Request). AreFound (weight_in (all_seen seen)) a b [] rs stopped.pairs.items) (sym some.6)
        (compared a b c some.0 (some.1 ∷ some.2) seen (subst (λ (rs : List Request). AreUniform rs seen) some.6 u) stopped.pairs.items l g s some.3 some.4 some.5 il ig some.7).0
  ]

  pub front_of : (result : Result (Vec Pair Global) Stopped) → RunsTwo l g s requests result l' g' rest → OnOk result (IsFront (rows_at l'.managed.shards 0) (rows_at g'.managed.shards 0))
  front_of (Ok pairs) run = (compared a b c requests [] seen (subst (λ (rs : List Request). AreUniform rs seen) (sym (append-nil requests)) u) pairs.items l g s l' g' rest il ig run).1
  front_of (Err stopped) run = tt
