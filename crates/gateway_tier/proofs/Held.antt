-- What a request at the tier leaves as it was.
use Rattle.std.proofs.Common.{◌≡◌, ◌&&◌, ◌∷◌, [], ℕ, Bool, true, false, if◌then◌else◌, List, filter, refl, ap, ◌∙◌}
use Rattle.std.specs.Prelude.{Option, Some, None, Result, Ok, Err, IfOk, OnErr, MatchBool}
use Rattle.std.specs.Bool.{OnTrue}
use Rattle.std.specs.Option.{option_map_or}
use Rattle.gateway_rules.specs.Options.{Options}
use Rattle.gateway_exchanges.specs.declared.exchange.Exchange.{Exchange}
use Rattle.gateway_exchanges.specs.Tables.{Exchanges, exchange_at, numbers_at}
use Rattle.gateway_steps.specs.declared.state.State.{State}
use Rattle.gateway_steps.specs.Steps.{stores}
use Rattle.gateway_tier.specs.Superseding.{asked_earlier, earlier_at, is_earlier, is_found_at}
use Rattle.gateway_tier.specs.Looks.{HasSameButHeld, HasSameButRequest, lets_go_if}

pub held_from_request : (b : Bool) (s s' : State) → HasSameButRequest (lets_go_if b s) s' → HasSameButHeld s s'
held_from_request true s s' h = rw h refl
held_from_request false s s' h = rw h refl

pub err_as : {T E : Type 0} (r : Result T E) (s mid s' : State) → HasSameButHeld s mid → OnErr r (s' ≡ mid) → OnErr r (HasSameButHeld s s')
err_as (Ok x) s mid s' h k = tt
err_as (Err e) s mid s' h k = rw k h

pub if_begun : {E P : Type 0} (r : Result Bool E) → P → IfOk r (λ began. OnTrue began P)
if_begun (Ok true) p = p
if_begun (Ok false) p = tt
if_begun (Err e) p = tt

-- where a write began, or the tier refused it, the request to the origin is the same
pub begun_from : {E P Q : Type 0} (r : Result Bool E) (x : ℕ) (s s' : State) → (s'.origin.sequence ≡ s.origin.sequence → P → Q)
    → IfOk r (λ began. MatchBool began (s' ≡ stores x s) (s' ≡ s)) → IfOk r (λ began. OnTrue began P) → IfOk r (λ began. OnTrue began Q)
begun_from (Ok true) x s s' f h p = f (ap (λ (z : State). z.origin.sequence) h) p
begun_from (Ok false) x s s' f h p = tt
begun_from (Err e) x s s' f h p = tt

filter_alike : (p q : ℕ → Bool) → ((y : ℕ) → p y ≡ q y) → (xs : List ℕ) → filter p xs ≡ filter q xs
filter_alike p q h [] = refl
filter_alike p q h (x ∷ xs) = ap (λ b. if b then x ∷ filter p xs else filter p xs) (h x) ∙ ap (λ ys. if q x then x ∷ ys else ys) (filter_alike p q h xs)

-- what is asked of an exchange that is there
asked_alike : (p q : Exchange → Bool) → ((e : Exchange) → p e ≡ q e) → (m : Option Exchange) → option_map_or p m false ≡ option_map_or q m false
asked_alike p q h None = refl
asked_alike p q h (Some e) = h e

first_alike : (f g : List ℕ → List ℕ) → ((key : List ℕ) → f key ≡ g key) → (m : Option (List ℕ)) → option_map_or f m [] ≡ option_map_or g m []
first_alike f g h None = refl
first_alike f g h (Some key) = h key

-- whom a write supersedes is told by whose it is, and by what its request was
pub same_earlier : (o : Options) (e e' : Exchange) → e'.first ≡ e.first → e'.request ≡ e.request → e'.index ≡ e.index
    → e'.steps.state.origin.sequence ≡ e.steps.state.origin.sequence → (place : List ℕ) (t : Exchanges) → earlier_at o e' place t ≡ earlier_at o e place t
same_earlier o e e' f r i s place t =
    let one : (other : Exchange) → (asked_earlier e' other && is_found_at o e' place other) ≡ (asked_earlier e other && is_found_at o e place other) = λ other. simp (f, r, i, s) in
    let each : (y : ℕ) → is_earlier o e' place t y ≡ is_earlier o e place t y = λ y.
    asked_alike (λ other. asked_earlier e' other && is_found_at o e' place other) (λ other. asked_earlier e other && is_found_at o e place other) one (exchange_at y t)
    in
    first_alike (λ first. filter (is_earlier o e' place t) (numbers_at first t)) (λ first. filter (is_earlier o e place t) (numbers_at first t))
    (λ first. filter_alike (is_earlier o e' place t) (is_earlier o e place t) each (numbers_at first t)) e'.first
    ∙ ap (λ m. option_map_or (λ first. filter (is_earlier o e place t) (numbers_at first t)) m []) f
