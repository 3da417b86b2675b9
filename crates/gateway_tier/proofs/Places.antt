-- What stands in the places of a table.
use Rattle.std.proofs.Common.{rules, ◌≡◌, ℕ, List, true, false, ap, ◌∙◌, ◌==◌, cond}
use Rattle.std.specs.Prelude.{Option, Some, None}
use Rattle.std.specs.FinMap.{get, get-insert}
use Rattle.std.specs.Cmp.{unsigned_tied}
use Rattle.std.proofs.lemmas.Cmp.{nat_cmp_total}
use Rattle.gateway_exchanges.specs.declared.exchange.Exchange.{Exchange}
use Rattle.gateway_exchanges.specs.Tables.{Exchanges, exchange_at, in_place, with_place}
use Rattle.gateway_tier.specs.declared.waking.Role.{Role}
use Rattle.gateway_tier.specs.Roles.{plays_at, plays, with_own}
use Rattle.std.specs.Option.{option_map_or}

pub get_placed : (x : ℕ) (p : Option Exchange) (t : Exchanges) (y : ℕ) → get (with_place x p t).places y ≡ cond (y == x) (Some p) (get t.places y)
get_placed x p t y = get-insert nat_cmp_total t.places x p y ∙ ap (λ b. cond b (Some p) (get t.places y)) (unsigned_tied y x)

pub is_itself : (x : ℕ) → (x == x) ≡ true
is_itself x = search rules

pub place_of : (o : Option (Option Exchange)) (e : Exchange) → in_place o ≡ Some e → o ≡ Some (Some e)
place_of None e h = cc
place_of (Some p) e h = ap Some h

pub placed_at : (x : ℕ) (e : Exchange) (t : Exchanges) → exchange_at x (with_place x (Some e) t) ≡ Some e
placed_at x e t = ap in_place (get_placed x (Some e) t x ∙ ap (λ b. cond b (Some (Some e)) (get t.places x)) (is_itself x))

pub others_at : (x : ℕ) (p : Option Exchange) (t : Exchanges) (y : ℕ) → (y == x) ≡ false → exchange_at y (with_place x p t) ≡ exchange_at y t
others_at x p t y h = ap in_place (get_placed x p t y ∙ ap (λ b. cond b (Some p) (get t.places y)) h)

pub own_plays : (role : Role) (key : List ℕ) (e : Exchange) (t : Exchanges) → plays role key (with_own (Some e) t) e.x ≡ plays_at role key e
own_plays role key e t = ap (λ (o : Option Exchange). option_map_or (plays_at role key) o false) (placed_at e.x e t)

pub others_play : (role : Role) (key : List ℕ) (e : Exchange) (t : Exchanges) (y : ℕ) → (y == e.x) ≡ false → plays role key (with_own (Some e) t) y ≡ plays role key t y
others_play role key e t y h = ap (λ (o : Option Exchange). option_map_or (plays_at role key) o false) (others_at e.x (Some e) t y h)
