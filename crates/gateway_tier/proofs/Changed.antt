-- Exchanges that are changed one after the other.
use Rattle.std.proofs.Common.{◌≡◌, ◌++◌, ◌∷◌, [], ℕ, Bool, true, false, refl, List, ap, ◌∙◌, ◌==◌, ◌||◌, if◌then◌else◌, cond, arith}
use Rattle.std.specs.Prelude.{Option, Some, None, is_some}
use Rattle.std.specs.List.{list_any}
use Rattle.std.specs.FinMap.{get}
use Rattle.std.proofs.lemmas.Bool.Decides.{nat_tests}
use Rattle.std.proofs.lemmas.List.Folds.{list_any-append}
use Rattle.gateway_exchanges.specs.declared.exchange.Exchange.{Exchange}
use Rattle.gateway_exchanges.specs.Tables.{Exchanges, exchange_at, has_place, with_place, with_exchange, without_exchange}
use Rattle.gateway_tier.proofs.Places.{get_placed, is_itself, place_of}
use Rattle.gateway_tier.specs.Walks.{IsChangedInPlace, AreChanged}

-- who is changed so twice is as who is changed once
abbrev pub IsDoneOnce : (Exchange → Exchange → Type 0) → Type 0
IsDoneOnce how = (e e' e'' : Exchange) → how e e' → how e' e'' → how e e''

in_place : (how : Exchange → Exchange → Type 0) → IsDoneOnce how → (a b : Bool) (p q r : Option (Option Exchange))
    → IsChangedInPlace how a p q → IsChangedInPlace how b q r → IsChangedInPlace how (a || b) p r
in_place how once false b p q r h k = rw h at k
in_place how once true false p q r h k = rw k h
in_place how once true true None q r h k = rw h at k
in_place how once true true (Some None) q r h k = rw h at k
in_place how once true true (Some (Some e)) q r (e', is, t) k = then_again (rw is at k)
  where
    then_again : IsChangedInPlace how true (Some (Some e')) r → IsChangedInPlace how true (Some (Some e)) r
    then_again (e'', is', u) = (e'', is', once e e' e'' t u)

pub nobody_changed : (how : Exchange → Exchange → Type 0) (t : Exchanges) → AreChanged how [] t t
nobody_changed how t = record { keys = refl; each = λ y. refl }

pub changed_next : (how : Exchange → Exchange → Type 0) → IsDoneOnce how → (xs ys : List ℕ) (t t' t'' : Exchanges)
    → AreChanged how xs t t' → AreChanged how ys t' t'' → AreChanged how (xs ++ ys) t t''
changed_next how once xs ys t t' t'' h k = record {
  keys = k.keys ∙ h.keys;
  each = λ y. rw (list_any-append (λ x. y == x) xs ys)
      (in_place how once (list_any (λ x. y == x) xs) (list_any (λ x. y == x) ys) (get t.places y) (get t'.places y) (get t''.places y) (h.each y) (k.each y));
}

changed_in : (how : Exchange → Exchange → Type 0) (b : Bool) (e e' : Exchange) (p r : Option (Option Exchange)) → how e e' → (b ≡ true → p ≡ Some (Some e))
    → r ≡ cond b (Some (Some e')) (cond b (Some None) p) → IsChangedInPlace how b p r
changed_in how true e e' p r t h k = rw (h refl) (e', k, t)
changed_in how false e e' p r t h k = k

or_false : (b : Bool) → (b || false) ≡ b
or_false true = refl
or_false false = refl

is_same : (z y : ℕ) → (z == y) ≡ true → z ≡ y
is_same z y h = grind (arith, nat_tests)

-- one that is taken out, changed and put back
pub changed_at : (how : Exchange → Exchange → Type 0) (y : ℕ) (t t' t'' : Exchanges) (e e' : Exchange) → exchange_at y t ≡ Some e → e'.x ≡ y
    → t' ≡ without_exchange y t → how e e' → t'' ≡ with_exchange e' t' → AreChanged how (y ∷ []) t t''
changed_at how y t t' t'' e e' at number out changed in_again =
    let taken : t' ≡ with_place y None t = out ∙ ap (λ (o : Option Exchange). if is_some o then with_place y None t else t) at in
    let there : has_place y (with_place y None t) ≡ true =
    ap is_some (get_placed y None t y ∙ ap (λ b. cond b (Some None) (get t.places y)) (is_itself y))
    in
    let put : t'' ≡ with_place y (Some e') (with_place y None t) =
    in_again ∙ ap (with_exchange e') taken
    ∙ ap (λ z. if has_place z (with_place y None t) then with_place z (Some e') (with_place y None t) else with_place y None t) number
    ∙ ap (λ (b : Bool). if b then with_place y (Some e') (with_place y None t) else with_place y None t) there
    in
    rw put record {
      keys = refl;
      each = λ z. rw (or_false (z == y)) (changed_in how (z == y) e e' (get t.places z) (get (with_place y (Some e') (with_place y None t)).places z) changed
          (λ same. ap (λ k. get t.places k) (is_same z y same) ∙ place_of (get t.places y) e at)
          (get_placed y (Some e') (with_place y None t) z ∙ ap (λ o. cond (z == y) (Some (Some e')) o) (get_placed y None t z)));
    }
