-- Whether all of a write came, as the changes say.
use Rattle.std.proofs.Common.{◌≡◌, ℕ, true, false, refl, ap, sym, ◌∙◌, subst, cond, [], ◌∷◌, ◌++◌, inl, inr}
use Rattle.std.specs.Prelude.{◌↔◌, ◌||◌, ◌⊎◌, ◌==◌, Bool, Some}
use Rattle.std.specs.List.{AllByRecursion}
use Rattle.cache_changes.specs.Changes.{Write, Change, Changes, begins, ends, finishes, leaves}
use Rattle.cache_changes.specs.Writes.{has_ended, lands, IsInFlight, BeginsBelow, MayCome, IsOrderly}
use Rattle.cache_changes.proofs.WriteLaws.{Life, life, life-tells, same_number, below_apart, began_below, flight_began}
use Rattle.cache_changes.proofs.BodyLaws.{no_leaving}
use Rattle.tier_model.specs.Histories.{Kept}
use Rattle.tier_model.specs.Reads.{has_finished, IsWhole}

-- it had its last piece, or was finished
abbrev pub all_came : ℕ → Changes Kept → Bool
all_came n changes = has_ended n changes || has_finished n changes

pub whole-came : (n : ℕ) (changes : Changes Kept) → (all_came n changes ≡ true) ↔ IsWhole n changes
whole-came n changes = by_tests (has_ended n changes) (has_finished n changes)
  where
    by_tests : (a b : Bool) → ((a || b) ≡ true) ↔ ((a ≡ true) ⊎ (b ≡ true))
    by_tests true b = (λ e. inl refl, λ e. refl)
    by_tests false b = (λ e. inr e, λ e. elim e [ inl a ↦ absurd cc | inr b ↦ b ])

-- a number that no change names
fresh_finish : (n : ℕ) (changes : Changes Kept) → AllByRecursion (BeginsBelow n) changes → IsOrderly changes → has_finished n changes ≡ false
fresh_finish n [] h o = refl
fresh_finish n (finishes w ∷ before) h o = rw (below_apart w.number n (began_below n w before h.1 (flight_began w before o.0.0))) (fresh_finish n before h.1 o.1)
fresh_finish n (_ ∷ before) h o = fresh_finish n before h.1 o.1

unfinished_since : (n : ℕ) (since before : Changes Kept) → AllByRecursion (λ c. lands n c ≡ false) since → has_finished n before ≡ false → has_finished n (since ++ before) ≡ false
unfinished_since n [] before h e = e
unfinished_since n (finishes w ∷ since) before h e = rw h.0 (unfinished_since n since before h.1 e)
unfinished_since n (_ ∷ since) before h e = unfinished_since n since before h.1 e

orderly_from : (since before : Changes Kept) → IsOrderly (since ++ before) → IsOrderly before
orderly_from [] before o = o
orderly_from (c ∷ since) before o = orderly_from since before o.1

-- what came of a write in flight is all where it had its last piece: it wasn't finished
flying_unfinished : (w : Write Kept) (changes : Changes Kept) → IsOrderly changes → IsInFlight w changes → has_finished w.number changes ≡ false
flying_unfinished w changes o f =
    let began = orderly_from f.since (begins w ∷ f.before) (subst (λ (l : Changes Kept). IsOrderly l) f.split o) in
    ap (has_finished w.number) f.split ∙ unfinished_since w.number f.since (begins w ∷ f.before) f.flies (fresh_finish w.number f.before began.0 began.1)

pub came-flying : (w : Write Kept) (changes : Changes Kept) → IsOrderly changes → IsInFlight w changes → all_came w.number changes ≡ has_ended w.number changes
came-flying w changes o f = ap (λ v. has_ended w.number changes || v) (flying_unfinished w changes o f) ∙ or_false (has_ended w.number changes)
  where
    or_false : (a : Bool) → (a || false) ≡ a
    or_false true = refl
    or_false false = refl

-- after its flight nothing changes whether all of it came
pub came-step : (n : ℕ) (c : Change Kept) (before : Changes Kept) (x : Life Kept) → MayCome c before → IsOrderly before → life n before ≡ Some x → x.flies ≡ false
    → all_came n (c ∷ before) ≡ all_came n before
came-step n c before x may o e f = by_change c may
  where
    is : life x.write.number before ≡ Some (record { write = x.write; flies = false; alive = x.alive })
    is = ap (λ (k : ℕ). life k before) (sym (life-tells n before x e).number) ∙ e ∙ ap (λ (v : Bool). Some (record { write = x.write; flies = v; alive = x.alive })) f

    apart : (m : ℕ) → MayCome {M = Kept} (leaves m) before → (m == n) ≡ false
    apart m may = ap (λ (k : ℕ). m == k) (life-tells n before x e).number ∙ no_leaving x.write x.alive (leaves m) before may o is

    by_change : (c : Change Kept) → MayCome c before → all_came n (c ∷ before) ≡ all_came n before
    by_change (ends m) may = ap (λ v. cond v true (has_ended n before) || has_finished n before) (apart m may)
    by_change (finishes w) may = ap (λ v. has_ended n before || cond v true (has_finished n before)) (apart w.number (w, refl, may.0))
    by_change _ may = refl

-- by the change that ends its flight
pub came-finished : (w : Write Kept) (before : Changes Kept) → all_came w.number (finishes w ∷ before) ≡ true
came-finished w before = ap (λ v. has_ended w.number before || cond v true (has_finished w.number before)) (same_number w.number) ∙ or_true (has_ended w.number before)
  where
    or_true : (a : Bool) → (a || true) ≡ true
    or_true true = refl
    or_true false = refl

pub came-left : (w : Write Kept) (n : ℕ) (before : Changes Kept) → IsOrderly before → IsInFlight w before → all_came w.number (leaves n ∷ before) ≡ has_ended w.number before
came-left w n before o f = came-flying w before o f
