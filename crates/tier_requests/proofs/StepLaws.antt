-- Steps of reading a write as it comes, as the plain record has them.
use Rattle.std.proofs.Common.{◌≡◌, ◌≢◌, ℕ, ◌-◌, refl, ap, sym, ◌∙◌, arith, Bool, true, false, cond, Some, None, Option, List, [], ◌∷◌, length, nat_lt}
use Rattle.std.specs.Prelude.{drop, Result, Ok, Err, MatchResult}
use Rattle.std.proofs.lemmas.List.{length-drop}
use Rattle.cache_store.specs.declared.storage.ReadStep.{ReadStep}
use Rattle.cache_store.specs.declared.storage.ReadStep.TheVariants as step
use Rattle.cache_store.specs.declared.storage.StoreFault.{StoreFault}
use Rattle.store_memory.specs.Hits.{ReadAnswer, StepAnswer, moved}
use Rattle.tier_model.specs.declared.event.Answer.TheVariants.{Bytes, Pending, End}
use Rattle.tier_model.specs.Shelf.{past_place}
use Rattle.tier_model.specs.Answers.{next_by, next_of}
use Rattle.tier_model.specs.State.{streaming}
use Rattle.tier_model.specs.After.{read_on}
use Rattle.tier_requests.specs.Faults.{out_of_memory}
use Rattle.tier_requests.specs.Steps.{answer_for}

-- what is past a place is nothing exactly where the place is no less than the length
there_is : (place : ℕ) (xs ys : List ℕ) → drop place xs ≡ ys → nat_lt place (length xs) ≡ true → ys ≢ []
there_is place xs ys is more none =
    let left : length xs - place ≡ 0 = sym (length-drop place xs) ∙ ap length (is ∙ none) in
    absurd (grind (arith, left, more))

there_is_none : (place : ℕ) (xs ys : List ℕ) → drop place xs ≡ ys → nat_lt place (length xs) ≡ false → ys ≡ []
there_is_none place xs [] is none = refl
there_is_none place xs (y ∷ ys) is none =
    let left : length xs - place ≡ length (y ∷ ys) = sym (length-drop place xs) ∙ ap length is in
    absurd (grind (arith, left, none))

next_bytes : (ys : List ℕ) (over : Bool) → ys ≢ [] → next_by ys over ≡ Bytes ys
next_bytes [] over h = absurd (h refl)
next_bytes (y ∷ ys) over h = refl

next_none : (over : Bool) → next_by [] over ≡ cond over End Pending
next_none true = refl
next_none false = refl

-- a step from a place is what comes next, and goes on as far as it read; memory is taken only where something comes
pub record IsNext (n place : ℕ) (p : Option (List ℕ × Bool)) (r : Result ReadStep StoreFault) : Type 0 where
  pub answer : MatchResult (answer_for r) (λ a. (a ≡ next_of (past_place place p)) × (streaming n (moved (record { number = n; place = place }) r).place ≡ read_on a (streaming n place)))
      (λ f. (f ≡ out_of_memory) × ((past_place place p).0 ≢ []) × (moved (record { number = n; place = place }) r ≡ record { number = n; place = place }))

pub next-step : (n place : ℕ) (p : Option (List ℕ × Bool)) (r : Result ReadStep StoreFault) → ReadAnswer p place r → IsNext n place p r
next-step n place None r a = record { answer = rw a (refl, ap (streaming n) (omega arith)) }
next-step n place (Some p) r a = by_test (nat_lt place (length p.0)) refl r a
  where
    by_over : (over : Bool) → p.1 ≡ over → nat_lt place (length p.0) ≡ false → (r : Result ReadStep StoreFault) → r ≡ Ok (cond over step.End step.Pending) → IsNext n place (Some p) r
    by_over true over none r a = record { answer = rw (a, there_is_none place p.0 (drop place p.0) refl none, over) (refl, ap (streaming n) (omega arith)) }
    by_over false over none r a = record { answer = rw (a, there_is_none place p.0 (drop place p.0) refl none, over) (refl, ap (streaming n) (omega arith)) }

    by_test : (v : Bool) → nat_lt place (length p.0) ≡ v → (r : Result ReadStep StoreFault) → StepAnswer v p.0 p.1 place r → IsNext n place (Some p) r
    by_test true more (Ok s) a = record { answer = rw a (sym (next_bytes (drop place p.0) p.1 (there_is place p.0 (drop place p.0) refl more)), refl) }
    by_test true more (Err f) a = record { answer = (refl, there_is place p.0 (drop place p.0) refl more, refl) }
    by_test false none r a = by_over p.1 refl none r a
