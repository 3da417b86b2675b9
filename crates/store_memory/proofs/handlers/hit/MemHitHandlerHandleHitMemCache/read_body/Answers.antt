use Rattle.std.proofs.Common.{◌≡◌, ◌≢◌, ℕ, ◌-◌, refl, ap, sym, ◌∙◌, arith, true, false, cond, [], ◌∷◌, ◌++◌, append-nil}
use Rattle.std.specs.Prelude.{◌+◌, nat_lt, Bool, List, length, drop, Option, Some, None, Result, Ok, Err}
use Rattle.std.proofs.lemmas.List.{length-drop, drop_all}
use Rattle.cache_store.specs.declared.storage.ReadStep.{ReadStep}
use Rattle.cache_store.specs.declared.storage.ReadStep.TheVariants.{Bytes, Pending, End}
use Rattle.cache_store.specs.declared.storage.StoreFault.{StoreFault}
use Rattle.cache_store.specs.Readers.{StreamHit, IsStep, past_place, readable}
use Rattle.store_memory.specs.Hits.{StepAnswer, ReadAnswer, moved}
use Rattle.store_memory.proofs.handlers.hit.MemHitHandlerHandleHitMemCache.read_body.Goals as goal

moved-number : (h : StreamHit) (r : Result ReadStep StoreFault) → (moved h r).number ≡ h.number
moved-number h (Ok (Bytes bytes)) = refl
moved-number h (Ok Pending) = refl
moved-number h (Ok End) = refl
moved-number h (Err f) = refl

-- what is past a place is nothing exactly where the place is no less than the length
there_is : (place : ℕ) (xs ys : List ℕ) → drop place xs ≡ ys → nat_lt place (length xs) ≡ true → ys ≢ []
there_is place xs ys is more none =
    let left : length xs - place ≡ 0 = sym (length-drop place xs) ∙ ap length (is ∙ none) in
    absurd (grind (arith, left, more))

there_is_none : (place : ℕ) (xs ys : List ℕ) → drop place xs ≡ ys → nat_lt place (length xs) ≡ false → ys ≡ []
there_is_none place xs [] is none = refl
there_is_none place xs (y ∷ ys) is none =
    let left : length xs - place ≡ length (y ∷ ys) = sym (length-drop place xs) ∙ ap length is in
    absurd (grind (arith, left, none))

nothing_past : (place : ℕ) (xs : List ℕ) → drop (place + length (drop place xs)) xs ≡ []
nothing_past place xs =
    let left : length (drop place xs) ≡ length xs - place = length-drop place xs in
    drop_all (place + length (drop place xs)) xs (rw left (omega arith))

all_read : (place : ℕ) (xs : List ℕ) → drop place xs ≡ drop place xs ++ drop (place + length (drop place xs)) xs
all_read place xs = sym (ap (λ (l : List ℕ). drop place xs ++ l) (nothing_past place xs) ∙ append-nil (drop place xs))

step-past : (h : StreamHit) (p : Option (List ℕ × Bool)) (r : Result ReadStep StoreFault) → ReadAnswer p h.place r → IsStep (past_place h.place p) r (past_place (moved h r).place p)
step-past h None r a = rw a (refl, refl)
step-past h (Some p) r a = by_test (nat_lt h.place (length p.0)) refl r a
  where
    by_over : (over : Bool) → p.1 ≡ over → nat_lt h.place (length p.0) ≡ false → (r : Result ReadStep StoreFault) → r ≡ Ok (cond over End Pending)
        → IsStep (past_place h.place (Some p)) r (past_place (moved h r).place (Some p))
    by_over true over none r a = rw (a, there_is_none h.place p.0 (drop h.place p.0) refl none, over) (refl, refl)
    by_over false over none r a = rw (a, there_is_none h.place p.0 (drop h.place p.0) refl none, over) (refl, refl)

    by_test : (v : Bool) → nat_lt h.place (length p.0) ≡ v → (r : Result ReadStep StoreFault) → StepAnswer v p.0 p.1 h.place r
        → IsStep (past_place h.place (Some p)) r (past_place (moved h r).place (Some p))
    by_test true more (Ok s) a = rw a (all_read h.place p.0, refl, λ none. none)
    by_test true more (Err f) a = (a, refl, there_is h.place p.0 (drop h.place p.0) refl more)
    by_test false none r a = by_over p.1 refl none r a

pub returns-in-Partial-clause-step : goal.returns-in-Partial-clause-step
returns-in-Partial-clause-step g c =
    rw (c.in-Partial.is, c.read-in-Partial.ensures.after, moved-number c.in-Partial.hit c.read-in-Partial.result) (step-past c.in-Partial.hit (readable c.in-Partial.hit.number c.args.store.now) c.read-in-Partial.result c.read-in-Partial.ensures.answer)
