-- What a look-up's row says of what was found.
use Rattle.std.proofs.Common.{◌≡◌, ℕ, Bool, true, false, refl, ap, ◌∙◌, [], ◌∷◌}
use Rattle.std.specs.Prelude.{not, is_some, ◌&&◌, if◌then◌else◌}
use Rattle.gateway_types.specs.declared.looks.Found.{Found}
use Rattle.gateway_types.specs.declared.looks.Reuse.{Reuse}
use Rattle.gateway_types.specs.declared.looks.Look.{Look as Seen}
use Rattle.gateway_types.specs.declared.looks.LookVerdict.{LookVerdict}
use Rattle.gateway_rows.specs.Looks.{is_asked_first, is_bypass, is_found, is_meanwhile, is_wait, is_whole, is_write, look_row, reuse_row, validation_row}
use Rattle.gateway_rows.specs.Tables.{first_of}
use Rattle.gateway_steps.specs.declared.state.State.{State}
use Rattle.gateway_exchanges.specs.declared.found.Look.{Look}
use Rattle.gateway.specs.Acts.{may_act}
use Rattle.gateway.specs.Looks.{answers_by_found, found_of, seen_of}

unfound : (found only predicted wait : Bool) (row : LookVerdict)
    → answers_by_found (first_of ((found && not true, row) ∷ (only, LookVerdict.Unavailable) ∷ (predicted, LookVerdict.Unstored) ∷ (wait, LookVerdict.Wait) ∷ []) LookVerdict.Full) ≡ false
unfound true true predicted wait row = refl
unfound true false true wait row = refl
unfound true false false true row = refl
unfound true false false false row = refl
unfound false true predicted wait row = refl
unfound false false true wait row = refl
unfound false false false true row = refl
unfound false false false false row = refl

-- what a purge of all took answers nobody
pub too_old_answers_nobody : (seen : Seen) → seen.too_old ≡ true → answers_by_found (look_row seen) ≡ false
too_old_answers_nobody seen old =
    ap (λ b. answers_by_found (first_of ((is_found seen.found && not b, reuse_row seen) ∷ (seen.only_if_cached, LookVerdict.Unavailable) ∷ (seen.predicted, LookVerdict.Unstored) ∷ (is_wait seen.permit, LookVerdict.Wait) ∷ []) LookVerdict.Full)) old
    ∙ unfound (is_found seen.found) seen.only_if_cached seen.predicted (is_wait seen.permit) (reuse_row seen)

-- what holds of a row's word and of those behind it holds of what is said
by_row : {A : Type 0} (P : A → Type 0) (b : Bool) (word behind : A) → (b ≡ true → P word) → (b ≡ false → P behind) → P (if b then word else behind)
by_row P true word behind here there = here refl
by_row P false word behind here there = there refl

-- the table's words may be acted by, where whoever is told to wait may, and what is whole is there
record MayWaitAndHit (seen : Seen) (look : Look) (s : State) : Type 0 where
  waits : is_wait seen.permit ≡ true → may_act LookVerdict.Wait look s ≡ true
  whole : is_whole seen.found ≡ true → may_act LookVerdict.Hit look s ≡ true

validation_may : (seen : Seen) (look : Look) (s : State) → MayWaitAndHit seen look s → may_act (validation_row seen) look s ≡ true
validation_may seen look s may =
    by_row P seen.only_if_cached _ _ (λ e. refl) (λ e.
    by_row P (seen.fresh && not seen.past) _ _ (λ e. refl) (λ e.
    by_row P (is_wait seen.permit) _ _ may.waits (λ e.
    by_row P (is_whole seen.found) _ _ may.whole (λ e. refl))))
  where
    P : LookVerdict → Type 0
    P v = may_act v look s ≡ true

not_false : (b : Bool) → not b ≡ false → b ≡ true
not_false true e = refl
not_false false e = absurd cc

reuse_may : (seen : Seen) (look : Look) (s : State) → MayWaitAndHit seen look s → may_act (reuse_row seen) look s ≡ true
reuse_may seen look s may =
    by_row P (is_bypass seen.reuse && seen.only_if_cached) _ _ (λ e. refl) (λ e.
    by_row P (is_bypass seen.reuse) _ _ (λ e. refl) (λ e.
    by_row P (is_asked_first seen.reuse) _ _ (λ e. validation_may seen look s may) (λ e.
    by_row P (not (is_whole seen.found)) _ _ (λ e. refl) (λ e.
    by_row P (is_meanwhile seen.reuse && is_write seen.permit) _ _ (λ f. may.whole (not_false _ e)) (λ f. may.whole (not_false _ e))))))
  where
    P : LookVerdict → Type 0
    P v = may_act v look s ≡ true

look_may : (seen : Seen) (look : Look) (s : State) → MayWaitAndHit seen look s → may_act (look_row seen) look s ≡ true
look_may seen look s may =
    by_row P (is_found seen.found && not seen.too_old) _ _ (λ e. reuse_may seen look s may) (λ e.
    by_row P seen.only_if_cached _ _ (λ e. refl) (λ e.
    by_row P seen.predicted _ _ (λ e. refl) (λ e.
    by_row P (is_wait seen.permit) _ _ may.waits (λ e. refl))))
  where
    P : LookVerdict → Type 0
    P v = may_act v look s ≡ true

whole_there : (there whole : Bool) → is_whole (if there then (if whole then Found.Whole else Found.InFlight) else Found.Nothing) ≡ true → there && whole ≡ true
whole_there true true e = refl
whole_there true false e = absurd cc
whole_there false whole e = absurd cc

-- by what was found the table may be acted by, where only who has its request at the tier, without a permit, is to wait
pub row_may_act : (look : Look) (reuse : Reuse) (past only predicted old : Bool) (s : State)
    → (is_wait look.permit ≡ true → s.tier.held && not (is_some s.tier.permit) ≡ true) → may_act (look_row (seen_of look reuse past only predicted old)) look s ≡ true
row_may_act look reuse past only predicted old s waits =
    look_may (seen_of look reuse past only predicted old) look s record { waits = waits; whole = whole_there (is_some look.found) look.whole }
