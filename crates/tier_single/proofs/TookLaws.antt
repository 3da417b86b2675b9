-- An event that is taken: a refusal by a check, and the events that need no reading and draw no word.
use Rattle.std.proofs.Common.{◌≡◌, ℕ, refl, sym, ◌∙◌, Bool, true, false, subst, cond, Some, None, Option}
use Rattle.std.specs.Prelude.{◌==◌, pos, Err, is_some}
use Rattle.std.specs.FinMap.{FinMap, get, insert, remove, same_map, nat_cmp-IsAntisymmetric}
use Rattle.std.specs.Ordering.{nat_cmp}
use Rattle.std.proofs.lemmas.Cmp.{nat_cmp_total}
use Rattle.std.proofs.lemmas.Bool.{eqb-true}
use Rattle.cache_words.specs.Time.{MomentValue}
use Rattle.tier_model.specs.declared.event.Action.{Action}
use Rattle.tier_model.specs.declared.event.TierFault.{TierFault}
use Rattle.tier_model.specs.Calls.{Call, Outcome}
use Rattle.tier_model.specs.Response.{IsRead}
use Rattle.tier_model.specs.State.{Request, State}
use Rattle.tier_model.specs.Checks.{refusal}
use Rattle.tier_model.specs.Step.{AllowsBy, tells_of_write, AsksLock}
use Rattle.tier_model.specs.After.{after}
use Rattle.tier_model.proofs.CallLaws.{at-insert, at-remove}
use Rattle.tier_single.specs.Acts.{Took}

-- a request that is put in its own place
pub insert-same : (m : FinMap nat_cmp Request) (id : ℕ) (q : Request) → get m id ≡ Some q → insert m id q ≡ m
insert-same m id q there = same_map nat_cmp_total nat_cmp-IsAntisymmetric (insert m id q) m (λ j. at-insert m id q j ∙ by_id j (id == j) refl)
  where
    by_id : (j : ℕ) (t : Bool) → (id == j) ≡ t → cond t (Some q) (get m j) ≡ get m j
    by_id j true e = sym (subst (λ (x : ℕ). get m x ≡ Some q) (eqb-true id j e) there)
    by_id j false e = refl

-- one that isn't there is taken out
pub remove-none : (m : FinMap nat_cmp Request) (id : ℕ) → get m id ≡ None → remove m id ≡ m
remove-none m id none = same_map nat_cmp_total nat_cmp-IsAntisymmetric (remove m id) m (λ j. at-remove m id j ∙ by_id j (id == j) refl)
  where
    by_id : (j : ℕ) (t : Bool) → (id == j) ≡ t → cond t None (get m j) ≡ get m j
    by_id j true e = sym (subst (λ (x : ℕ). get m x ≡ None) (eqb-true id j e) none)
    by_id j false e = refl

pub none-open : (o : Option Request) → is_some o ≡ false → o ≡ None
none-open None e = refl
none-open (Some q) e = absurd cc

-- a moment at which nothing is asked of the clock
abbrev pub some_moment : MomentValue
some_moment = record { seconds = pos 0; nanoseconds = 0 }

-- by another name of the state that it left
pub Took-to : (old : State) (t : MomentValue) (action : Action) (o : Outcome) (new left : State) → left ≡ new → Took old t action o new → Took old t action o left
Took-to old t action o new left is took = subst (λ (x : State). Took old t action o x) (sym is) took

-- a call that reads nothing and begins no write
abbrev pub plain_call : MomentValue → Action → Outcome → Bool → Call
plain_call t action o asked = record { event = record { moment = t; action = action }; outcome = o; reading = None; began = false; asked = asked }

-- a refusal by a check leaves all as before
pub Took-refused : (s : State) (t : MomentValue) (action : Action) (f : TierFault) → refusal s action ≡ Some f → IsRead action None → tells_of_write (plain_call t action (Err f) false) ≡ false
    → AsksLock s t action false → after s (plain_call t action (Err f) false) ≡ s → Took s t action (Err f) s
Took-refused s t action f fails read tells asks after = (
  plain_call t action (Err f) false,
  refl,
  refl,
  record {
    read = read;
    outcome = subst (λ r. AllowsBy r s t action (plain_call t action (Err f) false) (Err f)) (sym fails) refl;
    begins = tells;
    asks = asks;
  },
  sym after,
)
