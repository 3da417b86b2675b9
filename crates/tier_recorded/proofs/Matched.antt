-- Outcomes that are the refusal of a record, and others.
use Rattle.std.proofs.Common.{◌≡◌, Ok, Err, refl, sym, subst}
use Rattle.tier_model.specs.declared.event.TierFault.TheVariants.{NoRecord}
use Rattle.tier_model.specs.Calls.{Outcome}
use Rattle.tier_recorded.specs.Recorded.{MatchRecorded}

pub matched : (o : Outcome) (P Q : Type 0) → (o ≡ Err NoRecord → ⊥) → Q → MatchRecorded o P Q
matched (Ok a) P Q told q = q
matched (Err NoRecord) P Q told q = absurd (told refl)
matched (Err _) P Q told q = q

pub match-taken : (o : Outcome) (P Q : Type 0) → (o ≡ Err NoRecord → ⊥) → MatchRecorded o P Q → Q
match-taken (Ok a) P Q told m = m
match-taken (Err NoRecord) P Q told m = absurd (told refl)
match-taken (Err _) P Q told m = m

-- ---- one that is

pub matched-refused : (o : Outcome) (P Q : Type 0) → o ≡ Err NoRecord → P → MatchRecorded o P Q
matched-refused o P Q is p = subst (λ (x : Outcome). MatchRecorded x P Q) (sym is) p

pub match-refused : (o : Outcome) (P Q : Type 0) → o ≡ Err NoRecord → MatchRecorded o P Q → P
match-refused o P Q is m = subst (λ (x : Outcome). MatchRecorded x P Q) is m
