-- The code of a counted tier's value, by which a proof distinguishes two values: a record is its fields, one after another.
use Rattle.std.specs.Prelude.{ℕ, refl}
use Rattle.std.specs.Coded.{Coded, code_by, coded×, coded_ℕ}
use Rattle.tier_model.specs.State.{State}
use Rattle.tier_requests.specs.Codes.{state_code}
use Rattle.tier_single.specs.declared.options.TierOptions.{TierOptions}
use Rattle.tier_recorded.specs.declared.snapshot.Snapshot.{Snapshot}
use Rattle.tier_recorded.specs.Codes.{snapshot_code}
use Rattle.tier_shared.specs.Counted.{CountedState}

abbrev pub counted_code : {R : Type 0} → Coded TierOptions → Coded R → Coded (CountedState R)
counted_code {R} options rng =
    code_by (Snapshot R × (State × (R × (ℕ × (ℕ × (ℕ × ℕ))))))
    (coded× (snapshot_code options rng) (coded× state_code (coded× rng (coded× coded_ℕ (coded× coded_ℕ (coded× coded_ℕ coded_ℕ))))))
    (λ a. (a.opening, (a.tier, (a.rng, (a.calls, (a.passes, (a.gathered, a.returned)))))))
    (λ t. record { opening = t.0; tier = t.1.0; rng = t.1.1.0; calls = t.1.1.1.0; passes = t.1.1.1.1.0; gathered = t.1.1.1.1.1.0; returned = t.1.1.1.1.1.1 }) (λ _. refl)
