-- The code of a recorded tier's value, by which a proof distinguishes two values: a record is its fields, one after another.
use Rattle.std.specs.Prelude.{ℕ, List, refl}
use Rattle.std.specs.Coded.{Coded, code_by, coded×, coded_ℕ, coded_list}
use Rattle.tier_model.specs.State.{State}
use Rattle.tier_requests.specs.Codes.{state_code}
use Rattle.tier_recorded.specs.declared.history.Record.{Record}
use Rattle.tier_recorded.specs.declared.history.CallerRecord.{CallerRecord}
use Rattle.tier_recorded.specs.declared.history.Seat.{Seat}
use Rattle.tier_single.specs.declared.options.TierOptions.{TierOptions}
use Rattle.tier_recorded.specs.declared.snapshot.Snapshot.{Snapshot}
use Rattle.tier_recorded.specs.Seats.{PassState}
use Rattle.tier_recorded.specs.Recorded.{RecordedState}

abbrev pub pass_code : Coded CallerRecord → Coded PassState
pass_code own =
    code_by (ℕ × (List CallerRecord × ℕ)) (coded× coded_ℕ (coded× (coded_list own) coded_ℕ)) (λ p. (p.caller, (p.records, p.room))) (λ t. record { caller = t.0; records = t.1.0; room = t.1.1 }) (λ _. refl)

abbrev pub snapshot_code : {R : Type 0} → Coded TierOptions → Coded R → Coded (Snapshot R)
snapshot_code {R} options rng =
    code_by (TierOptions × (List (List ℕ) × R)) (coded× options (coded× (coded_list (coded_list coded_ℕ)) rng)) (λ s. (s.options, (s.texts, s.rng)))
    (λ t. record { options = t.0; texts = t.1.0; rng = t.1.1 }) (λ _. refl)

abbrev pub recorded_code : {R : Type 0} → Coded TierOptions → Coded Record → Coded CallerRecord → Coded Seat → Coded R → Coded (RecordedState R)
recorded_code {R} options kept own seat rng =
    code_by (Snapshot R × (State × (R × (List Record × (List Seat × (List PassState × ℕ))))))
    (coded× (snapshot_code options rng) (coded× state_code (coded× rng (coded× (coded_list kept) (coded× (coded_list seat) (coded× (coded_list (pass_code own)) coded_ℕ))))))
    (λ a. (a.opening, (a.tier, (a.rng, (a.history, (a.seats, (a.gathered, a.room)))))))
    (λ t. record { opening = t.0; tier = t.1.0; rng = t.1.1.0; history = t.1.1.1.0; seats = t.1.1.1.1.0; gathered = t.1.1.1.1.1.0; room = t.1.1.1.1.1.1 })
    (λ _. refl)
