-- How the state of a lock is stored as a value: the tuple of its fields.
use Rattle.std.specs.Prelude.{ℕ, List, refl}
use Rattle.std.specs.Coded.{Coded, code_by, coded×, coded_ℕ, coded_list}
use Rattle.std.specs.FinMap as finite
use Rattle.std.specs.Ordering.{nat_cmp}
use Rattle.std.specs.Cmp.Lexicographic.{slice_cmp}
use Rattle.cache_lock.specs.contracts.lock_core.HeldCore.{the_row}
use Rattle.cache_lock.specs.declared.lock_core.HeldCore.{HeldCore}
use Rattle.cache_lock.specs.State.{LockState}

abbrev pub state_code : Coded LockState
state_code =
    code_by (finite.FinMap nat_cmp HeldCore × (finite.FinMap (slice_cmp nat_cmp) ℕ × (finite.FinMap nat_cmp (List ℕ) × (ℕ × (ℕ × ℕ)))))
    (coded× (finite.code coded_ℕ the_row.coded) (coded× (finite.code (coded_list coded_ℕ) coded_ℕ) (coded× (finite.code coded_ℕ (coded_list coded_ℕ)) (coded× coded_ℕ (coded× coded_ℕ coded_ℕ)))))
    (λ s. (s.cores, (s.current, (s.published, (s.next, (s.age.seconds, s.age.nanoseconds))))))
    (λ p. record { cores = p.0; current = p.1.0; published = p.1.1.0; next = p.1.1.1.0; age = record { seconds = p.1.1.1.1.0; nanoseconds = p.1.1.1.1.1 } }) (λ _. refl)
