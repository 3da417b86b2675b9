-- Steps of reading, and of writing.
use Rattle.std.specs.Prelude.{◌≡◌, ℕ, Bool, true, false, List, if◌then◌else◌, Option, Some, None, is_some, option_map, unwrap_or, Result, Ok, Err, MatchResult}
use Rattle.cache_store.specs.declared.storage.ReadStep.{ReadStep}
use Rattle.cache_store.specs.declared.storage.ReadStep.TheVariants as step
use Rattle.cache_store.specs.declared.storage.StoreFault.{StoreFault}
use Rattle.cache_store.specs.declared.storage.StoreFault.TheVariants as fault
use Rattle.tier_model.specs.declared.event.Answer.{Answer}
use Rattle.tier_model.specs.declared.event.Answer.TheVariants.{Written, Bytes, Pending, End}
use Rattle.tier_model.specs.declared.event.TierFault.TheVariants as tier
use Rattle.tier_model.specs.Shelf.{Shelf}
use Rattle.tier_model.specs.After.{pieced}
use Rattle.tier_model.specs.Calls.{Outcome}
use Rattle.tier_requests.specs.Faults.{out_of_memory}

-- what a step of reading is answered
abbrev pub answer_for : Result ReadStep StoreFault → Outcome
answer_for (Ok (step.Bytes bytes)) = Ok (Bytes bytes)
answer_for (Ok step.Pending) = Ok Pending
answer_for (Ok step.End) = Ok End
answer_for (Err f) = Err out_of_memory

-- a body is read whole, if it wasn't yet
abbrev pub read_whole : Option (List ℕ) → Answer
read_whole bytes = unwrap_or (option_map Bytes bytes) End

-- where no reader is left, a body was read, or there is nothing to read
abbrev pub read_without : Option (List ℕ) → Outcome
read_without bytes = if is_some bytes then Ok End else Err tier.WrongPhase

-- bytes of the write n, by whether it has ended, if it is in flight
abbrev pub WriteStep : Option Bool → List ℕ → Bool → ℕ → Shelf → Result (Unit {0}) StoreFault → Shelf → Type 0
WriteStep None bytes last n shelf r new = (r ≡ Err fault.WriteRemoved) × (new ≡ shelf)
WriteStep (Some true) bytes last n shelf r new = (r ≡ Err fault.AfterEnd) × (new ≡ shelf)
WriteStep (Some false) bytes last n shelf r new = MatchResult r (λ _. new ≡ pieced bytes last n shelf) (λ f. (f ≡ fault.Memory) × (new ≡ shelf))

-- what is reported of it
abbrev pub told_of_piece : Result (Unit {0}) StoreFault → Outcome
told_of_piece (Ok v) = Ok Written
told_of_piece (Err fault.AfterEnd) = Err tier.AfterEnd
told_of_piece (Err f) = Err out_of_memory
