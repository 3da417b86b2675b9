-- Faults of puts as types of errors and as text.
use Rattle.std.specs.Prelude.{ℕ, List, codes}
use Rattle.request_puts.specs.declared.put.outcome.PutFault.{PutFault}
use Rattle.request_puts.specs.declared.put.outcome.PutFault.TheVariants.{BadHead, ResponseTooLarge, Incomplete, MetaMoment, WriteNumbersSpent, Weight, Length, NumbersSpent, Memory}

abbrev pub put_fault_text : PutFault → List ℕ
put_fault_text BadHead = codes "the bytes are no head, or one out of bounds"
put_fault_text ResponseTooLarge = codes "response too large"
put_fault_text Incomplete = codes "the response ends too early"
put_fault_text MetaMoment = codes "a moment of the meta can't be written"
put_fault_text WriteNumbersSpent = codes "no number is left for a write"
put_fault_text (Weight done) = codes "the weight of the shard could not be counted"
put_fault_text (Length done) = codes "there is no room for one more entry"
put_fault_text (NumbersSpent done) = codes "no number is left for the entry's hash"
put_fault_text (Memory done) = codes "out of memory"

-- the name of the type of the error
abbrev pub fault_type_name : PutFault → List ℕ
fault_type_name BadHead = codes "InvalidHTTPHeader"
fault_type_name ResponseTooLarge = codes "response too large"
fault_type_name Incomplete = codes "IncompleteHttpBody"
fault_type_name _ = codes "InternalError"
