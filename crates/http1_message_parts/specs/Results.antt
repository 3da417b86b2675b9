-- Answers one after another, of which the first refusal counts.
use Rattle.std.specs.Prelude.{ℕ, ◌-◌, if◌then◌else◌, List, length, take, drop, bytes_eq, Result, Ok, Err}
use Rattle.http1_message_parts.specs.declared.reason.Reason.{Reason}

abbrev pub on_ok : {A B : Type 0} → Result A Reason → (A → Result B Reason) → Result B Reason
on_ok (Ok a) f = f a
on_ok (Err r) f = Err r

abbrev pub map_ok : {A B : Type 0} → (A → B) → Result A Reason → Result B Reason
map_ok f (Ok a) = Ok (f a)
map_ok f (Err r) = Err r

-- without this end, where it has it
abbrev pub without_end : List ℕ → List ℕ → List ℕ
without_end end text = if bytes_eq (drop (length text - length end) text) end then take (length text - length end) text else text
