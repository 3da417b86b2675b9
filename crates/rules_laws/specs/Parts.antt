-- The parts of a 206 (RFC 9110, 15.3.7).
use Rattle.std.specs.Prelude.{ℕ, Bool, not, ◌&&◌, nat_lt}
use Rattle.std.specs.Option.{option_map_or}
use Rattle.rules_response.specs.Reply.{Reply}
use Rattle.rules_response.specs.Answering.{total_length}

-- a part with a byte at least, of a body of this length
abbrev pub lies_in : ℕ → ℕ × ℕ → Bool
lies_in length p = nat_lt p.0 p.1 && not (nat_lt length p.1)

-- the bytes that an answer sends behind its head
abbrev pub sent_length : Reply → ℕ
sent_length r = option_map_or (λ ps. total_length ps r.after) r.pieces 0
