use Rattle.std.proofs.Common.{◌≡◌, ◌++◌, take}
use Rattle.std.specs.Prelude.{option_map}
use Rattle.request_puts.specs.Response.{joined}
use Rattle.example_requests.specs.Steps.{bytes_at}
use Rattle.example_requests.proofs.requests.write_pieces.Given as goal

-- the write is the same, and has the bytes of the pieces so far
abbrev pub invariant-loop-piece : goal.invariant-loop-piece
invariant-loop-piece l =
    (l.writer ≡ l.initial.writer) ×
    (bytes_at l.initial.writer l.cache.store ≡ option_map (λ b. b ++ joined (take l.piece-index l.pieces)) (bytes_at l.initial.writer l.fn.cache.store))
