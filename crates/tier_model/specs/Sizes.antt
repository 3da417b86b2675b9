-- How large the body of a write has become.
use Rattle.std.specs.Prelude.{ℕ, ◌+◌, length, Option, Some, None, option_map, option_and_then}
use Rattle.std.specs.FinMap.{get}
use Rattle.tier_model.specs.Shelf.{Shelf, flying_at}
use Rattle.tier_model.specs.State.{Reader, unread, State}

-- how many bytes the body of a write in flight has so far, with those that it has outside
abbrev pub flight_size : Shelf → ℕ → Option ℕ
flight_size shelf n = option_map (λ f. length f.bytes + f.meta.external) (flying_at n shelf.flying)

-- of the write of a request, if it has one in flight
abbrev pub write_size : State → ℕ → Option ℕ
write_size s id = option_and_then (λ q. option_and_then (flight_size s.shelf) q.write) (get s.requests id)

-- how many bytes a whole body has that was found and isn't read yet
abbrev pub unread_len : Reader → Option ℕ
unread_len (unread bytes) = Some (length bytes)
unread_len _ = None

abbrev pub found_len : State → ℕ → Option ℕ
found_len s id = option_and_then (λ q. unread_len q.reader) (get s.requests id)
