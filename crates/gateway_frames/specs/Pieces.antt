-- Which bytes of a body are sent next (RFC 9110, 14.4, 15.3.7; RFC 9112, 6.3, 8).
use Rattle.std.specs.Prelude.{ℕ, ◌+◌, ◌-◌, Bool, true, false, ◌&&◌, nat_lt, nat_le, is_none, min, [], ◌∷◌, Option}
use Rattle.std.specs.Option.{option_map_or}
use Rattle.gateway_rows.specs.Tables.{first_of}
use Rattle.gateway_frames.specs.declared.pieces.Came.{Came}
use Rattle.gateway_frames.specs.declared.pieces.Sending.{Sending}
use Rattle.gateway_frames.specs.declared.pieces.NextPiece.{NextPiece}
use Rattle.gateway_frames.specs.declared.pieces.Relayed.{Relayed}

abbrev pub is_complete : Came → Bool
is_complete Came.Complete = true
is_complete _ = false

abbrev pub goes_on : Came → Bool
goes_on Came.GoesOn = true
goes_on _ = false

-- the part was sent to its end
abbrev pub is_sent : Sending → Bool
is_sent sending = option_map_or (λ to. nat_le to sending.place) sending.to false

-- up to here the part's bytes are there
abbrev pub end_there : Sending → ℕ
end_there sending = option_map_or (λ to. min sending.there to) sending.to sending.there

-- more of the part's bytes are there
abbrev pub has_bytes : Sending → Bool
has_bytes sending = nat_lt sending.place (end_there sending)

abbrev pub next_bytes : Sending → NextPiece
next_bytes sending = NextPiece.Bytes sending.place (sending.place + min sending.most (end_there sending - sending.place))

-- what is there goes first; a body that broke off, or ended before the part did, is never said to have ended
abbrev pub next_piece : Sending → NextPiece
next_piece sending = first_of
    ((is_sent sending, NextPiece.End)
    ∷ (has_bytes sending && nat_lt 0 sending.most, next_bytes sending)
    ∷ (has_bytes sending, NextPiece.Wait)
    ∷ (goes_on sending.came, NextPiece.Wait)
    ∷ (is_complete sending.came && is_none sending.to, NextPiece.End)
    ∷ []) NextPiece.Truncate

-- of so many bytes that follow on those that came before, those of a part
abbrev pub relayed_bytes : ℕ → Option ℕ → ℕ → ℕ → Relayed
relayed_bytes from to before len = record {
  from = min (from - before) len;
  to = option_map_or (λ end. min (end - before) len) to len;
  is_last = option_map_or (λ end. nat_le (end - before) len) to false;
}
