-- What is read of a body as it comes.
use Rattle.std.specs.Prelude.{ℕ, Bool, true, false, nat_lt, nat_le, max, if◌then◌else◌, List, Option, Some, None, option_and_then}
use Rattle.gateway_exchanges.specs.declared.exchange.Exchange.{Exchange}
use Rattle.gateway_exchanges.specs.declared.tails.Tail.{Tail}
use Rattle.gateway_exchanges.specs.Tails.{TailMap, bytes_from, end_of, is_lost, tail_at}
use Rattle.gateway_steps.specs.declared.state.Ending.{Ending}
use Rattle.gateway_sides.specs.declared.reading.Next.{Next}

-- bytes of a body, and their place in it
abbrev pub Placed : Type 0
Placed = List ℕ × ℕ

-- the tail of what it reads
abbrev pub tail_of : Exchange → TailMap → Option Tail
tail_of e tails = if e.steps.state.tier.tailed then option_and_then (λ writer. tail_at writer tails) e.steps.state.tier.writer else None

-- ==== what comes next

-- all that a tail has from a place on
abbrev pub next_in : ℕ → Tail → Option Placed
next_in place t =
    let at = max place t.start in
    if nat_lt at (end_of t) then Some (bytes_from at t, at) else None

abbrev pub next_by : ℕ → ℕ → Option Tail → Next
next_by place seen None = Next.Stored
next_by place seen (Some t) = if is_lost place t then Next.Lost else (if nat_le t.after seen then Next.Tail else Next.Stored)

-- from where the next bytes come: once what is stored was read, from the tail, as far as that keeps them
abbrev pub next_for : ℕ → Exchange → TailMap → Next
next_for place e tails = next_by place e.answer.seen (tail_of e tails)

-- whose tail ended so ends too
abbrev pub ended_as : Ending → Ending → Ending
ended_as Ending.GoesOn was = was
ended_as ending was = ending

-- all of it is there
abbrev pub is_whole : Ending → Bool
is_whole Ending.Whole = true
is_whole _ = false
