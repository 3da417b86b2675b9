-- What stays as it was: of an exchange, and of what a call answers.
use Rattle.std.specs.Prelude.{◌≡◌, List, ◌++◌}
use Rattle.gateway_exchanges.specs.declared.exchange.Exchange.{Exchange}
use Rattle.gateway_exchanges.specs.declared.outs.Out.{Out}
use Rattle.gateway_exchanges.specs.Replies.{reply_of}

-- ==== an exchange

-- whose it is, and what it asks
pub record HasSameRequest (old new : Exchange) : Type 0 where
  pub x : new.x ≡ old.x
  pub request : new.request ≡ old.request
  pub peer : new.peer ≡ old.peer

-- all but its state
abbrev pub HasSameButSteps : Exchange → Exchange → Type 0
HasSameButSteps old new = new ≡ record old { steps = new.steps }

-- all but its state, and what its client is sent
abbrev pub HasSameButAnswer : Exchange → Exchange → Type 0
HasSameButAnswer old new = new ≡ record old { steps = new.steps; answer = new.answer }

-- all but its state, and what goes on with the origin
abbrev pub HasSameButFetch : Exchange → Exchange → Type 0
HasSameButFetch old new = new ≡ record old { steps = new.steps; asks = new.asks }

-- ==== what a call answers

-- the first, and more behind it
abbrev pub Extends : {A : Type 0} → List A → List A → Type 0
Extends {A} old new = (more : List A) × (new ≡ old ++ more)

-- all but for whom there is something new
abbrev pub HasSameButWakes : Out → Out → Type 0
HasSameButWakes old new = reply_of new ≡ record (reply_of old) { wakes = (reply_of new).wakes }

-- all but what went for room
abbrev pub HasSameButEvicted : Out → Out → Type 0
HasSameButEvicted old new = reply_of new ≡ record (reply_of old) { evicted = (reply_of new).evicted }

-- all but what was done
abbrev pub HasSameButEvents : Out → Out → Type 0
HasSameButEvents old new = reply_of new ≡ record (reply_of old) { events = (reply_of new).events }

-- all but the pieces for the client
abbrev pub HasSameButPieces : Out → Out → Type 0
HasSameButPieces old new = reply_of new ≡ record (reply_of old) { pieces = (reply_of new).pieces }

-- all but for whom there is something new, what went for room, and what was done
abbrev pub HasSameAnswer : Out → Out → Type 0
HasSameAnswer old new =
    reply_of new ≡ record (reply_of old) { wakes = (reply_of new).wakes; evicted = (reply_of new).evicted; events = (reply_of new).events }

-- what was added stays, in its order
pub record OnlyGrows (old new : Out) : Type 0 where
  pub pieces : Extends (reply_of old).pieces (reply_of new).pieces
  pub wakes : Extends (reply_of old).wakes (reply_of new).wakes
  pub evicted : Extends (reply_of old).evicted (reply_of new).evicted
  pub purges : Extends (reply_of old).purges (reply_of new).purges
  pub events : Extends (reply_of old).events (reply_of new).events
