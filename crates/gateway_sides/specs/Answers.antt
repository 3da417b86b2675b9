-- An answer begins.
use Rattle.std.specs.Prelude.{◌≡◌, ℕ, Bool, ◌||◌, ◌==◌, if◌then◌else◌, List, ◌++◌, None, false}
use Rattle.rules_ffi_arguments.specs.declared.shapes.How.{How}
use Rattle.gateway_rules.specs.Messages.{MessageValue}
use Rattle.gateway_rules.specs.Values.{text_of}
use Rattle.gateway_exchanges.specs.declared.exchange.Answering.{Answering}
use Rattle.gateway_exchanges.specs.declared.exchange.Exchange.{Exchange}
use Rattle.gateway_steps.specs.declared.state.State.{State}
use Rattle.gateway_steps.specs.Phases.{awaits_answer}
use Rattle.gateway_steps.specs.Steps.{closes_behind}

-- the request wasn't read, or its body isn't over: the connection ends behind the answer
abbrev pub closes_for : Exchange → Bool
closes_for e = e.steps.state.client.closes || e.steps.state.client.owes_body

-- how an answer came, and that
abbrev pub how_for : Exchange → How → How
how_for e how = record how { closes = if closes_for e then 1 else 0 }

-- the connection ends behind a message that says so, or that it ends
abbrev pub closed_by : MessageValue → State → State
closed_by m s = if m.closes || m.framing == 3 then closes_behind s else s

-- the client is sent the head, and then, of a whole body, what the parts say
pub record IsMade (m : MessageValue) (whole : List ℕ) (old new : Answering) : Type 0 where
  pub buffer : new.buffer.items ≡ old.buffer.items ++ text_of m.text m.head
  pub framing : new.framing ≡ m.framing
  pub body : new.whole ≡ whole
  pub parts : new.parts.items ≡ m.parts
  pub texts : new.texts.items ≡ m.text
  pub after : new.after ≡ m.tail
  pub place : new.place ≡ None
  pub seen : new.seen ≡ 0
  pub trailers : new.trailers ≡ old.trailers

-- an exchange in that state begins to answer by a message; all else of it is as it was
pub record BeginsAnswer (m : MessageValue) (s : State) (whole : List ℕ) (old new : Exchange) : Type 0 where
  pub state : new.steps.state ≡ closed_by m s
  pub answer : IsMade m whole old.answer new.answer
  pub rest : new ≡ record old { steps = new.steps; answer = new.answer; asks = record old.asks { flying = new.asks.flying } }

-- each side is as far as it was
abbrev pub KeepsSides : State → State → Type 0
KeepsSides s s' = (s'.client.phase ≡ s.client.phase) × (s'.origin.phase ≡ s.origin.phase)

-- its client has its answer, or had one, and the origin's side is as far as it was
abbrev pub IsAnswered : State → State → Type 0
IsAnswered s s' = (awaits_answer s'.client.phase ≡ false) × (s'.origin.phase ≡ s.origin.phase)
