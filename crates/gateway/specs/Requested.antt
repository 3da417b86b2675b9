-- What comes of a request's own body: it goes to the origin as it comes, and ends the exchange where it doesn't read (RFC 9112, 6.3).
use Rattle.std.specs.Prelude.{◌≡◌, ℕ, Bool, not, ◌==◌, List, [], ◌++◌, length, if◌then◌else◌, Option, None, option_map}
use Rattle.gateway_frames.specs.declared.chunks.Framing.{Framing}
use Rattle.gateway_frames.specs.Frames.{end_text, framed}
use Rattle.gateway_rules.specs.Bodies.{body_of, Coming, Decoding}
use Rattle.gateway_steps.specs.Steps.{forwards, is_forwarded}
use Rattle.gateway_exchanges.specs.Replies.{reply_of, Reply}
use Rattle.gateway_exchanges.specs.declared.exchange.Exchange.{Exchange}
use Rattle.gateway_exchanges.specs.declared.outs.OriginAction.{OriginAction}
use Rattle.gateway_exchanges.specs.declared.outs.Out.{Out}

-- by the rules' numbers
abbrev pub framing_to_origin : ℕ → Framing
framing_to_origin n = if n == 2 then Framing.Chunked else Framing.Length

-- what was read, framed, and behind the last of it what ends it
abbrev pub text_to_origin : ℕ → Decoding → List ℕ
text_to_origin framing d =
    framed (framing_to_origin framing) d.content ++ (if d.over then end_text (framing_to_origin framing) [] else [])

abbrev pub has_text : ℕ → Decoding → Bool
has_text framing d = not (length (text_to_origin framing d) == 0)

-- so many bytes are done with, and the text goes to the origin
abbrev pub with_text : Bool → List ℕ → Decoding → Reply → Reply
with_text goes text d r =
    if goes then record r { used = d.used; last = d.over; origin = OriginAction.SendData; to_origin = text }
    else record r { used = d.used; last = d.over }

-- what was read goes to the origin, if that wants it; with its end the body is owed no more, and until then it is read on from there
pub record ForwardsBody (now : ℕ) (d : Decoding) (on : Option Coming) (old new : Exchange) (before after : Out) : Type 0 where
  pub state : new.steps.state ≡ forwards now (has_text old.taking_framing d) d.over old.steps.state
  pub taking : option_map body_of new.taking ≡ (if d.over then None else on)
  pub reply : reply_of after ≡ with_text (is_forwarded (has_text old.taking_framing d) old.steps.state) (text_to_origin old.taking_framing d) d (reply_of before)
  pub others : new ≡ record old { steps = new.steps; taking = new.taking }
