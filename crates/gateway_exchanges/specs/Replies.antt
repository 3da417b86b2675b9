-- What a call answers, and what is added to it.
use Rattle.std.specs.Prelude.{ℕ, Bool, false, List, [], ◌∷◌, ◌++◌, map, Option, None, nat_eq}
use Rattle.indexmap.specs.IndexSet.{insert_key}
use Rattle.rules_ffi_arguments.specs.declared.shapes.Moment.{Moment}
use Rattle.gateway_exchanges.specs.declared.outs.Status.{Status}
use Rattle.gateway_exchanges.specs.declared.outs.ClientEnd.{ClientEnd}
use Rattle.gateway_exchanges.specs.declared.outs.OriginAction.{OriginAction}
use Rattle.gateway_exchanges.specs.declared.outs.Piece.{Piece}
use Rattle.gateway_exchanges.specs.declared.outs.Event.{Event}
use Rattle.gateway_exchanges.specs.declared.outs.Out.{Out}

-- an answer as its caller sees it
pub record Reply : Type 0 where
  pub status : Status
  pub exchange : ℕ
  pub used : ℕ
  pub client : ClientEnd
  pub pieces : List Piece
  pub origin : OriginAction
  pub to_origin : List ℕ
  pub body_follows : Bool
  pub last : Bool
  pub at : Option Moment
  pub found : Bool
  -- each once
  pub wakes : List ℕ
  pub evicted : List (List ℕ)
  pub purges : List (List ℕ)
  pub events : List Event

abbrev pub reply_of : Out → Reply
reply_of out = record {
  status = out.status;
  exchange = out.exchange;
  used = out.used;
  client = out.client;
  pieces = out.pieces.items;
  origin = out.origin;
  to_origin = out.to_origin.items;
  body_follows = out.body_follows;
  last = out.last;
  at = out.at;
  found = out.found;
  wakes = out.wakes.keys;
  evicted = out.evicted.items;
  purges = map (λ key. key.items) out.purges.items;
  events = out.events.items;
}

-- nothing is told but how the call ended
abbrev pub blank_reply : Status → Reply
blank_reply status = record {
  status = status;
  exchange = 0;
  used = 0;
  client = ClientEnd.Nothing;
  pieces = [];
  origin = OriginAction.Nothing;
  to_origin = [];
  body_follows = false;
  last = false;
  at = None;
  found = false;
  wakes = [];
  evicted = [];
  purges = [];
  events = [];
}

-- there is something new for that exchange
abbrev pub with_wake : ℕ → Reply → Reply
with_wake x r = record r { wakes = insert_key nat_eq r.wakes x }

-- that was done
abbrev pub with_event : Event → Reply → Reply
with_event event r = record r { events = r.events ++ event ∷ [] }

-- and the client is sent that
abbrev pub with_piece : Piece → Reply → Reply
with_piece piece r = record r { pieces = r.pieces ++ piece ∷ [] }

-- and so much went for room
abbrev pub with_evicted : List (List ℕ) → Reply → Reply
with_evicted digests r = record r { evicted = r.evicted ++ digests }
