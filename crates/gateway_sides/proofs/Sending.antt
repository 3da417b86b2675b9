-- What is sent in two steps.
use Rattle.std.proofs.Common.{◌++◌, ℕ, List, ap, ◌∙◌, append_assoc}
use Rattle.std.specs.Prelude.{Result, Ok, Err, OnOk}
use Rattle.gateway_exchanges.specs.declared.outs.Out.{Out}
use Rattle.gateway_exchanges.specs.Replies.{Reply, reply_of}
use Rattle.gateway_sides.specs.Parts.{sent_in, Sends}

sends_both : (a b : List ℕ) (o m n : Out) → Sends a o m → Sends b m n → Sends (a ++ b) o n
sends_both a b o m n h k = record {
  sent = k.sent ∙ ap (λ xs. xs ++ b) h.sent ∙ append_assoc (sent_in (reply_of o)) a b;
  rest = k.rest ∙ ap (λ (r : Reply). record r { pieces = (reply_of n).pieces }) h.rest;
}

pub sends_then : {X E : Type 0} (r : Result X E) (a b : List ℕ) (o m n : Out) → Sends a o m → OnOk r (Sends b m n) → OnOk r (Sends (a ++ b) o n)
sends_then (Ok x) a b o m n h k = sends_both a b o m n h k
sends_then (Err e) a b o m n h k = k
