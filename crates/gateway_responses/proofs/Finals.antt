-- Of a head that reads what it is, and behind a final one its row, is taken.
use Rattle.std.proofs.Common.{◌≡◌, ℕ, List, Bool, true, false, refl}
use Rattle.std.specs.Prelude.{Result, Ok, Err, OnOk, MatchBool, nat_lt}
use Rattle.rules_ffi_arguments.specs.declared.bad.Bad.{Bad}
use Rattle.rules_ffi_arguments.specs.declared.shapes.Moment.{Moment}
use Rattle.rules_ffi_arguments.specs.Moments.{moment_in}
use Rattle.gateway_rules.specs.Dated.{GivesDated}
use Rattle.gateway_rules.specs.Options.{Options}
use Rattle.gateway_rules.specs.Responses.{read_in}
use Rattle.gateway_rules.specs.Values.{read_of, response_of, Came}
use Rattle.gateway_rules.specs.declared.values.Read.{Read}
use Rattle.gateway_rules.specs.declared.responses.Times.{Times}
use Rattle.gateway_rules.specs.declared.values.ResponseHead.{ResponseHead}
use Rattle.gateway_exchanges.specs.declared.exchange.Exchange.{Exchange}
use Rattle.gateway_state.specs.declared.state.Gateway.{Gateway}
use Rattle.gateway_responses.specs.Heads.{came_at, times_of, IsFinal, IsHeaded, IsHeadTaken, IsHeard, IsRead}

on_false : (b : Bool) (A B : Type 0) → b ≡ false → B → MatchBool b A B
on_false true A B e h = absurd cc
on_false false A B e h = h

pub final_taken : (r : Result Unit Bad) (g : Gateway) (response : ResponseHead) (times : Times) (e headed e' : Exchange)
    → nat_lt response.shape.code 200 ≡ false → OnOk r (IsFinal g headed response times e') → IsHeaded response e headed → OnOk r (IsHeadTaken g response times e e')
final_taken (Ok x) g response times e headed e' final h is = on_false (nat_lt response.shape.code 200) _ _ final (headed, is, h)
final_taken (Err x) g response times e headed e' final h is = tt

pub head_heard : (o : Options) (g : Gateway) (e e' : Exchange) (now came : Moment) (times : Times) (bytes : List ℕ) (r : Result Read Bad) (response : ResponseHead)
    → r ≡ Ok (Read.Head response) → came ≡ came_at e.steps.state now → times ≡ times_of e.steps.state now
    → GivesDated read_of r (moment_in came.seconds came.nanoseconds) (read_in o e.asks.is_head bytes) → (taken : Result Unit Bad)
    → OnOk taken (IsHeadTaken g response times e e') → OnOk taken ((read : Result Came ℕ) × IsRead o e now bytes read × IsHeard g (times_of e.steps.state now) read e e')
head_heard o g e e' now came times bytes r response is first both given (Ok x) h =
    (Ok (response_of response), rw first at rw is at given, (response, refl, rw both at h))
head_heard o g e e' now came times bytes r response is first both given (Err x) h = tt
