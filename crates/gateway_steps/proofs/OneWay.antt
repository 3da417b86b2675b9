use Rattle.std.proofs.Common.{rules}
use Rattle.gateway_steps.specs.declared.state.State.{State}
use Rattle.gateway_steps.specs.Invariant.{IsExchange}
use Rattle.gateway_steps.specs.Runs.{IsStep, GoesOneWay}
use Rattle.gateway_steps.specs.Runs.IsStep.{hold, let_go, take_permit, wait, poll_wait, answer, collapse, ask, hear_head, take_interim, take_head, store, relay, give_up, stop, close_origin, hear_body, take_piece, complete, finish, begin_tail, join_tail, pass_stored, end_tailed_write, end_tail, end_reading, pass_bytes, forward_body, break_request, end_answer, leave, lose_permit, hide_write, move_on, meet_purge, overtake, supersede, close_behind, block, read_on}

-- by each step the sides go one way
pub one_way : (s s' : State) → IsExchange s → IsStep s s' → GoesOneWay s s'
one_way _ _ e (hold s h) = search rules
one_way _ _ e (let_go s h) = search rules
one_way _ _ e (take_permit s now h) = search rules
one_way _ _ e (wait s now holder h) = search rules
one_way _ _ e (poll_wait s verdict h) = search rules
one_way _ _ e (answer s source h) = search rules
one_way _ _ e (collapse s writer h) = search rules
one_way _ _ e (ask s fetch now sequence h) = search rules
one_way _ _ e (hear_head s now h) = search rules
one_way _ _ e (take_interim s h) = search rules
one_way _ _ e (take_head s head h) = search rules
one_way _ _ e (store s number h) = search rules
one_way _ _ e (relay s wanted h) = search rules
one_way _ _ e (give_up s h) = search rules
one_way _ _ e (stop s lacks h) = search rules
one_way _ _ e (close_origin s verdict now lacks h) = search rules
one_way _ _ e (hear_body s now h) = search rules
one_way _ _ e (take_piece s piece h) = search rules
one_way _ _ e (complete s h) = search rules
one_way _ _ e (finish s finished h) = search rules
one_way _ _ e (begin_tail s h) = search rules
one_way _ _ e (join_tail s h) = search rules
one_way _ _ e (pass_stored s h) = search rules
one_way _ _ e (end_tailed_write s) = search rules
one_way _ _ e (end_tail s h) = search rules
one_way _ _ e (end_reading s truncated h) = search rules
one_way _ _ e (pass_bytes s bytes) = search rules
one_way _ _ e (forward_body s now has_bytes over h) = search rules
one_way _ _ e (break_request s lacks h) = search rules
one_way _ _ e (end_answer s h) = search rules
one_way _ _ e (leave s now h) = search rules
one_way _ _ e (lose_permit s) = search rules
one_way _ _ e (hide_write s) = search rules
one_way _ _ e (move_on s) = search rules
one_way _ _ e (meet_purge s) = search rules
one_way _ _ e (overtake s) = search rules
one_way _ _ e (supersede s) = search rules
one_way _ _ e (close_behind s) = search rules
one_way _ _ e (block s h) = search rules
one_way _ _ e (read_on s now) = search rules
