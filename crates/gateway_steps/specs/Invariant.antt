-- What holds of an exchange in each state, also within a call.
use Rattle.std.specs.Prelude.{◌≡◌, true, false, not, is_some, ◌&&◌, ◌||◌}
use Rattle.gateway_rows.specs.Bodies.{is_idle, is_awaiting, is_storing, is_relaying}
use Rattle.gateway_steps.specs.declared.state.State.{State}
use Rattle.gateway_steps.specs.Phases.{is_waiting, awaits_answer, is_sending, is_stored_fetch, reads_write, is_relayed_to, is_undecided, has_body_coming, is_for_client, has_use_of_tier, goes_on, is_done, reads_stored}

pub record IsExchange (s : State) : Type 0 where
  -- who waits
  pub who_waits_holds_a_request : is_waiting s.client.phase ≡ true → s.tier.held ≡ true
  pub who_waits_has_no_permit : is_waiting s.client.phase ≡ true → is_some s.tier.permit ≡ false
  pub who_waits_asks_nothing : is_waiting s.client.phase ≡ true → is_idle s.origin.phase ≡ true
  pub who_waits_began_to : is_waiting s.client.phase ≡ true → is_some s.tier.since ≡ true
  pub who_is_moved_waits : s.tier.moved ≡ true → is_waiting s.client.phase ≡ true
  -- the permit
  pub who_has_the_permit_holds_a_request : is_some s.tier.permit ≡ true → s.tier.held ≡ true
  pub the_permit_is_to_fetch : is_some s.tier.permit ≡ true → is_undecided s || is_awaiting s.origin.phase ≡ true
  pub who_goes_alone_has_no_permit : s.tier.alone ≡ true → is_some s.tier.permit ≡ false
  -- the write
  pub who_writes_holds_a_request : s.tier.writes ≡ true → s.tier.held ≡ true
  pub what_is_joinable_is_written : s.tier.joinable ≡ true → s.tier.writes ≡ true
  pub what_is_stored_is_written : is_storing s.origin.phase ≡ true → s.tier.writes ≡ true
  pub what_is_written_is_stored_or_read : s.tier.writes ≡ true → is_storing s.origin.phase || reads_write s.client || s.origin.tailed ≡ true
  -- the request at the tier
  pub what_is_held_is_used : s.tier.held ≡ true → has_use_of_tier s ≡ true
  pub what_passes_holds_nothing : is_awaiting s.origin.phase && not (is_stored_fetch s.origin.fetch) ≡ true → s.tier.held ≡ false
  -- the client's answer
  pub no_body_comes_before_an_answer : awaits_answer s.client.phase ≡ true → has_body_coming s ≡ false
  pub who_is_sent_has_a_head : is_sending s.client.phase ≡ true → s.client.began ≡ true
  pub a_head_is_made_once : is_waiting s.client.phase || awaits_answer s.client.phase ≡ true → s.client.began ≡ false
  -- what it is sent comes from somewhere
  pub what_is_relayed_is_sent : is_relaying s.origin.phase && not s.origin.tailed ≡ true → is_relayed_to s.client ≡ true
  pub what_is_sent_is_relayed : is_relayed_to s.client ≡ true → is_relaying s.origin.phase ≡ true
  pub who_reads_on_holds_a_request : reads_stored s && goes_on s.client.ending ≡ true → s.tier.held ≡ true
  pub who_reads_knows_the_writer : reads_write s.client ≡ true → is_some s.tier.writer ≡ true
  pub who_reads_awaits_no_head : reads_write s.client ≡ true → is_awaiting s.origin.phase ≡ false
  -- a tail: what comes past that is its own client's first of all, and who reads what is stored in front of it goes on in it
  pub what_is_tailed_is_not_stored : s.origin.tailed ≡ true → is_idle s.origin.phase || is_relaying s.origin.phase ≡ true
  pub who_has_a_tail_reads_it : s.origin.tailed ≡ true → (reads_write s.client && s.tier.tailed) || is_done s.client.phase ≡ true
  pub who_goes_on_in_a_tail_reads : s.tier.tailed ≡ true → reads_write s.client || is_done s.client.phase ≡ true
  pub who_goes_on_in_a_tail_asks_nothing : s.tier.tailed ≡ true → is_idle s.origin.phase || s.origin.tailed ≡ true
  pub who_writes_goes_on_in_its_own : s.tier.tailed && s.tier.writes ≡ true → s.origin.tailed ≡ true
  pub what_is_tailed_is_hidden : s.origin.tailed ≡ true → s.tier.joinable ≡ false
  pub who_passes_what_is_stored_reads_it : s.tier.passing ≡ true → s.tier.held && s.tier.tailed && reads_write s.client ≡ true
  pub who_passes_its_own_writes : s.tier.passing && s.origin.tailed ≡ true → s.tier.writes ≡ true
  -- a stopped reading is of something that comes
  pub what_is_blocked_comes : s.origin.blocked ≡ true → is_for_client s ≡ true
