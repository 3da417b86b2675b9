use Rattle.gateway_tier.proofs.at_tier.give_up_permit.Goals as goal

pub returns-clause-released : goal.returns-clause-released
returns-clause-released c = record {
  between = c.tell_no_store.new.g;
  gives_up = c.tell_no_store.ensures;
  releases = c.let_go.ensures.released;
}
