use Rattle.gateway_sides.proofs.tails.begin_tail.Goals as goal

pub returns-clause-begun : goal.returns-clause-begun
returns-clause-begun c = record {
  begun = c.start_tail.new.g;
  begins = c.in_ok-start_tail.ensures.ok;
  counted = c.join_all.new.g;
  joins = c.join_all.ensures.joins;
  flying = c.count_flying.ensures.gateway;
}
