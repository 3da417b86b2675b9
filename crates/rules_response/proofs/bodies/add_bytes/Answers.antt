use Rattle.rules_response.proofs.bodies.add_bytes.Goals as goal

pub returns : goal.returns
returns c = rw c.in_ok-value.ensures.items at c.add_own.ensures
