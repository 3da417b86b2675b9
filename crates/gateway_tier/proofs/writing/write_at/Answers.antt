use Rattle.std.proofs.Common.{◌≡◌, ap, ◌∙◌}
use Rattle.gateway_rules.specs.Options.{options_of}
use Rattle.gateway_state.specs.declared.state.Gateway.{Gateway}
use Rattle.gateway_tier.specs.Superseding.{earlier_at}
use Rattle.gateway_tier.specs.Writes.{AreToldOfWrite}
use Rattle.gateway_tier.proofs.writing.write_at.Goals as goal

pub returns-clause-others : goal.returns-clause-others
returns-clause-others c =
    let same : c.count_flying.new.g.table ≡ c.hide_writer.new.g.table =
    ap (λ (g : Gateway). g.table) c.count_flying.ensures.gateway ∙ ap (λ (g : Gateway). g.table) c.event.ensures.frame
    in
    let earlier : c.as_slice.result.now ≡ earlier_at (options_of c.args.g.now.rules) c.args.e.now c.args.place.now c.args.g.now.table =
    c.as_slice.ensures.value ∙ c.in_ok-earlier.ensures
    in
    let told : AreToldOfWrite c.args.place.now c.as_slice.result.now c.hide_writer.new.g.table c.tell_of_write.new.g.table = rw same at c.tell_of_write.ensures.others in
    record { hidden = c.hide_writer.new.g.table; hides = c.hide_writer.ensures.told; tells = rw earlier at told }
