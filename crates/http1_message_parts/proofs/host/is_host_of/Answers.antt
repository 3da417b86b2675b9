use Rattle.std.proofs.Common.{◌≡◌, List, ℕ, Bool, refl, sym, ap, ◌∙◌, ◌&&◌, true, false}
use Rattle.std.specs.Prelude.{bytes_eq}
use Rattle.rules_fields.specs.Texts.{small}
use Rattle.http1_message_parts.specs.Host.{told_port}
use Rattle.http1_message_parts.proofs.Hosts.{same_host}
use Rattle.http1_message_parts.proofs.host.is_host_of.Goals as goal

and_true : (a b : Bool) → a ≡ true → (a && b) ≡ b
and_true a b e = rw e refl

and_false : (a b : Bool) → a ≡ false → (a && b) ≡ a
and_false a b e = rw e refl

pub returns-then-is_small : goal.returns-then-is_small
returns-then-is_small c =
    let whole = same_host c.args.scheme.now c.args.text.now c.args.host.now c.split_port.result.0.now c.split_port.result.1.now c.split_at.result.0.now c.split_at.result.1.now
    c.split_port.ensures.name c.split_port.ensures.port c.split_at.ensures.front c.split_at.ensures.back in
    c.is_port_of.ensures ∙ ap (λ (t : List ℕ). bytes_eq t c.split_at.result.1.now) c.told_port.ensures
    ∙ sym (and_true _ _ (sym c.is_small.ensures ∙ c.if-is_small.true)) ∙ sym whole

pub returns-else-is_small : goal.returns-else-is_small
returns-else-is_small c =
    let whole = same_host c.args.scheme.now c.args.text.now c.args.host.now c.split_port.result.0.now c.split_port.result.1.now c.split_at.result.0.now c.split_at.result.1.now
    c.split_port.ensures.name c.split_port.ensures.port c.split_at.ensures.front c.split_at.ensures.back in
    c.is_small.ensures
    ∙ sym (and_false _ _ (sym c.is_small.ensures ∙ c.if-is_small.false)) ∙ sym whole
