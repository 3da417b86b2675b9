use Rattle.http1_message_parts.proofs.Ordering.{whole, short}
use Rattle.http1_message_parts.proofs.query.+in_order.Goals as goal

pub returns-then-parts-lt2 : goal.returns-then-parts-lt2
returns-then-parts-lt2 t c = short (λ p. p.now) c.args.parts.now c.in_ok-all.all.items c.if-parts-lt2.true c.in_ok-all.ensures

pub returns : goal.returns
returns t c =
    whole (λ p. p.now) _ c.args.parts.now c.split_at.result.0.now c.split_at.result.1.now _ _ _ c.split_at.ensures.front c.split_at.ensures.back
    c.in_ok-first.ensures c.in_ok-second.ensures (cc (c.in_ok-all-2.ensures, c.as_slice.ensures.value, c.as_slice-2.ensures.value))
