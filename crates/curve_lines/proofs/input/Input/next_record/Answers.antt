use Rattle.std.proofs.Common.{◌∙◌, length, ap, sym, arith}
use Rattle.curve_lines.specs.declared.input.Next.TheVariants.{Held}
use Rattle.curve_lines.proofs.InputLemmas.{last_record, held_record}
use Rattle.curve_lines.proofs.input.Input.next_record.Goals as goal

pub returns-then-held-size-clause-next : goal.returns-then-held-size-clause-next
returns-then-held-size-clause-next g c =
    held_record (g.R.Read.remaining c.loop.reader) c.args.size c.loop.self c.requires.0 (omega (arith, c.if-held-size.true, ap length c.bytes-held.ensures.value))

pub returns-then-branch-eq0-clause-next : goal.returns-then-branch-eq0-clause-next
returns-then-branch-eq0-clause-next g c =
    let (bytes, grows, long, moved) = c.in_ok-read_more.ensures.more in
    let v = c.bytes-held.ensures.value in
    last_record c.args.size c.loop.self c.read_more.new.self bytes (g.R.Read.remaining c.read_more.new.reader) c.last.result
    (omega (arith, c.if-held-size.false, ap length v)) grows (long ∙ c.if-branch-eq0.true) (c.in_ok-read_more.ensures.end c.if-branch-eq0.true)
    (λ e. c.last.ensures.none (ap length v ∙ e)) (λ n. c.last.ensures.some (λ e. n (sym (ap length v) ∙ e)) ∙ ap Held (ap length v))
