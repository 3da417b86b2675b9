use Rattle.std.proofs.Common.{◌≢◌, ◌∙◌, All, length, ap, sym, rules}
use Rattle.curve_lines.specs.declared.input.Next.TheVariants.{Held}
use Rattle.curve_lines.proofs.InputLemmas.{last_line}
use Rattle.curve_lines.proofs.input.Input.next_line.Goals as goal

pub returns-then-branch-eq0-clause-next : goal.returns-then-branch-eq0-clause-next
returns-then-branch-eq0-clause-next g c =
    let none : All (λ x. x ≢ 10) c.loop.self = search rules in
    let (bytes, grows, long, moved) = c.in_ok-read_more.ensures.more in
    let v = c.bytes-searched.ensures.value in
    last_line c.loop.self c.read_more.new.self bytes (g.R.Read.remaining c.read_more.new.reader) c.last.result none grows
    (long ∙ c.if-branch-eq0.true) (c.in_ok-read_more.ensures.end c.if-branch-eq0.true)
    (λ e. c.last.ensures.none (ap length v ∙ e)) (λ n. c.last.ensures.some (λ e. n (sym (ap length v) ∙ e)) ∙ ap Held (ap length v))
