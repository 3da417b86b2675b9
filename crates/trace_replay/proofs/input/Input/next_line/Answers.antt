use Rattle.std.proofs.Common.{◌≢◌, ◌∙◌, All, length, ap, rules}
use Rattle.trace_replay.proofs.InputLemmas.{last_line}
use Rattle.trace_replay.proofs.input.Input.next_line.Goals as goal

pub returns-then-branch-eq0-clause-line : goal.returns-then-branch-eq0-clause-line
returns-then-branch-eq0-clause-line g c =
    let none : All (λ x. x ≢ 10) c.loop.self = search rules in
    let (bytes, grows, long, moved) = c.in_ok-read_more.ensures.more in
    (last_line c.loop.self c.read_more.new.self bytes (g.R.Read.remaining c.read_more.new.reader) (length c.bytes-searched.result.now) none grows
    (long ∙ c.if-branch-eq0.true) (c.in_ok-read_more.ensures.end c.if-branch-eq0.true) (ap length c.bytes-searched.ensures)).1
