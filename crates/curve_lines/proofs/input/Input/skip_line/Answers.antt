use Rattle.std.proofs.Common.{◌≢◌, ◌∙◌, ℕ, List, All, length, ap, sym, subst, rules}
use Rattle.std.specs.Io.BufRead.{DropsThrough}
use Rattle.std.specs.Io.KnownBytes.{prepend_known}
use Rattle.curve_lines.proofs.PassingLemmas.{passing_first, skip_read, skip_end, passing_line}
use Rattle.curve_lines.proofs.input.Input.skip_line.Goals as goal

pub loop-init : goal.loop-init
loop-init g c = (c.requires, passing_first _)

pub returns-then-branch-eq0-clause-skipped : goal.returns-then-branch-eq0-clause-skipped
returns-then-branch-eq0-clause-skipped g c =
    let i = c.loop.invariant in
    let (bytes, grows, long, moved) = c.in_ok-read_more.ensures.more in
    skip_end (prepend_known c.args.self.now (g.R.Read.remaining c.args.reader.now)) (g.R.Read.remaining c.loop.reader) (g.R.Read.remaining c.read_more.new.reader)
    c.loop.self c.skip.new.self c.read_more.new.self bytes (length c.bytes.result.now) i.0 i.1 (ap length c.bytes.ensures.value) c.skip.ensures grows moved
    (long ∙ c.if-branch-eq0.true) (c.in_ok-read_more.ensures.end c.if-branch-eq0.true)

pub returns-in-Some-clause-skipped : goal.returns-in-Some-clause-skipped
returns-in-Some-clause-skipped g c =
    let i = c.loop.invariant in
    let (bytes, grows, long, moved) = c.in_ok-read_more.ensures.more in
    let first = prepend_known c.args.self.now (g.R.Read.remaining c.args.reader.now) in
    let after = g.R.Read.remaining c.read_more.new.reader in
    let q = skip_read first (g.R.Read.remaining c.loop.reader) after c.loop.self c.skip.new.self c.read_more.new.self bytes (length c.bytes.result.now)
    i.0 i.1 (ap length c.bytes.ensures.value) c.skip.ensures grows moved in
    subst (λ (l : List ℕ). DropsThrough first (prepend_known l after) 10) (sym c.skip-in-Some.ensures)
    (passing_line first after c.read_more.new.self c.in-Some.len q c.in-Some.ensures.some.1)

pub loop-preserved : goal.loop-preserved
loop-preserved g c =
    let i = c.loop.invariant in
    let (bytes, grows, long, moved) = c.in_ok-read_more.ensures.more in
    let none : All (λ x. x ≢ 10) c.read_more.new.self = search rules in (
      none,
      skip_read (prepend_known c.args.self.now (g.R.Read.remaining c.args.reader.now)) (g.R.Read.remaining c.loop.reader) (g.R.Read.remaining c.read_more.new.reader)
          c.loop.self c.skip.new.self c.read_more.new.self bytes (length c.bytes.result.now) i.0 i.1 (ap length c.bytes.ensures.value) c.skip.ensures grows moved,
    )
