use Rattle.std.proofs.Common.{subst}
use Rattle.std.specs.Io.KnownBytes.{prepend_known}
use Rattle.curve_lines.specs.declared.input.Next.{Next}
use Rattle.curve_lines.specs.Inputs.{IsNext}
use Rattle.curve_lines.proofs.CopyingSteps.{copies_none, copies_long, copies_held}
use Rattle.curve_lines.proofs.StepLemmas.{held_fits, long_none, feeds_none, feeds_held, feeds_long}
use Rattle.curve_lines.proofs.read.feed.Goals as goal

pub returns-in-End-clause-fed : goal.returns-in-End-clause-fed
returns-in-End-clause-fed g c =
    feeds_none c.args.rules.now (prepend_known c.args.input.now (g.R.Read.remaining c.args.reader.now)) (g.R.Read.remaining c.next.new.reader) c.next.new.self c.args.readings.now c.in_ok-next.ensures.kept (subst (λ (n : Next). IsNext c.args.rules.now.format n c.next.new.self (g.R.Read.remaining c.next.new.reader)) c.in-End.is c.in_ok-next.ensures.next)

pub feed_held-requires-clause-within : goal.feed_held-requires-clause-within
feed_held-requires-clause-within g c = held_fits c.args.rules.now.format (g.R.Read.remaining c.next.new.reader) c.next.new.self c.in-Held.len (subst (λ (n : Next). IsNext c.args.rules.now.format n c.next.new.self (g.R.Read.remaining c.next.new.reader)) c.in-Held.is c.in_ok-next.ensures.next)

pub skip_line-requires : goal.skip_line-requires
skip_line-requires g c = long_none c.args.rules.now.format (g.R.Read.remaining c.next.new.reader) c.next.new.self (subst (λ (n : Next). IsNext c.args.rules.now.format n c.next.new.self (g.R.Read.remaining c.next.new.reader)) c.in-TooLong.is c.in_ok-next.ensures.next)

pub returns-in_ok-skip_line-in-TooLong-clause-fed : goal.returns-in_ok-skip_line-in-TooLong-clause-fed
returns-in_ok-skip_line-in-TooLong-clause-fed g c =
    feeds_long c.args.rules.now (prepend_known c.args.input.now (g.R.Read.remaining c.args.reader.now)) (g.R.Read.remaining c.next.new.reader)
    (prepend_known c.skip_line.new.self (g.R.Read.remaining c.skip_line.new.reader)) c.next.new.self c.args.readings.now c.in_ok-next.ensures.kept (subst (λ (n : Next). IsNext c.args.rules.now.format n c.next.new.self (g.R.Read.remaining c.next.new.reader)) c.in-TooLong.is c.in_ok-next.ensures.next) c.in_ok-skip_line-in-TooLong.ensures.skipped

pub returns-in_ok-step-in-Held-clause-fed : goal.returns-in_ok-step-in-Held-clause-fed
returns-in_ok-step-in-Held-clause-fed g c =
    let e = c.in_ok-step-in-Held.ensures in
    feeds_held c.args.rules.now (prepend_known c.args.input.now (g.R.Read.remaining c.args.reader.now)) (g.R.Read.remaining c.next.new.reader) c.next.new.self c.feed_held.new.input c.in-Held.len
    c.args.readings.now c.feed_held.new.readings c.in_ok-step-in-Held.step c.in_ok-next.ensures.kept (subst (λ (n : Next). IsNext c.args.rules.now.format n c.next.new.self (g.R.Read.remaining c.next.new.reader)) c.in-Held.is c.in_ok-next.ensures.next) e.rest e.more e.told e.fed

pub returns-in-End-clause-copied : goal.returns-in-End-clause-copied
returns-in-End-clause-copied g c =
    copies_none c.args.rules.now.format (prepend_known c.args.input.now (g.R.Read.remaining c.args.reader.now)) (g.W.Write.contents c.args.copy.now) c.args.readings.now.missed

pub returns-in_ok-skip_line-in-TooLong-clause-copied : goal.returns-in_ok-skip_line-in-TooLong-clause-copied
returns-in_ok-skip_line-in-TooLong-clause-copied g c =
    copies_long c.args.rules.now.format (prepend_known c.args.input.now (g.R.Read.remaining c.args.reader.now)) (g.W.Write.contents c.args.copy.now) c.args.readings.now.missed

pub returns-in_ok-step-in-Held-clause-copied : goal.returns-in_ok-step-in-Held-clause-copied
returns-in_ok-step-in-Held-clause-copied g c =
    copies_held c.args.rules.now.format (prepend_known c.args.input.now (g.R.Read.remaining c.args.reader.now)) (g.R.Read.remaining c.next.new.reader) (g.W.Write.contents c.args.copy.now)
    (g.W.Write.contents c.feed_held.new.copy) c.next.new.self c.in-Held.len c.in_ok-step-in-Held.step c.feed_held.new.readings.missed c.in_ok-next.ensures.kept
    (subst (λ (n : Next). IsNext c.args.rules.now.format n c.next.new.self (g.R.Read.remaining c.next.new.reader)) c.in-Held.is c.in_ok-next.ensures.next) c.in_ok-step-in-Held.ensures.copied
