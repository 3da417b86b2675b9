use Rattle.std.proofs.Common.{◌++◌, ◌∙◌, ap, sym, subst}
use Rattle.head_parse.specs.Parse.{ParserHolds, IsAt}
use Rattle.head_parse.specs.Stages.{held_of}
use Rattle.head_parse.proofs.ParseLaws.{ParserHolds-progress}
use Rattle.head_parse.proofs.StageLaws.{body-holds, body-is-at, bad-holds, bad-is-at, head-holds}
use Rattle.head_parse.proofs.parse.ResponseParse.inject_data.Goals as goal

pub returns-in-Body-clause-holds : goal.returns-in-Body-clause-holds
returns-in-Body-clause-holds c = λ bytes holds.
    body-holds bytes c.args.piece c.args.self.now c.in-Body.body c.push.new.self (sym (ap held_of c.in-Body.is) ∙ c.self.view_is) c.in_ok-push-in-Body.ensures.ok holds

pub returns-in-Body-clause-progress : goal.returns-in-Body-clause-progress
returns-in-Body-clause-progress c = λ bytes holds.
    body-is-at bytes c.args.piece c.args.self.now c.in-Body.body c.push.new.self c.progress.result (sym (ap held_of c.in-Body.is) ∙ c.self.view_is) c.in_ok-push-in-Body.ensures.ok c.progress.ensures holds

pub returns-in-BadHead-clause-holds : goal.returns-in-BadHead-clause-holds
returns-in-BadHead-clause-holds c = λ bytes holds.
    subst (ParserHolds (bytes ++ c.args.piece)) (sym (ap held_of c.in-BadHead.is)) (bad-holds bytes c.args.piece c.args.self.now (sym (ap held_of c.in-BadHead.is) ∙ c.self.view_is) holds)

pub returns-in-BadHead-clause-progress : goal.returns-in-BadHead-clause-progress
returns-in-BadHead-clause-progress c = λ bytes holds. bad-is-at bytes c.args.piece c.args.self.now (sym (ap held_of c.in-BadHead.is) ∙ c.self.view_is) holds

pub returns-clause-progress : goal.returns-clause-progress
returns-clause-progress c = λ bytes holds.
    let next = rw c.in-Some.is at (head-holds bytes c.args.piece c.args.self.now c.in-Head.head c.after_head.new.head c.in_ok-next-in-Head.next (sym (ap held_of c.in-Head.is) ∙ c.self.view_is) c.in_ok-next-in-Head.ensures.next holds) in
    subst (IsAt (bytes ++ c.args.piece)) (sym c.progress-2.ensures) (ParserHolds-progress (bytes ++ c.args.piece) (held_of c.in-Some.stage) next)
