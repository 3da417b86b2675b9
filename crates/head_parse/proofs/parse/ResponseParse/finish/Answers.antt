use Rattle.std.proofs.Common.{subst, sym, ap, ◌∙◌}
use Rattle.std.proofs.lemmas.Result.{IfOk-weaker}
use Rattle.head_parse.specs.Response.{Gives}
use Rattle.head_parse.specs.Parse.{ParserHolds}
use Rattle.head_parse.specs.Stages.{held_of}
use Rattle.head_parse.proofs.HeadLaws.{Gives-bad}
use Rattle.head_parse.proofs.ParseLaws.{Gives-body}
use Rattle.head_parse.proofs.parse.ResponseParse.finish.Goals as goal

pub returns-in-Body : goal.returns-in-Body
returns-in-Body c =
    let held = sym c.self.view_is ∙ ap held_of c.in-Body.is in
    IfOk-weaker c.finish.result _ _ (λ parsed e bytes holds. subst (Gives bytes) (sym e) (Gives-body bytes c.in-Body.body.0 c.in-Body.body.1 (subst (ParserHolds bytes) held holds))) c.finish.ensures

pub returns-in-BadHead : goal.returns-in-BadHead
returns-in-BadHead c = λ bytes holds. Gives-bad bytes (subst (ParserHolds bytes) (sym c.self.view_is ∙ ap held_of c.in-BadHead.is) holds)
