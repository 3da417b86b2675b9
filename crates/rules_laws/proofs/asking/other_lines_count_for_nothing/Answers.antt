use Rattle.rules_laws.proofs.Asked.{use_asked, spared_asked, answer_asked, told_asked}
use Rattle.rules_laws.proofs.asking.other_lines_count_for_nothing.Goals as goal

pub returns-clause-use_of : goal.returns-clause-use_of
returns-clause-use_of c = λ request kept now o. use_asked request kept now o

pub returns-clause-may_spare : goal.returns-clause-may_spare
returns-clause-may_spare c = λ request kept now status o. spared_asked request kept now status o

pub returns-clause-answer_of : goal.returns-clause-answer_of
returns-clause-answer_of c = λ request kept length now boundary how o. answer_asked request kept length now boundary how o

pub returns-clause-told_reply : goal.returns-clause-told_reply
returns-clause-told_reply c = λ fetch request p asked came how o. told_asked fetch request p asked came how o
