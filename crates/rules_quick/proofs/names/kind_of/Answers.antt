use Rattle.std.proofs.Common.{◌≡◌, ℕ, List, length, ◌∙◌, arith}
use Rattle.std.proofs.lemmas.Grind.{common_steps}
use Rattle.rules_fields.specs.Texts.{small}
use Rattle.rules_quick.proofs.RequestNames.{kind_by_length}
use Rattle.rules_quick.proofs.names.kind_of.Goals as goal

len : (name : List ℕ) (n : ℕ) → length name ≡ n → length (small name) ≡ n
len name n e = grind (arith, common_steps)

pub returns-in-5 : goal.returns-in-5
returns-in-5 c = c.of_two.ensures ∙ kind_by_length (small c.args.name.now) 5 (len c.args.name.now 5 c.in-5.is)

pub returns-in-6 : goal.returns-in-6
returns-in-6 c = c.of_two-in-6.ensures ∙ kind_by_length (small c.args.name.now) 6 (len c.args.name.now 6 c.in-6.is)

pub returns-in-7 : goal.returns-in-7
returns-in-7 c = c.of_one-in-7.ensures ∙ kind_by_length (small c.args.name.now) 7 (len c.args.name.now 7 c.in-7.is)

pub returns-in-8 : goal.returns-in-8
returns-in-8 c = c.of_two-in-8.ensures ∙ kind_by_length (small c.args.name.now) 8 (len c.args.name.now 8 c.in-8.is)

pub returns-in-10 : goal.returns-in-10
returns-in-10 c = c.of_two-in-10.ensures ∙ kind_by_length (small c.args.name.now) 10 (len c.args.name.now 10 c.in-10.is)

pub returns-in-14 : goal.returns-in-14
returns-in-14 c = c.of_two-in-14.ensures ∙ kind_by_length (small c.args.name.now) 14 (len c.args.name.now 14 c.in-14.is)

pub returns-in-16 : goal.returns-in-16
returns-in-16 c = c.of_one-in-16.ensures ∙ kind_by_length (small c.args.name.now) 16 (len c.args.name.now 16 c.in-16.is)

pub returns-in-17 : goal.returns-in-17
returns-in-17 c = c.of_two-in-17.ensures ∙ kind_by_length (small c.args.name.now) 17 (len c.args.name.now 17 c.in-17.is)

pub returns-in-18 : goal.returns-in-18
returns-in-18 c = c.of_one-in-18.ensures ∙ kind_by_length (small c.args.name.now) 18 (len c.args.name.now 18 c.in-18.is)

pub returns-in-19 : goal.returns-in-19
returns-in-19 c = c.of_two-in-19.ensures ∙ kind_by_length (small c.args.name.now) 19 (len c.args.name.now 19 c.in-19.is)

pub returns-in-25 : goal.returns-in-25
returns-in-25 c = c.of_one-in-25.ensures ∙ kind_by_length (small c.args.name.now) 25 (len c.args.name.now 25 c.in-25.is)
