use Rattle.std.proofs.Common.{◌≡◌, ℕ, List, length, ◌∙◌, arith}
use Rattle.std.proofs.lemmas.Grind.{common_steps}
use Rattle.rules_fields.specs.Texts.{small}
use Rattle.rules_quick.proofs.ResponseNames.{kind_by_length}
use Rattle.rules_quick.proofs.response_names.kind_of.Goals as goal

len : (name : List ℕ) (n : ℕ) → length name ≡ n → length (small name) ≡ n
len name n e = grind (arith, common_steps)

pub returns-in-2 : goal.returns-in-2
returns-in-2 c = c.of_one.ensures ∙ kind_by_length (small c.args.name.now) 2 (len c.args.name.now 2 c.in-2.is)

pub returns-in-3 : goal.returns-in-3
returns-in-3 c = c.of_one-in-3.ensures ∙ kind_by_length (small c.args.name.now) 3 (len c.args.name.now 3 c.in-3.is)

pub returns-in-4 : goal.returns-in-4
returns-in-4 c = c.of_one-in-4.ensures ∙ kind_by_length (small c.args.name.now) 4 (len c.args.name.now 4 c.in-4.is)

pub returns-in-5 : goal.returns-in-5
returns-in-5 c = c.of_one-in-5.ensures ∙ kind_by_length (small c.args.name.now) 5 (len c.args.name.now 5 c.in-5.is)

pub returns-in-7 : goal.returns-in-7
returns-in-7 c = c.of_one-in-7.ensures ∙ kind_by_length (small c.args.name.now) 7 (len c.args.name.now 7 c.in-7.is)

pub returns-in-10 : goal.returns-in-10
returns-in-10 c = c.of_two.ensures ∙ kind_by_length (small c.args.name.now) 10 (len c.args.name.now 10 c.in-10.is)

pub returns-in-14 : goal.returns-in-14
returns-in-14 c = c.of_two-in-14.ensures ∙ kind_by_length (small c.args.name.now) 14 (len c.args.name.now 14 c.in-14.is)

pub returns-in-16 : goal.returns-in-16
returns-in-16 c = c.of_one-in-16.ensures ∙ kind_by_length (small c.args.name.now) 16 (len c.args.name.now 16 c.in-16.is)

pub returns-in-17 : goal.returns-in-17
returns-in-17 c = c.of_one-in-17.ensures ∙ kind_by_length (small c.args.name.now) 17 (len c.args.name.now 17 c.in-17.is)

pub returns-in-18 : goal.returns-in-18
returns-in-18 c = c.of_one-in-18.ensures ∙ kind_by_length (small c.args.name.now) 18 (len c.args.name.now 18 c.in-18.is)

pub returns-in-19 : goal.returns-in-19
returns-in-19 c = c.of_one-in-19.ensures ∙ kind_by_length (small c.args.name.now) 19 (len c.args.name.now 19 c.in-19.is)

pub returns-in-25 : goal.returns-in-25
returns-in-25 c = c.of_one-in-25.ensures ∙ kind_by_length (small c.args.name.now) 25 (len c.args.name.now 25 c.in-25.is)
