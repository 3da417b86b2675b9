use Rattle.cache_changes.proofs.UseLaws.{IsOrderOfUse-rows_of, IsOrderOfUse-one}
use Rattle.cache_changes.proofs.laws.rows_are_the_order_of_use.Goals as goal

pub returns-clause-is : goal.returns-clause-is
returns-clause-is g c = λ changes. IsOrderOfUse-rows_of changes

pub returns-clause-alone : goal.returns-clause-alone
returns-clause-alone g c = λ changes rows o. IsOrderOfUse-one rows changes o
