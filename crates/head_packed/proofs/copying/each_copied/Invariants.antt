use Rattle.std.proofs.Common.{◌≡◌, []}
use Rattle.http_header.specs.HeaderMap.{append_all, pairs}
use Rattle.head_packed.proofs.copying.each_copied.Given as goal

-- the copies so far and what is left are all
abbrev pub invariant-each : goal.invariant-each
invariant-each l = append_all l.copies l.name-iterator ≡ append_all [] (pairs l.headers)
