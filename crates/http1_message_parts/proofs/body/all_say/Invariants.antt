use Rattle.std.proofs.Common.{◌≡◌, drop, map}
use Rattle.std.specs.List.{list_all}
use Rattle.http1_message_parts.specs.Body.{is_number, length_of}
use Rattle.http1_message_parts.proofs.body.all_say.Given as goal

abbrev pub invariant-loop-value : goal.invariant-loop-value
invariant-loop-value l = list_all (λ w. is_number l.n (length_of w)) (map (λ v. v.now) (drop l.value-index l.values)) ≡ list_all (λ w. is_number l.n (length_of w)) (map (λ v. v.now) l.values)
