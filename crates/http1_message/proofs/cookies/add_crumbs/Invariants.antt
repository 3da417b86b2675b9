use Rattle.std.proofs.Common.{◌≡◌, ◌+◌, map, length}
use Rattle.std.specs.Prelude.{filter, codes}
use Rattle.std.specs.List.{fold}
use Rattle.std.specs.Option.{option_map_or}
use Rattle.http1_message.specs.Cookies.{is_kept, joined_to, crumbs_of}
use Rattle.http1_message.proofs.cookies.add_crumbs.Given as goal

abbrev pub invariant-loop-left : goal.invariant-loop-left
invariant-loop-left l =
    option_map_or (λ t. fold (joined_to (codes "; ")) l.text.items (filter (is_kept (map (λ n. n.now) l.names)) (crumbs_of t.now))) l.left l.text.items
    ≡ fold (joined_to (codes "; ")) l.fn.text.items (filter (is_kept (map (λ n. n.now) l.names)) (crumbs_of l.value))

abbrev pub decreases-loop-left : goal.decreases-loop-left
decreases-loop-left l = option_map_or (λ t. length t.now + 1) l.left 0
