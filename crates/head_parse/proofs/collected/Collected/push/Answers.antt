use Rattle.std.proofs.Common.{◌≡◌, ◌++◌, ◌∙◌, ap, ap₂, sym, rules, length, List, ℕ}
use Rattle.head_parse.specs.Parse.{announced, limited, limited_after}
use Rattle.head_parse.proofs.ParseLaws.{limited-add}
use Rattle.head_parse.proofs.collected.Collected.push.Goals as goal

pub returns-clause-ok : goal.returns-clause-ok
returns-clause-ok c =
    let header = c.self.inside.header in
    let body : List ℕ = c.self.inside.copied.items ++ c.self.inside.last in
    let kept : c.extend_from_slice.new.self.items ≡ body = search rules in
    let len : c.len.result ≡ length body = rw (← c.self.view_is) at c.len.ensures in
    let piece : c.cut_after-piece.result ≡ limited_after (announced header) (length body) c.args.piece = rw (c.self.invariant.0, len) at c.cut_after-piece.ensures in
    let whole : limited (announced header) body ≡ body = rw c.self.invariant.0 at c.self.invariant.1 in
    rw (← c.self.view_is) (ap (λ (x : List ℕ). (header, x)) (ap₂ (λ (x y : List ℕ). x ++ y) kept piece ∙ sym (limited-add (announced header) body c.args.piece whole)))
