use Rattle.std.proofs.Common.{◌≡◌, ◌++◌, ◌∙◌, ap, ap₂, sym, rules, length, List, ℕ}
use Rattle.head_parse.specs.Parse.{announced, limited, limited_after}
use Rattle.head_parse.proofs.ParseLaws.{limited-parts}
use Rattle.head_parse.proofs.collected.Collected.new.Goals as goal

pub returns : goal.returns
returns c =
    let first : List ℕ = c.args.first.items in
    let len : c.len.result ≡ length c.cut-copied.result.items = search rules in
    let copied : c.cut-copied.result.items ≡ limited (announced c.args.header) first = rw c.announced-length.ensures at c.cut-copied.ensures in
    let last : c.cut_after-last.result ≡ limited_after (announced c.args.header) (length (limited (announced c.args.header) first)) c.args.second =
    rw (c.announced-length.ensures, len, copied) at c.cut_after-last.ensures in
    ap (λ (x : List ℕ). (c.args.header, x)) (ap₂ (λ (x y : List ℕ). x ++ y) copied last ∙ sym (limited-parts (announced c.args.header) first c.args.second))
