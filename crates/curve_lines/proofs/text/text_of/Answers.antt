use Rattle.std.proofs.Common.{◌≡◌, ◌∙◌, ◌++◌, ℕ, List, [], ap}
use Rattle.std.proofs.lemmas.List.{append_assoc}
use Rattle.curve_lines.specs.Texts.{head_text, caches_of, rows_text, requests_text, lines_text, part_text, kind_text, curve_text}
use Rattle.curve_lines.proofs.text.text_of.Goals as goal

onto : (t u v w : List ℕ) → t ≡ u ++ v → v ≡ w → t ≡ u ++ w
onto t u v w e f = e ∙ ap (λ (x : List ℕ). u ++ x) f

joined : (t0 t1 t2 t3 t4 t5 t6 a r q l p k : List ℕ) → t0 ≡ [] → t1 ≡ t0 ++ a → t2 ≡ t1 ++ r → t3 ≡ t2 ++ q → t4 ≡ t3 ++ l → t5 ≡ t4 ++ p → t6 ≡ t5 ++ k → t6 ≡ a ++ (r ++ ((q ++ (l ++ p)) ++ k))
joined t0 t1 t2 t3 t4 t5 t6 a r q l p k e0 e1 e2 e3 e4 e5 e6 =
    let one : t1 ≡ a = e1 ∙ ap (λ (x : List ℕ). x ++ a) e0 in
    let two : t2 ≡ a ++ r = e2 ∙ ap (λ (x : List ℕ). x ++ r) one in
    let three : t3 ≡ a ++ r ++ q = e3 ∙ ap (λ (x : List ℕ). x ++ q) two in
    let four : t4 ≡ a ++ r ++ q ++ l = e4 ∙ ap (λ (x : List ℕ). x ++ l) three in
    let five : t5 ≡ a ++ r ++ q ++ l ++ p = e5 ∙ ap (λ (x : List ℕ). x ++ p) four in
    let totals : t5 ≡ a ++ r ++ (q ++ (l ++ p)) = five ∙ append_assoc (a ++ r ++ q) l p ∙ append_assoc (a ++ r) q (l ++ p) in
    let six : t6 ≡ a ++ r ++ (q ++ (l ++ p)) ++ k = e6 ∙ ap (λ (x : List ℕ). x ++ k) totals in
    six ∙ append_assoc (a ++ r) (q ++ (l ++ p)) k ∙ append_assoc a r ((q ++ (l ++ p)) ++ k)

pub returns : goal.returns
unfolding curve_text
returns c =
    let t = c.args.totals in
    let by = c.args.rules.now in
    let part = c.args.part in
    let rows = c.in_ok-add_rows.ensures ∙ ap (λ n. c.add.new.text.items ++ rows_text n t.asks t.bytes c.args.rows.now c.args.owns.now) c.caches_of.ensures in
    joined c.new-text.result.items c.add.new.text.items c.add_rows.new.text.items c.add-2.new.text.items c.add-3.new.text.items c.add-4.new.text.items c.add-5.new.text.items
    head_text (rows_text (caches_of part) t.asks t.bytes c.args.rows.now c.args.owns.now) (requests_text t c.args.entries) (lines_text by.is_sample t c.args.lines) (part_text by c.args.lines part) (kind_text part t.odd)
    c.new-text.ensures.items c.in_ok-add.ensures rows
    (onto c.add-2.new.text.items c.add_rows.new.text.items c.as_str.result.now (requests_text t c.args.entries) c.in_ok-add-2.ensures (c.as_str.ensures.value ∙ c.in_ok-requests_line.ensures))
    (onto c.add-3.new.text.items c.add-2.new.text.items c.as_str-2.result.now (lines_text by.is_sample t c.args.lines) c.in_ok-add-3.ensures (c.as_str-2.ensures.value ∙ c.in_ok-lines_line.ensures))
    (onto c.add-4.new.text.items c.add-3.new.text.items c.as_str-3.result.now (part_text by c.args.lines part) c.in_ok-add-4.ensures (c.as_str-3.ensures.value ∙ c.in_ok-part_line.ensures))
    (onto c.add-5.new.text.items c.add-4.new.text.items c.as_str-4.result.now (kind_text part t.odd) c.in_ok-add-5.ensures (c.as_str-4.ensures.value ∙ c.in_ok-kind_line.ensures))
