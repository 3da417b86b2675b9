use Rattle.std.proofs.Common.{◌≡◌, ℕ, ◌-◌, ◌<◌, List, [], ◌∷◌, false, length, get_or, reverse, refl, sym, ap, ◌∙◌, arith}
use Rattle.std.proofs.lemmas.Grind.{common_steps}
use Rattle.std.proofs.lemmas.List.{reverse-reverse, length-reverse}
use Rattle.rules_fields.specs.Texts.{is_blank, skip_blanks, trimmed}
use Rattle.rules_quick.proofs.lines.has_blank_end.Goals as goal

skip_none : (text : List ℕ) → 0 < length text → is_blank (get_or text 0 0) ≡ false → skip_blanks text ≡ text
skip_none [] lt e = absurd (omega arith)
skip_none (b ∷ text) lt e = rw e refl

last_first : (text : List ℕ) → 0 < length text → get_or (reverse text) 0 0 ≡ get_or text (length text - 1) 0
last_first text lt = grind (arith, common_steps)

same : (text : List ℕ) → 0 < length text → is_blank (get_or text 0 0) ≡ false → is_blank (get_or text (length text - 1) 0) ≡ false → trimmed text ≡ text
unfolding trimmed
same text lt first last =
    ap (λ (x : List ℕ). reverse (skip_blanks (reverse x))) (skip_none text lt first)
    ∙ ap reverse (skip_none (reverse text) (omega (arith, length-reverse text)) (ap is_blank (last_first text lt) ∙ last)) ∙ reverse-reverse text

pub returns-in-len1 : goal.returns-in-len1
returns-in-len1 c = λ e. let b = sym c.is_blank.ensures ∙ e in same c.args.value.now (omega arith) b (ap (λ (n : ℕ). is_blank (get_or c.args.value.now n 0)) (omega arith) ∙ b)

pub returns-else-is_blank : goal.returns-else-is_blank
returns-else-is_blank c = λ e. same c.args.value.now (omega arith) (sym c.is_blank-in-len2-up.ensures ∙ c.if-is_blank.false) (sym c.is_blank-else-is_blank.ensures ∙ e)
