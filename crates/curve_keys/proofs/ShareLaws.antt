-- A line by the part of its key.
use Rattle.std.proofs.Common.{◌≡◌, ℕ, Bool, true, false, cond, List, Option, Some, None, refl, ap, sym, ◌∙◌, subst}
use Rattle.std.specs.Bool.{MatchBool}
use Rattle.std.specs.Prelude.{Result, Ok, Err, OnErr}
use Rattle.curve_sizes.specs.declared.when.When.{When}
use Rattle.curve_keys.specs.Keys.{AreSameLimits}
use Rattle.curve_keys.specs.Parts.{is_in, kept}
use Rattle.curve_keys.specs.Pasts.{Line, Past, IsRead, onto, line_for, is_said}
use Rattle.curve_keys.specs.Shares.{IsReady, AddsTo, AddsSome, AddsLine}
use Rattle.curve_keys.specs.declared.part.Part.{Part}
use Rattle.curve_keys.specs.declared.said.Said.{Said}
use Rattle.curve_keys.specs.declared.said.Said.TheVariants.{Removal, Weight, Known, Told, Other, Wrong}
use Rattle.curve_keys.specs.declared.readings.PartReading.{PartReading}
use Rattle.curve_keys.specs.declared.readings.Readings.{Readings}

true-false : true ≡ false → ⊥
true-false e = subst (λ (b : Bool). MatchBool b (⊥ → ⊥) ⊥) e (λ x. x)

said-line : (key : List ℕ) (s : Said) (when : When) (times : ℕ) → is_said s ≡ true → line_for key s when times ≡ Some (record { key = key; said = s; when = when; times = times })
said-line key Removal when times e = refl
said-line key (Weight w) when times e = refl
said-line key Known when times e = refl
said-line key Told when times e = refl
said-line key Other when times e = refl
said-line key Wrong when times e = absurd (true-false (sym e))

unsaid-line : (key : List ℕ) (s : Said) (when : When) (times : ℕ) → is_said s ≡ false → line_for key s when times ≡ None
unsaid-line key Removal when times e = absurd (true-false e)
unsaid-line key (Weight w) when times e = absurd (true-false e)
unsaid-line key Known when times e = absurd (true-false e)
unsaid-line key Told when times e = absurd (true-false e)
unsaid-line key Other when times e = absurd (true-false e)
unsaid-line key Wrong when times e = refl

kept-in : (part : Option Part) (l : Line) (b : Bool) → is_in part l.key ≡ b → kept part (Some l) ≡ cond b (Some l) None
kept-in part l b e = ap (λ (x : Bool). cond x (Some l) None) e

-- a part that doesn't have the key stays as it is
pub adds-other : (l : Line) (r : PartReading) → is_in r.part l.key ≡ false → AddsTo l r r
adds-other l r e = record {
  part_is = refl;
  limits = (refl, refl, refl, refl);
  read = λ past h. subst (λ (o : Option Line). IsRead r.reading (onto o past)) (sym (kept-in r.part l false e)) h;
}

-- one that has it was fed the line
pub adds-own : (l : Line) (o n : PartReading) → n.part ≡ o.part → AreSameLimits o.reading.curve n.reading.curve → is_in o.part l.key ≡ true → is_said l.said ≡ true
    → ((past : Past) → IsRead o.reading past → IsRead n.reading (onto (line_for l.key l.said l.when l.times) past)) → AddsTo l o n
adds-own l o n part limits e s f = record {
  part_is = part;
  limits = limits;
  read = λ past h. subst (λ (x : Option Line). IsRead n.reading (onto x past)) (said-line l.key l.said l.when l.times s ∙ sym (kept-in o.part l true e)) (f past h);
}

pub adds-unsaid : (key : List ℕ) (s : Said) (when : When) (times : ℕ) (r : Readings) → is_said s ≡ false → AddsLine (line_for key s when times) r r
adds-unsaid key s when times r e = subst (λ (o : Option Line). AddsLine o r r) (sym (unsaid-line key s when times e)) refl

pub adds-said : (key : List ℕ) (s : Said) (when : When) (times : ℕ) (old new : Readings) → is_said s ≡ true → AddsSome (record { key = key; said = s; when = when; times = times }) old new
    → AddsLine (line_for key s when times) old new
adds-said key s when times old new e h = subst (λ (o : Option Line). AddsLine o old new) (sym (said-line key s when times e)) h

-- ---- a line that isn't counted

pub on_err : {T E P : Type 0} (r : Result T E) → P → OnErr r P
on_err (Ok x) p = tt
on_err (Err e) p = p

-- nothing more is read of a broken curve
pub broken-unready : (r : PartReading) → r.reading.curve.is_broken ≡ true → IsReady r → ⊥
broken-unready r e h = true-false (sym e ∙ h.1.fed.whole)
