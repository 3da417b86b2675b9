-- What a step copies of a stream.
use Rattle.std.proofs.Common.{◌≡◌, ℕ, ◌<◌, ◌&&◌, length, Bool, cond, List, [], Option, Some, None, take, drop, sym, subst}
use Rattle.std.specs.Prelude.{IfSome}
use Rattle.std.specs.Io.BufRead.{take_through, drop_through}
use Rattle.std.specs.Io.KnownBytes.{Appends, Keeps, prepend_known}
use Rattle.std.proofs.KnownBytes.{Appends-nil}
use Rattle.curve_lines.specs.declared.format.Format.{Format}
use Rattle.curve_lines.specs.declared.format.Format.TheVariants.{Text, Records, OracleGeneral}
use Rattle.curve_lines.specs.declared.input.Next.TheVariants.{Held}
use Rattle.curve_lines.specs.declared.step.Step.{Step}
use Rattle.curve_lines.specs.declared.step.Step.TheVariants.{End, TooLong}
use Rattle.curve_lines.specs.Inputs.{IsNext, IsTooLong}
use Rattle.curve_lines.specs.Runs.{has_request}
use Rattle.curve_lines.specs.Copies.{first_whole, Copies}
use Rattle.curve_lines.proofs.StepLemmas.{held_by}

pub copies_none : (format : Format) (left now : Option (List ℕ)) (missed : Bool) → Copies format left End missed now now
copies_none format None now missed = tt
copies_none format (Some xs) now missed = Appends-nil now

pub copies_long : (format : Format) (left now : Option (List ℕ)) (missed : Bool) → Copies format left TooLong missed now now
copies_long format None now missed = tt
copies_long format (Some xs) now missed = Appends-nil now

front_by : (first after : List ℕ → List ℕ) (old new : Option (List ℕ)) (front : List ℕ) → IfSome old (λ xs. (0 < length xs) × (first xs ≡ front) × (new ≡ Some (after xs))) → IfSome old (λ xs. first xs ≡ front)
front_by first after None new front h = tt
front_by first after (Some xs) new front h = h.1

-- what is held of the first line or record is all of it
whole_held : (format : Format) (old rest : Option (List ℕ)) (held : List ℕ) (n : ℕ) → Keeps old (prepend_known held rest) → IsNext format (Held n) held rest → IfSome old (λ xs. first_whole format xs ≡ take n held)
whole_held Text old rest held n kept next =
    front_by (take_through 10) (drop_through 10) old (prepend_known (drop n held) rest) (take n held) (held_by (take_through 10) (drop_through 10) (IsTooLong held) old rest held n kept next)
whole_held Records old rest held n kept next = front_by (take 16) (drop 16) old (prepend_known (drop n held) rest) (take n held) (held_by (take 16) (drop 16) ⊥ old rest held n kept next)
whole_held OracleGeneral old rest held n kept next = front_by (take 24) (drop 24) old (prepend_known (drop n held) rest) (take n held) (held_by (take 24) (drop 24) ⊥ old rest held n kept next)

copies_by : (format : Format) (old now now' : Option (List ℕ)) (front : List ℕ) (step : Step) (missed : Bool) → IfSome old (λ xs. first_whole format xs ≡ front)
    → Appends now now' (cond (has_request step && missed) front []) → Copies format old step missed now now'
copies_by format None now now' front step missed h a = tt
copies_by format (Some xs) now now' front step missed h a = subst (λ (l : List ℕ). Appends now now' (cond (has_request step && missed) l [])) (sym h) a

pub copies_held : (format : Format) (old rest now now' : Option (List ℕ)) (held : List ℕ) (n : ℕ) (step : Step) (missed : Bool) → Keeps old (prepend_known held rest) → IsNext format (Held n) held rest
    → Appends now now' (cond (has_request step && missed) (take n held) []) → Copies format old step missed now now'
copies_held format old rest now now' held n step missed kept next a = copies_by format old now now' (take n held) step missed (whole_held format old rest held n kept next) a
