-- What a step takes of a stream.
use Rattle.std.proofs.Common.{◌≡◌, ◌≢◌, ◌∙◌, ℕ, ◌+◌, ◌-◌, ◌==◌, nat_le, ◌≤◌, ◌<◌, Bool, true, false, List, [], ◌∷◌, ◌++◌, All, length, take, drop, get_or, length-append, length-take, append-nil, refl, ap, sym, subst, eqb-true, arith, rules}
use Rattle.std.specs.Prelude.{Option, Some, None, IfSome, is_some}
use Rattle.std.specs.Io.KnownBytes.{Keeps, prepend_known}
use Rattle.std.specs.Io.BufRead.{take_through, drop_through, strip_last, ends_with_byte, DropsThrough}
use Rattle.std.proofs.BufReadLemmas.{take_through-append}
use Rattle.curve_lines.specs.declared.format.Format.{Format}
use Rattle.curve_lines.specs.declared.format.Format.TheVariants.{Text, Records, OracleGeneral}
use Rattle.curve_lines.specs.declared.input.Next.TheVariants.{End, Held, TooLong}
use Rattle.curve_words.specs.declared.columns.Columns.{Columns}
use Rattle.curve_lines.specs.declared.format.Rules.{Rules}
use Rattle.curve_lines.specs.declared.step.Step.{Step}
use Rattle.curve_lines.specs.declared.step.Step.TheVariants as step
use Rattle.curve_keys.specs.declared.readings.Readings.{Readings}
use Rattle.curve_keys.specs.Pasts.{Line}
use Rattle.curve_keys.specs.Shares.{AddsLine}
use Rattle.curve_lines.specs.Runs.{is_more, has_request, Feeds}
use Rattle.curve_lines.specs.Formats.{first_line, line_by, line_of, TakesUnit}
use Rattle.curve_lines.specs.Inputs.{IsNext, IsNextBy, IsTooLong, bare}

end_by : (first after : List ℕ → List ℕ) (long : Type 0) (old rest : Option (List ℕ)) (held : List ℕ) → Keeps old (prepend_known held rest)
    → IsNextBy first after long End held rest → IfSome old (λ xs. xs ≡ [])
end_by first after long None rest held kept none = tt
end_by first after long (Some xs) None held kept none = absurd kept
end_by first after long (Some xs) (Some ys) held kept none = sym kept ∙ none

-- nothing was left
pub takes_none : (format : Format) (old rest : Option (List ℕ)) (held : List ℕ) → Keeps old (prepend_known held rest) → IsNext format End held rest
    → TakesUnit format old (prepend_known held rest) [] false
takes_none Text old rest held kept none = end_by (take_through 10) (drop_through 10) (IsTooLong held) old rest held kept none
takes_none Records old rest held kept none = end_by (take 16) (drop 16) ⊥ old rest held kept none
takes_none OracleGeneral old rest held kept none = end_by (take 24) (drop 24) ⊥ old rest held kept none

-- no byte is no line
pub nothing_said : (format : Format) (columns : Option Columns) (overhead : ℕ) (lifetime : Option ℕ) → line_by format columns overhead lifetime [] ≡ None
nothing_said Text None overhead lifetime = refl
nothing_said Text (Some c) overhead lifetime = refl
nothing_said Records columns overhead lifetime = refl
nothing_said OracleGeneral columns overhead lifetime = refl

pub held_by : (first after : List ℕ → List ℕ) (long : Type 0) (old rest : Option (List ℕ)) (held : List ℕ) (n : ℕ) → Keeps old (prepend_known held rest)
    → IsNextBy first after long (Held n) held rest
    → IfSome old (λ xs. (0 < length xs) × (first xs ≡ take n held) × (prepend_known (drop n held) rest ≡ Some (after xs)))
held_by first after long None rest held n kept next = tt
held_by first after long (Some xs) None held n kept next = absurd kept
held_by first after long (Some xs) (Some ys) held n kept (some, fits, line) =
    let same : held ++ ys ≡ xs = kept in
    let total = length-append held ys in
    let long : length (held ++ ys) ≡ length xs = ap (λ (l : List ℕ). length l) same in (
      omega (arith, some, fits, total, long),
      ap first (sym same) ∙ line.0,
      ap (λ (l : List ℕ). Some l) (sym (line.1) ∙ ap after same),
    )

taken_by : (first after bared : List ℕ → List ℕ) (old new : Option (List ℕ)) (part : List ℕ)
    → IfSome old (λ xs. (0 < length xs) × (first xs ≡ part) × (new ≡ Some (after xs)))
    → IfSome old (λ xs. (0 < length xs) × (bared part ≡ bared (first xs)) × (new ≡ Some (after xs)))
taken_by first after bared None new part h = tt
taken_by first after bared (Some xs) new part (some, front, rest) = (some, ap bared (sym front), rest)

-- the first line or record was held
pub takes_held : (format : Format) (old rest : Option (List ℕ)) (held : List ℕ) (n : ℕ) → Keeps old (prepend_known held rest) → IsNext format (Held n) held rest
    → TakesUnit format old (prepend_known (drop n held) rest) (bare format (take n held)) true
takes_held Text old rest held n kept next =
    taken_by (take_through 10) (drop_through 10) (strip_last 10) old (prepend_known (drop n held) rest) (take n held) (held_by (take_through 10) (drop_through 10) (IsTooLong held) old rest held n kept next)
takes_held Records old rest held n kept next =
    taken_by (take 16) (drop 16) (λ l. l) old (prepend_known (drop n held) rest) (take n held) (held_by (take 16) (drop 16) ⊥ old rest held n kept next)
takes_held OracleGeneral old rest held n kept next =
    taken_by (take 24) (drop 24) (λ l. l) old (prepend_known (drop n held) rest) (take n held) (held_by (take 24) (drop 24) ⊥ old rest held n kept next)

pub held_fits : (format : Format) (rest : Option (List ℕ)) (held : List ℕ) (n : ℕ) → IsNext format (Held n) held rest → n ≤ length held
held_fits Text rest held n (some, fits, line) = fits
held_fits Records rest held n (some, fits, line) = fits
held_fits OracleGeneral rest held n (some, fits, line) = fits

-- ---- a line that is too long

stripped : (l : List ℕ) (test : Bool) → ends_with_byte 10 l ≡ test → length l ≤ length (strip_last 10 l) + 1
stripped l true is = rw is (grind (arith, length-take))
stripped l false is = rw is (omega arith)

no_end : (l : List ℕ) → All (λ x. x ≢ 10) l → ends_with_byte 10 l ≡ false
no_end [] none = refl
no_end (x ∷ xs) none = go (get_or (x ∷ xs) (length (x ∷ xs) - 1) 0 == 10) refl
  where
    go : (test : Bool) → get_or (x ∷ xs) (length (x ∷ xs) - 1) 0 == 10 ≡ test → ends_with_byte 10 (x ∷ xs) ≡ false
    go true is = absurd (none (length (x ∷ xs) - 1) 0 (omega arith) (eqb-true _ _ is))
    go false is = search (rules, is)

-- it keeps all that is before more bytes without a line feed
long_kept : (held more : List ℕ) → All (λ x. x ≢ 10) held → length held ≤ length (strip_last 10 (held ++ more))
long_kept held [] none =
    let same : held ++ [] ≡ held = append-nil held in
    rw same (rw (no_end held none) (omega arith))
long_kept held (m ∷ more) none =
    let most = stripped (held ++ m ∷ more) (ends_with_byte 10 (held ++ m ∷ more)) refl in
    let total = length-append held (m ∷ more) in
    omega (arith, most, total)

long_first : (held ys : List ℕ) → All (λ x. x ≢ 10) held → length held ≤ length (first_line (held ++ ys))
long_first held ys none = rw (take_through-append 10 held ys none) (long_kept held (take_through 10 ys) none)

no_line : (columns : Option Columns) (overhead : ℕ) (lifetime : Option ℕ) (line : List ℕ) → 65536 ≤ length line → line_by Text columns overhead lifetime line ≡ None
no_line None overhead lifetime line long =
    let past : nat_le (length line) 65535 ≡ false = search (rules, arith) in
    rw past refl
no_line (Some c) overhead lifetime [] long = refl
no_line (Some c) overhead lifetime (x ∷ xs) long =
    let past : nat_le (length (x ∷ xs)) 65535 ≡ false = search (rules, arith) in
    rw past refl

long_text : (columns : Option Columns) (overhead : ℕ) (lifetime : Option ℕ) (old rest new : Option (List ℕ)) (held : List ℕ) → Keeps old (prepend_known held rest) → IsTooLong held
    → DropsThrough (prepend_known held rest) new 10
    → (part : List ℕ) × TakesUnit Text old new part true × (line_by Text columns overhead lifetime part ≡ None)
long_text columns overhead lifetime None rest new held kept long passed = (held, tt, no_line columns overhead lifetime held (omega (arith, long.0)))
long_text columns overhead lifetime (Some xs) None new held kept long passed = absurd kept
long_text columns overhead lifetime (Some xs) (Some ys) new held kept long passed =
    let same : held ++ ys ≡ xs = kept in
    let total = length-append held ys in
    let size : length (held ++ ys) ≡ length xs = ap (λ (l : List ℕ). length l) same in
    let first : length (first_line (held ++ ys)) ≡ length (first_line xs) = ap (λ (l : List ℕ). length (first_line l)) same in
    let least = long_first held ys long.1 in (
      first_line xs,
      (omega (arith, total, size, long.0), refl, passed ∙ ap (λ (l : List ℕ). Some (drop_through 10 l)) same),
      no_line columns overhead lifetime (first_line xs) (omega (arith, least, first, long.0)),
    )

-- a line that is too long was passed over, and says nothing
pub takes_long : (format : Format) (columns : Option Columns) (overhead : ℕ) (lifetime : Option ℕ) (old rest new : Option (List ℕ)) (held : List ℕ) → Keeps old (prepend_known held rest)
    → IsNext format TooLong held rest → DropsThrough (prepend_known held rest) new 10
    → (part : List ℕ) × TakesUnit format old new part true × (line_by format columns overhead lifetime part ≡ None)
takes_long Text columns overhead lifetime old rest new held kept long passed = long_text columns overhead lifetime old rest new held kept long passed
takes_long Records columns overhead lifetime old rest new held kept long passed = absurd long
takes_long OracleGeneral columns overhead lifetime old rest new held kept long passed = absurd long

pub long_none : (format : Format) (rest : Option (List ℕ)) (held : List ℕ) → IsNext format TooLong held rest → All (λ x. x ≢ 10) held
long_none Text rest held long = long.1
long_none Records rest held long = absurd long
long_none OracleGeneral rest held long = absurd long

-- ---- steps

-- nothing is fed where nothing is said
unfed : (by : Rules) (part : List ℕ) (readings : Readings) → line_of by part ≡ None → AddsLine (line_of by part) readings readings
unfed by part readings none = subst (λ (o : Option Line). AddsLine o readings readings) (sym none) refl

pub feeds_none : (by : Rules) (old rest : Option (List ℕ)) (held : List ℕ) (readings : Readings) → Keeps old (prepend_known held rest) → IsNext by.format End held rest
    → Feeds by old (prepend_known held rest) readings readings step.End
feeds_none by old rest held readings kept next =
    let none = nothing_said by.format by.columns by.overhead by.lifetime in
    ([], takes_none by.format old rest held kept next, sym (ap (λ (o : Option Line). is_some o) none), unfed by [] readings none)

pub feeds_held : (by : Rules) (old rest : Option (List ℕ)) (held left : List ℕ) (n : ℕ) (readings readings' : Readings) (s : Step) → Keeps old (prepend_known held rest)
    → IsNext by.format (Held n) held rest → left ≡ drop n held → is_more s ≡ true → has_request s ≡ is_some (line_of by (bare by.format (take n held)))
    → AddsLine (line_of by (bare by.format (take n held))) readings readings'
    → Feeds by old (prepend_known left rest) readings readings' s
feeds_held by old rest held left n readings readings' s kept next is more told fed =
    let t = takes_held by.format old rest held n kept next in
    let u = subst (λ (l : List ℕ). TakesUnit by.format old (prepend_known l rest) (bare by.format (take n held)) true) (sym is) t in
    (bare by.format (take n held), subst (λ (b : Bool). TakesUnit by.format old (prepend_known left rest) (bare by.format (take n held)) b) (sym more) u, told, fed)

pub feeds_long : (by : Rules) (old rest new : Option (List ℕ)) (held : List ℕ) (readings : Readings) → Keeps old (prepend_known held rest) → IsNext by.format TooLong held rest
    → DropsThrough (prepend_known held rest) new 10 → Feeds by old new readings readings step.TooLong
feeds_long by old rest new held readings kept next passed =
    let (part, takes, none) = takes_long by.format by.columns by.overhead by.lifetime old rest new held kept next passed in
    (part, takes, sym (ap (λ (o : Option Line). is_some o) none), unfed by part readings none)
