-- What comes next among the held bytes.
use Rattle.std.proofs.Common.{◌≡◌, ◌≢◌, ◌∙◌, ℕ, zero, suc, ◌+◌, ◌-◌, ◌≤◌, ◌<◌, List, [], ◌∷◌, ◌++◌, All, length, take, drop, slice_index, get_or, get_or-drop, take_all, take-append-drop, length-drop, refl, ap, sym, subst, append_assoc, append-nil, eq-eqb, eqb-true, arith}
use Rattle.std.specs.Prelude.{Option, Some, None}
use Rattle.std.specs.Io.KnownBytes.{Consumes, Keeps, IsAtEnd, prepend_known}
use Rattle.std.specs.Io.BufRead.{take_through, drop_through}
use Rattle.std.proofs.lemmas.List.Elements.{All-more}
use Rattle.std.proofs.lemmas.List.{take_more, take-append-le, drop-append-le, drop_all}
use Rattle.std.proofs.KnownBytes.{Keeps-trans}
use Rattle.std.proofs.BufReadLemmas.{take_through-append, drop_through-append}
use Rattle.memchr.specs.Find.{IsFirstByte, is_byte}
use Rattle.curve_lines.specs.declared.format.Format.TheVariants.{Text}
use Rattle.curve_lines.specs.declared.input.Next.{Next}
use Rattle.curve_lines.specs.declared.input.Next.TheVariants.{End, Held}
use Rattle.curve_lines.specs.Inputs.{IsFirstOf, IsLineOf, IsNextBy, IsNext, IsTooLong}

no_feed : (held : List ℕ) (searched n : ℕ) → All (λ x. x ≢ 10) (take searched held) → ((j : ℕ) → j < n → slice_index (drop searched held) j ≢ 10)
    → searched + n ≤ length held → All (λ x. x ≢ 10) (take (searched + n) held)
no_feed held searched zero none other within = subst (λ k. All (λ x. x ≢ 10) (take k held)) (omega arith) none
no_feed held searched (suc n) none other within =
    let here : get_or held (searched + n) 0 ≢ 10 = λ e. other n (omega arith) (get_or-drop searched held n 0 ∙ e) in
    subst (λ k. All (λ x. x ≢ 10) (take k held)) (omega arith)
    (All-more (λ x. x ≢ 10) held (searched + n) 0 (omega arith) (no_feed held searched n none (λ j below. other j (omega arith)) (omega arith)) here)

pub line_found : (held : List ℕ) (searched at : ℕ) → searched ≤ length held → All (λ x. x ≢ 10) (take searched held)
    → IsFirstByte (is_byte 10) (drop searched held) (Some at) → IsLineOf (searched + at + 1) held
line_found held searched at within none first =
    let past : at < length (drop searched held) = first.0.high in
    let long : length (drop searched held) ≡ length held - searched = length-drop searched held in
    let below : searched + at < length held = omega arith in
    let front : List ℕ = take (searched + at) held in
    let clear : All (λ x. x ≢ 10) front = no_feed held searched at none (λ j less e. first.0.before j (omega arith) less (eq-eqb _ _ e)) (omega arith) in
    let feed : get_or held (searched + at) 0 ≡ 10 = sym (get_or-drop searched held at 0) ∙ eqb-true _ _ first.1 in
    let taken : take (searched + at + 1) held ≡ front ++ 10 ∷ [] = take_more held (searched + at) 0 below ∙ ap (λ x. front ++ x ∷ []) feed in (
      omega arith,
      λ rest.
          let later : List ℕ = drop (searched + at + 1) held ++ rest in
          let whole : held ++ rest ≡ front ++ 10 ∷ later =
          ap (λ l. l ++ rest) (sym (take-append-drop (searched + at + 1) held)) ∙ (append_assoc (take (searched + at + 1) held) (drop (searched + at + 1) held) rest
          ∙ (ap (λ l. l ++ later) taken ∙ append_assoc front (10 ∷ []) later)) in (
            ap (take_through 10) whole ∙ (take_through-append 10 front (10 ∷ later) clear ∙ sym taken),
            ap (drop_through 10) whole ∙ drop_through-append 10 front (10 ∷ later) clear,
          ),
    )

pub no_line_found : (held : List ℕ) (searched : ℕ) → searched ≤ length held → All (λ x. x ≢ 10) (take searched held)
    → IsFirstByte (is_byte 10) (drop searched held) None → All (λ x. x ≢ 10) held
no_line_found held searched within none nowhere =
    let long : length (drop searched held) ≡ length held - searched = length-drop searched held in
    subst (All (λ x. x ≢ 10)) (take_all (searched + length (drop searched held)) held (omega arith))
    (no_feed held searched (length (drop searched held)) none (λ j less e. nowhere j (omega arith) less (eq-eqb _ _ e)) (omega arith))

pub prepend_more : (before after : Option (List ℕ)) (held bytes : List ℕ) → Consumes before after bytes → Keeps (prepend_known held before) (prepend_known (held ++ bytes) after)
prepend_more None after held bytes moved = tt
prepend_more (Some xs) None held bytes moved = absurd moved
prepend_more (Some xs) (Some ys) held bytes moved = append_assoc held bytes ys ∙ ap (λ l. held ++ l) (sym moved)

-- what one read adds
pub kept_more : (first before after : Option (List ℕ)) (held new bytes : List ℕ) → Keeps first (prepend_known held before) → new ≡ held ++ bytes
    → Consumes before after bytes → Keeps first (prepend_known new after)
kept_more first before after held new bytes kept more moved =
    subst (λ l. Keeps first (prepend_known l after)) (sym more) (Keeps-trans _ _ _ kept (prepend_more before after held bytes moved))

pub still_none : (held new bytes : List ℕ) → new ≡ held ++ bytes → All (λ x. x ≢ 10) held → All (λ x. x ≢ 10) (take (length held) new)
still_none held new bytes more none =
    subst (All (λ x. x ≢ 10)) (sym (take_all (length held) held (omega arith)) ∙ (sym (take-append-le (length held) held bytes (omega arith)) ∙ ap (take (length held)) (sym more))) none

last_line_at : (held rest : List ℕ) → All (λ x. x ≢ 10) held → rest ≡ [] → IsFirstOf (take_through 10) (drop_through 10) (length held) held rest
last_line_at held rest none end =
    let all : held ++ rest ≡ held ++ [] = ap (λ l. held ++ l) end in (
      ap (take_through 10) all ∙ (take_through-append 10 held [] none ∙ (append-nil held ∙ sym (take_all (length held) held (omega arith)))),
      ap (drop_through 10) all ∙ (drop_through-append 10 held [] none ∙ sym (ap (λ l. l ++ rest) (drop_all (length held) held (omega arith)) ∙ end)),
    )

pub nothing_more : (held new bytes : List ℕ) → new ≡ held ++ bytes → length bytes ≡ 0 → new ≡ held
nothing_more held new [] more empty = more ∙ append-nil held
nothing_more held new (b ∷ bs) more empty = let bad : suc (length bs) ≡ 0 = empty in absurd (omega arith)

-- at the end of the stream what is held comes last
last_any : (first after : List ℕ → List ℕ) (long : Type 0) (held : List ℕ) (rest : Option (List ℕ)) (next : Next) → IsAtEnd rest
    → ((ys : List ℕ) → ys ≡ [] → IsFirstOf first after (length held) held ys)
    → (length held ≡ 0 → next ≡ End) → (length held ≢ 0 → next ≡ Held (length held)) → IsNextBy first after long next held rest
last_any first after long [] None next end f none some = subst (λ (n : Next). IsNextBy first after long n [] None) (sym (none refl)) tt
last_any first after long [] (Some ys) next end f none some = subst (λ (n : Next). IsNextBy first after long n [] (Some ys)) (sym (none refl)) end
last_any first after long (x ∷ xs) None next end f none some = subst (λ (n : Next). IsNextBy first after long n (x ∷ xs) None) (sym (some (λ e. omega (arith, e)))) (omega arith, omega arith, tt)
last_any first after long (x ∷ xs) (Some ys) next end f none some = subst (λ (n : Next). IsNextBy first after long n (x ∷ xs) (Some ys)) (sym (some (λ e. omega (arith, e)))) (omega arith, omega arith, f ys end)

pub last_line : (held new bytes : List ℕ) (rest : Option (List ℕ)) (next : Next) → All (λ x. x ≢ 10) held → new ≡ held ++ bytes → length bytes ≡ 0 → IsAtEnd rest
    → (length held ≡ 0 → next ≡ End) → (length held ≢ 0 → next ≡ Held (length held)) → IsNext Text next new rest
last_line held new bytes rest next none more empty end nil some =
    subst (λ (l : List ℕ). IsNext Text next l rest) (sym (nothing_more held new bytes more empty))
    (last_any (take_through 10) (drop_through 10) (IsTooLong held) held rest next end (λ ys e. last_line_at held ys none e) nil some)

pub held_line : (rest : Option (List ℕ)) (n : ℕ) (held : List ℕ) → 0 < n → IsLineOf n held → IsNext Text (Held n) held rest
held_line None n held some line = (some, line.0, tt)
held_line (Some ys) n held some line = (some, line.0, line.1 ys)

-- ---- records

last_record_at : (size : ℕ) (held ys : List ℕ) → length held ≤ size → ys ≡ [] → IsFirstOf (take size) (drop size) (length held) held ys
last_record_at size held ys fits end =
    let all : held ++ ys ≡ held = ap (λ l. held ++ l) end ∙ append-nil held in (
      ap (take size) all ∙ (take_all size held fits ∙ sym (take_all (length held) held (omega arith))),
      ap (drop size) all ∙ (drop_all size held fits ∙ sym (ap (λ l. l ++ ys) (drop_all (length held) held (omega arith)) ∙ end)),
    )

pub last_record : (size : ℕ) (held new bytes : List ℕ) (rest : Option (List ℕ)) (next : Next) → length held < size → new ≡ held ++ bytes → length bytes ≡ 0 → IsAtEnd rest
    → (length held ≡ 0 → next ≡ End) → (length held ≢ 0 → next ≡ Held (length held)) → IsNextBy (take size) (drop size) ⊥ next new rest
last_record size held new bytes rest next less more empty end nil some =
    subst (λ (l : List ℕ). IsNextBy (take size) (drop size) ⊥ next l rest) (sym (nothing_more held new bytes more empty))
    (last_any (take size) (drop size) ⊥ held rest next end (λ ys e. last_record_at size held ys (omega (arith, less)) e) nil some)

pub held_record : (rest : Option (List ℕ)) (size : ℕ) (held : List ℕ) → 0 < size → size ≤ length held → IsNextBy (take size) (drop size) ⊥ (Held size) held rest
held_record None size held some fits = (some, fits, tt)
held_record (Some ys) size held some fits = (some, fits, (take-append-le size held ys fits, drop-append-le size held ys fits))
