-- A CR or LF that stands alone, and the first CR LF: what is neither is passed over.
use Rattle.std.proofs.Common.{◌≡◌, ℕ, zero, suc, ◌+◌, ◌<◌, ◌≤◌, ◌==◌, ◌||◌, ◌&&◌, cond, Bool, true, false, List, [], ◌∷◌, take, drop, length, get_or, ◌-◌, refl, sym, ap, ◌∙◌, arith}
use Rattle.std.specs.Prelude.{Some, None}
use Rattle.std.specs.Option.{option_map_or}
use Rattle.std.proofs.lemmas.Bool.{eqb-true}
use Rattle.std.proofs.lemmas.Grind.{common_steps}
use Rattle.std.proofs.lemmas.List.{take_all}
use Rattle.http1_message_parts.specs.Lines.{behind_end, has_bare_end, has_bare_cr}
use Rattle.http1_message_parts.specs.Start.{begins_lf, start_len}

pub not_true : (b : Bool) → ¬ (b ≡ true) → b ≡ false
not_true true h = absurd (h refl)
not_true false h = refl

-- a byte that is neither is passed over
abbrev is_end : ℕ → Bool
is_end b = b == 13 || b == 10

passed : (b : ℕ) (text : List ℕ) → is_end b ≡ false → has_bare_end false (b ∷ text) ≡ has_bare_end false text
passed b text h = go (b == 13) (b == 10) refl refl h
  where
    go : (r l : Bool) → (b == 13) ≡ r → (b == 10) ≡ l → (r || l) ≡ false → has_bare_end false (b ∷ text) ≡ has_bare_end false text
    go true l e k j = cc
    go false true e k j = cc
    go false false e k j = rw (e, k) refl

all_passed : (text : List ℕ) (i : ℕ) → i ≤ length text → ((j : ℕ) → j < i → is_end (get_or text j 0) ≡ false) → has_bare_end false text ≡ has_bare_end false (drop i text)
all_passed text zero le h = refl
all_passed [] (suc i) le h = absurd (omega arith)
all_passed (b ∷ text) (suc i) le h = passed b text (h 0 (omega arith)) ∙ all_passed text i (omega arith) (λ j lt. h (suc j) (omega arith))

-- at a CR or LF it goes on behind a CR LF, and else there is one alone
at_end : (text : List ℕ) → 0 < length text → is_end (get_or text 0 0) ≡ true → has_bare_end false text ≡ option_map_or (λ rest. has_bare_end false rest) (behind_end text) true
at_end [] lt h = absurd (omega arith)
at_end (b ∷ []) lt h = go (b == 13) (b == 10) refl refl h
  where
    go : (r l : Bool) → (b == 13) ≡ r → (b == 10) ≡ l → (r || l) ≡ true → has_bare_end false (b ∷ []) ≡ true
    go r true e k j = rw k refl
    go true false e k j = rw (k, e) refl
    go false false e k j = cc
at_end (b ∷ c ∷ text) lt h = go (b == 13) (b == 10) (c == 10) refl refl refl h
  where
    go : (r l m : Bool) → (b == 13) ≡ r → (b == 10) ≡ l → (c == 10) ≡ m → (r || l) ≡ true
        → has_bare_end false (b ∷ c ∷ text) ≡ option_map_or (λ rest. has_bare_end false rest) (cond (r && m) (Some text) None) true
    go true true m e k f j = let r = eqb-true b 13 e in let l = eqb-true b 10 k in absurd (omega arith)
    go true false true e k f j = rw (k, e, f) refl
    go true false false e k f j = rw (k, e, f) refl
    go false true m e k f j = rw k refl
    go false false m e k f j = cc

there : (text : List ℕ) (i : ℕ) → i < length text → 0 < length (drop i text)
there text i lt = grind (arith, common_steps)

first_there : (text : List ℕ) (i : ℕ) → i < length text → get_or (drop i text) 0 0 ≡ get_or text i 0
first_there text i lt = grind (arith, common_steps)

pub rest_there : (text : List ℕ) (i : ℕ) → i ≤ length text → drop i text ≡ take (length text - i) (drop i text)
rest_there text i le = sym (take_all (length text - i) (drop i text) (grind (arith, common_steps)))

pub bare_at : (text : List ℕ) (i : ℕ) → i < length text → ((j : ℕ) → j < i → is_end (get_or text j 0) ≡ false) → is_end (get_or text i 0) ≡ true
    → has_bare_end false text ≡ option_map_or (λ rest. has_bare_end false rest) (behind_end (take (length text - i) (drop i text))) true
bare_at text i lt h e =
    all_passed text i (omega arith) h
    ∙ at_end (drop i text) (there text i lt) (ap is_end (first_there text i lt) ∙ e)
    ∙ ap (λ (t : List ℕ). option_map_or (λ rest. has_bare_end false rest) (behind_end t) true) (rest_there text i (omega arith))

pub none_bare : (text : List ℕ) → ((j : ℕ) → j < length text → is_end (get_or text j 0) ≡ false) → has_bare_end false text ≡ false
none_bare [] h = refl
none_bare (b ∷ text) h = passed b text (h 0 (omega arith)) ∙ none_bare text (λ j lt. h (suc j) (omega arith))

-- likewise of a CR without a LF
kept : (b : ℕ) (text : List ℕ) → (b == 13) ≡ false → has_bare_cr false (b ∷ text) ≡ has_bare_cr false text
kept b text h = go (b == 10) refl
  where
    go : (l : Bool) → (b == 10) ≡ l → has_bare_cr false (b ∷ text) ≡ has_bare_cr false text
    go true k = rw k refl
    go false k = rw (k, h) refl

all_kept : (text : List ℕ) (i : ℕ) → i ≤ length text → ((j : ℕ) → j < i → (get_or text j 0 == 13) ≡ false) → has_bare_cr false text ≡ has_bare_cr false (drop i text)
all_kept text zero le h = refl
all_kept [] (suc i) le h = absurd (omega arith)
all_kept (b ∷ text) (suc i) le h = kept b text (h 0 (omega arith)) ∙ all_kept text i (omega arith) (λ j lt. h (suc j) (omega arith))

at_cr : (text : List ℕ) → 0 < length text → (get_or text 0 0 == 13) ≡ true → has_bare_cr false text ≡ option_map_or (λ rest. has_bare_cr false rest) (behind_end text) true
at_cr [] lt h = absurd (omega arith)
at_cr (b ∷ []) lt h = let e = eqb-true b 13 h in rw e refl
at_cr (b ∷ c ∷ text) lt h = let e = eqb-true b 13 h in rw e (go (c == 10) refl)
  where
    go : (m : Bool) → (c == 10) ≡ m → has_bare_cr false (13 ∷ c ∷ text) ≡ option_map_or (λ rest. has_bare_cr false rest) (cond m (Some text) None) true
    go true f = rw f refl
    go false f = rw f refl

pub cr_at : (text : List ℕ) (i : ℕ) → i < length text → ((j : ℕ) → j < i → (get_or text j 0 == 13) ≡ false) → (get_or text i 0 == 13) ≡ true
    → has_bare_cr false text ≡ option_map_or (λ rest. has_bare_cr false rest) (behind_end (take (length text - i) (drop i text))) true
cr_at text i lt h e =
    all_kept text i (omega arith) h
    ∙ at_cr (drop i text) (there text i lt) (ap (λ (b : ℕ). b == 13) (first_there text i lt) ∙ e)
    ∙ ap (λ (t : List ℕ). option_map_or (λ rest. has_bare_cr false rest) (behind_end t) true) (rest_there text i (omega arith))

pub none_cr : (text : List ℕ) → ((j : ℕ) → j < length text → (get_or text j 0 == 13) ≡ false) → has_bare_cr false text ≡ false
none_cr [] h = refl
none_cr (b ∷ text) h = kept b text (h 0 (omega arith)) ∙ none_cr text (λ j lt. h (suc j) (omega arith))

-- likewise of where the first CR LF stands
starts_one : (text : List ℕ) (n : ℕ) → n < length text → (get_or text n 0 == 13) ≡ false → n + start_len (drop n text) ≡ n + 1 + start_len (drop (n + 1) text)
starts_one text n lt cr = grind (arith, common_steps)

pub starts_all : (text : List ℕ) (n k : ℕ) → n + k ≤ length text → ((j : ℕ) → j < k → (get_or text (n + j) 0 == 13) ≡ false) → n + start_len (drop n text) ≡ n + k + start_len (drop (n + k) text)
starts_all text n zero le cr = ap (λ m. m + start_len (drop m text)) (omega arith)
starts_all text n (suc k) le cr =
    starts_all text n k (omega arith) (λ j lt. cr j (omega arith)) ∙ starts_one text (n + k) (omega arith) (cr k (omega arith)) ∙ ap (λ m. m + start_len (drop m text)) (omega arith)

pub starts_here : (text : List ℕ) (n : ℕ) → n < length text → (get_or text n 0 == 13) ≡ true → begins_lf (drop (n + 1) text) ≡ true → n + start_len (drop n text) ≡ n
starts_here text n lt cr lf = grind (arith, common_steps)

pub starts_later : (text : List ℕ) (n : ℕ) → n < length text → (get_or text n 0 == 13) ≡ true → begins_lf (drop (n + 1) text) ≡ false → n + start_len (drop n text) ≡ n + 1 + start_len (drop (n + 1) text)
starts_later text n lt cr lf = grind (arith, common_steps)

pub nothing_starts : (text : List ℕ) → start_len (drop (length text) text) ≡ 0
nothing_starts text = grind (arith, common_steps)
