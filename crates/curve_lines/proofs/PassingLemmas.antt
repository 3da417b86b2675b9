-- A line is passed over to its end.
use Rattle.std.proofs.Common.{◌≡◌, ◌≢◌, ◌∙◌, ℕ, arith, List, [], ◌++◌, All, length, drop, refl, ap, sym, subst}
use Rattle.std.specs.Prelude.{Option, Some, None, IfSome, MatchOption}
use Rattle.std.specs.Io.KnownBytes.{Consumes, Keeps, IsAtEnd, prepend_known}
use Rattle.std.specs.Io.BufRead.{drop_through, DropsThrough}
use Rattle.std.proofs.BufReadLemmas.{drop_through-append}
use Rattle.curve_lines.specs.Inputs.{IsLineOf}
use Rattle.std.proofs.lemmas.List.{drop_all}
use Rattle.curve_lines.proofs.InputLemmas.{prepend_more, nothing_more}

-- what is left has the lines after the first one of what there was
abbrev pub IsPassing : Option (List ℕ) → Option (List ℕ) → Type 0
IsPassing first now = IfSome first (λ xs. (ys : List ℕ) × (now ≡ Some ys) × (drop_through 10 xs ≡ drop_through 10 ys))

-- the bytes that are known are these
known : (a : List ℕ) (o : Option (List ℕ)) → o ≡ Some a → IfSome o (λ b. b ≡ a)
known a o e = subst (λ (p : Option (List ℕ)). IfSome p (λ b. b ≡ a)) (sym e) refl

unknown : (a : List ℕ) → None ≡ Some a → ⊥
unknown a e = subst (λ (p : Option (List ℕ)). MatchOption p (⊥ → ⊥) (λ _. ⊥)) e (λ x. x)

pub passing_first : (first : Option (List ℕ)) → IsPassing first first
passing_first None = tt
passing_first (Some xs) = (xs, refl, refl)

pub passing_skip : (first rest : Option (List ℕ)) (held : List ℕ) → All (λ x. x ≢ 10) held → IsPassing first (prepend_known held rest) → IsPassing first (prepend_known [] rest)
passing_skip None rest held none p = tt
passing_skip (Some xs) None held none (ys, e, q) = absurd (unknown ys e)
passing_skip (Some xs) (Some zs) held none (ys, e, q) =
    let same : held ++ zs ≡ ys = known ys (Some (held ++ zs)) e in
    (zs, refl, q ∙ ap (drop_through 10) (sym same) ∙ drop_through-append 10 held zs none)

passing_keep : (first a b : Option (List ℕ)) → IsPassing first a → Keeps a b → IsPassing first b
passing_keep None a b p k = tt
passing_keep (Some xs) None b (ys, e, q) k = absurd (unknown ys e)
passing_keep (Some xs) (Some zs) None p k = absurd k
passing_keep (Some xs) (Some zs) (Some ws) (ys, e, q) k = (ws, refl, q ∙ ap (drop_through 10) (sym (known ys (Some zs) e) ∙ sym k))

-- after one read
pub passing_read : (first before after : Option (List ℕ)) (held new bytes : List ℕ) → IsPassing first (prepend_known held before) → new ≡ held ++ bytes
    → Consumes before after bytes → IsPassing first (prepend_known new after)
passing_read first before after held new bytes p more moved =
    subst (λ (l : List ℕ). IsPassing first (prepend_known l after)) (sym more) (passing_keep first _ _ p (prepend_more before after held bytes moved))

pub passing_end : (first rest : Option (List ℕ)) → IsPassing first (prepend_known [] rest) → IsAtEnd rest → DropsThrough first (prepend_known [] rest) 10
passing_end None rest p end = tt
passing_end (Some xs) None (ys, e, q) end = absurd (unknown ys e)
passing_end (Some xs) (Some zs) (ys, e, q) end =
    let same : zs ≡ ys = known ys (Some zs) e in
    ap (λ (l : List ℕ). Some l) (end ∙ sym (q ∙ ap (drop_through 10) (sym same ∙ end)))

pub passing_line : (first rest : Option (List ℕ)) (held : List ℕ) (n : ℕ) → IsPassing first (prepend_known held rest) → IsLineOf n held
    → DropsThrough first (prepend_known (drop n held) rest) 10
passing_line None rest held n p line = tt
passing_line (Some xs) None held n (ys, e, q) line = absurd (unknown ys e)
passing_line (Some xs) (Some zs) held n (ys, e, q) line =
    let same : held ++ zs ≡ ys = known ys (Some (held ++ zs)) e in
    ap (λ (l : List ℕ). Some l) (sym (q ∙ ap (drop_through 10) (sym same) ∙ (line.1 zs).1))

-- what was held is taken, and more is read
all_taken : (held empty : List ℕ) (n : ℕ) → n ≡ length held → empty ≡ drop n held → empty ≡ []
all_taken held empty n all is = is ∙ drop_all n held (omega (arith, all))

pub skip_read : (first before after : Option (List ℕ)) (held empty new bytes : List ℕ) (n : ℕ) → All (λ x. x ≢ 10) held → IsPassing first (prepend_known held before)
    → n ≡ length held → empty ≡ drop n held → new ≡ empty ++ bytes → Consumes before after bytes → IsPassing first (prepend_known new after)
skip_read first before after held empty new bytes n none p all is more moved =
    let gone = all_taken held empty n all is in
    passing_read first before after empty new bytes (subst (λ (l : List ℕ). IsPassing first (prepend_known l before)) (sym gone) (passing_skip first before held none p)) more moved

pub skip_end : (first before after : Option (List ℕ)) (held empty new bytes : List ℕ) (n : ℕ) → All (λ x. x ≢ 10) held → IsPassing first (prepend_known held before)
    → n ≡ length held → empty ≡ drop n held → new ≡ empty ++ bytes → Consumes before after bytes → length bytes ≡ 0 → IsAtEnd after
    → DropsThrough first (prepend_known new after) 10
skip_end first before after held empty new bytes n none p all is more moved zero end =
    let q = skip_read first before after held empty new bytes n none p all is more moved in
    let left : new ≡ [] = nothing_more empty new bytes more zero ∙ all_taken held empty n all is in
    subst (λ (l : List ℕ). DropsThrough first (prepend_known l after) 10) (sym left)
    (passing_end first after (subst (λ (l : List ℕ). IsPassing first (prepend_known l after)) left q) end)
