-- The first line of a name behind lines without it.
use Rattle.std.proofs.Common.{◌≡◌, ℕ, ℤ, ◌-◌, List, [], ◌∷◌, ◌++◌, refl, sym, ap, ◌∙◌, append_assoc, Bool, true, false, not, cond, ◌&&◌, ◌==◌, codes, arith}
use Rattle.std.specs.Prelude.{Some, is_some}
use Rattle.std.specs.Fmt.{decimal}
use Rattle.std.specs.Cmp.Lexicographic.{bytes_decides}
use Rattle.std.proofs.lemmas.Bool.{false≢true}
use Rattle.rules_fields.specs.Texts.{small}
use Rattle.rules_fields.specs.Tables.{among}
use Rattle.rules_fields.specs.Fields.{Field, is_named, first, all, has_line, without}
use Rattle.rules_fields.specs.Types.{KeptHead, Chosen}
use Rattle.rules_response.specs.Lines.{age_line, cache_status}
use Rattle.rules_response.specs.Answering.{own, accepts, part_lines, one_part, several_lines, by_parts, type_lines, pieces, last_text}
use Rattle.rules_laws.specs.Parts.{sent_length}

first_behind : (names : List (List ℕ)) (name : List ℕ) (lines rest : List Field) → among names name ≡ true → first name (without names lines ++ rest) ≡ first name rest
first_behind names name [] rest h = refl
first_behind names name (f ∷ lines) rest h = go (among names (small f.0)) refl (is_named name f) refl (first_behind names name lines rest h)
  where
    go : (t : Bool) → among names (small f.0) ≡ t → (u : Bool) → is_named name f ≡ u → first name (without names lines ++ rest) ≡ first name rest
        → first name (without names (f ∷ lines) ++ rest) ≡ first name rest
    go true e u k ih = rw e ih
    go false e false k ih = rw e (rw k ih)
    go false e true k ih = absurd (false≢true (sym e ∙ ap (among names) ((bytes_decides (small f.0) name).0 k) ∙ h))

first_sent : (names : List (List ℕ)) (name : List ℕ) (lines more rest : List Field) → among names name ≡ true → first name ((without names lines ++ more) ++ rest) ≡ first name (more ++ rest)
first_sent names name lines more rest h = ap (first name) (append_assoc (without names lines) more rest) ∙ first_behind names name lines (more ++ rest) h

-- Age and Accept-Ranges in front of lines state no length
unstated : (b : Bool) (arrived : ℤ) (now : ℕ) (more rest : List Field)
    → first (codes "content-length") ((age_line arrived now ∷ cond b ((codes "Accept-Ranges", codes "bytes") ∷ []) [] ++ more) ++ rest) ≡ first (codes "content-length") (more ++ rest)
unstated true arrived now more rest = refl
unstated false arrived now more rest = refl

abbrev is_told : KeptHead → ℕ → Bool
is_told kept n = kept.status == 200 && is_some (Some n) && not (has_line (codes "accept-ranges") kept.lines)

-- one part
of_one : (p : ℕ × ℕ) (kept : KeptHead) (n now : ℕ) (how : List (List ℕ)) (o : Chosen) → first (codes "content-length") (one_part kept p n now how o).lines ≡ Some (decimal (p.1 - p.0))
of_one p kept n now how o =
    let status : List Field = cache_status (all (codes "cache-status") kept.lines) how o ∷ [] in
    first_sent own (codes "content-length") kept.lines (age_line kept.arrival now ∷ accepts kept (Some n) ++ part_lines p n) status refl
    ∙ unstated (is_told kept n) kept.arrival now (part_lines p n) status

size_of_one : (p : ℕ × ℕ) (kept : KeptHead) (n now : ℕ) (how : List (List ℕ)) (o : Chosen) → p.1 - p.0 ≡ sent_length (one_part kept p n now how o)
size_of_one p kept n now how o = omega arith

pub states : (p : ℕ × ℕ) (ps : List (ℕ × ℕ)) (kept : KeptHead) (n now : ℕ) (boundary : List ℕ) (how : List (List ℕ)) (o : Chosen)
    → first (codes "content-length") (by_parts (p ∷ ps) kept n now boundary how o).lines ≡ Some (decimal (sent_length (by_parts (p ∷ ps) kept n now boundary how o)))
states p [] kept n now boundary how o = of_one p kept n now how o ∙ ap (λ (m : ℕ). Some (decimal m)) (size_of_one p kept n now how o)
states p (q ∷ ps) kept n now boundary how o =
    let status : List Field = cache_status (all (codes "cache-status") kept.lines) how o ∷ [] in
    let own_lines = several_lines (pieces (type_lines kept.lines) (p ∷ q ∷ ps) n boundary) (last_text boundary) boundary in
    first_sent (codes "content-type" ∷ own) (codes "content-length") kept.lines (age_line kept.arrival now ∷ accepts kept (Some n) ++ own_lines) status refl
    ∙ unstated (is_told kept n) kept.arrival now own_lines status
