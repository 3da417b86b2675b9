-- One pair of a dictionary, and what follows it.
use Rattle.std.proofs.Common.{◌≡◌, ℕ, ◌-◌, ◌<◌, suc, Bool, true, cond, List, [], ◌∷◌, ◌++◌, sym, ap, ◌∙◌, arith}
use Rattle.std.specs.Prelude.{Option, Some, option_map, option_and_then}
use Rattle.std.specs.Option.{option_map_or}
use Rattle.std.specs.Borrow.{Bor}
use Rattle.std.specs.Option.{option_to_list}
use Rattle.std.proofs.lemmas.List.{map_push}
use Rattle.structured_fields.specs.Items.{pair_at}
use Rattle.rules_fields.specs.declared.directive.Directive.{Directive}
use Rattle.rules_fields.specs.Tables.{among, directives_asked}
use Rattle.rules_fields.specs.Meaning.{Meaning, meaning, meanings}
use Rattle.rules_fields.specs.Targeted.{next_at, said_by, others, placed, with_pair, members_within}

abbrev pub Pair : Type 0
Pair = List ℕ × Option (List ℕ) × List ℕ

abbrev pub Lent : Type 0
Lent = Bor (List ℕ) × Option (Bor (List ℕ)) × Bor (List ℕ)

abbrev pub seen : Lent → Pair
seen p = (p.0.now, option_map (λ v. v.now) p.1, p.2.now)

abbrev pub seen_pair : Option Lent → Option Pair
seen_pair pair = option_map (λ p. (p.0.now, option_map (λ v. v.now) p.1, p.2.now)) pair

abbrev pub seen_next : Option (Option (Bool × Bor (List ℕ))) → Option (Option (Bool × List ℕ))
seen_next next = option_map (λ n. option_map (λ q. (q.0, q.1.now)) n) next

abbrev pub followed : ℕ → Bool → List Meaning → Pair → Option (Option (Bool × List ℕ)) → Option (List Meaning)
followed n is_parameter found p next =
    option_and_then
    (λ next. option_map_or (λ q. members_within n q.0 (with_pair is_parameter found p.0 p.1) q.1) next (Some (with_pair is_parameter found p.0 p.1)))
    next

abbrev pub begun : ℕ → Bool → List Meaning → Option Pair → Option (List Meaning)
begun n is_parameter found pair = option_and_then (λ p. followed n is_parameter found p (next_at p.2)) pair

one_pair : (n : ℕ) (is_parameter : Bool) (found : List Meaning) (text : List ℕ) → 0 < n → members_within n is_parameter found text ≡ begun (n - 1) is_parameter found (pair_at text)
one_pair n is_parameter found text h = let e : n ≡ suc (n - 1) = omega (arith, h) in ap (λ (k : ℕ). members_within k is_parameter found text) e

-- what is left to read is read as what follows the pair
pub goes_on : (n : ℕ) (is_parameter : Bool) (found : List Meaning) (text : List ℕ) (p : Lent) (pair : Option Lent) (next follows : Option (Option (Bool × Bor (List ℕ)))) → 0 < n → seen_pair pair ≡ pair_at text → pair ≡ Some p → seen_next next ≡ next_at p.2.now → next ≡ follows → members_within n is_parameter found text ≡ followed (n - 1) is_parameter found (seen p) (seen_next follows)
goes_on n is_parameter found text p pair next follows h ep e en f =
    one_pair n is_parameter found text h
    ∙ ap (begun (n - 1) is_parameter found) (sym ep ∙ ap seen_pair e)
    ∙ ap (followed (n - 1) is_parameter found (seen p)) (sym en ∙ ap seen_next f)

-- a member behind those that others have left
pub place_some : (old taken new : List Directive) (key : List ℕ) (item : Option (List ℕ)) (d : Directive) (o : Option Directive) → among directives_asked key ≡ true → meanings taken ≡ others key (meanings old) → option_map meaning o ≡ said_by key item → o ≡ Some d → new ≡ taken ++ d ∷ [] → meanings new ≡ placed (meanings old) key item
place_some old taken new key item d o ea et es eo en =
    ap meanings en
    ∙ map_push meaning taken d
    ∙ ap (λ (ms : List Meaning). ms ++ meaning d ∷ []) et
    ∙ ap (λ (s : Option Meaning). others key (meanings old) ++ option_to_list s) (ap (option_map meaning) (sym eo) ∙ es)
    ∙ sym (ap (λ (t : Bool). cond t (others key (meanings old) ++ option_to_list (said_by key item)) (meanings old)) ea)
