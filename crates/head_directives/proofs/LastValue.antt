-- The value under a name is the last one.
use Rattle.std.proofs.Common.{◌≡◌, ℕ, Bool, true, false, ◌&&◌, List, [], ◌∷◌, ◌++◌, map, refl, sym, ◌∙◌, ap, cond}
use Rattle.std.specs.Prelude.{Option, Some, None, nat_eq}
use Rattle.std.specs.List.{flat_map}
use Rattle.std.specs.Char.{to_ascii_lowercase}
use Rattle.std.specs.Str.{is_utf8}
use Rattle.std.specs.Cmp.Lexicographic.{pointwise}
use Rattle.std.proofs.lemmas.Bool.{eqb-true, eq-eqb}
use Rattle.indexmap.specs.IndexMap.{insert_entry}
use Rattle.head_directives.specs.Written.{Written}
use Rattle.head_directives.specs.Walk.{directives}
use Rattle.head_directives.specs.Keeps.{keep, keep_all, keep_lines, kept, value_named, last_of}

pub same : (a : List ℕ) → pointwise nat_eq a a ≡ true
same [] = refl
same (x ∷ a) = rw (eq-eqb x x refl, same a) refl

pub equal : (a b : List ℕ) → pointwise nat_eq a b ≡ true → a ≡ b
equal [] [] h = refl
equal [] (y ∷ b) h = cc
equal (x ∷ a) [] h = cc
equal (x ∷ a) (y ∷ b) h = go (nat_eq x y) refl (λ k. equal a b k) h
  where
    go : (t : Bool) → nat_eq x y ≡ t → (pointwise nat_eq a b ≡ true → a ≡ b) → (t && pointwise nat_eq a b) ≡ true → x ∷ a ≡ y ∷ b
    go true e ih k = ap (λ c. c ∷ a) (eqb-true x y e) ∙ ap (λ l. y ∷ l) (ih k)
    go false e ih k = cc

-- an insertion changes the value under its own name alone
after_insert : (name : List ℕ) (es : List Written) (key : List ℕ) (value : Option (List ℕ)) → value_named name (insert_entry (pointwise nat_eq) es key value) ≡ cond (pointwise nat_eq name key) (Some value) (value_named name es)
after_insert name [] key value = refl
after_insert name (e ∷ es) key value = go (pointwise nat_eq key e.0) refl (after_insert name es key value)
  where
    swap : (s t : Bool) (a b : Option (Option (List ℕ))) (o : Option (Option (List ℕ))) → (s ≡ true → t ≡ true → a ≡ b) → cond s b (cond t a o) ≡ cond t a (cond s b o)
    swap true true a b o h = sym (h refl refl)
    swap true false a b o h = refl
    swap false true a b o h = refl
    swap false false a b o h = refl

    go : (t : Bool) → pointwise nat_eq key e.0 ≡ t → value_named name (insert_entry (pointwise nat_eq) es key value) ≡ cond (pointwise nat_eq name key) (Some value) (value_named name es) → value_named name (cond t ((e.0, value) ∷ es) (e ∷ insert_entry (pointwise nat_eq) es key value)) ≡ cond (pointwise nat_eq name key) (Some value) (value_named name (e ∷ es))
    go true k ih =
        let x : key ≡ e.0 = equal key e.0 k in
        rw (← x) (absorbed (pointwise nat_eq name key))
      where
        absorbed : (t : Bool) → cond t (Some value) (value_named name es) ≡ cond t (Some value) (cond t (Some e.1) (value_named name es))
        absorbed true = refl
        absorbed false = refl
    go false k ih =
        ap (λ o. cond (pointwise nat_eq name e.0) (Some e.1) o) ih
        ∙ swap (pointwise nat_eq name e.0) (pointwise nat_eq name key) (Some value) (Some e.1) (value_named name es) (λ s t. absurd (apart (equal name e.0 s) (equal name key t)))
      where
        differ : false ≡ true → ⊥
        differ h = cc

        apart : name ≡ e.0 → name ≡ key → ⊥
        apart s t = differ (sym k ∙ ap (λ l. pointwise nat_eq key l) (sym s ∙ t) ∙ same key)

pub after_keep : (name : List ℕ) (es : List Written) (d : Written) → value_named name (keep es d) ≡ cond (is_utf8 d.0 && pointwise nat_eq name (map to_ascii_lowercase d.0)) (Some d.1) (value_named name es)
after_keep name es d = go (is_utf8 d.0)
  where
    go : (t : Bool) → value_named name (cond t (insert_entry (pointwise nat_eq) es (map to_ascii_lowercase d.0) d.1) es) ≡ cond (t && pointwise nat_eq name (map to_ascii_lowercase d.0)) (Some d.1) (value_named name es)
    go true = after_insert name es (map to_ascii_lowercase d.0) d.1
    go false = refl

after_all : (name : List ℕ) (ds : List Written) (es : List Written) → value_named name (keep_all es ds) ≡ last_of name (value_named name es) ds
after_all name [] es = refl
after_all name (d ∷ ds) es =
    after_all name ds (keep es d) ∙ ap (λ o. last_of name o ds) (after_keep name es d)

last_append : (name : List ℕ) (ds more : List Written) (o : Option (Option (List ℕ))) → last_of name o (ds ++ more) ≡ last_of name (last_of name o ds) more
last_append name [] more o = refl
last_append name (d ∷ ds) more o = last_append name ds more (cond (is_utf8 d.0 && pointwise nat_eq name (map to_ascii_lowercase d.0)) (Some d.1) o)

after_lines : (name : List ℕ) (lines : List (List ℕ)) (es : List Written) → value_named name (keep_lines es lines) ≡ last_of name (value_named name es) (flat_map directives lines)
after_lines name [] es = refl
after_lines name (line ∷ lines) es =
    after_lines name lines (keep_all es (directives line))
    ∙ ap (λ o. last_of name o (flat_map directives lines)) (after_all name (directives line) es)
    ∙ sym (last_append name (directives line) (flat_map directives lines) (value_named name es))

pub last_value : (name : List ℕ) (lines : List (List ℕ)) → value_named name (kept lines) ≡ last_of name None (flat_map directives lines)
last_value name lines = after_lines name lines []
