-- Kinds by a table of names, of which the rows of one length are enough.
use Rattle.std.proofs.Common.{◌≡◌, ℕ, ◌==◌, ◌||◌, not, cond, Bool, true, false, List, [], ◌∷◌, length, refl, sym, ap, ◌∙◌, ◌⊎◌, inl, inr}
use Rattle.std.specs.Prelude.{bytes_eq, filter}
use Rattle.std.specs.List.{list_all, list_any}
use Rattle.std.proofs.lemmas.Bool.{and_parts, or_parts, eqb-false, not-true}
use Rattle.std.proofs.lemmas.Slice.Eq.{bytes_eq-Decides}
use Rattle.rules_fields.specs.Tables.{among}
use Rattle.rules_quick.specs.Kinds.{found}

-- a name of another length is another name
other_length : (name wanted : List ℕ) (n : ℕ) → length name ≡ n → (length wanted == n) ≡ false → bytes_eq name wanted ≡ false
other_length name wanted n e d = go (bytes_eq name wanted) refl
  where
    go : (t : Bool) → bytes_eq name wanted ≡ t → t ≡ false
    go true k = absurd (eqb-false (length wanted) n d (sym (ap (λ (x : List ℕ). length x) ((bytes_eq-Decides name wanted).0 k)) ∙ e))
    go false k = refl

shorter : {K : Type 0} (other : K) (name : List ℕ) (n : ℕ) (rows : List (List ℕ × K)) → length name ≡ n → found other name rows ≡ found other name (filter (λ r. length r.0 == n) rows)
shorter other name n [] e = refl
shorter {K} other name n (row ∷ rows) e = go (length row.0 == n) refl (shorter other name n rows e)
  where
    go : (t : Bool) → (length row.0 == n) ≡ t → found other name rows ≡ found other name (filter (λ r. length r.0 == n) rows) → cond (bytes_eq name row.0) row.1 (found other name rows) ≡ found other name (cond t (row ∷ filter (λ r. length r.0 == n) rows) (filter (λ r. length r.0 == n) rows))
    go true k more = ap (cond (bytes_eq name row.0) row.1) more
    go false k more = ap (λ (b : Bool). cond b row.1 (found other name rows)) (other_length name row.0 n e k) ∙ more

-- each row says what the definition says
abbrev pub AllSay : {K : Type 0} → (List ℕ → K) → List (List ℕ × K) → Type 0
AllSay kind [] = Unit {0}
AllSay kind (row ∷ rows) = (kind row.0 ≡ row.1) × AllSay kind rows

-- no row has this name
abbrev pub absent : {K : Type 0} → List ℕ → List (List ℕ × K) → Bool
absent name rows = not (list_any (λ r. bytes_eq name r.0) rows)

found_none : {K : Type 0} (other : K) (name : List ℕ) (rows : List (List ℕ × K)) → absent name rows ≡ true → found other name rows ≡ other
found_none other name [] h = refl
found_none other name (row ∷ rows) h = let p = or_parts (bytes_eq name row.0) (list_any (λ r. bytes_eq name r.0) rows) (not-true (list_any (λ r. bytes_eq name r.0) (row ∷ rows)) h) in
    rw p.0 (found_none other name rows (ap not p.1))

found_says : {K : Type 0} (kind : List ℕ → K) (other : K) (name : List ℕ) (rows : List (List ℕ × K)) → AllSay kind rows → (absent name rows ≡ true) ⊎ (found other name rows ≡ kind name)
found_says kind other name [] h = inl refl
found_says kind other name (row ∷ rows) h = go (bytes_eq name row.0) refl (found_says kind other name rows h.1)
  where
    go : (t : Bool) → bytes_eq name row.0 ≡ t → (absent name rows ≡ true) ⊎ (found other name rows ≡ kind name)
        → (not (t || list_any (λ r. bytes_eq name r.0) rows) ≡ true) ⊎ (cond t row.1 (found other name rows) ≡ kind name)
    go true e more = inr (sym h.0 ∙ ap kind (sym ((bytes_eq-Decides name row.0).0 e)))
    go false e more = more

-- the table has each of these names
abbrev pub has_all : {K : Type 0} → List (List ℕ × K) → List (List ℕ) → Bool
has_all table names = list_all (λ n. not (absent n table)) names

pub none_among : {K : Type 0} (table : List (List ℕ × K)) (name : List ℕ) (names : List (List ℕ)) → has_all table names ≡ true → absent name table ≡ true → among names name ≡ false
none_among table name [] h a = refl
none_among table name (n ∷ names) h a =
    let p = and_parts (not (absent n table)) (has_all table names) h in
    rw (other p.0) (none_among table name names p.1 a)
  where
    contrary : false ≡ true → ⊥
    contrary e = cc

    other : not (absent n table) ≡ true → bytes_eq name n ≡ false
    other k = go (bytes_eq name n) refl
      where
        go : (t : Bool) → bytes_eq name n ≡ t → t ≡ false
        go true e = absurd (contrary (sym (not-true (absent n table) k) ∙ ap (λ (x : List ℕ). absent x table) (sym ((bytes_eq-Decides name n).0 e)) ∙ a))
        go false e = refl

pub not_named : {K : Type 0} (table : List (List ℕ × K)) (name wanted : List ℕ) → has_all table (wanted ∷ []) ≡ true → absent name table ≡ true → bytes_eq name wanted ≡ false
not_named table name wanted h a = (or_parts (bytes_eq name wanted) false (none_among table name (wanted ∷ []) h a)).0

-- the rows of a name's length say its kind, where those of the table say theirs and a name that it doesn't have is of the other kind
pub by_length : {K : Type 0} (kind : List ℕ → K) (other : K) (table : List (List ℕ × K)) → AllSay kind table → ((name : List ℕ) → absent name table ≡ true → kind name ≡ other)
    → (name : List ℕ) (n : ℕ) → length name ≡ n → found other name (filter (λ r. length r.0 == n) table) ≡ kind name
by_length kind other table says absents name n e = sym (shorter other name n table e) ∙ go (found_says kind other name table says)
  where
    go : (absent name table ≡ true) ⊎ (found other name table ≡ kind name) → found other name table ≡ kind name
    go (inl a) = found_none other name table a ∙ sym (absents name a)
    go (inr k) = k
