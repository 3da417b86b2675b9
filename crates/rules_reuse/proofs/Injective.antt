-- Texts that are cut at the first of a byte.
use Rattle.std.proofs.Common.{◌≡◌, ℕ, List, [], ◌∷◌, ◌++◌, refl, sym, ap, ◌∙◌, Bool, true, false, not, ◌&&◌, ◌==◌, ◌⊎◌, inl, inr, eq-eqb, append_assoc, map, codes, cond, arith}
use Rattle.std.specs.Prelude.{Option, Some, None}
use Rattle.std.specs.List.{list_all, flat_map}
use Rattle.std.specs.Option.{option_map_or}
use Rattle.std.proofs.lemmas.List.{append_cancel_left, append_cancel_right}
use Rattle.std.proofs.lemmas.Bool.{false≢true, not_from_true}
use Rattle.rules_fields.specs.Fields.{Field}
use Rattle.rules_fields.specs.Types.{Chosen}
use Rattle.rules_reuse.specs.Keys.{key_of, as_keyed, folded}
use Rattle.rules_reuse.specs.Variants.{line_of, value_in, secondary}
use Rattle.rules_reuse.specs.Laws.{lacks, IsTarget}

first_holds : (a b : Bool) → (a && b) ≡ true → a ≡ true
first_holds true b h = refl
first_holds false b h = cc

second_holds : (a b : Bool) → (a && b) ≡ true → b ≡ true
second_holds true b h = h
second_holds false b h = cc

abbrev head_of : List ℕ → ℕ
head_of [] = 0
head_of (x ∷ xs) = x

abbrev tail_of : List ℕ → List ℕ
tail_of [] = []
tail_of (x ∷ xs) = xs

-- a byte that is there isn't lacking
not_lacking : (p b : ℕ) (rest : List ℕ) → b ≡ p → lacks p (b ∷ rest) ≡ true → ⊥
not_lacking p b rest e h =
    false≢true (sym (not_from_true (b == p) (eq-eqb b p e)) ∙ first_holds (not (b == p)) (lacks p rest) h)

-- equal texts that are cut at the first of a byte have equal parts
pub cut_same : (p : ℕ) (a b x y : List ℕ) → lacks p a ≡ true → lacks p b ≡ true → a ++ (p ∷ x) ≡ b ++ (p ∷ y) → (a ≡ b) × (x ≡ y)
cut_same p [] [] x y ha hb e = (refl, ap tail_of e)
cut_same p [] (c ∷ b) x y ha hb e = absurd (not_lacking p c b (sym (ap head_of e)) hb)
cut_same p (c ∷ a) [] x y ha hb e = absurd (not_lacking p c a (ap head_of e) ha)
cut_same p (c ∷ a) (d ∷ b) x y ha hb e =
    let rest : (a ≡ b) × (x ≡ y) = cut_same p a b x y (second_holds (not (c == p)) (lacks p a) ha) (second_holds (not (d == p)) (lacks p b) hb) (ap tail_of e) in
    (ap (λ (t : List ℕ). c ∷ t) rest.0 ∙ ap (λ (z : ℕ). z ∷ b) (ap head_of e), rest.1)

-- a text with the byte doesn't lack it
holds_it : (p : ℕ) (a x : List ℕ) → lacks p (a ++ (p ∷ x)) ≡ true → ⊥
holds_it p [] x h = not_lacking p p x refl h
holds_it p (c ∷ a) x h = holds_it p a x (second_holds (not (c == p)) (lacks p (a ++ (p ∷ x))) h)

lacks_more : (p c : ℕ) (a : List ℕ) → lacks p a ≡ true → (c == p) ≡ false → lacks p (a ++ (c ∷ [])) ≡ true
lacks_more p c [] h e = rw e refl
lacks_more p c (d ∷ a) h e =
    let rest : lacks p (a ++ (c ∷ [])) ≡ true = lacks_more p c a (second_holds (not (d == p)) (lacks p a) h) e in
    let front : not (d == p) ≡ true = first_holds (not (d == p)) (lacks p a) h in
    rw (front, rest) refl

-- a host and what follows it
host_same : (a b x y : List ℕ) → lacks 47 a ≡ true → lacks 47 b ≡ true → IsTarget x → IsTarget y → a ++ x ≡ b ++ y → (a ≡ b) × (x ≡ y)
host_same a b x y ha hb tx ty e =
    elim tx [
      | inl ex ↦ elim ty [
        | inl ey ↦ (append_cancel_right a b (42 ∷ []) (sym (ap (λ (t : List ℕ). a ++ t) ex) ∙ e ∙ ap (λ (t : List ℕ). b ++ t) ey), ex ∙ sym ey)
        | inr py ↦ absurd (holds_it 47 b py.0 (sym (ap (lacks 47) (sym (ap (λ (t : List ℕ). a ++ t) ex) ∙ e ∙ ap (λ (t : List ℕ). b ++ t) py.1)) ∙ lacks_more 47 42 a ha refl))
      ]
      | inr px ↦ elim ty [
        | inl ey ↦ absurd (holds_it 47 a px.0 (ap (lacks 47) (sym (ap (λ (t : List ℕ). a ++ t) px.1) ∙ e ∙ ap (λ (t : List ℕ). b ++ t) ey) ∙ lacks_more 47 42 b hb refl))
        | inr py ↦ (let both : (a ≡ b) × (px.0 ≡ py.0) = cut_same 47 a b px.0 py.0 ha hb (sym (ap (λ (t : List ℕ). a ++ t) px.1) ∙ e ∙ ap (λ (t : List ℕ). b ++ t) py.1) in
            (both.0, px.1 ∙ ap (λ (t : List ℕ). 47 ∷ t) both.1 ∙ sym py.1))
      ]
    ]

-- folding leaves a slash in front, and `*`
folded_slash : (t : List ℕ) → (u : List ℕ) × (folded (47 ∷ t) ≡ 47 ∷ u)
folded_slash [] = ([], refl)
folded_slash (b ∷ []) = (b ∷ [], refl)
folded_slash (b ∷ c ∷ t) = (folded (b ∷ c ∷ t), refl)

keyed_target : (o : Chosen) (t : List ℕ) → IsTarget t → IsTarget (as_keyed o t)
keyed_target o t h = go o.folds_percent
  where
    go : (f : Bool) → IsTarget (cond f (folded t) t)
    go false = h
    go true = elim h [
      | inl e ↦ inl (ap folded e)
      | inr p ↦ inr ((folded_slash p.0).0, ap folded p.1 ∙ (folded_slash p.0).1)
    ]

spread_key : (s h k : List ℕ) → s ++ codes "://" ++ h ++ k ≡ s ++ (58 ∷ 47 ∷ 47 ∷ (h ++ k))
spread_key s h k = simp append_assoc

pub key_same : (s s' h h' t t' : List ℕ) (o : Chosen) → lacks 58 s ≡ true → lacks 58 s' ≡ true → lacks 47 h ≡ true → lacks 47 h' ≡ true → IsTarget t → IsTarget t' → key_of s h t o ≡ key_of s' h' t' o → (s ≡ s') × (h ≡ h') × (as_keyed o t ≡ as_keyed o t')
key_same s s' h h' t t' o hs hs' hh hh' ht ht' e =
    let cut : (s ≡ s') × (47 ∷ 47 ∷ (h ++ as_keyed o t) ≡ 47 ∷ 47 ∷ (h' ++ as_keyed o t')) = cut_same 58 s s' (47 ∷ 47 ∷ (h ++ as_keyed o t)) (47 ∷ 47 ∷ (h' ++ as_keyed o t')) hs hs' (sym (spread_key s h (as_keyed o t)) ∙ e ∙ spread_key s' h' (as_keyed o t')) in
    let rest : h ++ as_keyed o t ≡ h' ++ as_keyed o t' = ap tail_of (ap tail_of cut.1) in
    let both : (h ≡ h') × (as_keyed o t ≡ as_keyed o t') = host_same h h' (as_keyed o t) (as_keyed o t') hh hh' (keyed_target o t ht) (keyed_target o t' ht') rest in
    (cut.0, both.0, both.1)

abbrev colon : Option (List ℕ) → List ℕ
colon v = option_map_or (λ (t : List ℕ). 58 ∷ t) v []

abbrev behind_name : Option (List ℕ) → List ℕ → List ℕ
behind_name v x = colon v ++ (10 ∷ x)

-- a value behind its colon, and a line feed, and what follows
value_same : (v w : Option (List ℕ)) (x y : List ℕ) → option_map_or (lacks 10) v true ≡ true → option_map_or (lacks 10) w true ≡ true → behind_name v x ≡ behind_name w y → (v ≡ w) × (x ≡ y)
value_same None None x y hv hw e = (refl, ap tail_of e)
value_same None (Some w) x y hv hw e = absurd (let bad : 10 ≡ 58 = ap head_of e in omega (arith, bad))
value_same (Some v) None x y hv hw e = absurd (let bad : 58 ≡ 10 = ap head_of e in omega (arith, bad))
value_same (Some v) (Some w) x y hv hw e =
    let both : (v ≡ w) × (x ≡ y) = cut_same 10 v w x y hv hw (ap tail_of e) in
    (ap Some both.0, both.1)

spread_line : (n c x : List ℕ) → (n ++ c ++ (10 ∷ [])) ++ x ≡ n ++ (c ++ (10 ∷ x))
spread_line n c x = simp append_assoc

pub secondary_same : (names : List (List ℕ)) (r r' : List Field) → ((name : List ℕ) → option_map_or (lacks 10) (value_in r name) true ≡ true) → ((name : List ℕ) → option_map_or (lacks 10) (value_in r' name) true ≡ true) → secondary names r ≡ secondary names r' → map (value_in r) names ≡ map (value_in r') names
secondary_same [] r r' h h' e = refl
secondary_same (name ∷ names) r r' h h' e =
    let parts : (value_in r name ≡ value_in r' name) × (secondary names r ≡ secondary names r') =
    value_same (value_in r name) (value_in r' name) (secondary names r) (secondary names r') (h name) (h' name)
    (append_cancel_left name (behind_name (value_in r name) (secondary names r)) (behind_name (value_in r' name) (secondary names r')) (sym (spread_line name (colon (value_in r name)) (secondary names r)) ∙ e ∙ spread_line name (colon (value_in r' name)) (secondary names r'))) in
    let rest : map (value_in r) names ≡ map (value_in r') names = secondary_same names r r' h h' parts.1 in
    ap (λ (v : Option (List ℕ)). v ∷ map (value_in r) names) parts.0 ∙ ap (λ (vs : List (Option (List ℕ))). value_in r' name ∷ vs) rest
