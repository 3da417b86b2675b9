-- The moments and numbers of a meta: what is read is spelled, and each spelling is read.
use Rattle.std.proofs.Common.{◌≡◌, ℕ, ◌^◌, ◌<◌, ◌≤◌, Bool, true, false, cond, List, [], ◌∷◌, ◌++◌, length, Option, Result, Ok, Err, refl, sym, ap, subst, ◌∙◌, arith, inl, inr, nat_lt, lit<}
use Rattle.std.specs.Prelude.{◌==◌, nat_le, ◌&&◌, IfOk}
use Rattle.std.proofs.lemmas.Bool.{eqb-true, ltb-false, lt-ltb, le-ltb}
use Rattle.std.proofs.lemmas.Bool.Decides.{nat_tests}
use Rattle.cache_words.specs.declared.pack.fault.PackFault.{PackFault}
use Rattle.cache_words.specs.declared.pack.fault.PackFault.TheVariants.{Short, Range, Length}
use Rattle.cache_words.specs.Forms.{arrays, Stands}
use Rattle.cache_words.specs.Pack.{SpellsMoment, SpellsOptionalHash}
use Rattle.cache_words.specs.Reading.{number_at, moment_at, optional_hash_at}
use Rattle.cache_words.specs.Time.{MomentValue}
use Rattle.cache_words.proofs.ReadingLaws.{IsBytes, Agrees, bind_ok, ok_is, one_spelling}
use Rattle.cache_words.proofs.FormLaws.{number_agrees, are_arrays}
use Rattle.cache_words.proofs.ValueLaws.{moment_agrees, below_agrees, optional_hash_agrees}
use Rattle.head_metas.specs.declared.versions.EarlyInternalMeta.{EarlyInternalMeta}
use Rattle.head_metas.specs.declared.versions.InternalMetaV2.{InternalMetaV2}
use Rattle.cache_words.specs.Items.{Steps, SpellThere, there_at, seen_as, seconds_at, SpellsSeconds, byte_at, optional_moment_at, SpellsOptionalMoment}
use Rattle.head_metas.specs.Versions.{of_early}
use Rattle.head_metas.specs.Internal.{least_len, SpellsEarly, SpellsV2, SpellsMeta, IsLongEnough, BeginsWithMeta}
use Rattle.head_metas.specs.InternalReading.{early_at, v2_at, versioned_at, form_at, meta_at, value_of}
use Rattle.cache_words.proofs.ItemLaws.{agrees_with, SpellThen, then_at, then_agrees, SpellAs, seen_agrees, SpellEither, either_agrees, Never, refused_agrees, SpellsByte, byte_agrees, there_agrees, optional_moment_agrees}

seconds_agrees : Agrees seconds_at SpellsSeconds
seconds_agrees = below_agrees (2 ^ 32)

-- ---- an early form

abbrev early_made : (version : ℕ) → MomentValue → MomentValue → ℕ → ℕ → EarlyInternalMeta version
early_made version a b c d = record { fresh_until = a; created = b; stale_while_revalidate_sec = c; stale_if_error_sec = d }

early_steps : (version : ℕ) → Agrees (early_at version)
    (SpellThen SpellsMoment (λ a. SpellThen SpellsMoment (λ b. SpellThen SpellsSeconds (λ c. SpellAs (λ d. early_made version a b c d) SpellsSeconds))))
unfolding early_at
early_steps version =
    then_agrees moment_at SpellsMoment _ _ moment_agrees (λ a.
    then_agrees moment_at SpellsMoment _ _ moment_agrees (λ b.
    then_agrees seconds_at SpellsSeconds _ _ seconds_agrees (λ c.
    seen_agrees (λ d. early_made version a b c d) seconds_at SpellsSeconds seconds_agrees)))

early_agrees : (version : ℕ) → Agrees (early_at version) (SpellsEarly version)
early_agrees version =
    agrees_with (early_at version) _ (SpellsEarly version) (early_steps version)
    (λ v text s.
    let a = s.4 in let b = a.4 in let c = b.4 in
    subst (λ (m : EarlyInternalMeta version). SpellsEarly version m text) (sym c.2) (s.1, s.2, s.3, (a.1, a.2, a.3, (b.1, b.2, b.3, c.1, b.5), a.5), s.5))
    (λ v text s.
    let a = s.3 in let b = a.3 in
    (v.fresh_until, s.0, s.1, s.2, (v.created, a.0, a.1, a.2, (v.stale_while_revalidate_sec, b.0, b.1, b.2, (v.stale_if_error_sec, b.3, refl), b.4), a.4), s.4))

-- ---- the latest form

abbrev v2_made : MomentValue → MomentValue → MomentValue → ℕ → ℕ → Option (List ℕ) → Option MomentValue → Option MomentValue → InternalMetaV2
v2_made a b c d e f g h = record {
  fresh_until = a;
  created = b;
  updated = c;
  stale_while_revalidate_sec = d;
  stale_if_error_sec = e;
  variance = f;
  epoch_override = g;
  provenance = h;
}

abbrev hash_in : ℕ → Option (List ℕ) → List ℕ → Type 0
hash_in count = SpellThere (nat_lt 6 count) SpellsOptionalHash

abbrev epoch_in : ℕ → Option MomentValue → List ℕ → Type 0
epoch_in count = SpellThere (nat_lt 7 count) SpellsOptionalMoment

abbrev provenance_in : ℕ → Option MomentValue → List ℕ → Type 0
provenance_in count = SpellThere (nat_lt 8 count) SpellsOptionalMoment

v2_steps : (count : ℕ) → Agrees (v2_at count) (SpellThen SpellsMoment (λ a. SpellThen SpellsMoment (λ b. SpellThen SpellsMoment (λ c.
    SpellThen SpellsSeconds (λ d. SpellThen SpellsSeconds (λ e. SpellThen (hash_in count) (λ f. SpellThen (epoch_in count) (λ g.
    SpellAs (λ h. v2_made a b c d e f g h) (provenance_in count)))))))))
unfolding v2_at
v2_steps count =
    then_agrees moment_at SpellsMoment _ _ moment_agrees (λ a.
    then_agrees moment_at SpellsMoment _ _ moment_agrees (λ b.
    then_agrees moment_at SpellsMoment _ _ moment_agrees (λ c.
    then_agrees seconds_at SpellsSeconds _ _ seconds_agrees (λ d.
    then_agrees seconds_at SpellsSeconds _ _ seconds_agrees (λ e.
    then_agrees (there_at (nat_lt 6 count) optional_hash_at) (hash_in count) _ _ (there_agrees (nat_lt 6 count) optional_hash_at SpellsOptionalHash optional_hash_agrees) (λ f.
    then_agrees (there_at (nat_lt 7 count) optional_moment_at) (epoch_in count) _ _ (there_agrees (nat_lt 7 count) optional_moment_at SpellsOptionalMoment optional_moment_agrees) (λ g.
    seen_agrees (λ h. v2_made a b c d e f g h) (there_at (nat_lt 8 count) optional_moment_at) (provenance_in count)
    (there_agrees (nat_lt 8 count) optional_moment_at SpellsOptionalMoment optional_moment_agrees))))))))

v2_agrees : (count : ℕ) → Agrees (v2_at count) (SpellsV2 count)
v2_agrees count =
    agrees_with (v2_at count) _ (SpellsV2 count) (v2_steps count)
    (λ v text s.
    let a = s.4 in let b = a.4 in let c = b.4 in let d = c.4 in let e = d.4 in let f = e.4 in let g = f.4 in
    subst (λ (m : InternalMetaV2). SpellsV2 count m text) (sym g.2)
    (s.1, s.2, s.3, (a.1, a.2, a.3, (b.1, b.2, b.3, (c.1, c.2, c.3, (d.1, d.2, d.3, (e.1, e.2, e.3, (f.1, f.2, f.3, g.1, f.5), e.5), d.5), c.5), b.5), a.5), s.5))
    (λ v text s.
    let a = s.3 in let b = a.3 in let c = b.3 in let d = c.3 in let e = d.3 in let f = e.3 in (
      v.fresh_until,
      s.0,
      s.1,
      s.2,
      (
        v.created,
        a.0,
        a.1,
        a.2,
        (
          v.updated,
          b.0,
          b.1,
          b.2,
          (
            v.stale_while_revalidate_sec,
            c.0,
            c.1,
            c.2,
            (v.stale_if_error_sec, d.0, d.1, d.2, (v.variance, e.0, e.1, e.2, (v.epoch_override, f.0, f.1, f.2, (v.provenance, f.3, refl), f.4), e.4), d.4),
            c.4,
          ),
          b.4,
        ),
        a.4,
      ),
      s.4,
    ))

-- ---- any form

abbrev is_v2_count : ℕ → Bool
is_v2_count count = nat_le 6 count && nat_le count 9

abbrev VersionedSteps : ℕ → ℕ → InternalMetaV2 → List ℕ → Type 0
VersionedSteps count version =
    SpellEither (version == 1) (SpellEither (count == 5) (SpellAs (of_early 1) (SpellsEarly 1)) Never)
    (SpellEither (version == 2) (SpellEither (is_v2_count count) (SpellsV2 count) Never) Never)

versioned_steps : (count version : ℕ) → Agrees (versioned_at version count) (VersionedSteps count version)
unfolding versioned_at
versioned_steps count version =
    either_agrees (version == 1) _ _ _ _
    (either_agrees (count == 5) (λ bytes. seen_as (of_early 1) (early_at 1 bytes)) (λ _. Err Length) (SpellAs (of_early 1) (SpellsEarly 1)) Never
    (seen_agrees (of_early 1) (early_at 1) (SpellsEarly 1) (early_agrees 1)) (refused_agrees Length))
    (either_agrees (version == 2) _ _ _ _
    (either_agrees (is_v2_count count) (v2_at count) (λ _. Err Length) (SpellsV2 count) Never (v2_agrees count) (refused_agrees Length))
    (refused_agrees Range))

abbrev FormSteps : InternalMetaV2 → List ℕ → Type 0
FormSteps =
    SpellThen (Stands arrays) (λ count. SpellEither (count == 4) (SpellAs (of_early 0) (SpellsEarly 0)) (SpellThen SpellsByte (VersionedSteps count)))

form_steps : Agrees form_at FormSteps
unfolding form_at
form_steps =
    then_agrees (number_at arrays) (Stands arrays) _ _ (number_agrees arrays are_arrays) (λ count.
    either_agrees (count == 4) (λ bytes. seen_as (of_early 0) (early_at 0 bytes)) (then_at byte_at (λ version. versioned_at version count))
    (SpellAs (of_early 0) (SpellsEarly 0)) (SpellThen SpellsByte (VersionedSteps count))
    (seen_agrees (of_early 0) (early_at 0) (SpellsEarly 0) (early_agrees 0))
    (then_agrees byte_at SpellsByte _ _ byte_agrees (λ version. versioned_steps count version)))

v2_count : (count : ℕ) → is_v2_count count ≡ true → (6 ≤ count) × (count ≤ 9)
v2_count count h = (grind (arith, nat_tests), grind (arith, nat_tests))

v2_count_test : (count : ℕ) → 6 ≤ count → count ≤ 9 → is_v2_count count ≡ true
v2_count_test count low high = grind (arith, nat_tests)

not_four : (count : ℕ) → 6 ≤ count → (count == 4) ≡ false
not_four count low = grind (arith, nat_tests)

-- a part that is one byte, and the part after it
byte_is : (n tag : ℕ) (first rest text : List ℕ) → n ≡ tag → first ≡ n ∷ [] → text ≡ first ++ rest → text ≡ tag ∷ rest
byte_is n tag first rest text same one parts = rw (parts, one, same) refl

form_to : (m : InternalMetaV2) (text : List ℕ) → FormSteps m text → SpellsMeta m text
form_to m text s =
    elim s.4 [
      | inl old ↦
          let four : s.0 ≡ 4 = eqb-true _ _ old.0 in
          inl (old.1.0, old.1.2, (s.1, s.2, rw four at s.3, old.1.1, s.5))
      | inr new ↦
          let v = new.1 in
          elim v.4 [
            | inl first ↦
                elim first.1 [
                  | inl is ↦
                      let one : v.0 ≡ 1 = eqb-true _ _ first.0 in
                      let five : s.0 ≡ 5 = eqb-true _ _ is.0 in
                      inr (inl (is.1.0, is.1.2, (s.1, s.2, rw five at s.3, (v.2, is.1.1, byte_is v.0 1 v.1 v.2 s.2 one v.3.1 v.5), s.5)))
                  | inr never ↦ absurd never.1
                ]
            | inr other ↦
                elim other.1 [
                  | inl second ↦
                      elim second.1 [
                        | inl is ↦
                            let two : v.0 ≡ 2 = eqb-true _ _ second.0 in
                            let range = v2_count s.0 is.0 in
                            inr (inr (s.0, range.0, range.1, (s.1, s.2, s.3, (v.2, is.1, byte_is v.0 2 v.1 v.2 s.2 two v.3.1 v.5), s.5)))
                        | inr never ↦ absurd never.1
                      ]
                  | inr never ↦ absurd never.1
                ]
          ]
    ]

form_from : (m : InternalMetaV2) (text : List ℕ) → SpellsMeta m text → FormSteps m text
form_from m text s =
    elim s [
      | inl old ↦
          let p = old.2 in
          (4, p.0, p.1, p.2, inl (refl, (old.0, p.3, old.1)), p.4)
      | inr new ↦
          elim new [
            | inl old ↦
                let p = old.2 in
                let v = p.3 in
                (5, p.0, p.1, p.2, inr (refl, (1, 1 ∷ [], v.0, (lit< tt, refl), inl (refl, inl (refl, (old.0, v.1, old.1))), v.2)), p.4)
            | inr latest ↦
                let p = latest.3 in
                let v = p.3 in
                let count = latest.0 in (
                  count,
                  p.0,
                  p.1,
                  p.2,
                  inr (not_four count latest.1, (2, 2 ∷ [], v.0, (lit< tt, refl), inr (refl, inl (refl, inl (v2_count_test count latest.1 latest.2, v.1))), v.2)),
                  p.4,
                )
          ]
    ]

pub form_agrees : Agrees form_at SpellsMeta
form_agrees = agrees_with form_at FormSteps SpellsMeta form_steps form_to form_from

-- no spelling of one meta begins a spelling of another
pub one_meta : (v w : InternalMetaV2) (a b x y : List ℕ) → SpellsMeta v a → SpellsMeta w b → a ++ x ≡ b ++ y → (v ≡ w) × (x ≡ y)
one_meta = one_spelling form_at SpellsMeta form_agrees

-- ---- a whole input

pub too_short : (bytes : List ℕ) → length bytes < least_len → Err Short ≡ value_of (meta_at bytes)
unfolding meta_at
too_short bytes short =
    let test : nat_lt (length bytes) least_len ≡ true = lt-ltb _ _ short in
    rw test refl

pub long_enough : (bytes new : List ℕ) (r : Result InternalMetaV2 PackFault) → least_len ≤ length bytes → Steps form_at bytes new r → r ≡ value_of (meta_at bytes)
unfolding meta_at
long_enough bytes new (Ok m) long steps =
    let test : nat_lt (length bytes) least_len ≡ false = le-ltb _ _ long in
    rw (test, steps) refl
long_enough bytes new (Err f) long steps =
    let test : nat_lt (length bytes) least_len ≡ false = le-ltb _ _ long in
    rw (test, steps) refl

past_test : {A : Type 0} (b : Bool) (d : PackFault) (r : Result A PackFault) (y : A) → cond b (Err d) r ≡ Ok y → (b ≡ false) × (r ≡ Ok y)
past_test true d r y e = absurd cc
past_test false d r y e = (refl, e)

pub meta_found : (bytes : List ℕ) (r : Result InternalMetaV2 PackFault) → IsBytes bytes → r ≡ value_of (meta_at bytes) → IfOk r (BeginsWithMeta bytes)
unfolding meta_at
meta_found bytes (Err f) fits e = tt
meta_found bytes (Ok m) fits e =
    let a = bind_ok (meta_at bytes) (λ x. Ok x.0) m (sym e) in
    let g = past_test (nat_lt (length bytes) least_len) Short (form_at bytes) a.0 a.1 in
    let t = form_agrees.takes bytes a.0 fits g.1 in
    (ltb-false _ _ g.0, t.text, a.0.1, subst (λ (v : InternalMetaV2). SpellsMeta v t.text) (ok_is a.0.0 m a.2) t.spelled, t.parts)

-- a spelling is read whatever follows it, where both are long enough
pub meta_again : (m : InternalMetaV2) (text rest : List ℕ) → IsLongEnough (text ++ rest) → SpellsMeta m text → meta_at (text ++ rest) ≡ Ok (m, rest)
unfolding meta_at
meta_again m text rest long s =
    let test : nat_lt (length (text ++ rest)) least_len ≡ false = le-ltb _ _ long in
    rw test (form_agrees.again m text rest s)

pub meta_read : (bytes : List ℕ) (r : Result InternalMetaV2 PackFault) → r ≡ value_of (meta_at bytes)
    → (m : InternalMetaV2) → BeginsWithMeta bytes m → r ≡ Ok m
meta_read bytes r e m begins =
    let whole : IsLongEnough (begins.1 ++ begins.2) = subst IsLongEnough begins.4 begins.0 in
    e ∙ ap (λ (b : List ℕ). value_of (meta_at b)) begins.4 ∙ ap value_of (meta_again m begins.1 begins.2 whole begins.3)
