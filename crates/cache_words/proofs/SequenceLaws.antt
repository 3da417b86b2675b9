-- Values one after the other: a reader that takes them in turn agrees with the spellings of each.
use Rattle.std.proofs.Common.{◌≡◌, ℕ, zero, suc, ◌⊎◌, Bool, true, false, cond, List, [], ◌∷◌, ◌++◌, Option, Some, None, Result, Ok, Err, refl, sym, ap, subst, ◌∙◌, append_assoc, inl, inr, nat_lt, length, arith}
use Rattle.std.specs.Prelude.{◌==◌}
use Rattle.std.proofs.lemmas.Bool.{eqb-true, ltb-true, lt-ltb}
use Rattle.cache_words.specs.declared.pack.fault.PackFault.{PackFault}
use Rattle.cache_words.specs.declared.pack.fault.PackFault.TheVariants.{Short, Kind}
use Rattle.cache_words.specs.Forms.{Stands, arrays}
use Rattle.cache_words.specs.Spelling.{SpellList, SpellArray, SpellThere}
use Rattle.cache_words.specs.Pack.{nil, SpellOptional}
use Rattle.cache_words.specs.Reading.{◌>>=◌, number_at, list_at, optional_at}
use Rattle.cache_words.specs.Items.{seen_as, SpellsByte, byte_at, array_at, there_at}
use Rattle.cache_words.proofs.ReadingLaws.{IsBytes, IsBytes-rest, Takes, Agrees, Skips, bind_ok, test_ok, chosen, done, ok_is}
use Rattle.cache_words.proofs.FormLaws.{number_agrees, are_arrays}

pub join : (a x b y c : List ℕ) → a ≡ x ++ b → b ≡ y ++ c → a ≡ (x ++ y) ++ c
join a x b y c p q = p ∙ ap (λ (t : List ℕ). x ++ t) q ∙ sym (append_assoc x y c)

-- the same grammar in other words
pub agrees_with : {V : Type 0} (read : List ℕ → Result (V × List ℕ) PackFault) (P Q : V → List ℕ → Type 0) → Agrees read P
    → ((v : V) (text : List ℕ) → P v text → Q v text) → ((v : V) (text : List ℕ) → Q v text → P v text) → Agrees read Q
agrees_with {V} read P Q a to from = record {
  takes = λ bytes x fits e.
      let t = a.takes bytes x fits e in
      record { text = t.text; spelled = to x.0 t.text t.spelled; parts = t.parts; rest_fits = t.rest_fits };
  again = λ v text rest s. a.again v text rest (from v text s);
}

-- an item, and a value that may depend on it
abbrev pub SpellThen : {X V : Type 0} → (X → List ℕ → Type 0) → (X → V → List ℕ → Type 0) → V → List ℕ → Type 0
SpellThen {X} P Q v text = (x : X) × (front : List ℕ) × (back : List ℕ) × P x front × Q x v back × (text ≡ front ++ back)

abbrev pub then_at : {X V : Type 0} → (List ℕ → Result (X × List ℕ) PackFault) → (X → List ℕ → Result (V × List ℕ) PackFault) → List ℕ → Result (V × List ℕ) PackFault
then_at f k bytes = f bytes >>= λ x. k x.0 x.1

pub then_agrees : {X V : Type 0} (f : List ℕ → Result (X × List ℕ) PackFault) (P : X → List ℕ → Type 0)
    (k : X → List ℕ → Result (V × List ℕ) PackFault) (Q : X → V → List ℕ → Type 0)
    → Agrees f P → ((x : X) → Agrees (k x) (Q x)) → Agrees (then_at f k) (SpellThen P Q)
then_agrees {X} {V} f P k Q a b = record {
  takes = λ bytes y fits e.
      let s = bind_ok (f bytes) (λ x. k x.0 x.1) y e in
      let t = a.takes bytes s.0 fits s.1 in
      let u = (b s.0.0).takes s.0.1 y t.rest_fits s.2 in
      record {
        text = t.text ++ u.text;
        spelled = (s.0.0, t.text, u.text, t.spelled, u.spelled, refl);
        parts = join bytes t.text s.0.1 u.text y.1 t.parts u.parts;
        rest_fits = u.rest_fits;
      };
  again = λ v text rest s.
      let regrouped : text ++ rest ≡ s.1 ++ (s.2 ++ rest) = rw s.5 (append_assoc s.1 s.2 rest) in
      ap (then_at f k) regrouped ∙ rw (a.again s.0 s.1 (s.2 ++ rest) s.3) ((b s.0).again v s.2 rest s.4);
}

-- an item as another value
abbrev pub SpellAs : {X V : Type 0} → (X → V) → (X → List ℕ → Type 0) → V → List ℕ → Type 0
SpellAs {X} view P v text = (x : X) × P x text × (v ≡ view x)

pub seen_agrees : {X V : Type 0} (view : X → V) (f : List ℕ → Result (X × List ℕ) PackFault) (P : X → List ℕ → Type 0)
    → Agrees f P → Agrees (λ bytes. seen_as view (f bytes)) (SpellAs view P)
seen_agrees {X} {V} view f P a = record {
  takes = λ bytes y fits e.
      let s = bind_ok (f bytes) (λ x. Ok (view x.0, x.1)) y e in
      let t = a.takes bytes s.0 fits s.1 in
      subst (λ (z : V × List ℕ). Takes (SpellAs view P) bytes z.0 z.1) (ok_is (view s.0.0, s.0.1) y s.2)
      (record { text = t.text; spelled = (s.0.0, t.spelled, refl); parts = t.parts; rest_fits = t.rest_fits });
  again = λ v text rest s. rw (a.again s.0 text rest s.1, s.2) refl;
}

-- one of two readers
abbrev pub SpellEither : {V : Type 0} → Bool → (V → List ℕ → Type 0) → (V → List ℕ → Type 0) → V → List ℕ → Type 0
SpellEither b P Q v text = ((b ≡ true) × P v text) ⊎ ((b ≡ false) × Q v text)

pub either_agrees : {V : Type 0} (b : Bool) (f g : List ℕ → Result (V × List ℕ) PackFault) (P Q : V → List ℕ → Type 0)
    → Agrees f P → Agrees g Q → Agrees (λ bytes. cond b (f bytes) (g bytes)) (SpellEither b P Q)
either_agrees true f g P Q a d =
    agrees_with f P (SpellEither true P Q) a (λ v text s. inl (refl, s)) (λ v text s. elim s [ inl h ↦ h.1 | inr h ↦ absurd cc ])
either_agrees false f g P Q a d =
    agrees_with g Q (SpellEither false P Q) d (λ v text s. inr (refl, s)) (λ v text s. elim s [ inl h ↦ absurd cc | inr h ↦ h.1 ])

-- a reader that only refuses
abbrev pub Never : {V : Type 0} → V → List ℕ → Type 0
Never v text = ⊥

pub refused_agrees : {V : Type 0} (fault : PackFault) → Agrees {V = V} (λ bytes. Err fault) Never
refused_agrees {V} fault = record { takes = λ bytes x fits e. absurd cc; again = λ v text rest s. absurd s }

byte_takes : (bytes : List ℕ) (x : ℕ × List ℕ) → IsBytes bytes → byte_at bytes ≡ Ok x → Takes SpellsByte bytes x.0 x.1
unfolding byte_at
byte_takes [] x fits e = absurd cc
byte_takes (b ∷ bytes) x fits e =
    let g = test_ok (nat_lt b 128) Kind (b, bytes) x e in
    subst (λ (y : ℕ × List ℕ). Takes SpellsByte (b ∷ bytes) y.0 y.1) g.1
    (record { text = b ∷ []; spelled = (ltb-true _ _ g.0, refl); parts = refl; rest_fits = IsBytes-rest b bytes fits })

byte_again : (n : ℕ) (text rest : List ℕ) → SpellsByte n text → byte_at (text ++ rest) ≡ Ok (n, rest)
unfolding byte_at
byte_again n text rest s = rw (s.1, lt-ltb n 128 s.0) refl

pub byte_agrees : Agrees byte_at SpellsByte
byte_agrees = record { takes = byte_takes; again = byte_again }

pub there_agrees : {X : Type 0} (b : Bool) (f : List ℕ → Result (Option X × List ℕ) PackFault) (P : Option X → List ℕ → Type 0)
    → Agrees f P → Agrees (there_at b f) (SpellThere b P)
there_agrees true f P a = a
there_agrees {X} false f P a = record {
  takes = λ bytes x fits e.
      subst (λ (y : Option X × List ℕ). Takes (SpellThere false P) bytes y.0 y.1) (ok_is (None, bytes) x e)
      (record { text = []; spelled = (refl, refl); parts = refl; rest_fits = fits });
  again = λ v text rest s. rw (s.0, s.1) refl;
}

-- what gives no value, and a value after it
abbrev pub SpellAfter : {V : Type 0} → (List ℕ → Type 0) → (V → List ℕ → Type 0) → V → List ℕ → Type 0
SpellAfter P Q v text = (front : List ℕ) × (back : List ℕ) × P front × Q v back × (text ≡ front ++ back)

abbrev pub after_at : {V : Type 0} → (List ℕ → Result (List ℕ) PackFault) → (List ℕ → Result (V × List ℕ) PackFault) → List ℕ → Result (V × List ℕ) PackFault
after_at f k bytes = f bytes >>= λ rest. k rest

pub after_agrees : {V : Type 0} (f : List ℕ → Result (List ℕ) PackFault) (P : List ℕ → Type 0) (k : List ℕ → Result (V × List ℕ) PackFault) (Q : V → List ℕ → Type 0)
    → Skips f P → Agrees k Q → Agrees (after_at f k) (SpellAfter P Q)
after_agrees {V} f P k Q a b = record {
  takes = λ bytes y fits e.
      let s = bind_ok (f bytes) (λ rest. k rest) y e in
      let t = a.takes bytes s.0 fits s.1 in
      let u = b.takes s.0 y t.rest_fits s.2 in
      record {
        text = t.text ++ u.text;
        spelled = (t.text, u.text, t.spelled, u.spelled, refl);
        parts = join bytes t.text s.0 u.text y.1 t.parts u.parts;
        rest_fits = u.rest_fits;
      };
  again = λ v text rest s.
      let regrouped : text ++ rest ≡ s.0 ++ (s.1 ++ rest) = rw s.4 (append_assoc s.0 s.1 rest) in
      ap (after_at f k) regrouped ∙ rw (a.again s.0 (s.1 ++ rest) s.2) (b.again v s.1 rest s.3);
}

-- a test that takes no bytes, and a value by what it gave
abbrev pub SpellBy : {X V : Type 0} → Result X PackFault → (X → V → List ℕ → Type 0) → V → List ℕ → Type 0
SpellBy {X} r Q v text = (x : X) × (r ≡ Ok x) × Q x v text

pub by_agrees : {X V : Type 0} (r : Result X PackFault) (k : X → List ℕ → Result (V × List ℕ) PackFault) (Q : X → V → List ℕ → Type 0)
    → ((x : X) → r ≡ Ok x → Agrees (k x) (Q x)) → Agrees (λ bytes. r >>= λ x. k x bytes) (SpellBy r Q)
by_agrees {X} {V} r k Q a = record {
  takes = λ bytes y fits e.
      let s = bind_ok r (λ x. k x bytes) y e in
      let t = (a s.0 s.1).takes bytes y fits s.2 in
      record { text = t.text; spelled = (s.0, s.1, t.spelled); parts = t.parts; rest_fits = t.rest_fits };
  again = λ v text rest s. rw s.1 ((a s.0 s.1).again v text rest s.2);
}

-- a value that takes no bytes
abbrev pub SpellNothing : {V : Type 0} → V → V → List ℕ → Type 0
SpellNothing w v text = (v ≡ w) × (text ≡ [])

pub nothing_agrees : {V : Type 0} (w : V) → Agrees (λ bytes. Ok (w, bytes)) (SpellNothing w)
nothing_agrees {V} w = record {
  takes = λ bytes y fits e.
      subst (λ (z : V × List ℕ). Takes (SpellNothing w) bytes z.0 z.1) (ok_is (w, bytes) y e)
      (record { text = []; spelled = (refl, refl); parts = refl; rest_fits = fits });
  again = λ v text rest s. rw (s.0, s.1) refl;
}

-- ---- the values of a list

abbrev pub SpellsCount : {V : Type 0} → (V → List ℕ → Type 0) → ℕ → List V → List ℕ → Type 0
SpellsCount P n vs text = (length vs ≡ n) × SpellList P vs text

list_takes : {V : Type 0} (read : List ℕ → Result (V × List ℕ) PackFault) (P : V → List ℕ → Type 0) → Agrees read P
    → (n : ℕ) (bytes : List ℕ) (x : List V × List ℕ) → IsBytes bytes → list_at read n bytes ≡ Ok x → Takes (SpellsCount P n) bytes x.0 x.1
unfolding list_at
list_takes {V} read P a zero bytes x fits e =
    subst (λ (y : List V × List ℕ). Takes (SpellsCount P 0) bytes y.0 y.1) (ok_is ([], bytes) x e)
    (record { text = []; spelled = (refl, refl); parts = refl; rest_fits = fits })
list_takes {V} read P a (suc n) bytes x fits e =
    let s = bind_ok (read bytes) (λ first. list_at read n first.1 >>= λ others. Ok (first.0 ∷ others.0, others.1)) x e in
    let r = bind_ok (list_at read n s.0.1) (λ others. Ok (s.0.0 ∷ others.0, others.1)) x s.2 in
    let t = a.takes bytes s.0 fits s.1 in
    let u = list_takes read P a n s.0.1 r.0 t.rest_fits r.1 in
    subst (λ (y : List V × List ℕ). Takes (SpellsCount P (suc n)) bytes y.0 y.1) (ok_is (s.0.0 ∷ r.0.0, r.0.1) x r.2)
    (record {
      text = t.text ++ u.text;
      spelled = (ap suc u.spelled.0, (t.text, u.text, t.spelled, u.spelled.1, refl));
      parts = join bytes t.text s.0.1 u.text r.0.1 t.parts u.parts;
      rest_fits = u.rest_fits;
    })

list_again : {V : Type 0} (read : List ℕ → Result (V × List ℕ) PackFault) (P : V → List ℕ → Type 0) → Agrees read P
    → (n : ℕ) (vs : List V) (text rest : List ℕ) → SpellsCount P n vs text → list_at read n (text ++ rest) ≡ Ok (vs, rest)
unfolding list_at
list_again read P a zero [] text rest s = rw s.1 refl
list_again read P a zero (v ∷ vs) text rest s = absurd (omega (arith, s.0))
list_again read P a (suc n) [] text rest s = absurd (omega (arith, s.0))
list_again read P a (suc n) (v ∷ vs) text rest s =
    let w = s.1 in
    let count : length vs ≡ n = omega (arith, s.0) in
    let regrouped : text ++ rest ≡ w.0 ++ (w.1 ++ rest) = rw w.4 (append_assoc w.0 w.1 rest) in
    ap (list_at read (suc n)) regrouped ∙ rw (a.again v w.0 (w.1 ++ rest) w.2, list_again read P a n vs w.1 rest (count, w.3)) refl

pub list_agrees : {V : Type 0} (read : List ℕ → Result (V × List ℕ) PackFault) (P : V → List ℕ → Type 0) → Agrees read P
    → (n : ℕ) → Agrees (list_at read n) (SpellsCount P n)
list_agrees {V} read P a n = record { takes = list_takes read P a n; again = list_again read P a n }

pub array_agrees : {V : Type 0} (read : List ℕ → Result (V × List ℕ) PackFault) (P : V → List ℕ → Type 0) → Agrees read P
    → Agrees (array_at read) (SpellArray P)
unfolding array_at
array_agrees {V} read P a =
    agrees_with (array_at read) (SpellThen (Stands arrays) (SpellsCount P)) (SpellArray P)
    (then_agrees (number_at arrays) (Stands arrays) (list_at read) (SpellsCount P) (number_agrees arrays are_arrays) (list_agrees read P a))
    (λ vs text s. (s.1, s.2, rw s.4.0 s.3, s.4.1, s.5))
    (λ vs text s. (length vs, s.0, s.1, s.2, (refl, s.3), s.4))

-- ---- a value, or none

-- a value that doesn't begin as no value does
pub record IsNoNil {V : Type 0} (read : List ℕ → Result (V × List ℕ) PackFault) : Type 0 where
  pub at_nil : (rest : List ℕ) → read (0xc0 ∷ rest) ≡ Err Kind
  pub at_end : read [] ≡ Err Short

optional_takes : {V : Type 0} (read : List ℕ → Result (V × List ℕ) PackFault) (P : V → List ℕ → Type 0) → Agrees read P
    → (bytes : List ℕ) (x : Option V × List ℕ) → IsBytes bytes → optional_at read bytes ≡ Ok x → Takes (SpellOptional P) bytes x.0 x.1
unfolding optional_at
optional_takes read P a [] x fits e = absurd cc
optional_takes {V} read P a (b ∷ bytes) x fits e =
    elim (chosen (b == 0xc0) (Ok (None, bytes)) (read (b ∷ bytes) >>= λ v. Ok (Some v.0, v.1)) (done x) e) [
      | inl here ↦
          let same : b ≡ 0xc0 = eqb-true _ _ here.0 in
          subst (λ (y : Option V × List ℕ). Takes (SpellOptional P) (b ∷ bytes) y.0 y.1) (ok_is (None, bytes) x here.1)
          (record { text = nil; spelled = refl; parts = rw same refl; rest_fits = IsBytes-rest b bytes fits })
      | inr later ↦
          let s = bind_ok (read (b ∷ bytes)) (λ v. Ok (Some v.0, v.1)) x later.1 in
          let t = a.takes (b ∷ bytes) s.0 fits s.1 in
          subst (λ (y : Option V × List ℕ). Takes (SpellOptional P) (b ∷ bytes) y.0 y.1) (ok_is (Some s.0.0, s.0.1) x s.2)
          (record { text = t.text; spelled = t.spelled; parts = t.parts; rest_fits = t.rest_fits })
    ]

some_by : {V : Type 0} (read : List ℕ → Result (V × List ℕ) PackFault) → IsNoNil read → (b : ℕ) (bytes : List ℕ) (x : V × List ℕ) (t : Bool)
    → (b == 0xc0) ≡ t → read (b ∷ bytes) ≡ Ok x
    → cond {A = Result (Option V × List ℕ) PackFault} t (Ok (None, bytes)) (read (b ∷ bytes) >>= λ v. Ok (Some v.0, v.1)) ≡ Ok (Some x.0, x.1)
some_by read apart b bytes x true is e =
    let same : b ≡ 0xc0 = eqb-true _ _ is in
    let begins : read (b ∷ bytes) ≡ Err Kind = rw same (apart.at_nil bytes) in
    absurd cc
some_by read apart b bytes x false is e = rw e refl

-- where a value is read, so is it where no value may be
is_some : {V : Type 0} (read : List ℕ → Result (V × List ℕ) PackFault) → IsNoNil read → (bytes : List ℕ) (x : V × List ℕ) → read bytes ≡ Ok x
    → optional_at read bytes ≡ Ok (Some x.0, x.1)
unfolding optional_at
is_some read apart [] x e = let none = apart.at_end in absurd cc
is_some read apart (b ∷ bytes) x e = some_by read apart b bytes x (b == 0xc0) refl e

optional_again : {V : Type 0} (read : List ℕ → Result (V × List ℕ) PackFault) (P : V → List ℕ → Type 0) → IsNoNil read → Agrees read P
    → (v : Option V) (text rest : List ℕ) → SpellOptional P v text → optional_at read (text ++ rest) ≡ Ok (v, rest)
unfolding optional_at
optional_again read P apart a None text rest s = rw s refl
optional_again read P apart a (Some v) text rest s = is_some read apart (text ++ rest) (v, rest) (a.again v text rest s)

pub optional_agrees : {V : Type 0} (read : List ℕ → Result (V × List ℕ) PackFault) (P : V → List ℕ → Type 0) → IsNoNil read → Agrees read P
    → Agrees (optional_at read) (SpellOptional P)
optional_agrees read P apart a = record { takes = optional_takes read P a; again = optional_again read P apart a }
