-- A cursor that advances by a reader takes what the reader's grammar spells, and all of it.
use Rattle.std.proofs.Common.{◌≡◌, ℕ, List, [], ◌++◌, Result, Ok, Err, Option, None, false, refl, sym, ap, ◌∙◌}
use Rattle.cache_words.specs.declared.pack.fault.PackFault.{PackFault}
use Rattle.cache_words.specs.Spelling.{Spelling, SpellThere}
use Rattle.cache_words.specs.Reading.{Reader, Gives}
use Rattle.cache_words.specs.Items.{there_at}
use Rattle.cache_words.specs.Cursor.{IsTaken, IsPassed, Advances, Passes}
use Rattle.cache_words.proofs.ReadingLaws.{IsBytes, Agrees, Skips, ok_is}

-- a reader's value with what it left
pub taken_ok : {X V : Type 0} (view : X → V) (read : Reader V) (P : Spelling V) → Agrees read P → (old new : List ℕ) (x : X) → IsBytes old
    → read old ≡ Ok (view x, new) → IsTaken view read P old new (Ok x)
taken_ok {X} {V} view read P a old new x fits e = record {
  exact = e;
  found = let t = a.takes old (view x, new) fits e in (t.text, t.spelled, t.parts);
  only = λ v text rest s parts.
      let same : (view x, new) ≡ (v, rest) = ok_is (view x, new) (v, rest) (sym e ∙ ap read parts ∙ a.again v text rest s) in
      (ap (λ (p : V × List ℕ). p.0) same, ap (λ (p : V × List ℕ). p.1) same);
  kept = tt;
}

pub taken_err : {X V : Type 0} (view : X → V) (read : Reader V) (P : Spelling V) → Agrees read P → (old : List ℕ) (e : PackFault)
    → read old ≡ Err e → IsTaken {X = X} view read P old old (Err e)
taken_err view read P a old e is = record {
  exact = is;
  found = tt;
  only = λ v text rest s parts. let given = sym is ∙ ap read parts ∙ a.again v text rest s in absurd cc;
  kept = refl;
}

pub advanced : {X Y V : Type 0} (view : X → V) (left : Y → List ℕ) (read : Reader V) (P : Spelling V) → Agrees read P
    → (old bytes new : List ℕ) (r : Result (X × Y) PackFault) (result : Result X PackFault) → bytes ≡ old → IsBytes bytes
    → Gives (λ x. (view x.0, left x.1)) r (read bytes) → Advances left old new r result → IsTaken view read P old new result
advanced view left read P a old bytes new (Ok x) result same fits given h =
    rw (h.0, h.1, ← same) (taken_ok view read P a bytes (left x.1) x.0 fits given)
advanced view left read P a old bytes new (Err e) result same fits given h = rw (h.0, h.1, ← same) (taken_err view read P a bytes e given)

pub passed : {Y : Type 0} (left : Y → List ℕ) (read : List ℕ → Result (List ℕ) PackFault) (IsText : List ℕ → Type 0) → Skips read IsText
    → (old bytes new : List ℕ) (r : Result Y PackFault) (result : Result (Unit {0}) PackFault) → bytes ≡ old → IsBytes bytes
    → Gives left r (read bytes) → Passes left old new r result → IsPassed read IsText old new result
passed left read IsText a old bytes new (Ok y) (Ok x) same fits given h = rw (h.1, ← same) (record {
  exact = given;
  found = let t = a.takes bytes (left y) fits given in (t.text, t.spelled, t.parts);
  only = λ text rest s parts. (refl, ok_is (left y) rest (sym given ∙ ap read parts ∙ a.again text rest s));
  kept = tt;
})
passed left read IsText a old bytes new (Ok y) (Err e) same fits given h = let bad = h.0 in absurd cc
passed left read IsText a old bytes new (Err e) result same fits given h = rw (h.0, h.1, ← same) (record {
  exact = given;
  found = tt;
  only = λ text rest s parts. let at = sym given ∙ ap read parts ∙ a.again text rest s in absurd cc;
  kept = refl;
})

-- what isn't present takes nothing
pub absent : {V : Type 0} (read : Reader (Option V)) (P : Spelling (Option V)) (old : List ℕ)
    → IsTaken (λ v. v) (there_at false read) (SpellThere false P) old old (Ok None)
absent read P old = record {
  exact = refl;
  found = ([], (refl, refl), refl);
  only = λ v text rest s parts. (sym s.0, parts ∙ ap (λ (t : List ℕ). t ++ rest) s.1);
  kept = tt;
}
