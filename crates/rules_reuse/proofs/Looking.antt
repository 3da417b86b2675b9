-- What is looked up.
use Rattle.std.proofs.Common.{◌≡◌, ℕ, List, ◌∷◌, refl, sym, ◌∙◌, ap, Bool, true, false, not, ◌||◌, cond, ◌⊎◌, inl, inr, codes}
use Rattle.std.specs.Prelude.{bytes_eq, Option, Some, None}
use Rattle.std.specs.Cmp.Lexicographic.{bytes_decides}
use Rattle.rules_fields.specs.Types.{Asked, Chosen}
use Rattle.rules_reuse.specs.declared.planning.Plan.{Plan}
use Rattle.rules_reuse.specs.declared.planning.Plan.TheVariants.{Look, Pass, LastForward, OnlyIfCached}
use Rattle.rules_reuse.specs.declared.planning.Why.{Why}
use Rattle.rules_reuse.specs.Planning.{plan_of, or_look, is_last_forward, is_method}
use Rattle.rules_reuse.specs.declared.planning.Why.TheVariants.{Method}

is_look : Plan → Bool
is_look Look = true
is_look (Pass w) = false
is_look (LastForward n) = false
is_look OnlyIfCached = false

one_of : (m a b : List ℕ) → (bytes_eq m a || bytes_eq m b) ≡ true → (m ≡ a) ⊎ (m ≡ b)
one_of m a b h = go (bytes_eq m a) refl h
  where
    go : (t : Bool) → bytes_eq m a ≡ t → (t || bytes_eq m b) ≡ true → (m ≡ a) ⊎ (m ≡ b)
    go true e k = inl ((bytes_decides m a).0 e)
    go false e k = inr ((bytes_decides m b).0 k)

-- a table whose first row holds gives no look-up
row_fails : (last read only : Bool) (n : ℕ) (rest : Option Why) → is_look (cond last (LastForward n) (or_look only (cond (not read) (Some Method) rest))) ≡ true → read ≡ true
unfolding is_look
row_fails true read only n rest h = cc
row_fails false true only n rest h = refl
row_fails false false true n rest h = cc
row_fails false false false n rest h = cc

is_look-look : is_look Look ≡ true
unfolding is_look
is_look-look = refl

pub looks : (request : Asked) (o : Chosen) → plan_of request o ≡ Look → (request.method ≡ codes "GET") ⊎ (request.method ≡ codes "HEAD")
looks request o h =
    one_of request.method (codes "GET") (codes "HEAD")
    (row_fails (is_last_forward request) (is_method request (codes "GET") || is_method request (codes "HEAD")) _ _ _ (ap is_look h ∙ is_look-look))
