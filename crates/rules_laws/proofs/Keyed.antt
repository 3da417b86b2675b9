-- Requests with one key are fetched alike.
use Rattle.std.proofs.Common.{◌≡◌, ℕ, List, sym, ap, ◌∙◌, Bool, true, false, cond}
use Rattle.rules_fields.specs.Types.{Asked, Chosen}
use Rattle.rules_reuse.specs.Keys.{key_of, as_keyed, folded}
use Rattle.rules_reuse.specs.Laws.{lacks, IsTarget}
use Rattle.rules_reuse.proofs.Injective.{key_same}

unfolded : (o : Chosen) (target : List ℕ) → o.folds_percent ≡ false → as_keyed o target ≡ target
unfolded o target off = ap (λ (b : Bool). cond b (folded target) target) off

pub same_fetch : (r other : Asked) (o : Chosen) → o.folds_percent ≡ false → lacks 58 r.scheme ≡ true → lacks 58 other.scheme ≡ true → lacks 47 r.host ≡ true → lacks 47 other.host ≡ true
    → IsTarget r.target → IsTarget other.target → key_of r.scheme r.host r.target o ≡ key_of other.scheme other.host other.target o → (r.host ≡ other.host) × (r.target ≡ other.target)
same_fetch r other o off a b c d t u k =
    let all = key_same r.scheme other.scheme r.host other.host r.target other.target o a b c d t u k in
    (all.1, sym (unfolded o r.target off) ∙ all.2 ∙ unfolded o other.target off)
