-- Writes and renames of a folder in memory, by putting a file and removing one.
use Rattle.std.proofs.Common.{◌≡◌, ◌≢◌, ℕ, List, ◌++◌, Option, Some, IsSome, sym, ◌∙◌, refl, ap, subst}
use Rattle.lru_files.specs.Folder.{Files, IsPut, IsGone, IsMoved, Writes}

some_same : {x y : List ℕ} → Some x ≡ Some y → x ≡ y
some_same e = cc

pub writes-put : {opened : Option (List ℕ)} {at before whole : List ℕ} (bytes : List ℕ) {old new : Files} → opened ≡ Some at → old at ≡ Some before → whole ≡ before ++ bytes
    → IsPut old new at whole → Writes bytes opened old new
writes-put {at = at} {before = before} bytes {old} {new} is_open was is_whole put = subst (λ o. Writes bytes o old new) (sym is_open) (record {
  was = subst (λ f. IsSome f) (sym was) refl;
  grown = λ b is_b. put.there ∙ ap Some is_whole ∙ ap (λ x. Some (x ++ bytes)) (some_same (sym was ∙ is_b));
  others = put.others;
})

pub moved-put : {from to file : List ℕ} {old now new : Files} → from ≢ to → old from ≡ Some file → IsPut old now to file → IsGone now new from → IsMoved old new from to
moved-put {to = to} apart was put gone = record {
  there = gone.others to (λ e. apart (sym e)) ∙ put.there ∙ sym was;
  gone = λ away. gone.gone;
  others = λ path away_from away. gone.others path away_from ∙ put.others path away;
}
