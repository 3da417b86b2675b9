use Rattle.std.proofs.Common.{ℕ, ◌∷◌, [], List, map, Option, arith, sym, ap, length, refl, subst}
use Rattle.curve_sizes.specs.Rows.{empty_row}
use Rattle.curve_sizes.specs.Requests.{AreFound}
use Rattle.curve_sizes.specs.Numbers.{mark_of}
use Rattle.cache_entries.specs.declared.entry.CacheEntryKey.{CacheEntryKey}
use Rattle.curve_sizes.proofs.curve.SizeCurve.new.Goals as goal

nothing : (weight : CacheEntryKey → ℕ) (mark : Option ℕ) (limits : List ℕ) → AreFound weight mark [] (map empty_row limits)
nothing weight mark [] = tt
nothing weight mark (l ∷ limits) = ((refl, refl), nothing weight mark limits)

pub returns-clause-fed : goal.returns-clause-fed
returns-clause-fed c = record {
  whole = refl;
  entries = ap (λ (xs : List ℕ). length xs) c.new-3.ensures.items;
  known = λ n l. absurd (omega (arith, l, ap (λ (xs : List ℕ). length xs) c.new-3.ensures.items));
  numbers = tt;
  first = λ weight a n l. absurd (omega (arith, l, ap (λ (xs : List ℕ). length xs) c.new-3.ensures.items));
  shown = λ weight a. record {
    places = c.new-2.ensures;
    marked = c.marked.ensures.none;
    rows = subst (AreFound weight (mark_of c.marked.result) []) (sym c.in_ok-new.ensures) (nothing weight (mark_of c.marked.result) c.args.limits.now);
    totals = record { asked = refl; removed = refl; odd = refl; bytes = refl; said = refl };
  };
}
