use Rattle.std.proofs.Common.{◌≡◌, ℕ, List, ◌∷◌, [], Bool, true, false, not, ◌&&◌, ◌||◌, sym, ◌∙◌, refl, codes, ◌==◌}
use Rattle.std.specs.Prelude.{unwrap_or, is_some}
use Rattle.std.specs.Option.{option_map_or}
use Rattle.rules_fields.specs.Fields.{Field, has_line}
use Rattle.rules_fields.specs.Rows.{first_true}
use Rattle.rules_fields.specs.Asking.{seconds_under}
use Rattle.rules_fields.specs.Says.{says}
use Rattle.rules_fields.specs.Types.{Asked, KeptHead, Chosen}
use Rattle.rules_storage.specs.Judge.{opens_authorized}
use Rattle.rules_storage.specs.Good.{is_late_by}
use Rattle.rules_reuse.specs.Planning.{asked_directives, is_reload}
use Rattle.rules_reuse.specs.declared.using.Use.{Use}
use Rattle.rules_reuse.specs.declared.using.Use.TheVariants.{Pass, Validate, Fresh, Stale, Meanwhile}
use Rattle.rules_reuse.specs.Using.{is_older, is_fresh_for, most_late, must_validate, use_of, goes_by_lines}
use Rattle.rules_reuse.proofs.laws.use_goes_by_times.Goals as goal

-- the use, by whether the request is closed out, and whether it takes what is stale
abbrev by_tests : Bool → Bool → Asked → KeptHead → ℕ → Chosen → Use
by_tests closed stale request kept now o =
    let ds = asked_directives request o in
    unwrap_or (first_true ((Pass, closed)
    ∷ (Validate, is_reload request o || is_older kept now (seconds_under (codes "max-age") ds))
    ∷ (Fresh, is_fresh_for kept now (unwrap_or (seconds_under (codes "min-fresh") ds) 0))
    ∷ (Validate, is_some (seconds_under (codes "min-fresh") ds))
    ∷ (Stale, stale)
    ∷ (Meanwhile, is_late_by kept now kept.stale_while_revalidate && not (kept.stale_while_revalidate == 0))
    ∷ [])) Validate

neither : (a b x y v w : Bool) (request : Asked) (kept : KeptHead) (now : ℕ) (o : Chosen) → (a || b) ≡ false → by_tests (a && x) (b && y) request kept now o ≡ by_tests (a && v) (b && w) request kept now o
neither true b x y v w request kept now o h = cc
neither false true x y v w request kept now o h = cc
neither false false x y v w request kept now o h = refl

pub returns : goal.returns
returns c = λ request kept lines now o h.
    neither (has_line (codes "authorization") request.lines && not o.authorized_reads)
    (option_map_or (λ n. is_late_by kept now n) (most_late (asked_directives request o)) false)
    (not (opens_authorized (says lines o))) (not (must_validate (record kept { lines = lines }) o))
    (not (opens_authorized (says kept.lines o))) (not (must_validate kept o))
    request kept now o h
