-- What is said of stored lines decides how they are used.
use Rattle.std.proofs.Common.{◌≡◌, ℕ, List, [], ◌∷◌, ap, ◌∙◌, Bool, false, not, ◌&&◌, ◌||◌, ◌==◌, cond, codes}
use Rattle.std.specs.Prelude.{Option, Some, max, unwrap_or, is_some, is_none}
use Rattle.std.specs.Option.{option_map_or}
use Rattle.rules_fields.specs.Fields.{Field, has_line}
use Rattle.rules_fields.specs.Asking.{seconds_under}
use Rattle.rules_fields.specs.Rows.{first_true}
use Rattle.rules_fields.specs.Says.{Said}
use Rattle.rules_fields.specs.Types.{Asked, KeptHead, Chosen}
use Rattle.rules_storage.specs.Lifetime.{forbids_stale}
use Rattle.rules_storage.specs.Judge.{opens_authorized}
use Rattle.rules_reuse.specs.Planning.{asked_directives, is_reload}
use Rattle.rules_reuse.specs.declared.using.Use.{Use}
use Rattle.rules_reuse.specs.declared.using.Use.TheVariants.{Pass, Validate, Fresh, Stale, Meanwhile}
use Rattle.rules_storage.specs.Good.{is_late_by}
use Rattle.rules_reuse.specs.Using.{is_closed, must_validate, is_older, is_fresh_for, most_late, use_of, is_failure, may_spare, error_of}
use Rattle.rules_laws.specs.Alike.{AreAlike, with_lines}
use Rattle.rules_laws.proofs.Same.{says_same}

closed_same : (request : Asked) (kept : KeptHead) (other : List Field) → AreAlike kept.lines other → (o : Chosen) → is_closed request kept o ≡ is_closed request (with_lines kept other) o
closed_same request kept other a o =
    ap (λ (s : Said). has_line (codes "authorization") request.lines && not o.authorized_reads && not (opens_authorized s)) (says_same kept.lines other a o)

must_same : (kept : KeptHead) (other : List Field) → AreAlike kept.lines other → (o : Chosen) → must_validate kept o ≡ must_validate (with_lines kept other) o
must_same kept other a o = ap (λ (s : Said). forbids_stale s o) (says_same kept.lines other a o)

-- the use, by what is said of the lines
abbrev use_by : Bool → Bool → Asked → KeptHead → ℕ → Chosen → Use
use_by closed must request kept now o =
    let ds = asked_directives request o in
    unwrap_or (first_true
    ((Pass, closed)
    ∷ (Validate, is_reload request o || is_older kept now (seconds_under (codes "max-age") ds))
    ∷ (Fresh, is_fresh_for kept now (unwrap_or (seconds_under (codes "min-fresh") ds) 0))
    ∷ (Validate, is_some (seconds_under (codes "min-fresh") ds))
    ∷ (Stale, option_map_or (λ n. is_late_by kept now n) (most_late ds) false && not must)
    ∷ (Meanwhile, is_late_by kept now kept.stale_while_revalidate && not (kept.stale_while_revalidate == 0))
    ∷ [])) Validate

pub use_same : (request : Asked) (kept : KeptHead) (other : List Field) → AreAlike kept.lines other → (now : ℕ) (o : Chosen)
    → use_of request kept now o ≡ use_of request (with_lines kept other) now o
use_same request kept other a now o =
    ap (λ (c : Bool). use_by c (must_validate kept o) request kept now o) (closed_same request kept other a o)
    ∙ ap (λ (m : Bool). use_by (is_closed request (with_lines kept other) o) m request kept now o) (must_same kept other a o)

abbrev spared_by : Bool → Asked → KeptHead → ℕ → Option ℕ → Chosen → Bool
spared_by must request kept now status o =
    is_failure status && not (is_reload request o)
    && (let most = cond must kept.stale_if_error
    (max kept.stale_if_error (max (unwrap_or (seconds_under (codes "stale-if-error") (asked_directives request o)) 0) (cond (is_none status) o.stale_if_down 0))) in
    not (most == 0) && is_late_by kept now most)

pub spared_same : (request : Asked) (kept : KeptHead) (other : List Field) → AreAlike kept.lines other → (now : ℕ) (status : Option ℕ) (o : Chosen)
    → may_spare request kept now status o ≡ may_spare request (with_lines kept other) now status o
spared_same request kept other a now status o = ap (λ (m : Bool). spared_by m request kept now status o) (must_same kept other a o)

pub error_same : (kept : KeptHead) (other : List Field) → AreAlike kept.lines other → (o : Chosen) → error_of (Some kept) o ≡ error_of (Some (with_lines kept other)) o
error_same kept other a o = ap (λ (m : Bool). cond m 504 502) (must_same kept other a o)
