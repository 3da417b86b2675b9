-- What is good for others stays.
use Rattle.std.proofs.Common.{◌≡◌, ℕ, Bool, true, false, not, ◌&&◌, ◌||◌, ◌==◌, List, refl, ap, ◌∙◌}
use Rattle.std.specs.Prelude.{nat_lt, Option, Some, None, Result, Ok, Err, IfErr, option_map}
use Rattle.std.specs.Option.{option_map_or}
use Rattle.rules_fields.specs.Says.{says}
use Rattle.rules_fields.specs.Types.{Chosen, Asked, Answered, KeptHead}
use Rattle.rules_storage.specs.Ages.{is_fresh}
use Rattle.rules_storage.specs.declared.reason.Reason.{Reason}
use Rattle.rules_storage.specs.declared.reason.Reason.TheVariants.{StoredIsGood}
use Rattle.rules_storage.specs.Good.{is_good, says_gone, is_outdated, outlasts_error, removes, is_error_outlasted, is_stale_outlasted, is_of_the_exchange}
use Rattle.rules_storage.specs.Judge.{or_kept, first_why, refusal, kept_from, reason_of, judgement}

no_both : (b : Bool) → (b && not true) ≡ false
no_both true = refl
no_both false = refl

-- what is good isn't outdated
not_outdated : (kept : KeptHead) (code now : ℕ) → is_good kept now ≡ true → says_gone code ≡ false → is_outdated kept code now ≡ false
not_outdated kept code now good gone = rw (gone, good) (no_both (nat_lt code 400))

not_removed : (kept : KeptHead) (code now : ℕ) (why : Reason) → is_good kept now ≡ true → says_gone code ≡ false → removes (Some kept) code now why ≡ false
not_removed kept code now why good gone = ap (λ (b : Bool). b && not (is_of_the_exchange why)) (not_outdated kept code now good gone)

told : (kept : KeptHead) (code now : ℕ) (new : KeptHead) (why : Option Reason) → is_good kept now ≡ true → says_gone code ≡ false
    → IfErr (or_kept (option_map (λ reason. (reason, removes (Some kept) code now reason)) why) new) (λ w. w.1 ≡ false)
told kept code now new None good gone = tt
told kept code now new (Some reason) good gone = not_removed kept code now reason good gone

pub stays : (r : Asked) (method : List ℕ) (p : Answered) (asked came code : ℕ) (kept : KeptHead) (o : Chosen) → is_good kept came ≡ true → says_gone code ≡ false
    → IfErr (judgement r method p asked came (Some kept) code o) (λ why. why.1 ≡ false)
unfolding judgement
stays r method p asked came code kept o good gone =
    let s = says p.lines o in
    let new = kept_from s p asked came o in
    let why = reason_of r method p s new o in
    told kept code came new (first_why (is_error_outlasted (Some kept) code came) why (is_stale_outlasted (Some kept) new.lifetime came)) good gone

outlasted : (kept : KeptHead) (code now : ℕ) → is_good kept now ≡ true → says_gone code ≡ false → nat_lt code 400 ≡ false → outlasts_error kept code now ≡ true
outlasted kept code now good gone error = rw (good, gone, error) refl

first_is_good : (why : Option Reason) (stale : Bool) → first_why true why stale ≡ Some StoredIsGood
first_is_good None stale = refl
first_is_good (Some why) stale = refl

pub keeps : (r : Asked) (method : List ℕ) (p : Answered) (asked came code : ℕ) (kept : KeptHead) (o : Chosen) → is_good kept came ≡ true → says_gone code ≡ false → nat_lt code 400 ≡ false
    → judgement r method p asked came (Some kept) code o ≡ Err (StoredIsGood, false)
unfolding judgement
keeps r method p asked came code kept o good gone error =
    let s = says p.lines o in
    let new = kept_from s p asked came o in
    let why = reason_of r method p s new o in
    let stale = is_stale_outlasted (Some kept) new.lifetime came in
    let first : first_why (outlasts_error kept code came) why stale ≡ Some StoredIsGood =
    ap (λ (b : Bool). first_why b why stale) (outlasted kept code came good gone error) ∙ first_is_good why stale in
    ap (λ (w : Option Reason). or_kept (option_map (λ reason. (reason, removes (Some kept) code came reason)) w) new) first
    ∙ ap (λ (b : Bool). Err (StoredIsGood, b)) (not_removed kept code came StoredIsGood good gone)
