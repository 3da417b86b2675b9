-- Max-Forwards among the lines that are sent on.
use Rattle.std.proofs.Common.{◌≡◌, ℕ, List, [], ◌∷◌, ◌++◌, refl, sym, ap, ◌∙◌, Bool, true, false, not, ◌&&◌, cond, map, filter, codes, ◌==◌}
use Rattle.std.specs.Prelude.{Option, Some, option_and_then}
use Rattle.std.specs.Option.{option_map_or}
use Rattle.std.proofs.lemmas.List.{append-nil}
use Rattle.rules_fields.specs.Numbers.{digits}
use Rattle.rules_fields.specs.Tables.{among, frames}
use Rattle.rules_fields.specs.Fields.{Field, is_named, all, first, without}
use Rattle.rules_fields.specs.Types.{Asked, Chosen}
use Rattle.http1_message_parts.specs.Via.{via_value}
use Rattle.rules_reuse.specs.Planning.{is_method, is_last_forward, passing, asked_directives, only_if_cached, or_look, plan_of}
use Rattle.rules_reuse.specs.declared.planning.Plan.{Plan}
use Rattle.rules_reuse.specs.declared.planning.Plan.TheVariants.{LastForward}
use Rattle.rules_fields.specs.Rows.{first_true}
use Rattle.rules_forward.specs.Forward.{is_counted, one_less, counted, rewritten, for_line, trailers_lines, passed, forward}
use Rattle.rules_laws.proofs.Named.{all_joined, all_passing}

abbrev max : List ℕ
max = codes "max-forwards"

for_none : (adds : Bool) (peer : List ℕ) (lines : List Field) → all max (for_line adds peer lines) ≡ []
for_none true peer lines = refl
for_none false peer lines = refl

trailers_none : (takes : Bool) → all max (trailers_lines takes) ≡ []
trailers_none true = refl
trailers_none false = refl

all_counted : (lines : List Field) → all max (map (counted true) lines) ≡ map one_less (all max lines)
all_counted [] = refl
all_counted (f ∷ lines) = go (is_named max f) refl (all_counted lines)
  where
    go : (t : Bool) → is_named max f ≡ t → all max (map (counted true) lines) ≡ map one_less (all max lines)
        → all max (map (counted true) (f ∷ lines)) ≡ map one_less (all max (f ∷ lines))
    go true e h = rw (e, e) (ap (λ (vs : List (List ℕ)). one_less f.1 ∷ vs) h)
    go false e h = rw (e, e) h

rewritten_not : (adds : Bool) → not (among (rewritten adds) max) ≡ true
rewritten_not true = refl
rewritten_not false = refl

all_kept : (names : List (List ℕ)) (lines : List Field) → not (among names max) ≡ true → all max (without names lines) ≡ all max lines
all_kept names lines h = all_passing (λ n. not (among names n)) max lines ∙ ap (λ (t : Bool). cond t (all max lines) []) h

all_passed : (o : Chosen) (lines : List Field) → all max (passed o lines) ≡ all max (without o.drops lines)
all_passed o lines =
    all_passing (λ n. not (among o.drops n)) max (without frames lines)
    ∙ ap (λ (vs : List (List ℕ)). cond (not (among o.drops max)) vs []) (all_kept frames lines refl)
    ∙ sym (all_passing (λ n. not (among o.drops n)) max lines)

pub goes_down : (r : Asked) (peer : List ℕ) (o : Chosen) → is_counted r.method ≡ true → all max (forward r peer o) ≡ map one_less (all max (without o.drops r.lines))
unfolding forward
goes_down r peer o h =
    let lines = passed o r.lines in
    let own = without (rewritten o.forwards_for) lines in
    let front : List Field = (codes "Host", r.host) ∷ map (counted (is_counted r.method)) own in
    let others = for_line o.forwards_for peer lines in
    let via : List Field = (codes "Via", via_value r.minor o.name lines) ∷ [] in
    let last = trailers_lines r.takes_trailers in
    let none : (xs ys : List Field) → all max ys ≡ [] → all max (xs ++ ys) ≡ all max xs =
    λ xs ys e. all_joined max xs ys ∙ ap (λ (vs : List (List ℕ)). all max xs ++ vs) e ∙ append-nil (all max xs) in
    none ((front ++ others) ++ via) last (trailers_none r.takes_trailers)
    ∙ none (front ++ others) via refl
    ∙ none front others (for_none o.forwards_for peer lines)
    ∙ ap (λ (c : Bool). all max (map (counted c) own)) h
    ∙ all_counted own
    ∙ ap (map one_less) (all_kept (rewritten o.forwards_for) lines (rewritten_not o.forwards_for) ∙ all_passed o r.lines)

pub answered : (r : Asked) (o : Chosen) → is_counted r.method ≡ true → option_and_then digits (first max r.lines) ≡ Some 0
    → plan_of r o ≡ LastForward (cond (is_method r (codes "OPTIONS")) 204 501)
answered r o h e =
    let last : is_last_forward r ≡ true =
    ap (λ (c : Bool). c && option_map_or (λ hops. hops == 0) (option_and_then digits (first max r.lines)) false) h
    ∙ ap (λ (n : Option ℕ). option_map_or (λ hops. hops == 0) n false) e in
    ap (λ (t : Bool). cond t (LastForward (cond (is_method r (codes "OPTIONS")) 204 501)) (or_look (only_if_cached r o) (first_true (passing r (asked_directives r o))))) last
