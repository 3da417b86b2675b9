use Rattle.std.proofs.Common.{◌≡◌, ℕ, List, Bool, false, cond, sym, ap, ◌∙◌, subst, map}
use Rattle.std.specs.Prelude.{Option, option_map, is_some, IfOk}
use Rattle.rules_fields.specs.Types.{Asked, KeptHead, Chosen, asked_of, kept_of, chosen}
use Rattle.rules_response.specs.Matching.{matches}
use Rattle.rules_response.specs.Spans.{spans}
use Rattle.rules_response.specs.Reply.{Reply, reply_of}
use Rattle.rules_response.specs.Answering.{known_length, not_modified, chosen_parts, answer_with, answer_of}
use Rattle.rules_response.proofs.answering.answer_of.Goals as goal

abbrev reply_by : Bool → Option ℕ → Option (List (ℕ × ℕ)) → Asked → KeptHead → ℕ → Option (List ℕ) → List (List ℕ) → Chosen → Reply
reply_by match n ps request kept now boundary how o = cond match (not_modified kept now how o) (answer_with ps request kept n now boundary how o)

-- where no condition matches
unmatched : (request : Asked) (kept : KeptHead) (length n : Option ℕ) (ps : Option (List (ℕ × ℕ))) (has_boundary : Bool) (now : ℕ) (boundary : Option (List ℕ)) (how : List (List ℕ)) (o : Chosen) → matches request kept ≡ false → known_length length kept ≡ n → is_some boundary ≡ has_boundary → chosen_parts request kept n has_boundary o ≡ ps → answer_of request kept length now boundary how o ≡ answer_with ps request kept n now boundary how o
unmatched request kept length n ps has_boundary now boundary how o m k b e =
    ap (λ (t : Bool). reply_by t (known_length length kept) (chosen_parts request kept (known_length length kept) (is_some boundary) o) request kept now boundary how o) m
    ∙ ap (λ (j : Option ℕ). reply_by false j (chosen_parts request kept j (is_some boundary) o) request kept now boundary how o) k
    ∙ ap (λ (t : Bool). reply_by false n (chosen_parts request kept n t o) request kept now boundary how o) b
    ∙ ap (λ (qs : Option (List (ℕ × ℕ))). reply_by false n qs request kept now boundary how o) e

pub returns : goal.returns
returns c =
    subst (λ (r : Reply). IfOk c.answer_with.result (λ a. reply_of a ≡ r))
    (sym (unmatched (asked_of c.args.request.now) (kept_of c.args.kept.now) c.args.length c.known_length-length.result (option_map (λ ps. spans ps.items) c.in_ok-parts.parts) c.is_there-has_boundary.result c.args.now (option_map (λ b. b.now) c.args.boundary) (map (λ h. h.now) c.args.how.now) (chosen c.args.options.now)
    (sym c.in_ok-matches.ensures ∙ c.if-branch.false) (sym c.known_length-length.ensures) (sym c.is_there-has_boundary.ensures) (sym c.in_ok-parts.ensures)))
    c.answer_with.ensures
