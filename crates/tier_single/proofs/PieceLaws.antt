-- Pieces are taken.
use Rattle.std.proofs.Common.{◌≡◌, ℕ, refl, ap, sym, ◌∙◌, Bool, true, false, subst, inl, Some, None, Option, List}
use Rattle.std.specs.Prelude.{Ok, Err, not, MatchOption}
use Rattle.std.specs.FinMap.{FinMap, get, insert}
use Rattle.std.specs.Ordering.{nat_cmp}
use Rattle.cache_words.specs.Time.{MomentValue}
use Rattle.tier_model.specs.declared.event.Action.TheVariants.{Piece}
use Rattle.tier_model.specs.declared.event.Answer.TheVariants.{Written}
use Rattle.tier_model.specs.declared.event.TierFault.{TierFault}
use Rattle.tier_model.specs.declared.event.TierFault.TheVariants.{NoRequest, WrongPhase, AfterEnd, Memory}
use Rattle.tier_model.specs.Calls.{Outcome, nothing_done}
use Rattle.tier_model.specs.Shelf.{Shelf, flying_at}
use Rattle.tier_model.specs.State.{Request, State}
use Rattle.tier_model.specs.Checks.{refusal, unless, unless_open, piece_refusal, has_ended}
use Rattle.tier_model.specs.Step.{AllowsBy}
use Rattle.tier_model.specs.After.{by_request, on_write, pieced, with_counts}
use Rattle.tier_requests.specs.Rows.{AddAnswer, PieceAnswer, OnOpen}
use Rattle.tier_single.specs.Acts.{Took}
use Rattle.tier_single.proofs.TookLaws.{insert-same, plain_call, Took-refused}

module _ (s : State) (t : MomentValue) (id : ℕ) (bytes : List ℕ) (last : Bool) where
  abbrev pub pieced_to : FinMap nat_cmp Request → Shelf → State
  pieced_to requests shelf = record s { requests = requests; shelf = shelf }

  abbrev checked : Option Request → Option TierFault
  checked o = unless_open o (λ q. piece_refusal q.write s.shelf)

  -- no write begins
  kept : (n : ℕ) (v : Bool) → record (pieced bytes v n s.shelf) { writes = s.shelf.writes } ≡ pieced bytes v n s.shelf
  kept n true = refl
  kept n false = refl

  refused_piece : (f : TierFault) → refusal s (Piece id bytes last) ≡ Some f → Took s t (Piece id bytes last) (Err f) s
  refused_piece f fails = Took-refused s t (Piece id bytes last) f fails tt refl tt refl

  module _ (q : Request) (n : ℕ) (there : get s.requests id ≡ Some q) (writes : q.write ≡ Some n) (goes_on : has_ended (flying_at n s.shelf.flying) ≡ false) where
    passed : refusal s (Piece id bytes last) ≡ None
    passed = ap checked there ∙ ap (λ (w : Option ℕ). piece_refusal w s.shelf) writes ∙ ap (λ v. unless (not v) AfterEnd) goes_on

    written_piece : Took s t (Piece id bytes last) (Ok Written) (record s { shelf = pieced bytes last n s.shelf })
    written_piece = (
      plain_call t (Piece id bytes last) (Ok Written) false,
      refl,
      refl,
      record {
        read = tt;
        outcome = subst (λ r. AllowsBy r s t (Piece id bytes last) (plain_call t (Piece id bytes last) (Ok Written) false) (Ok Written)) (sym passed) refl;
        begins = refl;
        asks = tt;
      },
      ap (λ (x : Shelf). record s { shelf = x }) (sym (kept n last)) ∙ ap (λ (w : Option ℕ). record s { shelf = record (on_write w (pieced bytes last) s.shelf) { writes = s.shelf.writes } }) (sym writes)
          ∙ ap (λ (o : Option Request). with_counts s.shelf.writes s.lock (by_request s o (λ p. record s { shelf = on_write p.write (pieced bytes last) s.shelf }))) (sym there),
    )

    memory_piece : Took s t (Piece id bytes last) (Err (Memory nothing_done)) s
    memory_piece = (
      plain_call t (Piece id bytes last) (Err (Memory nothing_done)) false,
      refl,
      refl,
      record {
        read = tt;
        outcome = subst (λ r. AllowsBy r s t (Piece id bytes last) (plain_call t (Piece id bytes last) (Err (Memory nothing_done)) false) (Err (Memory nothing_done))) (sym passed) (inl (refl, tt));
        begins = refl;
        asks = tt;
      },
      refl,
    )

  pub Took-piece : (o : Outcome) (requests : FinMap nat_cmp Request) (shelf : Shelf)
      → OnOpen id s.requests ((o ≡ Err NoRequest) × (shelf ≡ s.shelf)) (λ q left. (left ≡ q) × PieceAnswer q.write bytes last s.shelf o shelf) requests → Took s t (Piece id bytes last) o (pieced_to requests shelf)
  Took-piece o requests shelf h = by_open (get s.requests id) refl h
    where
      by_result : (q : Request) (n : ℕ) (o : Outcome) → get s.requests id ≡ Some q → q.write ≡ Some n → has_ended (flying_at n s.shelf.flying) ≡ false → AddAnswer false bytes last n s.shelf o shelf
          → Took s t (Piece id bytes last) o (pieced_to s.requests shelf)
      by_result q n (Ok a) there writes goes_on p = rw (p.0, p.1) (written_piece q n there writes goes_on)
      by_result q n (Err f) there writes goes_on p = rw (p.0, p.1) (memory_piece q n there writes goes_on)

      by_end : (q : Request) (n : ℕ) (v : Bool) → get s.requests id ≡ Some q → q.write ≡ Some n → has_ended (flying_at n s.shelf.flying) ≡ v → AddAnswer v bytes last n s.shelf o shelf
          → Took s t (Piece id bytes last) o (pieced_to s.requests shelf)
      by_end q n true there writes ended p =
          rw (p.0, p.1) (refused_piece AfterEnd (ap checked there ∙ ap (λ (w : Option ℕ). piece_refusal w s.shelf) writes ∙ ap (λ v. unless (not v) AfterEnd) ended))
      by_end q n false there writes goes_on p = by_result q n o there writes goes_on p

      by_write : (q : Request) (w : Option ℕ) → get s.requests id ≡ Some q → q.write ≡ w → PieceAnswer w bytes last s.shelf o shelf → Took s t (Piece id bytes last) o (pieced_to s.requests shelf)
      by_write q None there none p = rw (p.0, p.1) (refused_piece WrongPhase (ap checked there ∙ ap (λ (w : Option ℕ). piece_refusal w s.shelf) none))
      by_write q (Some n) there writes p = by_end q n (has_ended (flying_at n s.shelf.flying)) there writes refl p

      by_open : (x : Option Request) → get s.requests id ≡ x
          → MatchOption x (((o ≡ Err NoRequest) × (shelf ≡ s.shelf)) × (requests ≡ s.requests))
          (λ q. (left : Request) × ((left ≡ q) × PieceAnswer q.write bytes last s.shelf o shelf) × (requests ≡ insert s.requests id left))
          → Took s t (Piece id bytes last) o (pieced_to requests shelf)
      by_open None none h = rw (h.0.0, h.0.1, h.1) (refused_piece NoRequest (ap checked none))
      by_open (Some q) there h = rw (h.2, h.1.0, insert-same s.requests id q there) (by_write q q.write there refl h.1.1)
