-- The lines of a head in another order, as a map of them gives them again.
use Rattle.std.specs.Prelude.{ℕ, ◌≡◌, List}
use Rattle.rules_fields.specs.Fields.{Field, all}
use Rattle.rules_fields.specs.Types.{KeptHead}
use Rattle.rules_response.specs.Reply.{Reply}

-- each name has the same values in both, in the same order
abbrev pub AreAlike : List Field → List Field → Type 0
AreAlike lines other = (name : List ℕ) → all name lines ≡ all name other

-- what is kept, with other lines
abbrev pub with_lines : KeptHead → List Field → KeptHead
with_lines kept lines = record {
  status = kept.status;
  lines = lines;
  arrival = kept.arrival;
  lifetime = kept.lifetime;
  stale_while_revalidate = kept.stale_while_revalidate;
  stale_if_error = kept.stale_if_error;
}

-- two answers of one status, with the same pieces of the body behind lines that are alike
pub record AnswersAlike (a b : Reply) : Type 0 where
  pub status : a.status ≡ b.status
  pub lines : AreAlike a.lines b.lines
  pub pieces : a.pieces ≡ b.pieces
  pub after : a.after ≡ b.after
