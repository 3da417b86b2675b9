-- Words that are drawn one by one.
use Rattle.std.proofs.Common.{◌≡◌, ℕ, suc, List, [], ◌∷◌, ◌++◌, sym, ap, ◌∙◌, append_assoc, append-nil}
use Rattle.rand_core.specs.Stream.{Stream, next_u32}
use Rattle.trace_replay.specs.Restarts.{next_words}

-- of n words from the first stream on these are drawn, and so many are left to draw
pub record IsDrawing (n : ℕ) (first : Stream) (words : List ℕ) (left : ℕ) (s : Stream) : Type 0 where
  pub words_are : words ++ (next_words left s).0 ≡ (next_words n first).0
  pub rest_is : (next_words left s).1 ≡ (next_words n first).1

pub draw_start : (n left : ℕ) (s : Stream) (words : List ℕ) → left ≡ n → words ≡ [] → IsDrawing n s words left s
draw_start n left s words all none = record {
  words_are = ap (λ (w : List ℕ). w ++ (next_words left s).0) none ∙ ap (λ (k : ℕ). (next_words k s).0) all;
  rest_is = ap (λ (k : ℕ). (next_words k s).1) all;
}

pub draw_more : (n : ℕ) (first : Stream) (words more : List ℕ) (left less : ℕ) (s t : Stream) (w : ℕ) → left ≡ suc less → (w, t) ≡ next_u32 s → more ≡ words ++ w ∷ []
    → IsDrawing n first words left s → IsDrawing n first more less t
draw_more n first words more left less s t w one drew grows h = record {
  words_are = ap (λ (l : List ℕ). l ++ (next_words less t).0) grows ∙ append_assoc words (w ∷ []) (next_words less t).0
      ∙ ap (λ (p : ℕ × Stream). words ++ p.0 ∷ (next_words less p.1).0) drew
      ∙ ap (λ (k : ℕ). words ++ (next_words k s).0) (sym one) ∙ h.words_are;
  rest_is = ap (λ (p : ℕ × Stream). (next_words less p.1).1) drew ∙ ap (λ (k : ℕ). (next_words k s).1) (sym one) ∙ h.rest_is;
}

pub draw_done : (n : ℕ) (first : Stream) (words : List ℕ) (left : ℕ) (s : Stream) → left ≡ 0 → IsDrawing n first words left s → (words, s) ≡ next_words n first
draw_done n first words left s none h =
    let all : words ≡ (next_words n first).0 = sym (append-nil words) ∙ ap (λ (k : ℕ). words ++ (next_words k s).0) (sym none) ∙ h.words_are in
    let rest : s ≡ (next_words n first).1 = ap (λ (k : ℕ). (next_words k s).1) (sym none) ∙ h.rest_is in
    λ i. (all i, rest i)
