use Rattle.std.proofs.Common.{ap, ap₂, sym, ◌∙◌, ◌+◌, ◌<◌, ℕ, ◌≡◌, eqb, cond, Bool, true, false, List, ◌++◌, refl, set, length, Vec, Global}
use Rattle.std.proofs.lemmas.Bool.{eqb-true}
use Rattle.curve_runs.specs.declared.run.Run.{Run}
use Rattle.curve_runs.specs.declared.run.Load.{Load}
use Rattle.curve_runs.specs.Runs.{at, runs_of, since_of, loaded}
use Rattle.curve_runs.specs.Counts.{counted, fresh}
use Rattle.curve_runs.proofs.EntryRuns.{runs-get, runs-here, runs-there}
use Rattle.curve_runs.proofs.table.FreshTable.count.Goals as goal

renewed-since : (load : Load) (old runs : List (Vec Run Global)) (entry sizes : ℕ) (v : Vec Run Global) → entry < length runs → ((e : ℕ) → runs_of e runs ≡ runs_of e old)
    → ((i : ℕ) → i < sizes → at i v.items ≡ loaded load i (at i (runs_of entry old))) → (e i : ℕ) → i < sizes
    → since_of e i (set runs entry v) ≡ cond (eqb e entry) (loaded load i (since_of e i old)) (since_of e i old)
renewed-since load old runs entry sizes v l same is e i h = by_test (eqb e entry) refl
  where
    by_test : (t : Bool) → eqb e entry ≡ t → since_of e i (set runs entry v) ≡ cond t (loaded load i (since_of e i old)) (since_of e i old)
    by_test true p =
        let q = eqb-true e entry p in
        ap (λ (n : ℕ). at i (runs_of n (set runs entry v))) q ∙ ap (at i) (runs-here runs entry v l) ∙ is i h ∙ ap (λ (n : ℕ). loaded load i (since_of n i old)) (sym q)
    by_test false p = ap (at i) (runs-there runs e entry v p ∙ same e)

pub returns-clause-since : goal.returns-clause-since
returns-clause-since c =
    let e = c.args.entry in
    let d = c.index_mut-runs.result.now in
    let same = c.in_ok-known.ensures.same in
    let has = c.as_slice-3.ensures.value ∙ ap (λ (v : Vec Run Global). v.items) c.index_mut-runs.ensures.value ∙ sym (runs-get c.known.new.runs.items e d c.in_ok-known.ensures.within) ∙ same e in
    let items = c.in_ok-extend_from_slice.ensures.items ∙ ap₂ (λ (x y : List Run). x ++ y) c.clear.ensures.items c.as_slice-4.ensures.value in
    renewed-since c.args.load c.args.self.now.runs.items c.known.new.runs.items e c.args.self.now.sizes c.extend_from_slice.new.self c.in_ok-known.ensures.within same
    (λ i h. ap (at i) items ∙ c.in_ok-renew.ensures i h ∙ ap (λ (r : List Run). loaded c.args.load i (at i r)) has)

pub returns-clause-finds : goal.returns-clause-finds
returns-clause-finds c = λ i h.
    let e = c.args.entry in
    let d = c.index_mut-runs.result.now in
    let has = c.as_slice.ensures.value ∙ ap (λ (v : Vec Run Global). v.items) c.index_mut-runs.ensures.value ∙ sym (runs-get c.known.new.runs.items e d c.in_ok-known.ensures.within) ∙ c.in_ok-known.ensures.same e in
    c.in_ok-tally.ensures.added i h ∙ ap (λ (r : List Run). counted i c.args.self.now.finds + fresh c.args.load 1 i (at i r)) has

pub returns-clause-bytes : goal.returns-clause-bytes
returns-clause-bytes c = λ i h.
    let e = c.args.entry in
    let d = c.index_mut-runs.result.now in
    let has = c.as_slice-2.ensures.value ∙ ap (λ (v : Vec Run Global). v.items) c.index_mut-runs.ensures.value ∙ sym (runs-get c.known.new.runs.items e d c.in_ok-known.ensures.within) ∙ c.in_ok-known.ensures.same e in
    c.in_ok-tally-2.ensures.added i h ∙ ap (λ (r : List Run). counted i c.args.self.now.bytes + fresh c.args.load c.args.weight i (at i r)) has
