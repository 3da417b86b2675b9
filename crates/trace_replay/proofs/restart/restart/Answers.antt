use Rattle.std.proofs.Common.{◌≡◌, ◌∙◌, ℕ, List, [], length, Ok, Err, sym, refl, ap, subst, arith, rules}
use Rattle.std.proofs.lemmas.Result.{on_ok_weaker}
use Rattle.rand_core.specs.Stream.{Stream}
use Rattle.std.proofs.KnownBytes.{Appends-nil}
use Rattle.tier_model.specs.declared.event.TierFault.TheVariants as fault
use Rattle.tier_model.specs.Past.{HasPast}
use Rattle.tier_model.specs.Started.{IsNew, opening_of}
use Rattle.tier_model.specs.State.{State, empty_state}
use Rattle.tier_model.proofs.StartedLaws.{empty-new}
use Rattle.cache_evict.specs.Managed.{fresh}
use Rattle.tier_single.specs.Restarts.{SavesOrder, LoadsOrder}
use Rattle.trace_replay.specs.declared.replay.ReplayError.TheVariants.{TooManyReads}
use Rattle.trace_replay.specs.Starts.{settings_over}
use Rattle.trace_replay.specs.Restarts.{counts_text, holding, next_words, start_from}
use Rattle.trace_replay.specs.Words.{pcg_words}
use Rattle.trace_replay.proofs.OutputLemmas.{on_err, on_err_weaker, on_ok}
use Rattle.trace_replay.proofs.RestartLaws.{early_answered, early_begun, early_saved, early_start, early_untouched, is_reported, is_unreported, length_words, on_ok_is, restarted, untouched}
use Rattle.trace_replay.proofs.restart.restart.Goals as goal

pub start-requires : goal.start-requires
start-requires g c = (omega arith, subst IsNew (sym c.in_ok-tier.ensures.state) (empty-new (settings_over g.row.N c.args.options.now)))

pub save-requires : goal.save-requires
save-requires g c = (omega arith, ap length (c.as_slice.ensures.value ∙ ap (λ (p : List ℕ × Stream). p.0) c.in_ok-words.ensures.words) ∙ length_words g.row.N (pcg_words c.answer_trace.new.rng))

pub returns-clause-restarts : goal.returns-clause-restarts
returns-clause-restarts g c =
    let o = c.args.options.now in
    let s = c.start.new.tier in
    let m = s.managed in
    let is : s ≡ holding g.row.N o m = c.start.ensures.others ∙ ap (λ (x : State). record x { managed = m }) c.in_ok-tier.ensures.state in
    let past : HasPast (opening_of (holding g.row.N o m)) s [] = subst (λ (x : State). HasPast (opening_of x) s []) is c.start.ensures.past in
    let loaded = c.in_ok-start.ensures.loaded in
    let words : c.as_slice.result.now ≡ (next_words g.row.N (pcg_words c.answer_trace.new.rng)).0 = c.as_slice.ensures.value ∙ ap (λ (p : List ℕ × Stream). p.0) c.in_ok-words.ensures.words in
    on_ok_weaker c.save.result (λ h.
    restarted g.F.Folder.did g.F.Folder.failures_of g.F.Folder.keeps g.F.Folder.files g.row.N o c.args.dir.now
    (g.R.Read.remaining c.args.reader.now) (g.W.Write.contents c.args.writer.now) (g.W.Write.contents c.start.new.writer) (g.W.Write.contents c.answer_trace.new.writer) (g.W.Write.contents c.save.new.writer)
    c.args.folder.now c.start.new.folder c.save.new.folder m loaded.0 c.answer_trace.new.tier (pcg_words c.answer_trace.new.rng) (Ok h.0.0) (counts_text h.0.0.saved (length h.0.0.failed.items)) c.save.result
    (subst (λ (x : State). LoadsOrder g.F.Folder.did g.F.Folder.failures_of g.F.Folder.keeps g.F.Folder.files g.row.N c.args.dir.now (fresh g.row.N x.managed.limit x.managed.watermark) m c.args.folder.now c.start.new.folder (Ok loaded.0)) c.in_ok-tier.ensures.state loaded.1)
    loaded.2
    (c.in_ok-answer_trace.ensures.answered (start_from g.row.N o m) past (ap pcg_words c.seed_from_u64-rng.ensures))
    (subst (λ ws. SavesOrder g.F.Folder.did g.F.Folder.failures_of g.F.Folder.keeps g.F.Folder.files g.row.N c.args.dir.now c.answer_trace.new.tier.managed ws c.start.new.folder c.save.new.folder (Ok h.0.0)) words h.0.1)
    (refl, h.1) h.0.2)
    (on_ok_is _ c.save.result c.save.ensures.saved)

pub returns-clause-unsaved : goal.returns-clause-unsaved
returns-clause-unsaved g c = λ told.
    let o = c.args.options.now in
    let s = c.start.new.tier in
    let m = s.managed in
    let is : s ≡ holding g.row.N o m = c.start.ensures.others ∙ ap (λ (x : State). record x { managed = m }) c.in_ok-tier.ensures.state in
    let past : HasPast (opening_of (holding g.row.N o m)) s [] = subst (λ (x : State). HasPast (opening_of x) s []) is c.start.ensures.past in
    let loaded = c.in_ok-start.ensures.loaded in
    let words : c.as_slice.result.now ≡ (next_words g.row.N (pcg_words c.answer_trace.new.rng)).0 = c.as_slice.ensures.value ∙ ap (λ (p : List ℕ × Stream). p.0) c.in_ok-words.ensures.words in
    let h = c.save.ensures.unsaved told in
    restarted g.F.Folder.did g.F.Folder.failures_of g.F.Folder.keeps g.F.Folder.files g.row.N o c.args.dir.now
    (g.R.Read.remaining c.args.reader.now) (g.W.Write.contents c.args.writer.now) (g.W.Write.contents c.start.new.writer) (g.W.Write.contents c.answer_trace.new.writer) (g.W.Write.contents c.save.new.writer)
    c.args.folder.now c.start.new.folder c.save.new.folder m loaded.0 c.answer_trace.new.tier (pcg_words c.answer_trace.new.rng) (Err fault.Folder) (counts_text 0 g.row.N) c.save.result
    (subst (λ (x : State). LoadsOrder g.F.Folder.did g.F.Folder.failures_of g.F.Folder.keeps g.F.Folder.files g.row.N c.args.dir.now (fresh g.row.N x.managed.limit x.managed.watermark) m c.args.folder.now c.start.new.folder (Ok loaded.0)) c.in_ok-tier.ensures.state loaded.1)
    loaded.2
    (c.in_ok-answer_trace.ensures.answered (start_from g.row.N o m) past (ap pcg_words c.seed_from_u64-rng.ensures))
    (subst (λ ws. SavesOrder g.F.Folder.did g.F.Folder.failures_of g.F.Folder.keeps g.F.Folder.files g.row.N c.args.dir.now c.answer_trace.new.tier.managed ws c.start.new.folder c.save.new.folder (Err fault.Folder)) words h.0)
    (refl, told) h.1

pub returns-in_err-tier-clause-early : goal.returns-in_err-tier-clause-early
returns-in_err-tier-clause-early g c =
    on_err c.from_residual.result
    (early_untouched g.F.Folder.did g.F.Folder.failures_of g.F.Folder.keeps g.F.Folder.files g.row.N c.args.options.now c.args.dir.now (g.R.Read.remaining c.args.reader.now)
    (g.W.Write.contents c.args.writer.now) (g.W.Write.contents c.args.writer.now) c.args.folder.now c.args.folder.now
    (untouched g.F.Folder.did g.F.Folder.failures_of g.F.Folder.keeps g.F.Folder.files c.args.folder.now) (Appends-nil (g.W.Write.contents c.args.writer.now)))

pub returns-in_err-start-clause-early : goal.returns-in_err-start-clause-early
returns-in_err-start-clause-early g c =
    on_err c.from_residual-in_err-start.result
    (early_start g.F.Folder.did g.F.Folder.failures_of g.F.Folder.keeps g.F.Folder.files g.row.N c.args.options.now c.args.dir.now c.in_ok-tier.tier c.in_ok-tier.ensures.state (g.R.Read.remaining c.args.reader.now)
    (g.W.Write.contents c.args.writer.now) (g.W.Write.contents c.start.new.writer) c.args.folder.now c.start.new.folder c.start.new.tier.managed c.in_err-start.ensures.early)

pub returns-in_err-answer_trace-clause-early : goal.returns-in_err-answer_trace-clause-early
returns-in_err-answer_trace-clause-early g c =
    let o = c.args.options.now in
    let s = c.start.new.tier in
    let m = s.managed in
    let is : s ≡ holding g.row.N o m = c.start.ensures.others ∙ ap (λ (x : State). record x { managed = m }) c.in_ok-tier.ensures.state in
    let past : HasPast (opening_of (holding g.row.N o m)) s [] = subst (λ (x : State). HasPast (opening_of x) s []) is c.start.ensures.past in
    let loaded = c.in_ok-start.ensures.loaded in
    let loads : LoadsOrder g.F.Folder.did g.F.Folder.failures_of g.F.Folder.keeps g.F.Folder.files g.row.N c.args.dir.now (empty_state (settings_over g.row.N o)).managed m c.args.folder.now c.start.new.folder (Ok loaded.0) =
    subst (λ (x : State). LoadsOrder g.F.Folder.did g.F.Folder.failures_of g.F.Folder.keeps g.F.Folder.files g.row.N c.args.dir.now (fresh g.row.N x.managed.limit x.managed.watermark) m c.args.folder.now c.start.new.folder (Ok loaded.0)) c.in_ok-tier.ensures.state loaded.1 in
    on_err c.from_residual-in_err-answer_trace.result
    (early_begun g.F.Folder.did g.F.Folder.failures_of g.F.Folder.keeps g.F.Folder.files g.row.N o c.args.dir.now (g.R.Read.remaining c.args.reader.now)
    (g.W.Write.contents c.args.writer.now) (g.W.Write.contents c.start.new.writer) (g.W.Write.contents c.answer_trace.new.writer) c.args.folder.now c.start.new.folder m loaded.0 loads loaded.2
    (c.in_err-answer_trace.ensures.begun (start_from g.row.N o m) past (ap pcg_words c.seed_from_u64-rng.ensures)))

pub returns-in_err-answer_trace-clause-too_many : goal.returns-in_err-answer_trace-clause-too_many
returns-in_err-answer_trace-clause-too_many g c = λ many.
    let o = c.args.options.now in
    let s = c.start.new.tier in
    let m = s.managed in
    let is : s ≡ holding g.row.N o m = c.start.ensures.others ∙ ap (λ (x : State). record x { managed = m }) c.in_ok-tier.ensures.state in
    let past : HasPast (opening_of (holding g.row.N o m)) s [] = subst (λ (x : State). HasPast (opening_of x) s []) is c.start.ensures.past in
    let loaded = c.in_ok-start.ensures.loaded in
    let loads : LoadsOrder g.F.Folder.did g.F.Folder.failures_of g.F.Folder.keeps g.F.Folder.files g.row.N c.args.dir.now (empty_state (settings_over g.row.N o)).managed m c.args.folder.now c.start.new.folder (Ok loaded.0) =
    subst (λ (x : State). LoadsOrder g.F.Folder.did g.F.Folder.failures_of g.F.Folder.keeps g.F.Folder.files g.row.N c.args.dir.now (fresh g.row.N x.managed.limit x.managed.watermark) m c.args.folder.now c.start.new.folder (Ok loaded.0)) c.in_ok-tier.ensures.state loaded.1 in
    let was = c.in_err-answer_trace.was in
    let is = c.in_err-answer_trace.is in
    let gives = c.from_residual-in_err-answer_trace.ensures in
    let same : c.answer_trace.result ≡ Err TooManyReads = first_of (search rules, cc, grind rules) in
    c.answer_trace.ensures.too_many (start_from g.row.N o m) past (ap pcg_words c.seed_from_u64-rng.ensures) same

pub returns-in_err-words-clause-early : goal.returns-in_err-words-clause-early
returns-in_err-words-clause-early g c =
    let o = c.args.options.now in
    let s = c.start.new.tier in
    let m = s.managed in
    let is : s ≡ holding g.row.N o m = c.start.ensures.others ∙ ap (λ (x : State). record x { managed = m }) c.in_ok-tier.ensures.state in
    let past : HasPast (opening_of (holding g.row.N o m)) s [] = subst (λ (x : State). HasPast (opening_of x) s []) is c.start.ensures.past in
    let loaded = c.in_ok-start.ensures.loaded in
    let loads : LoadsOrder g.F.Folder.did g.F.Folder.failures_of g.F.Folder.keeps g.F.Folder.files g.row.N c.args.dir.now (empty_state (settings_over g.row.N o)).managed m c.args.folder.now c.start.new.folder (Ok loaded.0) =
    subst (λ (x : State). LoadsOrder g.F.Folder.did g.F.Folder.failures_of g.F.Folder.keeps g.F.Folder.files g.row.N c.args.dir.now (fresh g.row.N x.managed.limit x.managed.watermark) m c.args.folder.now c.start.new.folder (Ok loaded.0)) c.in_ok-tier.ensures.state loaded.1 in
    on_err c.from_residual-in_err-words.result
    (early_answered g.F.Folder.did g.F.Folder.failures_of g.F.Folder.keeps g.F.Folder.files g.row.N o c.args.dir.now (g.R.Read.remaining c.args.reader.now)
    (g.W.Write.contents c.args.writer.now) (g.W.Write.contents c.start.new.writer) (g.W.Write.contents c.answer_trace.new.writer) c.args.folder.now c.start.new.folder m loaded.0
    c.answer_trace.new.tier (pcg_words c.answer_trace.new.rng) loads loaded.2
    (c.in_ok-answer_trace.ensures.answered (start_from g.row.N o m) past (ap pcg_words c.seed_from_u64-rng.ensures)))

pub returns-clause-early : goal.returns-clause-early
returns-clause-early g c =
    let o = c.args.options.now in
    let s = c.start.new.tier in
    let m = s.managed in
    let is : s ≡ holding g.row.N o m = c.start.ensures.others ∙ ap (λ (x : State). record x { managed = m }) c.in_ok-tier.ensures.state in
    let past : HasPast (opening_of (holding g.row.N o m)) s [] = subst (λ (x : State). HasPast (opening_of x) s []) is c.start.ensures.past in
    let loaded = c.in_ok-start.ensures.loaded in
    let loads : LoadsOrder g.F.Folder.did g.F.Folder.failures_of g.F.Folder.keeps g.F.Folder.files g.row.N c.args.dir.now (empty_state (settings_over g.row.N o)).managed m c.args.folder.now c.start.new.folder (Ok loaded.0) =
    subst (λ (x : State). LoadsOrder g.F.Folder.did g.F.Folder.failures_of g.F.Folder.keeps g.F.Folder.files g.row.N c.args.dir.now (fresh g.row.N x.managed.limit x.managed.watermark) m c.args.folder.now c.start.new.folder (Ok loaded.0)) c.in_ok-tier.ensures.state loaded.1 in
    let words : c.as_slice.result.now ≡ (next_words g.row.N (pcg_words c.answer_trace.new.rng)).0 = c.as_slice.ensures.value ∙ ap (λ (p : List ℕ × Stream). p.0) c.in_ok-words.ensures.words in
    on_err_weaker c.save.result (λ h.
    early_saved g.F.Folder.did g.F.Folder.failures_of g.F.Folder.keeps g.F.Folder.files g.row.N o c.args.dir.now (g.R.Read.remaining c.args.reader.now)
    (g.W.Write.contents c.args.writer.now) (g.W.Write.contents c.start.new.writer) (g.W.Write.contents c.answer_trace.new.writer) (g.W.Write.contents c.save.new.writer)
    c.args.folder.now c.start.new.folder c.save.new.folder m loaded.0 c.answer_trace.new.tier (pcg_words c.answer_trace.new.rng) h.0 loads loaded.2
    (c.in_ok-answer_trace.ensures.answered (start_from g.row.N o m) past (ap pcg_words c.seed_from_u64-rng.ensures))
    (subst (λ ws. SavesOrder g.F.Folder.did g.F.Folder.failures_of g.F.Folder.keeps g.F.Folder.files g.row.N c.args.dir.now c.answer_trace.new.tier.managed ws c.start.new.folder c.save.new.folder h.0) words h.1) h.2)
    c.save.ensures.early

pub returns-in_err-start-clause-reported : goal.returns-in_err-start-clause-reported
returns-in_err-start-clause-reported g c =
    is_reported g.F.Folder.did g.F.Folder.failures_of g.F.Folder.keeps g.F.Folder.files g.row.N c.args.options.now c.args.dir.now c.in_ok-tier.tier c.in_ok-tier.ensures.state
    c.args.folder.now c.start.new.folder c.start.new.tier.managed c.args.loaded.now c.start.new.loaded c.requires.unreported c.start.ensures.reported

pub returns-in_err-answer_trace-clause-reported : goal.returns-in_err-answer_trace-clause-reported
returns-in_err-answer_trace-clause-reported g c =
    is_reported g.F.Folder.did g.F.Folder.failures_of g.F.Folder.keeps g.F.Folder.files g.row.N c.args.options.now c.args.dir.now c.in_ok-tier.tier c.in_ok-tier.ensures.state
    c.args.folder.now c.start.new.folder c.start.new.tier.managed c.args.loaded.now c.start.new.loaded c.requires.unreported c.start.ensures.reported

pub returns-in_err-words-clause-reported : goal.returns-in_err-words-clause-reported
returns-in_err-words-clause-reported g c =
    is_reported g.F.Folder.did g.F.Folder.failures_of g.F.Folder.keeps g.F.Folder.files g.row.N c.args.options.now c.args.dir.now c.in_ok-tier.tier c.in_ok-tier.ensures.state
    c.args.folder.now c.start.new.folder c.start.new.tier.managed c.args.loaded.now c.start.new.loaded c.requires.unreported c.start.ensures.reported

pub returns-clause-reported : goal.returns-clause-reported
returns-clause-reported g c =
    is_reported g.F.Folder.did g.F.Folder.failures_of g.F.Folder.keeps g.F.Folder.files g.row.N c.args.options.now c.args.dir.now c.in_ok-tier.tier c.in_ok-tier.ensures.state
    c.args.folder.now c.start.new.folder c.start.new.tier.managed c.args.loaded.now c.start.new.loaded c.requires.unreported c.start.ensures.reported

pub returns-in_err-tier-clause-reported : goal.returns-in_err-tier-clause-reported
returns-in_err-tier-clause-reported g c =
    is_unreported g.F.Folder.did g.F.Folder.failures_of g.F.Folder.keeps g.F.Folder.files g.row.N c.args.options.now c.args.dir.now c.args.folder.now c.args.loaded.now c.requires.unreported

pub returns-clause-reports : goal.returns-clause-reports
returns-clause-reports g c = on_ok c.save.result c.in_ok-start.ensures.reports
