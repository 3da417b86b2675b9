use Rattle.std.proofs.Common.{ℕ, [], ◌∷◌, ◌++◌, refl, ap, w64}
use Rattle.std.proofs.raw_atomic.Walks.{proved}
use base.Fraction.{full_share}
use base.Logic.{SProp, sep, emp, ex, ex_i, id⊢}
use types.Logic.{sem}
use base.Fml.{ftrue, flft, flent}
use mir.Syntax.{named}
use mir.Val.{vint, vptr, vunit}
use prog.Wp.{WpFn}
use contract.Monad.{fact, fact_i}
use contract.Running.{tables}
use types.Kit.{‵, raw, use0, ◌⊛◌, some, later, prop, at_ret, ◌$◌, ◌∵◌, !, qed, done, move, keep, drop, use1, use2, use3, split, join, fsplit, feq_i, feq_l, pick, await, regoal, suffices, group}
use types.Run.{enter, of_opd, addr, stop, no_more, and_then, first, blocks, exec, returns, unit_lit}
use types.ByLocal.{alloc_all, pass_all, free_all, look_at, get, through, sets, sets_last, lands_as, env}
use types.SemTy.{Body}
use types.Tokens.{lft_new, lft_end}
use denote.Builtin.{u64, unit}
use denote.Exit.{yes}
use denote.Laws.{Is, shows}
use denote.Plain.{uint_vals, uint_Tells}
use denote.RawPtr.{Ptr, RawPtr, block_ptr, lies_at, room_at, in_a_block, rawptr_vals, rawptr_Tells}
use denote.Memory.{mem, part_at}
use denote.Ref.{MutRef, mut_vals, mut_Tells}
use denote.Lend.{lends_ref, ref_back}
use denote.Signature.{plain}
use denote.Steps.{nothing, heard, peeks, only}
use denote.Triple.Call.{calls_at}
use denote.Triple.Clauses.{Lasts, lasts}
use denote.Triple.Spec.{triple_of}
use denote.Triple.Walked.{Stays, walk_of, stay_dropped, Goes-dropped, gave_ref, Goes-gave_ref, ends_at}
use denote.Triple.Table.{framed}
use Rattle.gateway_calls.specs.declared.held.GatewayHandle.{GatewayHandle}
use Rattle.gateway_calls.specs.Told.{IsCounted}
use Rattle.gateway_calls.specs.contracts.held.GatewayHandle.{the_row as R}
use Rattle.gateway_calls.specs.contracts.structs.GatewayCounts.{the_row as L}
use Rattle.cache_tier_c.specs.contracts.gateway_made.cache_gateway1_get_counts as f
use Rattle.cache_tier_c.proofs.gateway_made.cache_gateway1_get_counts.Statement.{statement}
use Rattle.cache_tier_c.proofs.gateway_made.cache_gateway1_get_counts.Code as code
use Rattle.gateway_calls.specs.contracts.held.GatewayHandle.counts as g
use Rattle.gateway_calls.proofs.held.GatewayHandle.counts.Met.{met}

abbrev stayed : Stays f.ended.signature.params f.ended.kept
stayed = (stay_dropped _ yes, (gave_ref (0 ∷ []) tt (plain (λ _. L)), tt))

pub cache_gateway1_get_counts_spec : {M : Type 1} → statement M
cache_gateway1_get_counts_spec 𝓤 𝓛 𝓜 𝓡 wired =
    let c = f.clauses 𝓛 𝓜.mem 𝓡.returns in let W = walk_of 𝓛 f.ended stayed c in let 𝓣 = tables 𝓤 𝓛.H 𝓜 𝓡 𝓡.env in
    proved 𝓛 f.ended stayed c 𝓜 𝓡 (Goes-dropped 𝓛 1 (plain (λ _. RawPtr)) yes (λ κs x w. refl), (Goes-gave_ref 𝓛 1 0 tt (plain (λ _. L)), tt))
    f.Key.name code.function (code.unfolded 𝓤 𝓛.H 𝓜 𝓡 wired)
    (λ κs. (rawptr_vals, (mut_vals, tt))) (λ κs. (rawptr_Tells, (mut_Tells (named 0) κs.0 L, tt))) (λ κs qs bounds a h are.
    let y : Ptr → W.Ghost = λ p. ((κs, qs, bounds, (p, (a.1.0, tt)), (rawptr_vals p, (mut_vals a.1.0, tt))), h) in
    qed 𝓛 (((‵ (flft κs.0 qs.0) ⊛ ‵ ftrue) ⊛ ‵ (RawPtr.own_val a.0 (rawptr_vals a.0)) ⊛ ‵ ((MutRef (named 0) κs.0 L).own_val a.1.0 (mut_vals a.1.0)) ⊛ ‵ ftrue) ∷ ‵ (lies_at R full_share a.0 h) ∷ []) ∵
    split ! $ move ! (1 ∷ []) $ split ! $ drop ! $ move ! (2 ∷ 0 ∷ 1 ∷ []) $
    -- [the memory; the arguments; their tokens]
    in_a_block ! a.0 (λ p. lies_at R full_share p h) (id⊢ 𝓤 _) (λ b o e.
    regoal ! (λ p. prop (WpFn 𝓤 𝓛.H 𝓣.C 𝓣.Λ code.function (rawptr_vals p ++ (mut_vals a.1.0 ++ [])) (W.post (y p)))) e refl $
    enter ! _ _ _ _ _ $ alloc_all ! (λ l. pass_all ! refl ((tt, tt), ((tt, tt), tt)) $
    first ! $ blocks ! $
    sets ! (of_opd ! (get ! refl)) refl (tt, tt) $
    sets_last ! (addr ! (through ! refl (stop !))) refl (tt, tt) $
    exec ! 𝓣.C 𝓣.Λ (env code.Mir.locals l) code.Mir.t-2 (at_ret _ (W.post (y (block_ptr b o)))) $
    sets ! (of_opd ! (get ! refl)) refl (tt, tt) $
    sets ! (addr ! (through ! refl (stop !))) refl (tt, tt) $
    sets ! (addr ! (through ! refl (stop !))) refl (tt, tt) $
    lft_new ! tt (λ α. move ! (1 ∷ []) $
    let κ = α ∷ [] in
    use1 𝓛 (later (some (λ δ. ‵ ((MutRef (named 0) κ R).own_val (record { ref_ptr = (b, o); ghost_name = δ; now = h }) (vptr b o ∷ [])) ⊛ ‵ (flent κ (Body (mem R) b o δ)))))
    (lends_ref 𝓛 R (named 0) κ h b o) $ await ! tt $ pick ! (λ δ. split ! $
    -- [the loan; what the lender keeps; the token of α; the arguments; their tokens]
    let G = triple_of 𝓛 g.signature (g.spec 𝓛 𝓜.mem 𝓡.returns) in
    let z : G.Ghost = (((κ, (κs.0, tt)), (full_share, (qs.0, tt)), tt, (record { ref_ptr = (b, o); ghost_name = δ; now = h }, (a.1.0, tt)), (vptr b o ∷ [], (mut_vals a.1.0, tt))), tt) in
    move ! (0 ∷ 3 ∷ []) $ join ! $ move ! (2 ∷ 3 ∷ 0 ∷ []) $ join ! $ join ! $ nothing ! $ move ! (1 ∷ 0 ∷ []) $ use2 𝓛 (raw (G.pre z)) (id⊢ 𝓤 _) $
    calls_at ! (framed 𝓤 𝓛.H 𝓜 (tables 𝓤 𝓛.H 𝓜 𝓡 𝓡.env)) G (met 𝓤 𝓛 𝓜 𝓡 (code.calls-gateway_calls::held::GatewayHandle::counts 𝓡.env wired)) z
    (and_then ! (get ! refl) (and_then ! (get ! refl) (no_more !))) (λ v.
    use1 𝓛 (later (some (λ (r : Unit {0}). ((‵ (flft κ full_share) ⊛ ‵ (flft κs.0 qs.0) ⊛ ‵ ftrue) ⊛ ‵ (unit.own_val r (v ∷ []))) ⊛
    some (λ (ws : Lasts g.ended z.0.0 z.0.3). ‵ (lasts g.ended z.0.0 z.0.3 ws) ⊛ raw (fact 𝓤 (IsCounted h ws.0 ws.1.0)))))) (id⊢ 𝓤 _) $
    await ! tt $ pick ! (λ r. split ! $ split ! $ split ! $ lft_end ! tt $ move ! (3 ∷ []) $
    pick ! (λ ws. split ! $ move ! (1 ∷ []) $ heard ! _ (λ told. fsplit ! $ fsplit ! $
    move ! (3 ∷ 6 ∷ 0 ∷ []) $ use3 𝓛 (later (‵ (lies_at R full_share (block_ptr b o) ws.0))) (ref_back 𝓛 R κ δ ws.0 b o) $ await ! tt $
    -- [the memory; its borrow; what is left of the arguments; the tokens; the result]
    move ! (4 ∷ []) $ feq_l ! (λ is_unit. lands_as ! (ap only is_unit) refl (tt, tt) $
    sets ! (of_opd ! (unit_lit !)) refl (tt, tt) $ returns ! (look_at ! 0 refl) $ free_all ! refl $ keep ! (0 ∷ 2 ∷ 3 ∷ []) $
    move ! (1 ∷ []) $ fsplit ! $ join ! $
    suffices ! _ (ends_at 𝓛 f.ended stayed c (y (block_ptr b o)) vunit tt (tt, (ws.1.0, tt)) (tt, (tt, tt))) $
    let Φ : GatewayHandle → SProp 𝓤 = λ h'. sep 𝓤 (fact 𝓤 (IsCounted h h' ws.1.0)) (sem 𝓛 (lies_at R full_share (block_ptr b o) h')) in
    move ! (1 ∷ []) $ use0 𝓛 (raw (fact 𝓤 (IsCounted h ws.0 ws.1.0))) (fact_i 𝓤 (IsCounted h ws.0 ws.1.0) (emp 𝓤) told) $ join ! $ use1 𝓛 (raw (ex 𝓤 Φ)) (ex_i 𝓤 Φ ws.0) $
    move ! (1 ∷ []) $ nothing ! $ join ! $ feq_i ! _ (vunit ∷ []) _ refl $ move ! (3 ∷ 1 ∷ 0 ∷ 2 ∷ []) $ group ! 3 $ done !))))))))))
