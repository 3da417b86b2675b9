use Rattle.std.proofs.Common.{[], ◌∷◌, ◌++◌, refl, w64}
use Rattle.std.proofs.raw_atomic.Walks.{proved}
use base.Fraction.{full_share}
use base.Logic.{SProp, sep, emp, ex, ex_i, id⊢}
use base.Fml.{ftrue, flft}
use mir.Syntax.{named}
use mir.Val.{Val, vint, vunit}
use prog.Wp.{WpFn}
use contract.Monad.{fact, fact_i}
use contract.Running.{tables}
use types.Logic.{sem}
use types.Kit.{‵, raw, use0, ◌⊛◌, some, later, prop, at_ret, ◌$◌, ◌∵◌, !, qed, done, move, drop, use1, use2, split, join, fsplit, feq_i, pick, await, regoal, suffices, group}
use types.Run.{enter, of_opd, addr, unit_lit, stop, no_more, and_then, assigns_last, first, blocks, exec, returns, init}
use types.ByLocal.{alloc_all, pass_all, free_all, look_at, get, through, sets, lands_as, env}
use borrow.Table.OneValue.{part_in}
use denote.Builtin.{RefOf, u64, u8, SliceRefOf}
use denote.Exit.{yes}
use denote.Laws.{Is, shows}
use denote.Memory.{part_at}
use denote.RawPtr.{Ptr, RawPtr, block_ptr, room_at, lies_at, in_a_block, rawptr_vals, rawptr_Tells}
use denote.Ref.{MutRef, mut_vals, mut_Tells, ShrRef, shr_vals, shr_Tells}
use denote.Signature.{plain}
use denote.Steps.{nothing, heard, peeks}
use denote.Triple.Call.{calls_at}
use denote.Triple.Clauses.{Lasts, lasts}
use denote.Triple.Spec.{triple_of}
use denote.Triple.Walked.{Stays, walk_of, stay_dropped, Goes-dropped, gave_ref, Goes-gave_ref, ends_at}
use denote.Triple.Table.{framed}
use Rattle.std.specs.contracts.alloc.Global.{the_row as Z}
use Rattle.std.proofs.alloc.Global.TheLaws.{the_told as told, the_row_laws as zlaws}
use denote.Plain.{uint_vals, uint_Tells}
use denote.Slice.{ShrSlice, shr_slice_vals, shr_slice_Tells}
use Rattle.gateway_calls.specs.declared.held.GatewayHandle.{GatewayHandle}
use Rattle.gateway_calls.specs.Told.{IsMade}
use Rattle.gateway_calls.specs.contracts.held.GatewayHandle.{the_row as R}
use Rattle.gateway_calls.specs.contracts.structs.GatewayCounts.{the_row as L}
use Rattle.gateway_calls.specs.contracts.structs.GatewayOptions.{the_row as S1}
use Rattle.rules_ffi_arguments.specs.contracts.shapes.OptionNumbers.{the_row as S2}
use Rattle.gateway_calls.proofs.held.GatewayHandle.TheLaws.{the_row_laws as laws}
use Rattle.cache_tier_c.specs.contracts.gateway_made.cache_gateway1_init as f
use Rattle.cache_tier_c.proofs.gateway_made.cache_gateway1_init.Statement.{statement}
use Rattle.cache_tier_c.proofs.gateway_made.cache_gateway1_init.Code as code
use Rattle.gateway_calls.specs.contracts.held.make as g
use Rattle.gateway_calls.proofs.held.make.Met.{met}

abbrev stayed : Stays f.ended.signature.params f.ended.kept
stayed = (stay_dropped _ yes, (stay_dropped _ yes, (stay_dropped _ yes, (stay_dropped _ yes, (stay_dropped _ yes, (stay_dropped _ yes, (stay_dropped _ yes, (stay_dropped _ yes, (gave_ref (4 ∷ []) tt (plain (λ _. L)), tt)))))))))

pub cache_gateway1_init_spec : {M : Type 1} → statement M
cache_gateway1_init_spec 𝓤 𝓛 𝓜 𝓡 wired =
    let c = f.clauses 𝓛 𝓜.mem 𝓡.returns in let W = walk_of 𝓛 f.ended stayed c in let 𝓣 = tables 𝓤 𝓛.H 𝓜 𝓡 𝓡.env in
    proved 𝓛 f.ended stayed c 𝓜 𝓡 (Goes-dropped 𝓛 5 (plain (λ _. Z)) yes (λ κs x w. refl), (Goes-dropped 𝓛 5 (plain (λ _. RawPtr)) yes (λ κs x w. refl), (Goes-dropped 𝓛 5 (plain (λ _. u64)) yes (λ κs x w. refl), (Goes-dropped 𝓛 5 (plain (λ _. u64)) yes (λ κs x w. refl), (Goes-dropped 𝓛 5 (RefOf (0 ∷ []) tt (plain (λ _. S1)) (λ κs. tt)) yes (λ κs x w. refl), (Goes-dropped 𝓛 5 (RefOf (1 ∷ []) tt (plain (λ _. S2)) (λ κs. tt)) yes (λ κs x w. refl), (Goes-dropped 𝓛 5 (SliceRefOf (2 ∷ []) tt (plain (λ _. u8)) (λ κs. tt)) yes (λ κs x w. refl), (Goes-dropped 𝓛 5 (SliceRefOf (3 ∷ []) tt (plain (λ _. u8)) (λ κs. tt)) yes (λ κs x w. refl), (Goes-gave_ref 𝓛 5 4 tt (plain (λ _. L)), tt)))))))))
    f.Key.name code.function (code.unfolded 𝓤 𝓛.H 𝓜 𝓡 wired)
    (λ κs. ((λ x. told.val x ∷ []), (rawptr_vals, (uint_vals w64, (uint_vals w64, (shr_vals, (shr_vals, (shr_slice_vals, (shr_slice_vals, (mut_vals, tt)))))))))) (λ κs. (told.tells, (rawptr_Tells, (uint_Tells w64, (uint_Tells w64, (shr_Tells (named 0) κs.0 S1, (shr_Tells (named 1) κs.1.0 S2, (shr_slice_Tells (named 2) κs.1.1.0 u8, (shr_slice_Tells (named 3) κs.1.1.1.0 u8, (mut_Tells (named 4) κs.1.1.1.1.0 L, tt)))))))))) (λ κs qs bounds a h are.
    let s = a.0 in let sv : Val = told.val s in
    let y : Ptr → W.Ghost = λ p. ((κs, qs, bounds, (s, (p, (a.1.1.0, (a.1.1.1.0, (a.1.1.1.1.0, (a.1.1.1.1.1.0, (a.1.1.1.1.1.1.0, (a.1.1.1.1.1.1.1.0, (a.1.1.1.1.1.1.1.1.0, tt))))))))), (sv ∷ [], (rawptr_vals p, (uint_vals w64 a.1.1.0, (uint_vals w64 a.1.1.1.0, (shr_vals a.1.1.1.1.0, (shr_vals a.1.1.1.1.1.0, (shr_slice_vals a.1.1.1.1.1.1.0, (shr_slice_vals a.1.1.1.1.1.1.1.0, (mut_vals a.1.1.1.1.1.1.1.1.0, tt)))))))))), h) in
    qed 𝓛 (((‵ (flft κs.0 qs.0) ⊛ ‵ (flft κs.1.0 qs.1.0) ⊛ ‵ (flft κs.1.1.0 qs.1.1.0) ⊛ ‵ (flft κs.1.1.1.0 qs.1.1.1.0) ⊛ ‵ (flft κs.1.1.1.1.0 qs.1.1.1.1.0) ⊛ ‵ ftrue) ⊛ ‵ (Z.own_val s (sv ∷ [])) ⊛ ‵ (RawPtr.own_val a.1.0 (rawptr_vals a.1.0)) ⊛ ‵ (u64.own_val a.1.1.0 (uint_vals w64 a.1.1.0)) ⊛ ‵ (u64.own_val a.1.1.1.0 (uint_vals w64 a.1.1.1.0)) ⊛ ‵ ((ShrRef (named 0) κs.0 S1).own_val a.1.1.1.1.0 (shr_vals a.1.1.1.1.0)) ⊛ ‵ ((ShrRef (named 1) κs.1.0 S2).own_val a.1.1.1.1.1.0 (shr_vals a.1.1.1.1.1.0)) ⊛ ‵ ((ShrSlice (named 2) κs.1.1.0 u8).own_val a.1.1.1.1.1.1.0 (shr_slice_vals a.1.1.1.1.1.1.0)) ⊛ ‵ ((ShrSlice (named 3) κs.1.1.1.0 u8).own_val a.1.1.1.1.1.1.1.0 (shr_slice_vals a.1.1.1.1.1.1.1.0)) ⊛ ‵ ((MutRef (named 4) κs.1.1.1.1.0 L).own_val a.1.1.1.1.1.1.1.1.0 (mut_vals a.1.1.1.1.1.1.1.1.0)) ⊛ ‵ ftrue) ∷ ‵ (room_at R a.1.0) ∷ []) ∵
    split ! $ move ! (1 ∷ []) $ split ! $ move ! (1 ∷ []) $ split ! $ drop ! $ move ! (1 ∷ 0 ∷ []) $ join ! $ move ! (2 ∷ 0 ∷ 1 ∷ []) $
    -- [the room; the arguments; their tokens]
    in_a_block ! a.1.0 (λ p. room_at R p) (id⊢ 𝓤 _) (λ b o e.
    regoal ! (λ p. prop (WpFn 𝓤 𝓛.H 𝓣.C 𝓣.Λ code.function ((sv ∷ []) ++ (rawptr_vals p ++ (vint w64 a.1.1.0 ∷ (vint w64 a.1.1.1.0 ∷ (shr_vals a.1.1.1.1.0 ++ (shr_vals a.1.1.1.1.1.0 ++ (shr_slice_vals a.1.1.1.1.1.1.0 ++ (shr_slice_vals a.1.1.1.1.1.1.1.0 ++ (mut_vals a.1.1.1.1.1.1.1.1.0 ++ []))))))))) (W.post (y p)))) e refl $
    enter ! _ _ _ _ _ $ alloc_all ! (λ l. pass_all ! refl (((zlaws.lawful 𝓛).typed s _ are.0).0, ((tt, tt), ((tt, record { fits = are.1.1.0.1 }), ((tt, record { fits = are.1.1.1.0.1 }), ((tt, tt), ((tt, tt), ((tt, (tt, (record { fits = are.1.1.1.1.1.1.0.0.1.0 }, tt))), ((tt, (tt, (record { fits = are.1.1.1.1.1.1.1.0.0.1.0 }, tt))), ((tt, tt), tt))))))))) $
    sets ! (addr ! (through ! refl (stop !))) refl (tt, tt) $
    let G = triple_of 𝓛 g.signature (g.spec 𝓛 𝓜.mem 𝓡.returns) in
    let z : G.Ghost = ((κs, qs, bounds, (s, (a.1.1.0, (a.1.1.1.0, (a.1.1.1.1.0, (a.1.1.1.1.1.0, (a.1.1.1.1.1.1.0, (a.1.1.1.1.1.1.1.0, (a.1.1.1.1.1.1.1.1.0, tt)))))))), (sv ∷ [], (vint w64 a.1.1.0 ∷ [], (vint w64 a.1.1.1.0 ∷ [], (shr_vals a.1.1.1.1.0, (shr_vals a.1.1.1.1.1.0, (shr_slice_vals a.1.1.1.1.1.1.0, (shr_slice_vals a.1.1.1.1.1.1.1.0, (mut_vals a.1.1.1.1.1.1.1.1.0, tt))))))))), tt) in
    move ! (2 ∷ 1 ∷ []) $ join ! $ nothing ! $ move ! (1 ∷ 0 ∷ []) $ use2 𝓛 (raw (G.pre z)) (id⊢ 𝓤 _) $
    calls_at ! (framed 𝓤 𝓛.H 𝓜 (tables 𝓤 𝓛.H 𝓜 𝓡 𝓡.env)) G (met 𝓤 𝓛 𝓜 𝓡 (code.calls-gateway_calls::held::make 𝓡.env wired)) z
    (and_then ! (get ! refl) (and_then ! (get ! refl) (and_then ! (get ! refl) (and_then ! (get ! refl) (and_then ! (get ! refl) (and_then ! (get ! refl) (and_then ! (get ! refl) (and_then ! (get ! refl) (no_more !))))))))) (λ v.
    use1 𝓛 (later (some (λ (r : GatewayHandle). ((‵ (flft κs.0 qs.0) ⊛ ‵ (flft κs.1.0 qs.1.0) ⊛ ‵ (flft κs.1.1.0 qs.1.1.0) ⊛ ‵ (flft κs.1.1.1.0 qs.1.1.1.0) ⊛ ‵ (flft κs.1.1.1.1.0 qs.1.1.1.1.0) ⊛ ‵ ftrue) ⊛ ‵ (R.own_val r (v ∷ []))) ⊛
    some (λ (ws : Lasts g.ended z.0.0 z.0.3). ‵ (lasts g.ended z.0.0 z.0.3 ws) ⊛ raw (fact 𝓤 (IsMade ws.1.1.1.1.1.1.1.0 r)))))) (id⊢ 𝓤 _) $
    await ! tt $ pick ! (λ r. split ! $ split ! $ move ! (1 ∷ []) $ peeks ! R (Is R) (shows 𝓛 R) r (v ∷ []) (λ is.
    let ok = ((laws.lawful 𝓛).typed r (v ∷ []) is).0 in
    lands_as ! refl refl ok $ move ! (2 ∷ []) $ pick ! (λ ws. split ! $ move ! (1 ∷ []) $ heard ! _ (λ told. move ! (1 ∷ 3 ∷ []) $
    -- [what the value owns; the room; what is left of the arguments; the tokens]
    first ! $ blocks ! $ sets ! (of_opd ! (get ! refl)) refl (tt, tt) $ sets ! (of_opd ! (get ! refl)) refl ok $
    assigns_last ! (of_opd ! (get ! refl)) (through ! refl (stop !)) (init ! 1 refl ok) $
    exec ! 𝓣.C 𝓣.Λ (env code.Mir.locals l) code.Mir.t-4 (at_ret (env (code.function).locals l) (W.post (y (block_ptr b o)))) $
    sets ! (of_opd ! (unit_lit !)) refl (tt, tt) $ returns ! (look_at ! 0 refl) $ free_all ! refl $
    move ! (1 ∷ 0 ∷ []) $ use2 𝓛 (‵ (part_at R full_share r b o)) (part_in 𝓛 R refl full_share r b o v) $
    move ! (1 ∷ []) $ fsplit ! $ drop ! $ fsplit ! $ drop ! $ fsplit ! $ drop ! $ fsplit ! $ drop ! $ fsplit ! $ drop ! $ fsplit ! $ drop ! $ fsplit ! $ drop ! $ fsplit ! $ join ! $
    suffices ! _ (ends_at 𝓛 f.ended stayed c (y (block_ptr b o)) vunit tt (tt, (tt, (tt, (tt, (tt, (tt, (tt, (tt, (ws.1.1.1.1.1.1.1.0, tt))))))))) (tt, (tt, (tt, (tt, (tt, (tt, (tt, (tt, (tt, tt)))))))))) $
    let Φ : GatewayHandle → SProp 𝓤 = λ h'. sep 𝓤 (fact 𝓤 (IsMade ws.1.1.1.1.1.1.1.0 h')) (sem 𝓛 (lies_at R full_share (block_ptr b o) h')) in
    move ! (1 ∷ []) $ use0 𝓛 (raw (fact 𝓤 (IsMade ws.1.1.1.1.1.1.1.0 r))) (fact_i 𝓤 (IsMade ws.1.1.1.1.1.1.1.0 r) (emp 𝓤) told) $ join ! $ use1 𝓛 (raw (ex 𝓤 Φ)) (ex_i 𝓤 Φ r) $
    move ! (1 ∷ []) $ nothing ! $ join ! $ nothing ! $ join ! $ nothing ! $ join ! $ nothing ! $ join ! $ nothing ! $ join ! $ nothing ! $ join ! $ nothing ! $ join ! $ nothing ! $ join ! $ feq_i ! _ (vunit ∷ []) _ refl $ move ! (3 ∷ 1 ∷ 0 ∷ 2 ∷ []) $ group ! 3 $ done !))))))))
