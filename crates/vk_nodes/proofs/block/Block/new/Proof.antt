-- `new` asks the allocator for the room, and fills them.
use Rattle.std.proofs.Common.{◌≡◌, ◌*◌, ◌<◌, ◌^◌, List, [], ◌∷◌, ◌++◌, replicate, refl, ap, arith, lit<, w64, subst, Some, None}
use Rattle.std.proofs.raw_atomic.Walks.{proved_at, leaves}
use Rattle.core.proofs.alloc.Calls.{Al, seen, Takes, at_takes, Answered, Takes-goes, Takes-gives, answers}
use Rattle.core.proofs.alloc.Shapes.{after, head, arm_body}
use Rattle.core.proofs.atomic.Steps.{fm}
use Rattle.core.proofs.option.Made.{Some-of, none_of}
use Rattle.std_alloc.proofs.Pairs.{pair_of, pair_val}
use base.Fraction.{full_share}
use base.Logic.{SProp, emp, id⊢}
use base.Fml.{Lft, Share, ftrue, flft}
use mir.Syntax.{Fn, Args, Body, a_type, dcons, dnil, place}
use mir.Val.{Val, vint, vptr, vcons, vnil}
use mir.MapTy.{inst_fn}
use prog.Capped.{capped_is}
use prog.Wp.{Env, WpFn}
use contract.BorrowLft.{◌⊑◌, ⊑_trans}
use contract.Monad.{fact, fact_i}
use contract.Running.{tables}
use types.Kit.{Post as After, ‵, raw, ◌⊛◌, some, later, prop, settles, at_ret, ◌$◌, ◌∵◌, !, qed, by, move, drop, use0, use1, use2, split, join, pick, regoal, fsplit, fjoin, feq_i, feq_l, flt_i, await}
use types.Part.{whole, agg}
use types.Match.{live, vrt, in_variant}
use types.Run.{stop, fld, lit, of_opd, bin, no_more, and_then, first, blocks, switches_on, exec, returns, enter}
use types.ByLocal.{alloc_all, pass_all, free_all, look_at, get, get_in, get_tag, sets, sets_last, lands_as, lands_last, env}
use denote.RattleType.{RattleType, owns}
use denote.Array.{Array}
use denote.Builtin.{usize, unit}
use denote.Plain.{uint_Makes, uint_vals}
use denote.RawPtr.{Ptr, block_ptr, lies_at, rawptr_vals}
use denote.Param.{param, bounded}
use denote.Signature.{types_at, type_at}
use denote.Steps.{nothing, heard, owned, only}
use denote.Struct.Tuple.{Tuple}
use denote.Triple.Clauses.{lasts}
use denote.Triple.Entry.{alive}
use denote.Triple.Call.{calls_at, calls_at_last}
use denote.Triple.Spec.{triple_of}
use denote.Triple.Walked.{Stays, stay_dropped, walk_of, Goes-dropped}
use Rattle.vk_nodes.specs.Inner.Ownership.{slots_type}
use Rattle.vk_nodes.specs.contracts.block.Block as block
use Rattle.vk_nodes.specs.contracts.block.Lease as lease
use Rattle.vk_nodes.specs.contracts.block.fill_room as filling
use Rattle.vk_nodes.specs.contracts.block.Block.new.{ended, clauses}
use Rattle.vk_nodes.specs.contracts.block.Block.new.Key.{name as #self}
use Rattle.vk_nodes.proofs.block.fill_room.Met.{met as filled}
use denote.Laws.{Is}
use Rattle.vk_nodes.proofs.slot.Slot.TheLaws as slot_laws
use Rattle.vk_nodes.proofs.BlockRows.{Row, word, slot_typed, slot_makes}
use Rattle.vk_nodes.proofs.BlockValues.{block_val, block_own, block_made, lease_val, lease_own, lease_made}
use Rattle.vk_nodes.proofs.BlockWalks.{slot_at, then_runs, out_of_block}
use Rattle.vk_nodes.proofs.block.Block.new.Statement.{statement}
use Rattle.vk_nodes.proofs.block.Block.new.Code as compiled

pub new_spec : {M : Type 1} → statement M
new_spec 𝓤 𝓛 𝓜 𝓡 wired A L g d dd met md =
    let H = 𝓛.H in
    let E = ended A g d dd in
    let c = clauses A g d dd 𝓛 𝓜.mem 𝓡.returns in
    let args : Args = bounded (a_type ∷ []) (A, tt) (dcons d (dcons dd dnil)) in
    let fn : Fn = inst_fn args compiled.function in
    let stays : Stays E.signature.params E.kept = (stay_dropped (slot_at 0 E.signature.params) E.kept.0, (stay_dropped (slot_at 1 E.signature.params) E.kept.1.0, (stay_dropped (slot_at 2 E.signature.params) E.kept.1.1.0, tt))) in
    let C = (tables 𝓤 H 𝓜 𝓡 𝓡.env).C in
    let Λ = (tables 𝓤 H 𝓜 𝓡 𝓡.env).Λ in
    proved_at 𝓛 E stays c 𝓜 𝓡 (Goes-dropped 𝓛 2 (slot_at 0 E.signature.params) E.kept.0 (λ κs x f. refl), (Goes-dropped 𝓛 2 (slot_at 1 E.signature.params) E.kept.1.0 (λ κs x f. refl), (Goes-dropped 𝓛 2 (slot_at 2 E.signature.params) E.kept.1.1.0 (λ κs x f. refl), tt))) (#self args) fn (compiled.unfolded 𝓤 H 𝓜 𝓡 wired (A, tt) d dd) (λ z are.
    let Post : Val → SProp 𝓤 = (walk_of 𝓛 E stays c).post z in
    let a = z.0.3 in
    let vss = z.0.4 in
    let Y : Al = record { row = A; laws = L; g = g; d = d; drops = dd } in
    let κ : Lft = z.0.0.0 in
    let q : Share = z.0.1.0 in
    let Z : RattleType = param 0 A in
    let h = a.0.now in
    let at = a.0.ref_ptr in
    let n = a.1.0 in
    let x = a.1.1.0 in
    let fits : n < 2 ^ 64 = are.1.0.1 in
    let e = slot_laws.lowers.val_is x vss.1.1.0 are.1.1.0 in
    let is : Is Row x (word x ∷ []) = subst (λ (us : List Val). Is Row x us) e are.1.1.0 in
    let good = slot_typed 𝓛 x is in
    let τ = slots_type n in
    let y = at_takes Y 𝓛 𝓜.mem 𝓡.returns κ q at h (n * 64) 8 τ in
    let Out : RattleType = type_at E.signature.result z.0.0 in
    let Pair : RattleType = Tuple (block.the_row ∷ lease.the_row Z g ∷ []) in
    let Asked : Type 0 = n < 2 ^ 32 in
    qed 𝓛 ((raw (alive 𝓛 E.signature z.0.0 z.0.1) ⊛ ‵ (owns (types_at E.signature.params z.0.0) a vss)) ∷ (raw (fact 𝓤 (z.0.0.1.0 ⊑ A.lives)) ⊛ raw (fact 𝓤 Asked)) ∷ []) ∵
    move ! (1 ∷ []) $ split ! $ heard ! (z.0.0.1.0 ⊑ A.lives) (λ le. heard ! Asked (λ small. split ! $ move ! (1 ∷ []) $
    fsplit ! $ fsplit ! $ drop ! $ move ! (1 ∷ []) $ drop ! $ use1 𝓛 (‵ (seen Y κ at h)) (id⊢ 𝓤 _) $ move ! (1 ∷ []) $ use1 𝓛 (‵ (flft κ q) ⊛ ‵ (flft z.0.0.1.0 z.0.1.1.0) ⊛ ‵ ftrue) (id⊢ 𝓤 _) $ split ! $ move ! (2 ∷ 0 ∷ []) $
    regoal ! (λ (us : List Val). prop (WpFn 𝓤 H C Λ fn us Post)) (λ i. are.0.0 i ++ (are.1.0.0 i ++ (e i ++ []))) refl $
    enter ! C Λ fn (vptr at.0 at.1 ∷ vint w64 n ∷ word x ∷ []) Post $
    alloc_all ! (λ l. pass_all ! refl ((tt, tt), ((tt, record { fits = fits }), (good, tt))) $ let En : Env 𝓤 H = env fn.locals l in
    let wide : n * 64 < 2 ^ 64 = omega (arith, small) in
    sets ! (bin ! (get ! refl) (lit ! tt) (record { fits = wide })) refl (tt, record { fits = wide }) $
    use2 𝓛 (raw ((Takes Y 𝓛 𝓜.mem 𝓡.returns).pre y)) (Takes-goes Y 𝓛 𝓜.mem 𝓡.returns κ q at h (⊑_trans κ z.0.0.1.0 A.lives z.0.2.0 le) (n * 64) 8 τ (capped_is (n * 64) wide) refl wide (lit< tt)) $
    calls_at ! (fm 𝓛 𝓜 𝓡) (Takes Y 𝓛 𝓜.mem 𝓡.returns) (met.allocate dd) y (and_then ! (get ! refl) (and_then ! (get ! refl) (and_then ! (lit ! tt) (no_more !)))) (λ v.
    use1 𝓛 (later (raw (Answered Y 𝓛 𝓜.mem 𝓡.returns h τ v) ⊛ ‵ (flft κ q))) (Takes-gives Y 𝓛 𝓜.mem 𝓡.returns κ q at h (n * 64) 8 τ v) $ await ! tt $ split ! $
    let arms_end : After 𝓤 H = then_runs 𝓛 C Λ En (after 3 fn.body) (at_ret En Post) in
    let arm : Body = arm_body 0 (head (after 2 fn.body)) in
    answers Y ! 𝓜.mem 𝓡.returns h τ v
    (λ b o e. move ! (2 ∷ 3 ∷ []) $ join ! $ move ! (1 ∷ 2 ∷ []) $ lands_as ! e refl (tt, (record { fits = lit< tt }, (tt, tt))) $
    first ! $ switches_on ! (get_tag ! (vrt ! refl (fld ! refl (stop !))) (whole !)) $ exec ! C Λ En arm arms_end $
    let p : Ptr = block_ptr b o in
    sets ! (of_opd ! (get_in ! (vrt ! refl (fld ! refl (stop !))) (in_variant ! 0 0 refl refl (whole !)))) refl (tt, tt) $
    sets ! (of_opd ! (get ! refl)) refl (tt, tt) $
    -- the slots are written
    first ! $ blocks ! $
    let F = triple_of 𝓛 filling.signature (filling.spec 𝓛 𝓜.mem 𝓡.returns) in
    let w : F.Ghost = ((tt, tt, tt, (p, (n, (x, tt))), (rawptr_vals p, (uint_vals w64 n, (word x ∷ [], tt)))), tt) in
    use0 𝓛 (raw (fact 𝓤 Asked)) (fact_i 𝓤 Asked (emp 𝓤) small) $ join ! $
    nothing ! $ owned ! Row (Is Row) (slot_makes 𝓛) x (word x ∷ []) is $ fjoin ! $ owned ! usize _ (uint_Makes 𝓛 w64) n _ (refl, fits) $ fjoin ! $ feq_i ! (List Val) (rawptr_vals p) (rawptr_vals p) refl $ fjoin ! $ nothing ! $ join ! $
    use2 𝓛 (raw (F.pre w)) (id⊢ 𝓤 _) $
    calls_at_last ! (fm 𝓛 𝓜 𝓡) F (filled 𝓤 𝓛 𝓜 𝓡 (compiled.calls-vk_nodes::block::fill_room 𝓡.env wired)) w (and_then ! (get ! refl) (and_then ! (get ! refl) (and_then ! (get ! refl) (no_more !)))) (λ u.
    use1 𝓛 (later (some (λ (r : Unit {0}). (‵ ftrue ⊛ ‵ (unit.own_val r (u ∷ []))) ⊛ some (λ (ws : Unit {0} × (Unit {0} × (Unit {0} × Unit {0}))). ‵ (lasts filling.ended tt w.0.3 ws) ⊛ ‵ (lies_at (Array Row n) full_share p (replicate n x)))))) (id⊢ 𝓤 _) $
    await ! tt $ pick ! (λ r. split ! $ split ! $ drop ! $ feq_l ! (λ is_unit. pick ! (λ ws. split ! $ drop ! $
    regoal ! (λ (s : Val). settles En (place 10 []) s (out_of_block 𝓛 (then_runs 𝓛 C Λ En (after 3 arm) arms_end))) (ap only is_unit) refl $ lands_last ! refl (tt, tt) $
    exec ! C Λ En (after 3 arm) arms_end $
    -- [the slots; the right to give them back; the tokens]
    sets ! (agg ! (no_more !)) refl (tt, tt) $
    sets ! (agg ! (and_then ! (get ! refl) (and_then ! (get ! refl) (no_more !)))) refl (tt, (tt, (record { fits = fits }, tt))) $
    sets ! (agg ! (and_then ! (get ! refl) (no_more !))) refl (tt, (tt, tt)) $
    sets ! (agg ! (and_then ! (get ! refl) (and_then ! (get ! refl) (no_more !)))) refl (tt, ((tt, (record { fits = fits }, tt)), ((tt, tt), tt))) $
    sets_last ! (agg ! (and_then ! (lit ! tt) (and_then ! (get ! refl) (no_more !)))) refl (tt, (record { fits = lit< tt }, (((tt, (record { fits = fits }, tt)), ((tt, tt), tt)), tt))) $
    exec ! C Λ En (after 3 fn.body) (at_ret En Post) $
    sets ! (of_opd ! (get ! refl)) refl (tt, (record { fits = lit< tt }, (((tt, (record { fits = fits }, tt)), ((tt, tt), tt)), tt))) $
    returns ! (look_at ! 0 refl) $ free_all ! refl $
    let m : (block.the_row).Denot = record { start = p; size = n; slots = replicate n x } in
    let k : (lease.the_row Z g).Denot = record { marker = record {}; alloc = h; start = p; size = n } in
    let made : Val = pair_val (block_val p n) lease_val in
    let Gives : Type 0 = (n ≡ n) × (replicate n x ≡ replicate n x) × (h ≡ h) × (p ≡ p) × (n ≡ n) in
    flt_i ! n (2 ^ 32) small $ fjoin ! $ use0 𝓛 (‵ (block_own p n (block_val p n ∷ []))) (block_made 𝓛 p n fits) $ fjoin ! $
    move ! (1 ∷ []) $ use0 𝓛 (‵ (lease_own (lease_val ∷ []))) (lease_made 𝓛) $ fjoin ! $ move ! (1 ∷ 0 ∷ []) $
    use2 𝓛 (‵ (Pair.own_val (m, k) (made ∷ []))) (pair_of 𝓛 block.the_row (lease.the_row Z g) m k (block_val p n) lease_val) $
    use1 𝓛 (‵ (Out.own_val (Some (m, k)) (live 1 (vcons made vnil) ∷ []))) (Some-of 𝓛 Pair (m, k) made) $
    use0 𝓛 (raw (fact 𝓤 Gives)) (fact_i 𝓤 Gives (emp 𝓤) (refl, refl, refl, refl, refl)) $ nothing ! $ nothing ! $ fjoin ! $ nothing ! $ fjoin ! $ nothing ! $ fjoin ! $ move ! (3 ∷ 0 ∷ 2 ∷ 1 ∷ []) $
    by ! (leaves 𝓛 E stays c z (live 1 (vcons made vnil)) (Some (m, k)) (tt, (tt, (tt, tt))) (tt, (tt, (tt, tt)))))))))
    (λ e. join ! $ lands_as ! e refl (tt, (record { fits = lit< tt }, (tt, tt))) $
    first ! $ switches_on ! (get_tag ! (vrt ! refl (fld ! refl (stop !))) (whole !)) $ exec ! C Λ En (arm_body 1 (head (after 2 fn.body))) arms_end $
    sets_last ! (agg ! (and_then ! (lit ! tt) (no_more !))) refl (tt, (record { fits = lit< tt }, tt)) $
    exec ! C Λ En (after 3 fn.body) (at_ret En Post) $
    sets ! (of_opd ! (get ! refl)) refl (tt, (record { fits = lit< tt }, tt)) $
    returns ! (look_at ! 0 refl) $ free_all ! refl $
    use0 𝓛 (‵ (Out.own_val None (live 0 vnil ∷ []))) (none_of 𝓛 Pair) $ use0 𝓛 (raw (fact 𝓤 (Unit {0}))) (fact_i 𝓤 (Unit {0}) (emp 𝓤) tt) $ nothing ! $ nothing ! $ fjoin ! $ nothing ! $ fjoin ! $ nothing ! $ fjoin ! $ move ! (3 ∷ 0 ∷ 2 ∷ 1 ∷ []) $
    by ! (leaves 𝓛 E stays c z (live 0 vnil) None (tt, (tt, (tt, tt))) (tt, (tt, (tt, tt))))))))))
