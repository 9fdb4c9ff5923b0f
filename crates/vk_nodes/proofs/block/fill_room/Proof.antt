-- `fill_room` writes the slots one by one, from the first on.
use Rattle.std.proofs.Common.{◌≡◌, ℕ, zero, suc, ◌+◌, ◌*◌, ◌-◌, ◌≤◌, ◌<◌, ◌^◌, List, [], ◌∷◌, ◌++◌, length, replicate, refl, ap, ◌∙◌, lit<, ltb→lt, nltb→le, w64, arith, subst}
use Rattle.std.proofs.lemmas.List.{length-replicate, replicate-append-replicate}
use Rattle.std.proofs.raw_atomic.Walks.{proved}
use Rattle.core.proofs.slots.Bodies.{after}
use mathlib.Core.WellFounded.InvImage
use lib.WfN.{lt-wf_rel}
use seplogic.Ra.Ura.{Ura}
use base.Fraction.{full_share}
use base.Logic.{SProp, ent, sep, id⊢}
use base.Fml.{Fml, fat, froom}
use mir.Syntax.{ty_int, ty_array}
use mir.Val.{Val, vunit, vint, vptr}
use prog.Wp.{Env, Out, Wp, WpFn, Tables, at_return, after_seq, after_block, after_turn}
use contract.Running.{tables, tables_of}
use types.Logic.{Logic, sem}
use types.Kit.{Item, Sq, any_q, runs, ‵, raw, ◌⊛◌, at_ret, prop, ◌$◌, ◌∵◌, !, qed, by, done, move, drop, keep, use1, use2, split, join, feq_i, fjoin, rewrite, regoal, suffices, group}
use types.Run.{enter, of_opd, lit, unit_lit, bin, stop, init, assigns_last, first, blocks, branches, skips, jumps, exec, returns, loops, again, Below}
use types.ByLocal.{alloc_all, pass_all, free_all, look_at, get, through, sets, sets_last, env, holding, forget_but, take_at, give_at}
use denote.Array.{Array}
use denote.Builtin.{usize}
use denote.Exit.{yes}
use denote.Memory.{part_at}
use denote.Plain.{uint_vals, uint_Tells}
use denote.Laws.{Is}
use denote.ArrayMemory.{Array-whole}
use borrow.Table.OneValue.{part_in}
use contract.Monad.{fact}
use denote.RawPtr.{Ptr, RawPtr, block_ptr, ptr_val, lies_at, room_for, in_a_block, rawptr_vals, rawptr_Tells}
use denote.Signature.{plain}
use denote.Steps.{nothing, heard, owned}
use denote.Triple.Entry.{on_entry}
use denote.Triple.Walked.{Stays, walk_of, stay_dropped, Goes-dropped, ends_at}
use Rattle.vk_nodes.specs.declared.slot.Slot.{Slot}
use Rattle.vk_nodes.proofs.slot.Slot.TheLaws as slot_laws
use Rattle.vk_nodes.proofs.BlockRows.{Row, slot_type, word, slots, slot_typed, slot_makes, slots_glue}
use Rattle.vk_nodes.specs.contracts.block.fill_room as f
use Rattle.vk_nodes.proofs.block.fill_room.Statement.{statement}
use Rattle.vk_nodes.proofs.block.fill_room.Code as code

abbrev stayed : Stays f.ended.signature.params f.ended.kept
stayed = (stay_dropped _ yes, (stay_dropped _ yes, (stay_dropped _ yes, tt)))

module _ {M : Type 1} {𝓤 : Ura M} (𝓛 : Logic 𝓤) (𝓣 : Tables 𝓤 𝓛.H) (b o n : ℕ) (x : Slot) (few : n < 2 ^ 32) (is : Is Row x (word x ∷ [])) where
  open 𝓛 use {H}

  -- the first i slots are written
  abbrev written : ℕ → Fml
  written i = slots full_share (replicate i x) b o

  -- there is room for the others
  abbrev left : ℕ → Fml
  left i = froom (ty_array slot_type (n - i)) b (i * 64 + o)

  one_out : (i : ℕ) → i < n → ent 𝓤 (sem 𝓛 (left i)) (sep 𝓤 (H.room slot_type b (i * 64 + o)) (sem 𝓛 (left (suc i))))
  one_out i lt =
      let more : suc (n - suc i) ≡ n - i = omega (arith, lt) in let next : i * 64 + o + 64 ≡ suc i * 64 + o = omega arith in
      subst (λ (k : ℕ). ent 𝓤 (H.room (ty_array slot_type k) b (i * 64 + o)) (sep 𝓤 (H.room slot_type b (i * 64 + o)) (sem 𝓛 (left (suc i))))) more
      (subst (λ (k : ℕ). ent 𝓤 (H.room (ty_array slot_type (suc (n - suc i))) b (i * 64 + o)) (sep 𝓤 (H.room slot_type b (i * 64 + o)) (H.room (ty_array slot_type (n - suc i)) b k))) next (𝓛.laws.room_uncons slot_type (n - suc i) b (i * 64 + o)))

  one_in : (i : ℕ) → ent 𝓤 (sep 𝓤 (sem 𝓛 (written i)) (sem 𝓛 (part_at Row full_share x b (i * 64 + o)))) (sem 𝓛 (written (suc i)))
  one_in i =
      let seam : i * 64 + o ≡ o + length (replicate i x) * 64 = omega (arith, length-replicate i x) in
      let sum : i + 1 ≡ suc i = omega arith in
      let more : replicate i x ++ replicate 1 x ≡ replicate (suc i) x = replicate-append-replicate i 1 x ∙ ap (λ (k : ℕ). replicate k x) sum in
      qed 𝓛 (‵ (written i) ∷ ‵ (part_at Row full_share x b (i * 64 + o)) ∷ []) ∵ move ! (1 ∷ []) $ nothing ! $ move ! (1 ∷ 0 ∷ []) $ fjoin ! $
      rewrite ! 0 (λ (k : ℕ). ‵ (slots full_share (x ∷ []) b k)) seam refl $ move ! (1 ∷ 0 ∷ []) $
      use2 𝓛 (‵ (slots full_share (replicate i x ++ x ∷ []) b o)) (slots_glue 𝓛 full_share (replicate i x) (x ∷ []) b o) $
      rewrite ! 0 (λ (xs : List Slot). ‵ (slots full_share xs b o)) more refl $ done !

  all_in : ent 𝓤 (sem 𝓛 (written n)) (sem 𝓛 (part_at (Array Row n) full_share (replicate n x) b o))
  all_in =
      qed 𝓛 (‵ (written n) ∷ []) ∵ feq_i ! ℕ (length (replicate n x)) n (length-replicate n x) $ fjoin ! $
      use1 𝓛 (‵ (part_at (Array Row n) full_share (replicate n x) b o)) (Array-whole 𝓛 Row full_share n (replicate n x) b o) $ done !

  -- how many are written
  abbrev Written : Type 0
  Written = (i : ℕ) × (i ≤ n)

  abbrev Nearer : Written → Written → Type 0
  Nearer t u = n - t.0 < n - u.0

  module _ (Post : Val → SProp 𝓤) (exits : ent 𝓤 (sem 𝓛 (written n)) (Post vunit)) (l : ℕ → ℕ) where
    abbrev En : Env 𝓤 H
    En = env code.Mir.locals l

    abbrev Now : Written → List (Item 𝓤)
    Now t = ‵ (written t.0) ∷ ‵ (left t.0) ∷ holding 𝓛 En ((1, vptr b o) ∷ (2, vint w64 n) ∷ (3, word x) ∷ (4, vint w64 t.0) ∷ [])

    abbrev Turned : Written → Out → SProp 𝓤
    Turned t = after_turn 𝓤 H (Below 𝓛 Nearer Now t) (after_block 𝓤 H (after_seq 𝓤 H (Wp 𝓤 H 𝓣.C 𝓣.Λ En code.Mir.t-3 (at_return 𝓤 H En Post)) (at_return 𝓤 H En Post)))

    turns : (t : Written) → Sq 𝓛 (Now t) (runs 𝓣.C 𝓣.Λ En code.Mir.turn-1 (any_q (Turned t)))
    unfolding after_turn
    turns t =
        let i : ℕ = t.0 in let le : i ≤ n = t.1 in
        sets ! (bin ! (get ! refl) (get ! refl) tt) refl (tt, tt) $ first ! $ branches ! (get ! refl)
        (λ less. let lt : i < n = ltb→lt i n less in let next : i + 1 < 2 ^ 64 = omega (arith, lt, few) in let wide : i * 64 < 2 ^ 64 = omega (arith, lt, few) in
        skips ! $ exec ! 𝓣.C 𝓣.Λ En (after 2 code.Mir.turn-1) (any_q (Turned t)) $ move ! (1 ∷ []) $
        use1 𝓛 (‵ (froom slot_type b (i * 64 + o)) ⊛ ‵ (left (suc i))) (one_out i lt) $ split ! $
        first ! $ blocks ! $ sets ! (bin ! (get ! refl) (lit ! tt) (record { fits = wide })) refl (tt, record { fits = wide }) $
        sets ! (bin ! (get ! refl) (get ! refl) tt) refl (tt, tt) $
        assigns_last ! (of_opd ! (get ! refl)) (through ! refl (stop !)) (init ! 0 refl (slot_typed 𝓛 x is)) $
        exec ! 𝓣.C 𝓣.Λ En (after 3 code.Mir.turn-1) (any_q (Turned t)) $
        sets_last ! (bin ! (get ! refl) (lit ! tt) (record { fits = next })) refl (tt, record { fits = next }) $
        owned ! Row (Is Row) (slot_makes 𝓛) x (word x ∷ []) is $ move ! (1 ∷ 0 ∷ []) $
        use2 𝓛 (‵ (part_at Row full_share x b (i * 64 + o))) (part_in 𝓛 Row refl full_share x b (i * 64 + o) (word x)) $ move ! (2 ∷ 0 ∷ []) $ use2 𝓛 (‵ (written (suc i))) (one_in i) $
        forget_but ! En (1 ∷ 2 ∷ 3 ∷ 4 ∷ []) refl $ take_at ! 4 $ rewrite ! 0 (λ (k : ℕ). ‵ (fat full_share (ty_int w64) (l 4) zero (vint w64 k))) (omega arith) refl $ give_at ! 4 $
        again ! Nearer Now t (suc i, omega arith) (omega arith))
        (λ over. let ge : n ≤ i = nltb→le i n over in let all : i ≡ n = omega arith in
        jumps ! $ exec ! 𝓣.C 𝓣.Λ En code.Mir.t-3 (at_ret En Post) $ rewrite ! 0 (λ (k : ℕ). ‵ (written k)) all refl $
        sets ! (of_opd ! (unit_lit !)) refl (tt, tt) $ returns ! (look_at ! 0 refl) $ free_all ! refl $ keep ! (0 ∷ []) $ by ! exits)

pub fill_room_spec : {M : Type 1} → statement M
unfolding tables_of
fill_room_spec 𝓤 𝓛 𝓜 𝓡 wired =
    let c = f.clauses 𝓛 𝓜.mem 𝓡.returns in let W = walk_of 𝓛 f.ended stayed c in let 𝓣 : Tables 𝓤 𝓛.H = tables_of 𝓤 𝓛.H 𝓜 (tables 𝓤 𝓛.H 𝓜 𝓡 𝓡.env) in
    proved 𝓛 f.ended stayed c 𝓜 𝓡 (Goes-dropped 𝓛 0 (plain (λ _. RawPtr)) yes (λ κs x w. refl), (Goes-dropped 𝓛 0 (plain (λ _. usize)) yes (λ κs x w. refl), (Goes-dropped 𝓛 0 (plain (λ _. Row)) yes (λ κs x w. refl), tt)))
    f.Key.name code.function (code.unfolded 𝓤 𝓛.H 𝓜 𝓡 wired)
    (λ κs. (rawptr_vals, (uint_vals w64, ((λ x. word x ∷ []), tt)))) (λ κs. (rawptr_Tells, (uint_Tells w64, (slot_laws.lowers.val_is, tt)))) (λ κs qs bounds a _ are.
    let n = a.1.0 in let x = a.1.1.0 in let is = are.1.1.0 in
    let y : Ptr → W.Ghost = λ p. ((κs, qs, bounds, (p, (n, (x, tt))), (rawptr_vals p, (uint_vals w64 n, (word x ∷ [], tt)))), tt) in
    qed 𝓛 (raw (on_entry 𝓛 f.signature κs qs a (y a.0).0.4) ∷ (raw (fact 𝓤 (n < 2 ^ 32)) ⊛ ‵ (room_for (ty_array slot_type n) a.0)) ∷ []) ∵ drop ! $ split ! $ heard ! (n < 2 ^ 32) (λ few.
    in_a_block ! a.0 (λ p. room_for (ty_array slot_type n) p) (id⊢ 𝓤 _) (λ b o e.
    regoal ! (λ p. prop (WpFn 𝓤 𝓛.H 𝓣.C 𝓣.Λ code.function (ptr_val p ∷ vint w64 n ∷ word x ∷ []) (W.post (y p)))) e refl $
    let Post : Val → SProp 𝓤 = W.post (y (block_ptr b o)) in
    let exits : ent 𝓤 (sem 𝓛 (written 𝓛 𝓣 b o n x few is n)) (Post vunit) =
    qed 𝓛 (‵ (written 𝓛 𝓣 b o n x few is n) ∷ []) ∵ use1 𝓛 (‵ (lies_at (Array Row n) full_share (block_ptr b o) (replicate n x))) (all_in 𝓛 𝓣 b o n x few is) $
    suffices ! _ (ends_at 𝓛 f.ended stayed c (y (block_ptr b o)) vunit tt (tt, (tt, (tt, tt))) (tt, (tt, (tt, tt)))) $
    feq_i ! _ (vunit ∷ []) _ refl $ nothing ! $ nothing ! $ join ! $ nothing ! $ join ! $ nothing ! $ join ! $ nothing ! $ group ! 3 $ done ! in
    let all : n ≡ n - 0 = omega arith in let here : o ≡ 0 * 64 + o = omega arith in
    rewrite ! 0 (λ (k : ℕ). ‵ (froom (ty_array slot_type k) b o)) all refl $ rewrite ! 0 (λ (k : ℕ). ‵ (froom (ty_array slot_type (n - 0)) b k)) here refl $ nothing ! $
    enter ! _ _ _ _ _ $ alloc_all ! (λ l. pass_all ! refl ((tt, tt), ((tt, record { fits = are.1.0.1 }), (slot_typed 𝓛 x is, tt))) $
    sets ! (of_opd ! (lit ! tt)) refl (tt, record { fits = lit< tt }) $
    first ! $ blocks ! $ loops ! 𝓣 (Nearer 𝓛 𝓣 b o n x few is) (InvImage.wf (λ (t : Written 𝓛 𝓣 b o n x few is). n - t.0) lt-wf_rel.wf) (Now 𝓛 𝓣 b o n x few is Post exits l) (turns 𝓛 𝓣 b o n x few is Post exits l) (0, omega arith)))))
