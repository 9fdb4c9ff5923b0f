-- `as_mut_slice` lends the slots, and the block follows them.
use Rattle.std.proofs.Common.{◌≡◌, ℕ, ◌*◌, ◌<◌, ◌^◌, List, [], ◌∷◌, length, refl, sym, ap, ◌∙◌, arith, MutBor}
use Rattle.std.proofs.raw_atomic.Walks.{proved}
use seplogic.Ra.Ura.{Ura}
use base.Fraction.{full_share}
use base.Logic.{ent, sep, id⊢}
use base.Fml.{GName, Fml, ftrue, feq, flft, fsep}
use mir.Syntax.{named}
use mir.Val.{Val}
use prog.Wp.{Tables}
use contract.Running.{tables, tables_of}
use types.Logic.{Logic, sem}
use types.Kit.{‵, raw, ◌⊛◌, some, later, at_ret, ◌$◌, ◌∵◌, !, qed, done, move, keep, use1, split, join, pick, await, fsplit, fsplit3, fjoin, fpack, feq_i, feq_l, flt_i, flt_l, rewrite, suffices, frame, group}
use types.Part.{whole, sub, look_in, agg}
use types.Run.{enter, of_opd, load, stop, fld, no_more, and_then, first, blocks, exec, returns}
use types.ByLocal.{alloc_all, pass_all, free_all, look_at, get, through, sets, sets_last, env}
use types.SemTy.{cells}
use denote.Array.{Array}
use denote.ArrayMemory.{Array-apart, Array-whole}
use denote.Exit.{no}
use denote.Follow.{follows}
use denote.FollowSlice.{Elements, lends_Elements}
use denote.Index.{whole_in, whole_out}
use denote.Laws.{shows}
use denote.Memory.{mem, cell_at, part_of}
use denote.RawPtr.{Ptr, block_ptr, lies_at, in_a_block}
use denote.Ref.{MutRef, mut_vals, mut_Tells}
use denote.Signature.{plain, mut_ref_to}
use denote.Slice.{MutSlice, slice_val}
use denote.Steps.{nothing, opens, peeks}
use denote.Struct.Struct.{Struct}
use denote.Struct.Owning.{shape}
use denote.Triple.Walked.{Stays, walk_of, says, stay_dropped, Goes-spent_ref, ends_at}
use Rattle.vk_nodes.specs.Inner.Lends.{with_slots}
use Rattle.vk_nodes.specs.declared.block.Block.{Block}
use Rattle.vk_nodes.specs.declared.slot.Slot.{Slot}
use Rattle.vk_nodes.proofs.BlockRows.{Row, slots}
use Rattle.vk_nodes.specs.contracts.block.Block as C
use Rattle.vk_nodes.specs.contracts.block.Block.as_mut_slice as f
use Rattle.vk_nodes.proofs.block.Block.TheLaws.{lowers}
use Rattle.vk_nodes.proofs.block.Block.as_mut_slice.Statement.{statement}
use Rattle.vk_nodes.proofs.block.Block.as_mut_slice.Code as code

abbrev stayed : Stays f.ended.signature.params f.ended.kept
stayed = (stay_dropped (mut_ref_to (0 ∷ []) tt (plain (λ _. C.the_row))) no, tt)

-- the machine values us of the block's fields, which lie at (b, o)
abbrev Cell : ℕ → ℕ → List Val → Fml
Cell b o us = cell_at full_share C.the_row.mir us b o

module _ {M : Type 1} {𝓤 : Ura M} (𝓛 : Logic 𝓤) (b o : ℕ) (d : Block) (us : List Val) (b' o' : ℕ) (here : d.start ≡ block_ptr b' o') (small : d.size < 2 ^ 32) (long : length d.slots ≡ d.size) where
  -- the block but for its bytes
  abbrev Rest : Fml
  Rest = fsep ((Struct (shape C.the_type)).own_val (d.start, (d.size, tt)) us) (Cell b o us)

  back : (ws : List Slot) → length ws ≡ length d.slots → ent 𝓤 (sep 𝓤 (sem 𝓛 (cells (mem Row) ws b' o')) (sem 𝓛 Rest)) (sem 𝓛 ((mem C.the_row).own_at (with_slots d ws) b o))
  unfolding part_of
  back ws same =
      let long' : length ws ≡ d.size = same ∙ long in
      qed 𝓛 (‵ (cells (mem Row) ws b' o') ∷ ‵ Rest ∷ []) ∵ use1 𝓛 (‵ (slots full_share ws b' o')) (whole_out 𝓛 Row ws b' o') $
      feq_i ! ℕ (length ws) d.size long' $ fjoin ! $ use1 𝓛 (‵ (lies_at (Array Row d.size) full_share (block_ptr b' o') ws)) (Array-whole 𝓛 Row full_share d.size ws b' o') $
      rewrite ! 0 (λ (p : Ptr). ‵ (lies_at (Array Row d.size) full_share p ws)) (sym here) refl $ flt_i ! d.size (2 ^ 32) small $ fjoin ! $
      move ! (1 ∷ []) $ fsplit ! $ move ! (0 ∷ 2 ∷ []) $ fjoin ! $ move ! (1 ∷ 0 ∷ []) $ fjoin ! $
      fpack ! (List Val) (λ (vs : List Val). fsep (Cell b o vs) (C.the_row.own_val (with_slots d ws) vs)) us $ done !

pub as_mut_slice_spec : {M : Type 1} → statement M
unfolding tables_of
as_mut_slice_spec 𝓤 𝓛 𝓜 𝓡 wired =
    let c = f.clauses 𝓛 𝓜.mem 𝓡.returns in let W = walk_of 𝓛 f.ended stayed c in let 𝓣 : Tables 𝓤 𝓛.H = tables_of 𝓤 𝓛.H 𝓜 (tables 𝓤 𝓛.H 𝓜 𝓡 𝓡.env) in
    proved 𝓛 f.ended stayed c 𝓜 𝓡 (Goes-spent_ref 𝓛 1 (0 ∷ []) tt (plain (λ _. C.the_row)), tt)
    f.Key.name code.function (code.unfolded 𝓤 𝓛.H 𝓜 𝓡 wired)
    (λ κs. (mut_vals, tt)) (λ κs. (mut_Tells (named 0) κs.0 C.the_row, tt)) (λ κs qs bounds a _ are.
    let κ = κs.0 in let q = qs.0 in let b = a.0.ref_ptr.0 in let o = a.0.ref_ptr.1 in let γ = a.0.ghost_name in let d = a.0.now in let vs = mut_vals a.0 in
    let y : W.Ghost = ((κs, qs, bounds, a, (vs, tt)), tt) in
    qed 𝓛 (((‵ (flft κ q) ⊛ ‵ ftrue) ⊛ ‵ ((MutRef (named 0) κ C.the_row).own_val a.0 vs) ⊛ ‵ ftrue) ∷ ‵ ftrue ∷ []) ∵
    split ! $ split ! $ move ! (2 ∷ []) $ split ! $ keep ! (0 ∷ 2 ∷ []) $
    enter ! _ _ _ _ _ $ alloc_all ! (λ l. pass_all ! refl ((tt, tt), tt) $
    fsplit3 ! $ move ! (1 ∷ 2 ∷ 3 ∷ []) $ opens ! tt C.the_row b o (λ us. move ! (1 ∷ []) $ peeks ! C.the_row _ (shows 𝓛 C.the_row) d us (λ is. fsplit ! $ move ! (1 ∷ []) $
    fsplit ! $ flt_l ! (λ small. in_a_block ! d.start (λ p. lies_at (Array Row d.size) full_share p d.slots) (id⊢ 𝓤 _) (λ b' o' here.
    use1 𝓛 (‵ (fsep (feq ℕ (length d.slots) d.size) (slots full_share d.slots b' o'))) (Array-apart 𝓛 Row full_share tt d.size d.slots b' o') $ fsplit ! $ feq_l ! (λ long.
    let fits : d.size < 2 ^ 64 = omega (arith, small) in
    let word = lowers.val_is d us is ∙ ap (λ (p : Ptr). lowers.lowered (record d { start = p }) ∷ []) here in
    rewrite ! 2 (λ (ws : List Val). ‵ (Cell b o ws)) word refl $
    -- [the slots; what the fields own; the struct's cell; the open borrow, in three entries]
    first ! $ blocks ! $
    sets ! (of_opd ! (load ! (through ! refl (fld ! refl (stop !))) (look_in ! 2 (sub ! 0 refl (whole !))))) refl (tt, tt) $
    sets ! (of_opd ! (load ! (through ! refl (fld ! refl (stop !))) (look_in ! 2 (sub ! 1 refl (whole !))))) refl (tt, record { fits = fits }) $
    sets_last ! (agg ! (and_then ! (get ! refl) (and_then ! (get ! refl) (no_more !)))) refl (tt, (tt, (record { fits = fits }, tt))) $
    exec ! 𝓣.C 𝓣.Λ (env code.Mir.locals l) code.Mir.t-2 (at_ret _ (W.post y)) $
    sets ! (of_opd ! (get ! refl)) refl (tt, (tt, (record { fits = fits }, tt))) $
    rewrite ! 2 (λ (ws : List Val). ‵ (Cell b o ws)) (sym word) refl $ use1 𝓛 (‵ (cells (mem Row) d.slots b' o')) (whole_in 𝓛 Row d.slots b' o') $
    move ! (1 ∷ 2 ∷ []) $ fjoin ! $ move ! (2 ∷ 3 ∷ 4 ∷ 1 ∷ 0 ∷ []) $ group ! 5 $
    let roomy : length d.slots < 2 ^ 64 = omega (arith, long, small) in let bound : length d.slots * 64 < 2 ^ 63 = omega (arith, long, small) in
    let way = back 𝓛 b o d us b' o' here small long in let F = with_slots d in let code = C.the_row.coded.code d in
    use1 𝓛 (later (some (λ (δ : GName). raw (Elements 𝓛 C.the_row Row F (named 0) κ q b o b' o' γ d.slots (roomy, bound) (sem 𝓛 (Rest 𝓛 b o d us b' o' here small long)) way δ))))
    (lends_Elements 𝓛 C.the_row Row F (named 0) κ q b o b' o' γ d.slots (roomy, bound) (sem 𝓛 (Rest 𝓛 b o d us b' o' here small long)) way code code) $ await ! tt $ pick ! (λ δ.
    let r : MutBor (List Slot) = record { ref_ptr = (b', o'); ghost_name = δ; now = d.slots } in
    use1 𝓛 (‵ ((MutSlice (named 0) κ Row).own_val r (slice_val (b', o') (length d.slots) ∷ [])) ⊛ ‵ (flft κ q) ⊛ ‵ (follows C.the_row (Array Row 0) γ δ F)) (id⊢ 𝓤 _) $ split ! $
    rewrite ! 0 (λ (n : ℕ). ‵ ((MutSlice (named 0) κ Row).own_val r (slice_val (b', o') n ∷ []))) long refl $
    returns ! (look_at ! 0 refl) $ free_all ! refl $ move ! (1 ∷ []) $ split ! $ move ! (2 ∷ 0 ∷ 1 ∷ []) $ keep ! (0 ∷ 1 ∷ 2 ∷ []) $
    suffices ! _ (ends_at 𝓛 f.ended stayed c y (slice_val (b', o') d.size) r (tt, tt) (tt, tt)) $
    nothing ! $ nothing ! $ fjoin ! $ join ! $ nothing ! $ move ! (2 ∷ 0 ∷ []) $ join ! $ join ! $ frame ! $ says ! (refl, long) $ done !))))))))
