-- `as_slice` makes a slice of what a `&` to the block lends.
use Rattle.std.proofs.Common.{ℕ, ◌+◌, ◌*◌, ◌<◌, ◌^◌, List, [], ◌∷◌, length, refl, sym, ap, w64, arith}
use Rattle.std.proofs.raw_atomic.Walks.{proved}
use Rattle.std.proofs.Words.{word_in, word_out, pointer_in, pointer_out}
use seplogic.Ra.Ura.{Ura}
use base.Logic.{ent, sep}
use base.Fml.{Lft, Fml, ftrue, fhide, flft}
use mir.Syntax.{named}
use mir.Val.{Val}
use prog.Wp.{Tables}
use contract.Monad.{fact}
use contract.Running.{tables, tables_of}
use types.Logic.{Logic, sem}
use types.Kit.{‵, raw, ◌⊛◌, at_ret, ◌$◌, ◌∵◌, !, qed, done, move, drop, keep, use1, split, join, fsplit, fjoin, feq_i, feq_l, flt_i, flt_l, suffices, frame}
use types.Part.{agg}
use types.Run.{enter, of_opd, load, look, stop, fld, no_more, and_then, first, blocks, exec, returns}
use types.ByLocal.{alloc_all, pass_all, free_all, look_at, get, through, sets, sets_last, env}
use denote.RattleType.{RattleType, RowLaws}
use denote.Builtin.{usize, RefOf}
use denote.Exit.{yes}
use denote.Memory.{hidden_shr}
use denote.Opens.{shr_dup, hide, unhide}
use denote.Plain.{uint_row_laws}
use denote.RawPtr.{RawPtr, InBlock, block_of, count_of, ptr_row_laws}
use denote.Ref.{ShrRef, shr_vals, shr_Tells}
use denote.Signature.{plain}
use denote.Slice.{slice_val}
use denote.Steps.{heard, nothing}
use denote.Struct.Struct.{Struct, Struct-row_laws}
use denote.Struct.Owning.{shape}
use denote.Struct.Lending.{in_block_says, lent_out}
use denote.Triple.Walked.{Stays, walk_of, says, stay_dropped, Goes-dropped, ends_at}
use Rattle.vk_nodes.specs.declared.block.Block.{Block}
use Rattle.vk_nodes.specs.contracts.block.Block as C
use Rattle.vk_nodes.specs.contracts.block.Block.as_slice as f
use Rattle.vk_nodes.proofs.block.Block.as_slice.Statement.{statement}
use Rattle.vk_nodes.proofs.block.Block.as_slice.Code as code

abbrev stayed : Stays f.ended.signature.params f.ended.kept
stayed = (stay_dropped _ yes, tt)

-- the fields
abbrev Words : RattleType
Words = Struct (shape C.the_type)

words_laws : RowLaws Words
words_laws = Struct-row_laws (shape C.the_type) (ptr_row_laws, (uint_row_laws w64, tt))

module _ {M : Type 1} {𝓤 : Ura M} (𝓛 : Logic 𝓤) (κ : Lft) (b o : ℕ) (d : Block) where
  abbrev fields : Words.Denot
  fields = (d.start, (d.size, tt))

  abbrev S : Fml
  S = hidden_shr Words κ fields b o

  shows_start : ent 𝓤 (sem 𝓛 S) (sep 𝓤 (sem 𝓛 (hidden_shr RawPtr κ d.start b (o + 0))) (sem 𝓛 S))
  shows_start = qed 𝓛 (‵ S ∷ []) ∵ shr_dup ! Words words_laws fields b o κ $ unhide ! $ fsplit ! $ fsplit ! $ hide ! $ keep ! (0 ∷ 3 ∷ []) $ done !

  shows_size : ent 𝓤 (sem 𝓛 S) (sep 𝓤 (sem 𝓛 (hidden_shr usize κ d.size b (o + 8))) (sem 𝓛 S))
  shows_size = qed 𝓛 (‵ S ∷ []) ∵ shr_dup ! Words words_laws fields b o κ $ unhide ! $ fsplit ! $ fsplit ! $ drop ! $ fsplit ! $ hide ! $ keep ! (0 ∷ 3 ∷ []) $ done !

pub as_slice_spec : {M : Type 1} → statement M
unfolding tables_of
as_slice_spec 𝓤 𝓛 𝓜 𝓡 wired =
    let c = f.clauses 𝓛 𝓜.mem 𝓡.returns in let W = walk_of 𝓛 f.ended stayed c in let 𝓣 : Tables 𝓤 𝓛.H = tables_of 𝓤 𝓛.H 𝓜 (tables 𝓤 𝓛.H 𝓜 𝓡 𝓡.env) in
    proved 𝓛 f.ended stayed c 𝓜 𝓡 (Goes-dropped 𝓛 1 (RefOf (0 ∷ []) tt (plain (λ _. C.the_row)) (λ _. tt)) yes (λ κs x w. refl), tt)
    f.Key.name code.function (code.unfolded 𝓤 𝓛.H 𝓜 𝓡 wired)
    (λ κs. (shr_vals, tt)) (λ κs. (shr_Tells (named 0) κs.0 C.the_row, tt)) (λ κs qs bounds a _ are.
    let κ = κs.0 in let q = qs.0 in let b = a.0.ref_ptr.0 in let o = a.0.ref_ptr.1 in let d = a.0.now in let vs = shr_vals a.0 in
    let at : ℕ × ℕ = (block_of d.start, count_of d.start) in
    let y : W.Ghost = ((κs, qs, bounds, a, (vs, tt)), tt) in
    qed 𝓛 (((‵ (flft κ q) ⊛ ‵ ftrue) ⊛ ‵ ((ShrRef (named 0) κ C.the_row).own_val a.0 vs) ⊛ ‵ ftrue) ∷ ‵ ftrue ∷ []) ∵
    split ! $ split ! $ move ! (2 ∷ []) $ split ! $ fsplit ! $ drop ! $ keep ! (0 ∷ 2 ∷ []) $
    enter ! _ _ _ _ _ $ alloc_all ! (λ l. pass_all ! refl ((tt, tt), tt) $
    use1 𝓛 (‵ (hidden_shr Words κ (fields 𝓛 κ b o d) b o) ⊛ ‵ (fhide (C.the_lent d d.start κ))) (lent_out 𝓛 C.struct C.the_codes C.the_heap C.the_lent κ d b o) $ split ! $
    move ! (1 ∷ []) $ unhide ! $ fsplit ! $ flt_l ! (λ small. fsplit ! $ use1 𝓛 (raw (fact 𝓤 (InBlock d.start))) (in_block_says 𝓛 d.start) $ heard ! (InBlock d.start) (λ inside. fsplit ! $ feq_l ! (λ long. hide ! $
    -- [the slots; the fields; the token]
    move ! (1 ∷ 2 ∷ []) $ first ! $ blocks ! $
    pointer_in ! tt d.start inside b (o + 0) (shows_start 𝓛 κ b o d) (λ q0.
    sets ! (of_opd ! (load ! (through ! refl (fld ! refl (stop !))) (look ! 1 refl))) refl (tt, tt) $ pointer_out ! tt d.start inside b (o + 0) $ move ! (1 ∷ 0 ∷ []) $
    word_in ! tt d.size b (o + 8) (shows_size 𝓛 κ b o d) (λ q1 fits.
    sets ! (of_opd ! (load ! (through ! refl (fld ! refl (stop !))) (look ! 1 refl))) refl (tt, record { fits = fits }) $ word_out ! tt d.size b (o + 8) fits $
    sets_last ! (agg ! (and_then ! (get ! refl) (and_then ! (get ! refl) (no_more !)))) refl (tt, (tt, (record { fits = fits }, tt))) $
    exec ! 𝓣.C 𝓣.Λ (env code.Mir.locals l) code.Mir.t-2 (at_ret _ (W.post y)) $
    sets ! (of_opd ! (get ! refl)) refl (tt, (tt, (record { fits = fits }, tt))) $
    -- [the token; the fields; the slots]
    move ! (2 ∷ 0 ∷ []) $
    let bound : length d.slots * 64 < 2 ^ 63 = omega arith in let roomy : length d.slots < 2 ^ 64 = omega arith in
    flt_i ! (length d.slots * 64) (2 ^ 63) bound $ flt_i ! (length d.slots) (2 ^ 64) roomy $ fjoin ! $
    feq_i ! (List Val) (slice_val at d.size ∷ []) (slice_val at (length d.slots) ∷ []) (ap (λ (k : ℕ). slice_val at k ∷ []) (sym long)) $ fjoin ! $ fjoin ! $
    returns ! (look_at ! 0 refl) $ free_all ! refl $ keep ! (1 ∷ 0 ∷ []) $
    suffices ! _ (ends_at 𝓛 f.ended stayed c y (slice_val at d.size) (record { ref_ptr = at; now = d.slots }) (tt, tt) (tt, tt)) $ says ! (refl, long) $
    nothing ! $ move ! (1 ∷ 0 ∷ []) $ join ! $ frame ! $ nothing ! $ nothing ! $ fjoin ! $ done !)))))))
