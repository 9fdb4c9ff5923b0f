-- Slots side by side in memory, as `denote.RawPtr.Bytes` has them for bytes, and the machine value of one.
use Rattle.std.proofs.Common.{◌≡◌, ℕ, suc, ◌+◌, ◌*◌, List, [], ◌∷◌, ◌++◌, length, sym, subst, arith, T}
use seplogic.Ra.Ura.{Ura}
use base.Logic.{SProp, ent, sep, emp, via, assoc∗, mono_r, snd∗}
use base.Fml.{Share, Fml}
use mir.Syntax.{Ty}
use mir.Val.{Val, WT, has_ty}
use types.Logic.{Logic, sem}
use denote.Index.{row}
use denote.Laws.{Is, Makes}
use denote.Memory.{part_at, lone}
use denote.RattleType.{RattleType}
use denote.Struct.Laws.{makes}
use native.Mathlib.Nat.{add-zero}
use Rattle.vk_nodes.specs.declared.slot.Slot.{Slot}
use Rattle.vk_nodes.specs.contracts.slot.Slot as slot
use Rattle.vk_nodes.proofs.slot.Slot.TheLaws as slot_laws

abbrev pub Row : RattleType
Row = slot.the_row

-- the type of a slot in memory
abbrev pub slot_type : Ty
slot_type = lone Row.mir

-- the machine value of a slot
abbrev pub word : Slot → Val
word x = slot_laws.lowers.lowered x

abbrev pub slots : Share → List Slot → ℕ → ℕ → Fml
slots = row Row

pub slot_typed : {M : Type 1} {𝓤 : Ura M} (𝓛 : Logic 𝓤) (x : Slot) → Is Row x (word x ∷ []) → T (has_ty slot_type (word x)) × WT (word x)
slot_typed 𝓛 x is = ((slot_laws.the_row_laws.lawful 𝓛).typed x (word x ∷ []) is).0

pub slot_makes : {M : Type 1} {𝓤 : Ura M} (𝓛 : Logic 𝓤) → Makes 𝓛 Row (Is Row)
slot_makes 𝓛 = makes slot.the_type slot_laws.the_plain 𝓛

module _ {M : Type 1} {𝓤 : Ura M} (𝓛 : Logic 𝓤) where
  abbrev ◌⊢◌ : SProp 𝓤 → SProp 𝓤 → Type 1
  P ⊢ Q = ent 𝓤 P Q

  abbrev ◌∗◌ : SProp 𝓤 → SProp 𝓤 → SProp 𝓤
  P ∗ Q = sep 𝓤 P Q

  abbrev ⟦◌⟧ : Fml → SProp 𝓤
  ⟦ P ⟧ = sem 𝓛 P

  infix 26 ◌⊢◌
  infixr 35 ◌∗◌
  pub slots_glue : (q : Share) (xs ys : List Slot) (b o : ℕ) → ⟦ slots q xs b o ⟧ ∗ ⟦ slots q ys b (o + length xs * 64) ⟧ ⊢ ⟦ slots q (xs ++ ys) b o ⟧
  slots_glue q [] ys b o = subst (λ (k : ℕ). emp 𝓤 ∗ ⟦ slots q ys b k ⟧ ⊢ ⟦ slots q ys b o ⟧) (sym (add-zero o)) (snd∗ 𝓤 (emp 𝓤) ⟦ slots q ys b o ⟧)
  slots_glue q (x ∷ xs) ys b o =
      let e : o + 64 + length xs * 64 ≡ o + suc (length xs) * 64 = omega arith in
      via 𝓤 (⟦ part_at Row q x b o ⟧ ∗ (⟦ slots q xs b (o + 64) ⟧ ∗ ⟦ slots q ys b (o + suc (length xs) * 64) ⟧))
      (assoc∗ 𝓤 ⟦ part_at Row q x b o ⟧ ⟦ slots q xs b (o + 64) ⟧ ⟦ slots q ys b (o + suc (length xs) * 64) ⟧)
      (mono_r 𝓤 ⟦ part_at Row q x b o ⟧ (subst (λ (k : ℕ). ⟦ slots q xs b (o + 64) ⟧ ∗ ⟦ slots q ys b k ⟧ ⊢ ⟦ slots q (xs ++ ys) b (o + 64) ⟧) e (slots_glue q xs ys b (o + 64))))
