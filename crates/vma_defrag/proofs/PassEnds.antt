-- A pass that has ended, step by step.
use Rattle.std.proofs.Common.{◌≡◌, ℕ, List, [], ◌++◌, length, drop, refl, sym, ap, subst, ◌∙◌, arith}
use Rattle.std.proofs.lemmas.List.{take_all, drop_all, length-map}
use Rattle.vk_memory.specs.MemoryState.{MemoryState}
use Rattle.vk_model.specs.Memory.MoveTargets.{Moved}
use Rattle.vma_pools.specs.State.{PoolsState, ArePools, Backs}
use Rattle.vma_defrag.specs.declared.open.Planned.{Planned}
use Rattle.vma_defrag.specs.Plans.{AreMatched, ArePlanned}
use Rattle.vma_defrag.specs.Bytes.{AreAllCopied}
use Rattle.vma_defrag.specs.Ends.{AllEnd, AreOfPool, HasEnded, KeepsBytes, MovesEnd, freed, is_made}
use Rattle.vma_defrag.specs.Inner.Planned.{move_of, moves_of}
use Rattle.vma_defrag.specs.Inner.Ending.{AreEnded, AreSettled, HaveFates}
use Rattle.vma_defrag.proofs.Chains.{freed_more}
use Rattle.vma_defrag.proofs.KeptBytes.{bytes_kept}

module _ (s mid t : PoolsState) (m copied between n : MemoryState) (ms : List Moved) (ps : List Planned) (is : moves_of ps ≡ ms) (settled : AreSettled s copied ps (length ps) mid between) where
  none_left : drop (length ps) (moves_of ps) ≡ []
  none_left = let long = length-map ps move_of in drop_all (length ps) (moves_of ps) (omega (arith, long))

  pub as_kept : (pool : ℕ) → ArePlanned s pool ms → ArePlanned s pool (moves_of ps)
  as_kept pool plan = subst (λ (l : List Moved). ArePlanned s pool l) (sym is) plan

  -- nothing is planned any more
  pub none_planned : (pool : ℕ) → ArePlanned s pool ms → ArePlanned mid pool []
  none_planned pool plan = subst (λ (l : List Moved). ArePlanned mid pool l) none_left (settled.others pool (as_kept pool plan))

  pub still_listed : (pool : ℕ) (numbers : List ℕ) → ArePlanned s pool ms → AreOfPool s pool numbers → AreOfPool mid pool numbers
  still_listed pool numbers plan of = settled.listed pool numbers (as_kept pool plan) of

  module _ (ignored destroyed : List ℕ) (fates : HaveFates ignored destroyed ps) (copies : AreAllCopied s (moves_of ps) (is_made ignored destroyed) m copied) (ended : AreEnded mid between destroyed (length destroyed) t n) where
    abbrev pub moved : (gone : List ℕ) × MovesEnd ignored s ms mid gone × (between ≡ freed copied gone)
    moved =
        let h = settled.ended ignored destroyed fates in let long = length-map ps move_of in
        (h.0, subst (λ (l : List Moved). MovesEnd ignored s l mid h.0) (take_all (length ps) (moves_of ps) (omega (arith, long)) ∙ is) h.1, h.2)

    abbrev pub has_ended : (gone : List ℕ) × HasEnded ms s t m n ignored destroyed gone
    has_ended =
        let last = ended.ended in (
          moved.0 ++ last.0,
          record {
            copied = copied;
            copies = subst (λ (l : List Moved). AreAllCopied s l (is_made ignored destroyed) m copied) is copies;
            settled = mid;
            by_moves = moved.0;
            ended = moved.1;
            by_ends = last.0;
            ends = subst (λ (l : List ℕ). AllEnd mid l t last.0) (take_all (length destroyed) destroyed (omega arith)) last.1;
            gone_are = refl;
            freed_are = last.2 ∙ ap (λ (x : MemoryState). freed x last.0) moved.2 ∙ sym (freed_more copied moved.0 last.0);
          },
        )

    pub bytes_stay : ArePools s → ArePools t → Backs s m → Backs t n → AreMatched s → (pool : ℕ) → ArePlanned s pool ms → AreOfPool s pool destroyed → KeepsBytes s m t n
    bytes_stay h h' backs backs' matched pool plan of =
        bytes_kept s t h h' m n backs backs' matched ended.matched pool ms plan ignored destroyed has_ended.0 has_ended.1 settled.matched (still_listed pool destroyed plan of)
