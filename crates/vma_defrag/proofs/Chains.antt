-- Moves and allocations that end one after another.
use Rattle.std.proofs.Common.{◌≡◌, ℕ, ◌+◌, ◌<◌, List, [], ◌∷◌, ◌++◌, length, take, drop, get_or, Bool, true, false, Option, Some, None, refl, sym, ap, subst, ◌∙◌, arith}
use Rattle.std.specs.Prelude.{if◌then◌else◌}
use Rattle.std.proofs.lemmas.List.{append-nil, append_assoc, take_more, drop_more, length-map, get_or-map}
use Rattle.vk_memory.specs.MemoryState.{MemoryState, with_object}
use Rattle.vk_model.specs.Basics.{among}
use Rattle.vk_model.specs.Memory.MoveTargets.{Moved}
use Rattle.vma_pools.specs.State.{PoolsState, Backs, IfLive, released}
use Rattle.vma_defrag.specs.Plans.{AreMatched, ArePlanned, IsMove}
use Rattle.vma_defrag.specs.Bytes.{no_move}
use Rattle.vma_defrag.specs.Ends.{listed, MoveEnds, MovesEnd, Settles, freed}
use Rattle.vma_defrag.specs.declared.open.Fate.TheVariants.{Made, Kept, Lost}
use Rattle.vma_defrag.specs.declared.open.Planned.{Planned}
use Rattle.vma_defrag.specs.Inner.Planned.{move_of, moves_of}
use Rattle.vma_defrag.specs.Inner.Ending.{fate_in, is_kept, AreSettled}
use Rattle.vma_defrag.proofs.Settles.{settled_is, settled_matched, settled_planned, settled_listed}

-- ---- memory objects that have gone

pub freed_more : (m : MemoryState) (gone more : List ℕ) → freed m (gone ++ more) ≡ freed (freed m gone) more
freed_more m [] more = refl
freed_more m (n ∷ ns) more = freed_more (with_object m n None) ns more

pub freed_one : (m : MemoryState) (one : Option ℕ) → released m one ≡ freed m (listed one)
freed_one m None = refl
freed_one m (Some n) = refl

-- ---- moves

pub moves_end_more : (ignored : List ℕ) (ms : List Moved) (s t u : PoolsState) (m : Moved) (gone : List ℕ) (one : Option ℕ) → MovesEnd ignored s ms t gone → MoveEnds ignored t m u one → MovesEnd ignored s (ms ++ m ∷ []) u (gone ++ listed one)
moves_end_more ignored [] s t u m gone one h ends =
    (u, one, [], subst (λ (x : PoolsState). MoveEnds ignored x m u one) h.0 ends, (refl, refl), ap (λ (l : List ℕ). l ++ listed one) h.1 ∙ sym (append-nil (listed one)))
moves_end_more ignored (n ∷ ns) s t u m gone one h ends =
    let rest = moves_end_more ignored ns h.0 t u m h.2 one h.4 ends in
    (h.0, h.1, h.2 ++ listed one, h.3, rest, ap (λ (l : List ℕ). l ++ listed one) h.5 ∙ append_assoc (listed h.1) h.2 (listed one))

-- a move is cancelled where its allocation is ignored
kept_is : (ignored destroyed : List ℕ) (i : ℕ) → is_kept (fate_in ignored destroyed i) ≡ among i ignored
kept_is ignored destroyed i = go (among i ignored) (among i destroyed)
  where
    go : (v w : Bool) → is_kept (if v then Kept else if w then Lost else Made) ≡ v
    go true w = refl
    go false true = refl
    go false false = refl

module _ (s : PoolsState) (m : MemoryState) (planned : List Planned) (k : ℕ) (t : PoolsState) (n : MemoryState) (h : AreSettled s m planned k t n) (lt : k < length planned) (d : Planned) where
  abbrev one : Planned
  one = get_or planned k d

  long : k < length (moves_of planned)
  long = omega (arith, lt, length-map planned move_of)

  one_is : get_or (moves_of planned) k no_move ≡ move_of one
  one_is = get_or-map move_of planned k d no_move lt

  first : take (k + 1) (moves_of planned) ≡ take k (moves_of planned) ++ move_of one ∷ []
  first = take_more (moves_of planned) k no_move long ∙ ap (λ (m : Moved). take k (moves_of planned) ++ m ∷ []) one_is

  rest : drop k (moves_of planned) ≡ move_of one ∷ drop (k + 1) (moves_of planned)
  rest = drop_more (moves_of planned) k no_move long ∙ ap (λ (m : Moved). m ∷ drop (k + 1) (moves_of planned)) one_is

  -- the next one is planned
  pub next_planned : (pool : ℕ) → ArePlanned s pool (moves_of planned) → ArePlanned t pool (move_of one ∷ drop (k + 1) (moves_of planned))
  next_planned pool plan = subst (λ (l : List Moved). ArePlanned t pool l) rest (h.others pool plan)

  pub next_move : (pool : ℕ) → ArePlanned s pool (moves_of planned) → IsMove t pool (move_of one)
  next_move pool plan = (next_planned pool plan).each 0 no_move (omega arith)

  -- it has ended
  module _ (pool : ℕ) (plan : ArePlanned s pool (moves_of planned)) (u : PoolsState) (gone : Option ℕ) (ends : IfLive t one.allocation (Settles (is_kept one.fate) t (move_of one) u gone)) (backs : Backs u (released n gone)) where
    its : IsMove t pool (move_of one)
    its = next_move pool plan

    pub more_settled : AreSettled s m planned (k + 1) u (released n gone)
    more_settled = record {
      ended = λ ignored destroyed fates.
          let before = h.ended ignored destroyed fates in
          let kept : is_kept one.fate ≡ among one.allocation ignored = ap is_kept (fates k d lt) ∙ kept_is ignored destroyed one.allocation in
          let here : MoveEnds ignored t (move_of one) u gone = subst (λ (v : Bool). IfLive t one.allocation (Settles v t (move_of one) u gone)) kept ends in (
            before.0 ++ listed gone,
            subst (λ (l : List Moved). MovesEnd ignored s l u (before.0 ++ listed gone)) (sym first) (moves_end_more ignored (take k (moves_of planned)) s t u (move_of one) before.0 gone before.1 here),
            freed_one n gone ∙ ap (λ (x : MemoryState). freed x (listed gone)) before.2 ∙ sym (freed_more m before.0 (listed gone)),
          );
      others = λ q plan'.
          let mine = next_planned q plan' in
          let its' : IsMove t q (move_of one) = mine.each 0 no_move (omega arith) in
          let settles = settled_is (is_kept one.fate) t u q (move_of one) gone its' ends in
          settled_planned t u q (move_of one) its'.allocation its'.live settles.0 settles.1 gone settles.2 (drop (k + 1) (moves_of planned)) mine;
      listed = λ q numbers plan' of.
          let its' : IsMove t q (move_of one) = (next_planned q plan').each 0 no_move (omega arith) in
          let settles = settled_is (is_kept one.fate) t u q (move_of one) gone its' ends in
          settled_listed t u q (move_of one) its'.allocation its'.live settles.0 settles.1 gone settles.2 numbers (h.listed q numbers plan' of);
      backs = backs;
      matched = (let settles = settled_is (is_kept one.fate) t u pool (move_of one) gone its ends in settled_matched t u pool (move_of one) its.allocation its.live settles.0 settles.1 gone settles.2 h.matched);
    }

-- at first nothing has ended
pub none_settled : (s : PoolsState) (m : MemoryState) (planned : List Planned) → Backs s m → AreMatched s → AreSettled s m planned 0 s m
none_settled s m planned backs matched = record {
  ended = λ ignored destroyed fates. ([], (refl, refl), refl);
  others = λ pool plan. plan;
  listed = λ pool numbers plan of. of;
  backs = backs;
  matched = matched;
}
