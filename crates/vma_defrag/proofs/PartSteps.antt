-- A part that is copied, among the bytes of all moves.
use Rattle.std.proofs.Common.{◌≡◌, ℕ, ◌+◌, ◌-◌, ◌*◌, ◌/◌, ◌<◌, ◌≤◌, List, length, get_or, true, false, sym, ap, subst, ◌∙◌, ◌==◌, not, arith, inl, inr, ◌⊎◌}
use Rattle.std.specs.Prelude.{Bool}
use Rattle.std.specs.List.{filter}
use Rattle.std.proofs.lemmas.Bool.{cases_eq, cases_lt, ne_eqb}
use Rattle.std.proofs.lemmas.List.Elements.{All-contains}
use Rattle.vk_memory.specs.MemoryState.{MemoryState}
use Rattle.vk_model.specs.declared.resource.Spot.{Spot}
use Rattle.vk_model.specs.Memory.MoveTargets.{Moved}
use Rattle.vk_model.proofs.Lists.Members.{filter_has}
use Rattle.vma_pools.specs.State.{PoolsState, ArePools, Backs}
use Rattle.vma_defrag.specs.State.{part_at}
use Rattle.vma_defrag.specs.Plans.{AreMatched, ArePlanned, IsMove}
use Rattle.vma_defrag.specs.Bytes.{byte_in, no_move, part_size, AreCopied, CopiesPart, CopiesPartOf, IsPart, MovesBetween}
use Rattle.vma_defrag.proofs.Spots.{from_holds, to_holds, from_size, to_size, holds_apart, holds_same}
use Rattle.vma_defrag.proofs.Copying.{copied_in, copied_out, copied_from, copied_to}
use Rattle.vma_defrag.proofs.PartNumbers.{same_part, move_among, once_index}

module _ (s : PoolsState) (h : ArePools s) (m : MemoryState) (backs : Backs s m) (matched : AreMatched s) (pool : ℕ) (ms : List Moved) (plan : ArePlanned s pool ms) where
  abbrev pub mv : ℕ → Moved
  mv i = get_or ms i no_move

  pub is_move : (i : ℕ) → i < length ms → IsMove s pool (mv i)
  is_move i lt = All-contains (IsMove s pool) ms (mv i) plan.each (move_among ms i lt)

  -- what moves lies apart from every target
  pub source_free : (i j : ℕ) (x y from to : Spot) → i < length ms → j < length ms → MovesBetween s (mv i).id x y → MovesBetween s (mv j).id from to → x.memory ≡ to.memory → (x.offset + x.size ≤ to.offset) ⊎ (to.offset + to.size ≤ x.offset)
  source_free i j x y from to a b at between same =
      holds_apart s h m backs matched (mv i).id (mv j).id false true x to (from_holds s h pool (mv i) (is_move i a) x y at) (to_holds s h pool (mv j) (is_move j b) from to between) (λ e. absurd (clash e.1)) same
    where
      clash : false ≡ true → ⊥
      clash e = absurd cc

  module _ (part : ℕ) (new : MemoryState) (index number : ℕ) (its : IsPart ms part index number) (c : CopiesPartOf s (mv index) number m new) where
    abbrev of : Moved
    of = mv index

    abbrev here : IsMove s pool of
    here = is_move index its.there

    abbrev lo : ℕ
    lo = 4096 * number

    abbrev size : ℕ
    size = part_size of number

    -- what moves has its bytes as before
    pub source_kept : (i at : ℕ) (from to : Spot) → i < length ms → at < (mv i).bytes → MovesBetween s (mv i).id from to → byte_in new from.memory (from.offset + at) ≡ byte_in m from.memory (from.offset + at)
    source_kept i at from to lt within between =
        copied_out s h m backs matched pool of here number its.within new c from.memory (from.offset + at)
        (λ same. elim (source_free i index from to c.from c.to lt its.there between c.between same) [
          | inl low ↦ inl (omega (arith, low, from_size s h pool (mv i) (is_move i lt) from to between, within))
          | inr high ↦ inr (omega (arith, high, to_size s h pool of here c.from c.to c.between, size_inside))
        ])
      where
        size_inside : lo + size ≤ of.bytes
        size_inside = omega (arith, its.within)

    -- a byte at its target was copied with the part that has it, else it is as it was
    pub part_step : (i at : ℕ) (from to : Spot) → i < length ms → at < (mv i).bytes → MovesBetween s (mv i).id from to
        → ((part_at ms i at ≡ part) × (i ≡ index) × (byte_in new to.memory (to.offset + at) ≡ byte_in m from.memory (from.offset + at)))
        ⊎ ((part_at ms i at ≡ part → ⊥) × (byte_in new to.memory (to.offset + at) ≡ byte_in m to.memory (to.offset + at)))
    part_step i at from to lt within between = elim (cases_eq (part_at ms i at) part) [
      | inl is ↦
          let e = same_part ms part index number i at its lt within is in
          let between' : MovesBetween s of.id from to = subst (λ (k : ℕ). MovesBetween s (mv k).id from to) e.0 between in
          let in_move : at < of.bytes = subst (λ (k : ℕ). at < (mv k).bytes) e.0 within in
          let a = holds_same s h of.id false from c.from (from_holds s h pool of here from to between') (copied_from s h m backs matched pool of here number its.within new c) in
          let b = holds_same s h of.id true to c.to (to_holds s h pool of here from to between') (copied_to s h m backs matched pool of here number its.within new c) in
          let j : ℕ = at - lo in
          let target : to.offset + at ≡ c.to.offset + lo + j = omega (arith, b.1, e.1) in
          let source : from.offset + at ≡ c.from.offset + lo + j = omega (arith, a.1, e.1) in
          inl (
            is,
            e.0,
            ap (λ (k : ℕ). byte_in new to.memory k) target ∙ ap (λ (n : ℕ). byte_in new n (c.to.offset + lo + j)) b.0
                ∙ copied_in s h m backs matched pool of here number its.within new c j (omega (arith, e.1, in_move))
                ∙ sym (ap (λ (n : ℕ). byte_in m n (c.from.offset + lo + j)) a.0) ∙ sym (ap (λ (k : ℕ). byte_in m from.memory k) source),
          )
      | inr not_it ↦ inr (not_it, copied_out s h m backs matched pool of here number its.within new c to.memory (to.offset + at) (outside not_it))
    ]
      where
        in_size : (at : ℕ) → lo ≤ at → at < lo + size → at / 4096 ≡ number
        in_size at low high = omega (arith, low, high)

        outside : (part_at ms i at ≡ part → ⊥) → to.memory ≡ c.to.memory → (to.offset + at < c.to.offset + lo) ⊎ (c.to.offset + lo + size ≤ to.offset + at)
        outside not_it same = elim (cases_eq i index) [
          | inl e ↦ own e not_it
          | inr other ↦ elim
              (holds_apart s h m backs matched (mv i).id of.id true true to c.to (to_holds s h pool (mv i) (is_move i lt) from to between) (copied_to s h m backs matched pool of here number its.within new c)
              (λ x. other (once_index ms plan.once i index lt its.there x.0)) same) [
                | inl low ↦ inl (omega (arith, low, to_size s h pool (mv i) (is_move i lt) from to between, within))
                | inr high ↦ inr (omega (arith, high, to_size s h pool of here c.from c.to c.between, its.within))
              ]
        ]
          where
            own : i ≡ index → (part_at ms i at ≡ part → ⊥) → (to.offset + at < c.to.offset + lo) ⊎ (c.to.offset + lo + size ≤ to.offset + at)
            own e not_it =
                let between' : MovesBetween s of.id from to = subst (λ (k : ℕ). MovesBetween s (mv k).id from to) e between in
                let b = holds_same s h of.id true to c.to (to_holds s h pool of here from to between') (copied_to s h m backs matched pool of here number its.within new c) in
                elim (cases_lt at lo) [
                  | inl low ↦ inl (omega (arith, low, b.1))
                  | inr ge ↦ elim (cases_lt at (lo + size)) [
                    | inl lt' ↦ absurd (not_it (omega (arith, its.sum, in_size at ge lt', ap (λ (k : ℕ). part_at ms k at) e)))
                    | inr high ↦ inr (omega (arith, high, b.1))
                  ]
                ]

  -- the bytes that were copied stay, and those of the part are copied too
  pub part_copied : (left : List ℕ) (part : ℕ) (new : MemoryState) → AreCopied s m ms left → CopiesPart s ms part m new → AreCopied s new ms (filter (λ k. not (k == part)) left)
  part_copied left part new before c i at from to lt within between =
      let kept = source_kept part new c.index c.number c.its c.copies i at from to lt within between in
      elim (part_step part new c.index c.number c.its c.copies i at from to lt within between) [
        | inl copied ↦ inr (copied.2 ∙ sym kept)
        | inr stays ↦ elim (before i at from to lt within between) [
          | inl there ↦ inl (filter_has (λ (k : ℕ). not (k == part)) left (part_at ms i at) there (ap (λ (v : Bool). not v) (ne_eqb (part_at ms i at) part stays.0)))
          | inr same ↦ inr (stays.1 ∙ same ∙ sym kept)
        ]
      ]
