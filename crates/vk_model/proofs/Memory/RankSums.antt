-- Ranks are bounded, they fall when ranges are given back, and moves that lead down still do so when a resource is made.
use Rattle.std.proofs.Common.{◌≡◌, inl, inr, ⊎_elim, ℕ, suc, ◌+◌, ◌*◌, ◌/◌, ◌<◌, ◌≤◌, List, [], ◌∷◌, length, Bool, not, cond, ◌==◌, nat_lt, ap, sym, ◌∙◌, arith}
use Rattle.std.specs.Prelude.{Contains}
use Rattle.std.proofs.lemmas.Bool.{cases_eq, cases_lt}
use Rattle.std.proofs.lemmas.Bool.Decides.{nat_tests}
use Rattle.std.proofs.lemmas.List.Elements.{All-cons, All-head, All-tail, All-weaker, All-contains}
use Rattle.vk_model.specs.Memory.Suballocation.{Request}
use Rattle.vk_model.specs.Memory.MoveTargets.{Numbered, BlockStart, Resident, Moved}
use Rattle.vk_model.specs.Memory.Pools.{numbered_blocks, blocks_below, rank, pool_with, pool_without}
use Rattle.vk_model.specs.Memory.Allocations.{PoolMemory, with_resident, without_resident}
use Rattle.vk_model.specs.Memory.PassRanks.{MovesLeadDown}
use Rattle.vk_model.specs.Memory.PassLaws.{IsPlaceIn, AllArePlaced, MovesStayDown, RanksAreBounded, FreeingLowersRanks}
use Rattle.vk_model.proofs.Lists.Members.{contains-tail, contains-cons, none_in}
use Rattle.vk_model.proofs.World.BytePlaces.{digit_first}
use Rattle.vk_model.proofs.Memory.Ranks.{one_more, no_fewer, below_grows, counts_itself}
use Rattle.vk_model.proofs.Memory.PassRanks.{without_shrinks, lost_shrinks, rank_falls, sums_fall, sum_more, filter_sum}
use Rattle.vk_model.proofs.Memory.PassMoves.{HasNumber}
use Rattle.vk_model.proofs.Memory.PoolNumbers.{taken_has}
use Rattle.vk_model.proofs.Memory.PassBegins.{place_stays}

-- ---- how many blocks are below one of them

at_most_one : (m n : ℕ) → cond (nat_lt m n) 1 0 ≤ 1
at_most_one m n = grind (arith, nat_tests)

not_itself : (m n : ℕ) → m ≡ n → cond (nat_lt m n) 1 0 ≤ 0
not_itself m n same = grind (arith, nat_tests)

below_all : (bs : List Numbered) (n : ℕ) → blocks_below bs n ≤ length bs
below_all [] n = omega arith
below_all (b ∷ bs) n = omega (arith, one_more b bs n, at_most_one b.number n, below_all bs n)

below_less : (bs : List Numbered) (n : ℕ) → HasNumber bs n → blocks_below bs n < length bs
below_less [] n h = absurd (none_in h.0 h.1)
below_less (b ∷ bs) n h = ⊎_elim
    (λ same. (let number : b.number ≡ n = ap (λ (c : Numbered). c.number) same ∙ h.2 in omega (arith, one_more b bs n, not_itself b.number n number, below_all bs n)))
    (λ later. omega (arith, one_more b bs n, at_most_one b.number n, below_less bs n (h.0, later, h.2)))
    (contains-cons b bs h.0 h.1)

below_rises : (bs : List Numbered) (n k : ℕ) → n < k → HasNumber bs n → blocks_below bs n < blocks_below bs k
below_rises [] n k less h = absurd (none_in h.0 h.1)
below_rises (b ∷ bs) n k less h = ⊎_elim
    (λ same. (
    let number : b.number ≡ n = ap (λ (c : Numbered). c.number) same ∙ h.2 in
    omega (arith, one_more b bs n, one_more b bs k, counts_itself b.number n k number (omega arith), below_grows bs n k (omega arith))
    ))
    (λ later. omega (arith, one_more b bs n, one_more b bs k, no_fewer b.number n k (omega arith), below_rises bs n k less (h.0, later, h.2)))
    (contains-cons b bs h.0 h.1)

has_number : (size : ℕ) (bs : List Numbered) (s : BlockStart) → IsPlaceIn size bs s → HasNumber bs s.block
has_number size bs s h = (h.block, h.there, h.number)

-- ---- ranks are bounded

rank_bound : (size : ℕ) (bs : List Numbered) (s : BlockStart) → IsPlaceIn size bs s → rank size bs s < length bs * (size / 16)
rank_bound size bs s h =
    let inside = h.inside in
    let less = digit_first (blocks_below bs s.block) (length bs) (size / 16) (s.start / 16) 0 (below_less bs s.block (has_number size bs s h)) (omega arith) in
    omega (arith, less)

once_more : (n k : ℕ) → suc n * k ≡ k + n * k
once_more n k = omega arith

pub ranks_are_bounded : RanksAreBounded
ranks_are_bounded size bs [] placed = omega arith
ranks_are_bounded size bs (a ∷ rs) placed =
    let here = rank_bound size bs a.from (All-head (λ b. IsPlaceIn size bs b.from) a rs placed) in
    let rest = ranks_are_bounded size bs rs (All-tail (λ b. IsPlaceIn size bs b.from) a rs placed) in
    omega (arith, sum_more size bs a rs, here, rest, once_more (length rs) (length bs * (size / 16)))

-- ---- ranks fall

pub freeing_lowers_ranks : FreeingLowersRanks
freeing_lowers_ranks = record {
  place = λ size p freed s. rank_falls size (numbered_blocks p.blocks) (numbered_blocks (pool_without p freed).blocks) (without_shrinks p freed) s;
  resident = λ size i q. (
      let left = sums_fall size (numbered_blocks q.pool.blocks) (numbered_blocks (without_resident i q).pool.blocks) (lost_shrinks i q) (without_resident i q).residents in
      let fewer = filter_sum size (numbered_blocks q.pool.blocks) (λ a. not (a.id == i)) q.residents in
      omega (arith, left, fewer)
      );
}

-- ---- ranks order places as they lie, in whatever blocks

still_lower : (size : ℕ) (old new : List Numbered) (s t : BlockStart) → IsPlaceIn size old s → IsPlaceIn size old t → HasNumber new s.block → rank size old s < rank size old t → rank size new s < rank size new t
still_lower size old new s t low high has less = elim (cases_eq s.block t.block) [
  | inl same ↦ (
      let before = ap (λ n. blocks_below old n * (size / 16)) same in
      let after = ap (λ n. blocks_below new n * (size / 16)) same in
      omega arith
      )
  | inr apart ↦ elim (cases_lt s.block t.block) [
    | inl earlier ↦ (
        let inside = low.inside in
        digit_first (blocks_below new s.block) (blocks_below new t.block) (size / 16) (s.start / 16) (t.start / 16) (below_rises new s.block t.block earlier has) (omega arith)
        )
    | inr later ↦ (
        let inside = high.inside in
        let more = digit_first (blocks_below old t.block) (blocks_below old s.block) (size / 16) (t.start / 16) (s.start / 16) (below_rises old t.block s.block (omega (arith, apart)) (has_number size old t high)) (omega arith) in
        absurd (omega arith)
        )
  ]
]

module _ (size : ℕ) (q : PoolMemory) (placed : AllArePlaced size q) (leads : MovesLeadDown size q) where
  abbrev blocks : List Numbered
  blocks = numbered_blocks q.pool.blocks

  stays : (m : Moved) → Contains q.moves m → (new : List Numbered) → HasNumber new m.to.block → (a : Resident) → Contains q.residents a → a.id ≡ m.id → rank size new m.to < rank size new a.from
  stays m c new has a there same =
      still_lower size blocks new m.to a.from (All-contains (λ n. IsPlaceIn size blocks n.to) q.moves m placed.targets c)
      (All-contains (λ b. IsPlaceIn size blocks b.from) q.residents a placed.residents there) has ((leads.down m c).lower a there same)

  made_down : (i : ℕ) (r : Request) (upper : Bool) (s : BlockStart) → ((a : Resident) → Contains q.residents a → a.id ≡ i → ⊥) → MovesLeadDown size (with_resident q i r upper s)
  made_down i r upper s new = record {
    down = λ m c. (
        let d = leads.down m c in
        let made : Resident = record { id = i; from = s; request = r } in
        record {
          resident = d.resident;
          there = contains-tail made q.residents d.resident d.there;
          its = d.its;
          lower = λ a there same. ⊎_elim
              (λ is. absurd (new d.resident d.there (d.its ∙ sym same ∙ sym (ap (λ (b : Resident). b.id) is))))
              (λ old. stays m c (numbered_blocks (pool_with q.pool r upper s).blocks)
              (taken_has q.pool r upper s m.to.block (has_number size blocks m.to (All-contains (λ n. IsPlaceIn size blocks n.to) q.moves m placed.targets c))) a old same)
              (contains-cons made q.residents a there);
        }
        );
    once = leads.once;
  }

made_placed : (size : ℕ) (q : PoolMemory) (i : ℕ) (r : Request) (upper : Bool) (s : BlockStart) → AllArePlaced size q → IsPlaceIn size (numbered_blocks (with_resident q i r upper s).pool.blocks) s
    → AllArePlaced size (with_resident q i r upper s)
made_placed size q i r upper s placed new =
    let old = numbered_blocks q.pool.blocks in
    let now = numbered_blocks (pool_with q.pool r upper s).blocks in
    let stays = λ (t : BlockStart). place_stays size old now t (taken_has q.pool r upper s t.block) in
    record {
      residents = All-cons (λ a. IsPlaceIn size now a.from) (record { id = i; from = s; request = r }) q.residents new
          (All-weaker (λ a. IsPlaceIn size old a.from) (λ a. IsPlaceIn size now a.from) (λ a h. stays a.from h) q.residents placed.residents);
      targets = All-weaker (λ m. IsPlaceIn size old m.to) (λ m. IsPlaceIn size now m.to) (λ m h. stays m.to h) q.moves placed.targets;
    }

pub moves_stay_down : MovesStayDown
moves_stay_down = record { down = λ size q i r upper s placed new leads. made_down size q placed leads i r upper s new; inside = made_placed }
