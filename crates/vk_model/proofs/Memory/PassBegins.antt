-- The moves of a pass that begins lead down.
use Rattle.std.proofs.Common.{◌≡◌, ◌⊎◌, inl, inr, ℕ, ◌+◌, ◌*◌, ◌/◌, ◌<◌, ◌≤◌, List, [], ◌∷◌, false, ◌==◌, refl, ap, sym, ◌∙◌, subst, arith}
use Rattle.std.specs.Prelude.{All, Contains}
use Rattle.std.specs.List.{filter, fold}
use Rattle.std.proofs.lemmas.List.Elements.{All-weaker, All-contains, All-contains_itself, All-map}
use Rattle.std.proofs.lemmas.List.Sorted.{IsPermutation-sym, All-permutation, Contains-permutation}
use Rattle.vk_model.specs.Memory.MoveTargets.{Numbered, BlockStart, Resident, Moved, pass_moves}
use Rattle.vk_model.specs.Memory.Pools.{Pool, PoolBlock, numbered_blocks, rank, pool_with, IsByPlace}
use Rattle.vk_model.specs.Memory.Allocations.{PoolMemory, Defragmentation, PassBegins, with_target}
use Rattle.vk_model.specs.Memory.PassRanks.{IsDown, MovesLeadDown}
use Rattle.vk_model.specs.Memory.PassLaws.{IsRanked, IsPlaceIn, AllArePlaced, PassesLeadDown}
use Rattle.vk_model.proofs.Lists.Members.{contains-head, contains-tail, mapped_from}
use Rattle.vk_model.proofs.Memory.PassRanks.{below_of}
use Rattle.vk_model.proofs.Memory.PassMoves.{HasNumber, Leads, each_leads, each_once}
use Rattle.vk_model.proofs.Memory.PoolNumbers.{itself, from_both, Stands, all_taken_stand, taken_has, numbered, sizes_stay, numbers_stay}

-- ---- targets that are taken

pub targets_residents : (ms : List Moved) (q : PoolMemory) → (fold with_target q ms).residents ≡ q.residents
targets_residents [] q = refl
targets_residents (m ∷ ms) q = targets_residents ms (with_target q m)

-- a target lies in a block that the pool has
abbrev AllBelow : ℕ → List Moved → Type 0
AllBelow n ms = (m : Moved) → Contains ms m → m.to.block < n

pub targets_stand : (ms : List Moved) (q : PoolMemory) → AllBelow q.pool.next ms → Stands q.pool (fold with_target q ms).pool
targets_stand [] q less = record { comes = itself q.pool; below = λ n. refl }
targets_stand (m ∷ ms) q less =
    let first = all_taken_stand (filter (λ a. a.id == m.id) q.residents) m.to q.pool (less m (contains-head m ms)) in
    let rest = targets_stand ms (with_target q m) (λ n c. (let old = less n (contains-tail m ms n c) in omega (arith, old, first.comes.next))) in
    record {
      comes = from_both q.pool (with_target q m).pool (fold with_target (with_target q m) ms).pool first.comes rest.comes;
      below = λ n. rest.below n ∙ first.below n;
    }

all_have : (rs : List Resident) (s : BlockStart) (p : Pool) (n : ℕ) → HasNumber (numbered_blocks p.blocks) n → HasNumber (numbered_blocks (fold (λ o a. pool_with o a.request false s) p rs).blocks) n
all_have [] s p n h = h
all_have (a ∷ rs) s p n h = all_have rs s (pool_with p a.request false s) n (taken_has p a.request false s n h)

targets_have : (ms : List Moved) (q : PoolMemory) (n : ℕ) → HasNumber (numbered_blocks q.pool.blocks) n → HasNumber (numbered_blocks (fold with_target q ms).pool.blocks) n
targets_have [] q n h = h
targets_have (m ∷ ms) q n h = targets_have ms (with_target q m) n (all_have (filter (λ a. a.id == m.id) q.residents) m.to q.pool n h)

-- ---- places in blocks

pub place_stays : (size : ℕ) (old new : List Numbered) (s : BlockStart) → (HasNumber old s.block → HasNumber new s.block) → IsPlaceIn size old s → IsPlaceIn size new s
place_stays size old new s has h = let b = has (h.block, h.there, h.number) in record { block = b.0; there = b.1; number = b.2; inside = h.inside }

each_all : {A : Type 0} (P : A → Type 0) (xs : List A) → ((x : A) → Contains xs x → P x) → All P xs
each_all P xs each = All-weaker (Contains xs) P each xs (All-contains_itself xs)

-- ---- the pool as a pass begins

-- a pool whose resources have ranks still has them, and where it has them the same ones
pub record Kept (size : ℕ) (q e : PoolMemory) : Type 0 where
  pub ranked : IsRanked size e
  pub residents : e.residents ≡ q.residents
  pub below : (n : ℕ) → below_of e.pool.blocks n ≡ below_of q.pool.blocks n

module _ (size max_bytes max_moves : ℕ) (q : PoolMemory) (listed : List Resident) (ranked : IsRanked size q) (by : IsByPlace q.residents listed) where
  abbrev blocks : List Numbered
  blocks = numbered_blocks q.pool.blocks

  abbrev moves : List Moved
  moves = pass_moves max_bytes max_moves blocks listed

  abbrev begun : PoolMemory
  begun = record (fold with_target q moves) { moves = moves }

  sizes : All (λ b. b.size ≡ size) blocks
  sizes = All-map (λ (b : Numbered). b.size ≡ size) numbered q.pool.blocks ranked.sizes

  some : All (λ a. 16 ≤ a.request.size) listed
  some = All-permutation (λ a. 16 ≤ a.request.size) q.residents listed by.same ranked.some

  old : (a : Resident) → Contains listed a → Contains q.residents a
  old a c = Contains-permutation listed q.residents a (IsPermutation-sym q.residents listed by.same) c

  leads : (m : Moved) → Contains moves m → Leads size blocks listed m
  leads m c = each_leads size max_bytes max_moves listed 0 0 blocks some sizes m c

  less : AllBelow q.pool.next moves
  less m c =
      let h = (leads m c).stands in
      let b = mapped_from numbered q.pool.blocks h.0 h.1 in
      let number : b.0.number ≡ m.to.block = ap (λ (d : Numbered). d.number) b.2 ∙ h.2 in
      let before = All-contains (λ (d : PoolBlock). d.number < q.pool.next) q.pool.blocks b.0 ranked.before_next b.1 in
      omega (arith, number, before)

  same_rank : (s : BlockStart) → rank size (numbered_blocks begun.pool.blocks) s ≡ rank size blocks s
  same_rank s = ap (λ n. n * (size / 16) + s.start / 16) ((targets_stand moves q less).below s.block)

  is_down : (m : Moved) → Contains moves m → IsDown size (numbered_blocks begun.pool.blocks) begun.residents m
  is_down m c =
      let l = leads m c in
      let there = old l.resident l.there in
      record {
        resident = l.resident;
        there = rw (targets_residents moves q) there;
        its = l.its;
        lower = λ a has same.
            let is : a ≡ l.resident = ranked.ids a l.resident (subst (λ (rs : List Resident). Contains rs a) (targets_residents moves q) has) there (same ∙ sym l.its) in
            let to = same_rank m.to in
            let from = same_rank a.from in
            let lower : rank size blocks m.to < rank size blocks a.from = subst (λ (b : Resident). rank size blocks m.to < rank size blocks b.from) (sym is) l.lower in
            omega (arith, to, from, lower);
      }

  begun_down : MovesLeadDown size begun
  begun_down = record {
    down = is_down;
    once = each_once size max_bytes max_moves listed 0 0 blocks some sizes by.falling (λ a b c d e. ranked.ids a b (old a c) (old b d) e);
  }

  begun_placed : AllArePlaced size q → AllArePlaced size begun
  begun_placed placed = record {
    residents = rw (targets_residents moves q) (All-weaker (λ a. IsPlaceIn size blocks a.from) (λ a. IsPlaceIn size (numbered_blocks begun.pool.blocks) a.from)
        (λ a h. place_stays size blocks (numbered_blocks begun.pool.blocks) a.from (targets_have moves q a.from.block) h) q.residents placed.residents);
    targets = each_all (λ m. IsPlaceIn size (numbered_blocks begun.pool.blocks) m.to) moves (λ m c. (
        let l = leads m c in
        let b = targets_have moves q m.to.block l.stands in
        record { block = b.0; there = b.1; number = b.2; inside = ends m l l.inside }
        ));
  }
    where
      ends : (m : Moved) (l : Leads size blocks listed m) → (m.to.start + 16 ≤ size) ⊎ (m.to.start + 16 ≤ l.resident.from.start) → m.to.start + 16 ≤ size
      ends m l (inl high) = high
      ends m l (inr high) = let own = (All-contains (λ (a : Resident). IsPlaceIn size blocks a.from) q.residents l.resident placed.residents (old l.resident l.there)).inside in omega (arith, high, own)

  begun_ranked : IsRanked size begun
  begun_ranked =
      let comes = (targets_stand moves q less).comes in
      record {
        sizes = sizes_stay size q.pool begun.pool comes ranked.sizes;
        before_next = numbers_stay q.pool begun.pool comes ranked.before_next;
        ids = rw (targets_residents moves q) ranked.ids;
        some = rw (targets_residents moves q) ranked.some;
      }

  begun_kept : Kept size q begun
  begun_kept = record { ranked = begun_ranked; residents = targets_residents moves q; below = (targets_stand moves q less).below }

pub begins_kept : (size : ℕ) (f : Defragmentation) (q e : PoolMemory) → IsRanked size q → PassBegins f q e → Kept size q e
begins_kept size f q e ranked begins = subst (Kept size q) (sym begins.2) (begun_kept size f.max_bytes f.max_moves q begins.0 ranked begins.1)

pub passes_lead_down : PassesLeadDown
passes_lead_down = record {
  down = λ size f q e ranked begins. subst (MovesLeadDown size) (sym begins.2) (begun_down size f.max_bytes f.max_moves q begins.0 ranked begins.1);
  inside = λ size f q e ranked placed begins. subst (AllArePlaced size) (sym begins.2) (begun_placed size f.max_bytes f.max_moves q begins.0 ranked begins.1 placed);
}
