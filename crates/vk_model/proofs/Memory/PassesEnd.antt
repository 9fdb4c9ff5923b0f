-- Passes with a move that is made come to an end.
use Rattle.std.proofs.Common.{◌≡◌, ℕ, ◌+◌, ◌*◌, ◌/◌, ◌≤◌, List, [], ◌∷◌, map, length, sum, Bool, true, false, not, cond, ◌==◌, nat_lt, refl, ap, sym, ◌∙◌, subst, arith}
use Rattle.std.specs.Prelude.{Contains, count_by, if◌then◌else◌}
use Rattle.std.specs.List.{filter, fold}
use Rattle.std.proofs.lemmas.Bool.Decides.{nat_tests}
use Rattle.std.proofs.lemmas.List.{length-map}
use Rattle.std.proofs.lemmas.List.Elements.{All-weaker, All-map, All-filter}
use Rattle.std.proofs.lemmas.List.Sums.{sum_by-cons}
use Rattle.vk_model.specs.Basics.{among}
use Rattle.vk_model.specs.Memory.MoveTargets.{Numbered, Resident, Moved}
use Rattle.vk_model.specs.Memory.Pools.{numbered_blocks, blocks_below, rank_sum, pool_without}
use Rattle.vk_model.specs.Memory.Allocations.{PoolMemory, PassBegins, without_resident, moved_to, move_ended, pass_ended}
use Rattle.vk_model.specs.Memory.PassRanks.{IsDown, AreOnce, made_moves}
use Rattle.vk_model.specs.Memory.PassLaws.{IsRanked, AllArePlaced, PoolStep, PassBegan, PassEnded, ResourceEnded, Happens, PassesEnd}
use Rattle.vk_model.proofs.Lists.Members.{none_in, filtered, mapped_from}
use Rattle.vk_model.proofs.Memory.PassRanks.{below_of, lost_shrinks, moves_shrink, all_lost_shrink, sums_fall, filter_sum, lost_sum, moves_sum, moved_id}
use Rattle.vk_model.proofs.Memory.PoolNumbers.{numbered, freed_from, all_freed_from, sizes_stay, numbers_stay}
use Rattle.vk_model.proofs.Memory.PassBegins.{begins_kept, passes_lead_down}
use Rattle.vk_model.proofs.Memory.RankSums.{ranks_are_bounded}

-- ---- resources have ranks at each step

module _ (size : ℕ) where
  without_ranked : (i : ℕ) (q : PoolMemory) → IsRanked size q → IsRanked size (without_resident i q)
  without_ranked i q h =
      let others = λ (a : Resident). not (a.id == i) in
      let comes = all_freed_from (filter (λ a. a.id == i) q.residents) q.pool in
      record {
        sizes = sizes_stay size q.pool (without_resident i q).pool comes h.sizes;
        before_next = numbers_stay q.pool (without_resident i q).pool comes h.before_next;
        ids = λ a b c d same. h.ids a b (filtered others q.residents a c).0 (filtered others q.residents b d).0 same;
        some = All-filter others (λ a. 16 ≤ a.request.size) q.residents h.some;
      }

  all_without_ranked : (lost : List ℕ) (q : PoolMemory) → IsRanked size q → IsRanked size (fold (λ o i. without_resident i o) q lost)
  all_without_ranked [] q h = h
  all_without_ranked (i ∷ lost) q h = all_without_ranked lost (without_resident i q) (without_ranked i q h)

  moved_request : (m : Moved) (a : Resident) → (moved_to m a).request ≡ a.request
  moved_request m a = go (a.id == m.id)
    where
      go : (t : Bool) → (if t then record a { from = m.to } else a).request ≡ a.request
      go true = refl
      go false = refl

  ended_ranked : (kept : List ℕ) (q : PoolMemory) (m : Moved) → IsRanked size q → IsRanked size (move_ended kept q m)
  ended_ranked kept q m h = go (among m.id kept)
    where
      go : (t : Bool) → IsRanked size (if t then record q { pool = pool_without q.pool m.to } else record q { pool = fold (λ p a. pool_without p a.from) q.pool (filter (λ a. a.id == m.id) q.residents); residents = map (moved_to m) q.residents })
      go true = record {
        sizes = sizes_stay size q.pool (pool_without q.pool m.to) (freed_from q.pool m.to) h.sizes;
        before_next = numbers_stay q.pool (pool_without q.pool m.to) (freed_from q.pool m.to) h.before_next;
        ids = h.ids;
        some = h.some;
      }
      go false =
          let comes = all_freed_from (filter (λ a. a.id == m.id) q.residents) q.pool in
          let end = fold (λ p a. pool_without p a.from) q.pool (filter (λ a. a.id == m.id) q.residents) in
          record {
            sizes = sizes_stay size q.pool end comes h.sizes;
            before_next = numbers_stay q.pool end comes h.before_next;
            ids = λ a b c d same.
                let x = mapped_from (moved_to m) q.residents a c in
                let y = mapped_from (moved_to m) q.residents b d in
                let one : x.0.id ≡ a.id = sym (moved_id size [] m x.0) ∙ ap (λ (r : Resident). r.id) x.2 in
                let two : y.0.id ≡ b.id = sym (moved_id size [] m y.0) ∙ ap (λ (r : Resident). r.id) y.2 in
                sym x.2 ∙ ap (moved_to m) (h.ids x.0 y.0 x.1 y.1 (one ∙ same ∙ sym two)) ∙ y.2;
            some = All-map (λ (a : Resident). 16 ≤ a.request.size) (moved_to m) q.residents
                (All-weaker (λ a. 16 ≤ a.request.size) (λ a. 16 ≤ (moved_to m a).request.size) (λ a big. rw (moved_request m a) big) q.residents h.some);
          }

  all_ended_ranked : (kept : List ℕ) (ms : List Moved) (q : PoolMemory) → IsRanked size q → IsRanked size (fold (move_ended kept) q ms)
  all_ended_ranked kept [] q h = h
  all_ended_ranked kept (m ∷ ms) q h = all_ended_ranked kept ms (move_ended kept q m) (ended_ranked kept q m h)

  pass_ended_ranked : (kept lost : List ℕ) (q : PoolMemory) → IsRanked size q → IsRanked size (pass_ended kept lost q)
  pass_ended_ranked kept lost q h =
      let e = all_ended_ranked kept q.moves q h in
      all_without_ranked lost (record (fold (move_ended kept) q q.moves) { moves = [] }) (record { sizes = e.sizes; before_next = e.before_next; ids = e.ids; some = e.some })

lost_moves : (lost : List ℕ) (q : PoolMemory) → (fold (λ o i. without_resident i o) q lost).moves ≡ q.moves
lost_moves [] q = refl
lost_moves (i ∷ lost) q = lost_moves lost (without_resident i q)

-- ---- moves that lead down in some blocks, of which the pool has no more

record LeadsIn (size : ℕ) (blocks : List Numbered) (q : PoolMemory) : Type 0 where
  down : (m : Moved) → Contains q.moves m → IsDown size blocks q.residents m
  once : AreOnce q.moves
  fewer : (n : ℕ) → below_of q.pool.blocks n ≤ blocks_below blocks n

none_leads : (size : ℕ) (blocks : List Numbered) (q : PoolMemory) → q.moves ≡ [] → ((n : ℕ) → below_of q.pool.blocks n ≤ blocks_below blocks n) → LeadsIn size blocks q
none_leads size blocks q none fewer = record {
  down = λ m c. absurd (none_in m (subst (λ (ms : List Moved). Contains ms m) none c));
  once = rw none tt;
  fewer = fewer;
}

-- ---- all steps

-- steps happen to a pool, as by `Happens`, and leave this one
abbrev pub HappensTo : PoolMemory → List PoolStep → List ℕ → PoolMemory → Type 0
HappensTo q [] made r = (made ≡ []) × (r ≡ q)
HappensTo q (PassBegan f ∷ steps) made r = (e : PoolMemory) × PassBegins f q e × HappensTo e steps made r
HappensTo q (PassEnded kept lost ∷ steps) made r = (later : List ℕ) × (made ≡ made_moves kept q.moves ∷ later) × HappensTo (pass_ended kept lost q) steps later r
HappensTo q (ResourceEnded i ∷ steps) made r = (q.moves ≡ []) × HappensTo (without_resident i q) steps made r

happens_to : (steps : List PoolStep) (q : PoolMemory) (made : List ℕ) → Happens q steps made → (r : PoolMemory) × HappensTo q steps made r
happens_to [] q made none = (q, (none, refl))
happens_to (PassBegan f ∷ steps) q made (e, begins, happens) = let rest = happens_to steps e made happens in (rest.0, (e, begins, rest.1))
happens_to (PassEnded kept lost ∷ steps) q made (later, is, happens) = let rest = happens_to steps (pass_ended kept lost q) later happens in (rest.0, (later, is, rest.1))
happens_to (ResourceEnded i ∷ steps) q made (none, happens) = let rest = happens_to steps (without_resident i q) made happens in (rest.0, (none, rest.1))

-- the sum of the ranks of the resources of a pool
abbrev pub its_ranks : ℕ → PoolMemory → ℕ
its_ranks size q = rank_sum size (numbered_blocks q.pool.blocks) q.residents

module _ (size : ℕ) where
  made_below : (steps : List PoolStep) (q : PoolMemory) (made : List ℕ) (blocks : List Numbered) (r : PoolMemory) → IsRanked size q → LeadsIn size blocks q → HappensTo q steps made r → its_ranks size r + sum made ≤ rank_sum size blocks q.residents
  made_below [] q made blocks r ranked leads (none, is) =
      let less = sums_fall size blocks (numbered_blocks q.pool.blocks) leads.fewer q.residents in
      let now = ap (its_ranks size) is in
      let nothing = ap sum none in
      omega (arith, less, now, nothing)
  made_below (PassBegan f ∷ steps) q made blocks r ranked leads (e, begins, happens) =
      let kept = begins_kept size f q e ranked begins in
      let now = numbered_blocks e.pool.blocks in
      let down = passes_lead_down.down size f q e ranked begins in
      let rest = made_below steps e made now r kept.ranked (record { down = down.down; once = down.once; fewer = λ n. omega arith }) happens in
      let less = sums_fall size blocks now (λ n. (let same = kept.below n in let old = leads.fewer n in omega (arith, same, old))) e.residents in
      let same = ap (λ (rs : List Resident). rank_sum size blocks rs) kept.residents in
      omega (arith, rest, less, same)
  made_below (PassEnded kept lost ∷ steps) q made blocks r ranked leads (later, is, happens) =
      let moved : PoolMemory = record (fold (move_ended kept) q q.moves) { moves = [] } in
      let fewer = λ (n : ℕ). (let one = moves_shrink kept q.moves q n in let two = all_lost_shrink lost moved n in let old = leads.fewer n in (let all : below_of (pass_ended kept lost q).pool.blocks n ≤ blocks_below blocks n = omega (arith, one, two, old) in all)) in
      let rest = made_below steps (pass_ended kept lost q) later blocks r (pass_ended_ranked size kept lost q ranked) (none_leads size blocks (pass_ended kept lost q) (lost_moves lost moved) fewer) happens in
      let left = lost_sum size blocks lost moved in
      let down = moves_sum size blocks kept q.moves q leads.down leads.once in
      let total = ap sum is ∙ sum_by-cons (λ (k : ℕ). k) (made_moves kept q.moves) later in
      omega (arith, rest, left, down, total)
  made_below (ResourceEnded i ∷ steps) q made blocks r ranked leads (none, happens) =
      let rest = made_below steps (without_resident i q) made blocks r (without_ranked size i q ranked)
      (none_leads size blocks (without_resident i q) none (λ n. (let less = lost_shrinks i q n in let old = leads.fewer n in omega (arith, less, old)))) happens in
      let fewer = filter_sum size blocks (λ a. not (a.id == i)) q.residents in
      omega (arith, rest, fewer)

one_each : (k : ℕ) → cond (nat_lt 0 k) 1 0 ≤ k
one_each k = grind (arith, nat_tests)

-- and where nothing moves at first
pub falls_to : (size : ℕ) (q : PoolMemory) (steps : List PoolStep) (made : List ℕ) (r : PoolMemory) → IsRanked size q → q.moves ≡ [] → HappensTo q steps made r → its_ranks size r + sum made ≤ its_ranks size q
falls_to size q steps made r ranked none happens = let blocks = numbered_blocks q.pool.blocks in made_below size steps q made blocks r ranked (none_leads size blocks q none (λ n. omega arith)) happens

pub at_most : (size : ℕ) (q : PoolMemory) (made : List ℕ) (left : ℕ) → AllArePlaced size q → left + sum made ≤ its_ranks size q → sum made ≤ length q.residents * (length q.pool.blocks * (size / 16))
at_most size q made left placed falls =
    let bound = ranks_are_bounded size (numbered_blocks q.pool.blocks) q.residents placed.residents in
    let count = length-map q.pool.blocks numbered in
    let places = ap (λ n. length q.residents * (n * (size / 16))) count in
    omega (arith, falls, bound, places)

pub count_below : (made : List ℕ) → count_by (λ k. nat_lt 0 k) made ≤ sum made
count_below [] = omega arith
count_below (k ∷ made) = omega (arith, sum_by-cons (λ (n : ℕ). cond (nat_lt 0 n) 1 0) k made, sum_by-cons (λ (n : ℕ). n) k made, one_each k, count_below made)

pub passes_end : PassesEnd
passes_end size q steps made ranked placed none happens =
    let all = happens_to steps q made happens in
    (count_below made, at_most size q made (its_ranks size all.0) placed (falls_to size q steps made all.0 ranked none all.1))
