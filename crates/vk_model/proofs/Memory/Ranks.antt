-- Moves lead to lower ranks.
use Rattle.std.proofs.Common.{◌≡◌, ℕ, suc, ◌+◌, ◌*◌, ◌/◌, ◌<◌, ◌≤◌, List, [], ◌∷◌, Bool, true, false, ◌==◌, refl, ap, sym, ◌∙◌, arith, inl, inr, ◌⊎◌, cond}
use Rattle.std.specs.Prelude.{All, Option, Some, None, option_map, nat_lt, if◌then◌else◌}
use Rattle.std.specs.Option.{option_or}
use Rattle.std.proofs.lemmas.List.Elements.{All-head, All-tail}
use Rattle.std.proofs.lemmas.List.Sums.{sum_by-cons}
use Rattle.std.proofs.lemmas.Bool.{eqb-true, ltb-true}
use Rattle.std.proofs.lemmas.Bool.Decides.{nat_tests}
use Rattle.vk_model.specs.Basics.{below}
use Rattle.vk_model.specs.Memory.Suballocation.{Taken, Request}
use Rattle.vk_model.specs.Memory.Room.{fits, lowest}
use Rattle.vk_model.specs.Memory.MoveTargets.{Numbered, BlockStart, Resident, place_in, move_target}
use Rattle.vk_model.specs.Memory.Pools.{blocks_below}
use Rattle.vk_model.specs.Memory.PlaceLaws.{RanksFall}
use Rattle.vk_model.proofs.World.BytePlaces.{digit_first}
use Rattle.vk_model.proofs.Memory.Taken.{fitting}
use Rattle.vk_model.proofs.Memory.LinearBlocks.{find_passes}

-- ---- where a resource goes

-- an earlier block, or a lower start of its own one
abbrev pub Lower : Resident → BlockStart → Numbered → Type 0
Lower a s b = ((b.number < a.from.block) × (s.start + a.request.size ≤ b.size)) ⊎ ((b.number ≡ a.from.block) × (s.start + a.request.size ≤ a.from.start))

lowest_ends : (taken : List Taken) (r : Request) (high start : ℕ) → lowest taken r 0 high ≡ Some start → start + r.size ≤ high
lowest_ends taken r high start e = (fitting taken r 0 high start (find_passes (fits taken r 0 high) (below (suc high)) start e)).below

pub goes : (a : Resident) (b : Numbered) (s : BlockStart) → place_in a b ≡ Some s → (s.block ≡ b.number) × Lower a s b
goes a b s e = first (nat_lt b.number a.from.block) refl e
  where
    found : (high : ℕ) (o : Option ℕ) → option_map (λ start. record { block = b.number; start = start }) o ≡ Some s → o ≡ lowest b.taken a.request 0 high
        → (s.block ≡ b.number) × (s.start + a.request.size ≤ high)
    found high None e is = absurd cc
    found high (Some start) e is =
        let same : record { block = b.number; start = start } ≡ s = cc in
        (sym (ap (λ (t : BlockStart). t.block) same), omega (arith, lowest_ends b.taken a.request high start (sym is), ap (λ (t : BlockStart). t.start) same))

    second : (c : Bool) → (b.number == a.from.block) ≡ c → option_map (λ start. record { block = b.number; start = start }) (if c then lowest b.taken a.request 0 a.from.start else None) ≡ Some s
        → (s.block ≡ b.number) × Lower a s b
    second true is e = let f = found a.from.start (lowest b.taken a.request 0 a.from.start) e refl in (f.0, inr (eqb-true b.number a.from.block is, f.1))
    second false is e = absurd cc

    first : (c : Bool) → nat_lt b.number a.from.block ≡ c
        → option_map (λ start. record { block = b.number; start = start }) (if c then lowest b.taken a.request 0 b.size else if b.number == a.from.block then lowest b.taken a.request 0 a.from.start else None) ≡ Some s
        → (s.block ≡ b.number) × Lower a s b
    first true is e = let f = found b.size (lowest b.taken a.request 0 b.size) e refl in (f.0, inl (ltb-true b.number a.from.block is, f.1))
    first false is e = second (b.number == a.from.block) refl e

-- ---- how many blocks are below

pub one_more : (b : Numbered) (bs : List Numbered) (n : ℕ) → blocks_below (b ∷ bs) n ≡ cond (nat_lt b.number n) 1 0 + blocks_below bs n
one_more b bs n = sum_by-cons (λ (c : Numbered). cond (nat_lt c.number n) 1 0) b bs

pub no_fewer : (m n k : ℕ) → n ≤ k → cond (nat_lt m n) 1 0 ≤ cond (nat_lt m k) 1 0
no_fewer m n k le = grind (arith, nat_tests)

pub below_grows : (bs : List Numbered) (n k : ℕ) → n ≤ k → blocks_below bs n ≤ blocks_below bs k
below_grows [] n k le = omega arith
below_grows (b ∷ bs) n k le = omega (arith, one_more b bs n, one_more b bs k, no_fewer b.number n k le, below_grows bs n k le)

pub counts_itself : (m n k : ℕ) → m ≡ n → m < k → cond (nat_lt m n) 1 0 + 1 ≤ cond (nat_lt m k) 1 0
counts_itself m n k same less = grind (arith, nat_tests)

-- it goes to an earlier block, which has fewer below it, or further down in its own one
abbrev pub Falls : ℕ → List Numbered → Resident → BlockStart → Type 0
Falls size blocks a s = ((s.block < a.from.block) × (blocks_below blocks s.block < blocks_below blocks a.from.block) × (s.start + a.request.size ≤ size))
    ⊎ ((s.block ≡ a.from.block) × (s.start + a.request.size ≤ a.from.start))

pub falls : (size : ℕ) (blocks : List Numbered) (a : Resident) (s : BlockStart) → All (λ b. b.size ≡ size) blocks → move_target blocks a ≡ Some s → Falls size blocks a s
falls size [] a s sizes e = absurd cc
falls size (b ∷ bs) a s sizes e = go (place_in a b) refl e (λ later. falls size bs a s (All-tail (λ c. c.size ≡ size) b bs sizes) later)
  where
    here : (s.block ≡ b.number) × Lower a s b → Falls size (b ∷ bs) a s
    here (same, inl earlier) = inl (
      omega arith,
      omega (arith, one_more b bs s.block, one_more b bs a.from.block, below_grows bs s.block a.from.block (omega arith), counts_itself b.number s.block a.from.block (sym same) earlier.0),
      omega (arith, All-head (λ c. c.size ≡ size) b bs sizes),
    )
    here (same, inr own) = inr (omega arith, own.1)

    deeper : Falls size bs a s → Falls size (b ∷ bs) a s
    deeper (inl earlier) = inl (
      earlier.0,
      omega (arith, one_more b bs s.block, one_more b bs a.from.block, no_fewer b.number s.block a.from.block (omega arith)),
      earlier.2,
    )
    deeper (inr own) = inr own

    go : (o : Option BlockStart) → place_in a b ≡ o → option_or o (move_target bs a) ≡ Some s → (move_target bs a ≡ Some s → Falls size bs a s) → Falls size (b ∷ bs) a s
    go None is e rest = deeper (rest e)
    go (Some t) is e rest = here (goes a b s (is ∙ e))

pub ranks_fall : RanksFall
ranks_fall size blocks a s some sizes e = elim (falls size blocks a s sizes e) [
  | inl earlier ↦ digit_first (blocks_below blocks s.block) (blocks_below blocks a.from.block) (size / 16) (s.start / 16) (a.from.start / 16) earlier.1 (omega arith)
  | inr own ↦ (let same = ap (λ n. blocks_below blocks n * (size / 16)) own.0 in omega arith)
]
