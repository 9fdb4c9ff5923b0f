-- Blocks that hold a request give it a start.
use Rattle.std.proofs.Common.{◌≡◌, ℕ, suc, ◌+◌, ◌≤◌, ◌%◌, List, [], ◌∷◌, Bool, true, false, ◌||◌, refl, ap, sym, ◌∙◌, arith, cond}
use Rattle.std.specs.Prelude.{Option, Some, None, is_some, ◌↔◌, reverse}
use Rattle.std.specs.List.{list_any, find}
use Rattle.std.proofs.Math.Nat.{zero-mod}
use Rattle.std.specs.Option.{option_or}
use Rattle.std.proofs.lemmas.List.Sorted.{list_any-IsPermutation, IsPermutation-reverse}
use Rattle.std.proofs.lemmas.Bool.{and_from, eq-eqb, le-leb}
use Rattle.vk_model.specs.declared.resource.PoolInfo.{PoolInfo}
use Rattle.vk_model.specs.declared.resource.PoolKind.{PoolKind}
use Rattle.vk_model.specs.declared.resource.PoolKind.TheVariants as algorithm
use Rattle.vk_model.specs.Basics.{below}
use Rattle.vk_model.specs.Memory.Suballocation.{Request}
use Rattle.vk_model.specs.Memory.Room.{Block, General, Stack, BlockHolds, fits, lowest, highest, lower_place, upper_place}
use Rattle.vk_model.specs.Memory.Pools.{BlockGives, empty_block}
use Rattle.vk_model.specs.Memory.PlaceLaws.{BlocksGive}

value_of : (o : Option ℕ) → is_some o ≡ true → (start : ℕ) × (o ≡ Some start)
value_of None e = absurd cc
value_of (Some start) e = (start, refl)

there : (o : Option ℕ) (start : ℕ) → o ≡ Some start → is_some o ≡ true
there o start e = ap is_some e

held : (k : Block) (r : Request) (upper : Bool) → BlockHolds k r upper ↔ ((start : ℕ) × BlockGives k r upper start)
held (General size taken) r upper = (λ h. h, λ g. g)
held (Stack b) r true = (value_of (upper_place b r), λ g. there (upper_place b r) g.0 g.1)
held (Stack b) r false = (value_of (lower_place b r), λ g. there (lower_place b r) g.0 g.1)

-- ---- empty blocks

at_start : (r : Request) (size : ℕ) → r.size ≤ size → fits [] r 0 size 0 ≡ true
at_start r size inside = and_from _ _ (and_from _ _ (and_from _ _ (eq-eqb (0 % r.align) 0 (zero-mod r.align)) (le-leb 0 0 (omega arith))) (le-leb (0 + r.size) size (omega arith))) refl

found : (p : ℕ → Bool) (xs : List ℕ) → list_any p xs ≡ true → is_some (find p xs) ≡ true
found p [] some = absurd cc
found p (x ∷ xs) some = go (p x) some (found p xs)
  where
    go : (v : Bool) → (v || list_any p xs) ≡ true → (list_any p xs ≡ true → is_some (find p xs) ≡ true) → is_some (cond v (Some x) (find p xs)) ≡ true
    go true e rest = refl
    go false e rest = rest e

first_passes : (p : ℕ → Bool) (n : ℕ) → p 0 ≡ true → list_any p (below (suc n)) ≡ true
first_passes p n e = rw e refl

lowest_found : (r : Request) (size : ℕ) → r.size ≤ size → is_some (lowest [] r 0 size) ≡ true
lowest_found r size inside = found (fits [] r 0 size) (below (suc size)) (first_passes (fits [] r 0 size) size (at_start r size inside))

highest_found : (r : Request) (size : ℕ) → r.size ≤ size → is_some (highest [] r 0 size) ≡ true
highest_found r size inside =
    let p = fits [] r 0 size in
    found p (reverse (below (suc size)))
    (sym (list_any-IsPermutation p (below (suc size)) (reverse (below (suc size))) (IsPermutation-reverse (below (suc size)))) ∙ first_passes p size (at_start r size inside))

kept : (o w : Option ℕ) → is_some o ≡ true → is_some (option_or o w) ≡ true
kept None w e = absurd cc
kept (Some start) w e = refl

empty_holds : (k : PoolKind) (info : PoolInfo) (r : Request) (upper : Bool) → r.size ≤ info.block_size → BlockHolds (empty_block k info) r upper
empty_holds algorithm.Tlsf info r upper inside = (0, at_start r info.block_size inside)
empty_holds algorithm.Linear info r true inside = highest_found r info.block_size inside
empty_holds algorithm.Linear info r false inside = kept (lowest [] r 0 info.block_size) _ (lowest_found r info.block_size inside)

pub blocks_give : BlocksGive
blocks_give = record { held = held; new = λ info r upper inside. empty_holds info.kind info r upper inside }
