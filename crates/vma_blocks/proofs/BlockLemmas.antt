-- What a block gives where a range was put, in words of what fits.
use Rattle.std.proofs.Common.{◌≡◌, ℕ, ◌+◌, ◌%◌, ◌≤◌, List, ◌∷◌, Bool, false, not, ap, arith}
use Rattle.std.specs.Prelude.{IsTrue, Result, Ok, Err, Some, IfOk, min}
use Rattle.std.proofs.lemmas.List.Sorted.{IsPermutation-sym, Contains-permutation}
use Rattle.std.proofs.lemmas.List.Elements.{All-head}
use Rattle.std.proofs.lemmas.Bool.{and_from, eq-eqb, le-leb}
use Rattle.std.proofs.lemmas.Result.{IfOk-weaker}
use Rattle.vk_model.specs.Memory.Suballocation.{Taken, Request, IsSound, IsApart, IsTakenAt, Puts, conflict, taken_at}
use Rattle.vk_model.specs.Memory.Room.{Block, General, Stack, fits, lowest}
use Rattle.vk_model.specs.Memory.Pools.{BlockGives, block_taken, block_with}
use Rattle.vk_model.specs.declared.suballoc.SubFault.{SubFault}
use Rattle.vk_model.proofs.Memory.AllPairs.{pairs_first}
use Rattle.vk_model.proofs.Memory.Taken.{sound_permuted}
use Rattle.vma_tlsf.proofs.Sounding.{all_none}
use Rattle.vma_blocks.specs.Alike.{IsAlike}

-- what was put and leaves the block sound did fit
pub put_fits : (size : ℕ) (old new : List Taken) (r : Request) (start : ℕ) → IsSound size new → Puts old new r start → IsTrue (fits old r 0 size start)
put_fits size old new r start sound puts =
    let all = sound_permuted size new (taken_at start r ∷ old) puts.added sound in
    let below = All-head (λ t. t.start + t.size ≤ size) (taken_at start r) old all.inside in
    let none = all_none (λ t. conflict r.kind start r.size t.kind t.start t.size) old (pairs_first IsApart (taken_at start r) old all.apart) in
    and_from _ _ (and_from _ _ (and_from _ _ (eq-eqb (start % r.align) 0 puts.aligned) (le-leb 0 start (omega arith))) (le-leb (start + r.size) size below)) (ap not none)

-- a block that can be defragmented when a range was put
pub put_alike : (size now : ℕ) (old new : List Taken) (r : Request) (upper : Bool) (start : ℕ) → now ≡ size → Puts old new r start → IsAlike (block_with (General size old) r upper start) (General now new)
put_alike size now old new r upper start same puts = (same, IsPermutation-sym new (taken_at start r ∷ old) puts.added)

pub gives_put : (size now : ℕ) (old new : List Taken) (r : Request) (result : Result ℕ SubFault) → now ≡ size → IsSound size new → IfOk result (λ start. Puts old new r start)
    → IfOk result (λ start. BlockGives (General size old) r false start × IsAlike (block_with (General size old) r false start) (General now new))
gives_put size now old new r result same sound ok =
    IfOk-weaker result (λ start. Puts old new r start) (λ start. BlockGives (General size old) r false start × IsAlike (block_with (General size old) r false start) (General now new))
    (λ start puts. (put_fits size old new r start sound puts, put_alike size now old new r false start same puts)) ok

pub lowest_put : (size now limit : ℕ) (old new : List Taken) (r : Request) (result : Result ℕ SubFault) → now ≡ size → IfOk result (λ start. Puts old new r start) → IfOk result (λ start. lowest old r 0 (min limit size) ≡ Some start)
    → IfOk result (λ start. (lowest old r 0 (min limit size) ≡ Some start) × IsAlike (block_with (General size old) r false start) (General now new))
lowest_put size now limit old new r (Ok start) same puts low = (low, put_alike size now old new r false start same puts)
lowest_put size now limit old new r (Err e) same puts low = tt

-- what is taken of a block is taken of one like it
pub alike_taken : (k n : Block) (start : ℕ) → IsAlike k n → IsTakenAt start (block_taken k) → IsTakenAt start (block_taken n)
alike_taken (General size taken) (General m others) start alike any =
    let there = Contains-permutation taken others any.1 alike.1 (any.0, any.2, any.3) in
    (there.0, any.1, there.1, there.2, any.4)
alike_taken (General size taken) (Stack c) start alike any = absurd alike
alike_taken (Stack b) (General m others) start alike any = absurd alike
alike_taken (Stack b) (Stack c) start alike any = rw alike any
