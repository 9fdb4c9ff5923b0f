-- The starts of a block when a range is taken or given back.
use Rattle.std.proofs.Common.{◌≡◌, ℕ, suc, ◌<◌, cond, List, [], ◌∷◌, length, sum_by, Any, IsPermutation, inl, inr, refl, ap, sym, ◌∙◌, arith}
use Rattle.std.proofs.lemmas.Bool.Decides.{eqb_tells}
use Rattle.std.proofs.lemmas.List.Sums.{sum_by-cons}
use Rattle.std.proofs.lemmas.List.Sorted.{sum_by-IsPermutation}
use Rattle.vk_model.specs.Memory.Suballocation.{Taken, Request, IsTakenAt, Puts, TakesAway, taken_at}
use Rattle.vma_tlsf.specs.Block.{Block, taken}
use Rattle.allocator_steps.specs.Starts.{is_start, ranges_from, AreStarts, AddsStart}

pub adds_start : (old new : Block) (r : Request) (start : ℕ) → Puts (taken old) (taken new) r start → AddsStart old new start
adds_start old new r start puts = λ other.
    let f : Taken → ℕ = λ t. is_start other t.start in
    sym (sum_by-IsPermutation f (taken new) (taken_at start r ∷ taken old) puts.added) ∙ sum_by-cons f (taken_at start r) (taken old)

-- ---- giving back

same_start : (start : ℕ) → is_start start start ≡ 1
same_start start = elim (eqb_tells start start) [
  | inl same ↦ ap (λ b. cond b 1 0) same.0
  | inr other ↦ absurd (other.1 refl)
]

-- The start of a range that some range starts at is there.
start_there : (start : ℕ) (ts : List Taken) → 0 < sum_by (λ t. is_start start t.start) ts → Any (λ t. t.start ≡ start) ts
start_there start [] some = absurd (omega (arith, some))
start_there start (t ∷ ts) some = elim (eqb_tells t.start start) [
  | inl same ↦ (0, t, omega arith, refl, same.1)
  | inr other ↦
      let f : Taken → ℕ = λ t. is_start start t.start in
      let none : is_start start t.start ≡ 0 = ap (λ b. cond b 1 0) other.0 in
      let rest : 0 < sum_by f ts = omega (arith, some, sum_by-cons f t ts, none) in
      let a = start_there start ts rest in
      let below : suc a.0 < length (t ∷ ts) = omega (arith, a.2) in
      (suc a.0, a.1, below, a.3, a.4)
]

pub taken_there : (b : Block) (xs ys : List ℕ) (start : ℕ) → AreStarts b xs → IsPermutation xs (start ∷ ys) → IsTakenAt start (taken b)
taken_there b xs ys start are gone =
    let g : ℕ → ℕ = is_start start in
    let all : sum_by g (start ∷ ys) ≡ sum_by g xs = sum_by-IsPermutation g xs (start ∷ ys) gone in
    let some : 0 < ranges_from start b = omega (arith, all, sum_by-cons g start ys, same_start start, are start) in
    start_there start (taken b) some

pub others_stay : (old new : Block) (xs ys : List ℕ) (start : ℕ) → AreStarts old xs → IsPermutation xs (start ∷ ys) → TakesAway (taken old) (taken new) start → AreStarts new ys
others_stay old new xs ys start are gone away = λ other.
    let g : ℕ → ℕ = is_start other in
    let f : Taken → ℕ = λ t. g t.start in
    let all : sum_by g (start ∷ ys) ≡ sum_by g xs = sum_by-IsPermutation g xs (start ∷ ys) gone in
    let less : sum_by f (away.0 ∷ taken new) ≡ sum_by f (taken old) = sum_by-IsPermutation f (taken old) (away.0 ∷ taken new) away.2 in
    let same : g away.0.start ≡ g start = ap g away.1 in
    omega (arith, all, less, same, sum_by-cons g start ys, sum_by-cons f away.0 (taken new), are other)
