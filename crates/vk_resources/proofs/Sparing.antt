-- What entries leave of the passes of defragmentations.
use Rattle.std.proofs.Common.{◌≡◌, ◌∙◌, ◌⊎◌, ℕ, ◌+◌, List, get_or, length, Some, None, ap, arith, sym, subst, inl, inr}
use Rattle.vk_model.specs.declared.entry.Entry.{Entry}
use Rattle.vk_model.specs.declared.entry.Entry.TheVariants as entry
use Rattle.vk_model.specs.declared.resource.PoolInfo.{PoolInfo}
use Rattle.vk_model.specs.World.Bytes.{Byte}
use Rattle.vk_memory.specs.MemoryState.{MemoryState, region_of}
use Rattle.vma_pools.specs.State.{pool_at}
use Rattle.vma_pools.proofs.StateLemmas.{some-is}
use Rattle.vk_backing.specs.Backed.{Backed, number_in, pool_of, IsStill}
use Rattle.vk_backing.specs.Passing.{Passing, ArePassing, CopiesAgree}
use Rattle.vma_defrag.specs.Bytes.{byte_in}
use Rattle.vk_backing.proofs.AgreeingSteps.{drops_agree, makes_agree, maps_agree, releases_agree}
use Rattle.vk_backing.proofs.Passing.{still_id}
use Rattle.vk_backing.proofs.PassingSteps.{releases_passing, makes_passing, drops_passing, maps_passing}
use Rattle.std.specs.Prelude.{Contains, Bool}
use Rattle.std.proofs.lemmas.Bool.{cases_eq}
use Rattle.std.proofs.lemmas.List.{get_or_past}
use Rattle.vk_resources.specs.Held.{Held, IsConsistent}
use Rattle.vk_resources.specs.Passes.{HasSpared, KeepsPassing, KeepsPools, KeepsSpared, SparesPasses}
use Rattle.vk_resources.specs.PassSteps.{KeepsSparedCopies}
use Rattle.vk_resources.specs.Inner.Steps.{Ends, PoolMade, PoolDropped, Remaps}
use Rattle.vk_resources.proofs.Remapping.{regions}

-- where they stay in any case
pub all_spared : (y : Entry) (old new : Held) → KeepsPassing old new → KeepsSpared y old new
all_spared y old new keeps = record {
  passing = λ p h spares. keeps.passing p h;
  pools = record { from = λ i n is. inl (sym (keeps.pools i) ∙ is); stay = λ i n is other. keeps.pools i ∙ is };
}

-- where the numbers of pools do
same_pools : (y : Entry) (old new : Held) → new.backed.numbers ≡ old.backed.numbers → KeepsPools y old new
same_pools y old new numbers = record {
  from = λ i n is. inl (ap (λ (l : List (ℕ × ℕ)). number_in l i) (sym numbers) ∙ is);
  stay = λ i n is other. ap (λ (l : List (ℕ × ℕ)). number_in l i) numbers ∙ is;
}

pub unchanged_spared : (y : Entry) (old new : Held) → new.backed ≡ old.backed → KeepsSpared y old new
unchanged_spared y old new same = record {
  passing = λ p h spares. subst (λ (b : Backed). ArePassing p b) (sym same) h;
  pools = same_pools y old new (ap (λ (b : Backed). b.numbers) same);
}

-- ---- what ends

module _ (s : Held) (consistent : IsConsistent s) (y : Entry) (id : ℕ) (away : (p : Passing) → SparesPasses p s.backed y → Contains p.moving id → ⊥) where
  pub spared_still : HasSpared s y → IsStill s.backed id
  spared_still has = still_id has.0 s.backed s.memory consistent.0.backed_is has.1 id (away has.0 has.2)

  pub ends_spared : (new : Held) → Ends s new id → KeepsSpared y s new
  ends_spared new ends = record {
    passing = λ p h spares. releases_passing p s.backed new.backed h s.memory consistent.0.backed_is id (away p spares) new.memory ends.gone ends.releases;
    pools = same_pools y s new ends.releases.numbers;
  }

  pub ends_copies : (new : Held) (test : Byte → Bool) → Ends s new id → KeepsSparedCopies y s new test
  ends_copies new test ends p h spares bytes agree = releases_agree p s.backed new.backed h s.memory new.memory consistent.0.backed_is ends.backed id (away p spares) ends.gone ends.releases agree

pub free_away : (s : Held) (y : Entry) (m : ℕ) → y ≡ entry.Free m → (p : Passing) → SparesPasses p s.backed y → Contains p.moving m → ⊥
free_away s y m is p spares = subst (λ (x : Entry). SparesPasses p s.backed x) is spares

pub destroy_away : (s : Held) (y : Entry) (r : ℕ) → y ≡ entry.Destroy r → (p : Passing) → SparesPasses p s.backed y → Contains p.moving r → ⊥
destroy_away s y r is p spares = subst (λ (x : Entry). SparesPasses p s.backed x) is spares

-- ---- pools and mappings

pub pool_spared : (y : Entry) (old new : Held) (id : ℕ) (info : PoolInfo) → pool_of old.backed id ≡ None → PoolMade old new id info → KeepsSpared y old new
pool_spared y old new id info absent made = record {
  passing = λ p h spares. makes_passing p old.backed new.backed h id info absent made.makes;
  pools = record { from = from; stay = λ i n is other. made.makes.others i (λ e. let f = sym absent ∙ ap (λ (j : ℕ). pool_of old.backed j) (sym e) ∙ is in cc) ∙ is };
}
  where
    from : (i n : ℕ) → pool_of new.backed i ≡ Some n → (pool_of old.backed i ≡ Some n) ⊎ (pool_at old.backed.pools n ≡ None)
    from i n is = elim (cases_eq i id) [
      | inl e ↦ (let same = some-is (length old.backed.pools.pools) n (sym made.makes.here ∙ ap (λ (j : ℕ). pool_of new.backed j) (sym e) ∙ is) in
          inr (ap (λ (j : ℕ). pool_at old.backed.pools j) (sym same) ∙ get_or_past old.backed.pools.pools (length old.backed.pools.pools) None (omega arith)))
      | inr other ↦ inl (sym (made.makes.others i other) ∙ is)
    ]

pub dropped_spared : (y : Entry) (old new : Held) (id : ℕ) → y ≡ entry.DropPool id → PoolDropped old new id → KeepsSpared y old new
dropped_spared y old new id is dropped = record {
  passing = λ p h spares. drops_passing p old.backed new.backed h id (subst (λ (x : Entry). SparesPasses p old.backed x) is spares) dropped.drops;
  pools = record {
    from = λ i n has. inl (sym (dropped.drops.others i (λ e. let f = sym dropped.drops.gone ∙ ap (λ (j : ℕ). pool_of new.backed j) (sym e) ∙ has in cc)) ∙ has);
    stay = λ i n has other. dropped.drops.others i (λ e. other (is ∙ ap (λ (j : ℕ). entry.DropPool j) (sym e))) ∙ has;
  };
}

pub maps_spared : (y : Entry) (old new : Held) (id : ℕ) (change : ℕ → ℕ) (v : Bool) → Remaps old new id change v → KeepsSpared y old new
maps_spared y old new id change v remaps = record {
  passing = λ p h spares. maps_passing p old.backed new.backed h id change remaps.maps;
  pools = same_pools y old new remaps.maps.numbers;
}

-- ---- parts that were copied

pub all_copies : (y : Entry) (old new : Held) (test : Byte → Bool) → KeepsPassing old new → KeepsSparedCopies y old new test
all_copies y old new test keeps p h spares bytes agree = keeps.agree p h agree

pub pool_copies : (y : Entry) (old new : Held) (test : Byte → Bool) (id : ℕ) (info : PoolInfo) → PoolMade old new id info → KeepsSparedCopies y old new test
pool_copies y old new test id info made p h spares bytes agree = subst (λ (m : MemoryState). CopiesAgree p new.backed m) (sym made.memory) (makes_agree p old.backed new.backed h old.memory agree id info made.makes)

pub dropped_copies : (y : Entry) (old new : Held) (test : Byte → Bool) (id : ℕ) → PoolDropped old new id → KeepsSparedCopies y old new test
dropped_copies y old new test id dropped p h spares bytes agree = subst (λ (m : MemoryState). CopiesAgree p new.backed m) (sym dropped.memory) (drops_agree p old.backed new.backed h old.memory agree id dropped.drops)

-- where memory objects have the same bytes
same_copies : (p : Passing) (b : Backed) (m n : MemoryState) → ((k : ℕ) → region_of n k ≡ region_of m k) → CopiesAgree p b m → CopiesAgree p b n
same_copies p b m n same agree i at from to lt below between = elim (agree i at from to lt below between) [
  | inl left ↦ inl left
  | inr copied ↦ inr (byte to.memory (to.offset + at) ∙ copied ∙ sym (byte from.memory (from.offset + at)))
]
  where
    byte : (x k : ℕ) → byte_in n x k ≡ byte_in m x k
    byte x k = ap (λ (r : List ℕ). get_or r k 0) (same x)

pub maps_copies : (y : Entry) (old new : Held) (test : Byte → Bool) (id : ℕ) (change : ℕ → ℕ) (v : Bool) → Remaps old new id change v → KeepsSparedCopies y old new test
maps_copies y old new test id change v remaps p h spares bytes agree = same_copies p new.backed old.memory new.memory (regions old new id change v remaps) (maps_agree p old.backed new.backed h old.memory agree id change remaps.maps)
