-- Where allocations are of what they were, whatever ids have of their own.
use Rattle.std.proofs.Common.{◌≡◌, ℕ, ◌≤◌, List, Option, Some, None, refl, sym, ap, subst, ◌∙◌}
use Rattle.std.specs.Prelude.{slice_index_or}
use Rattle.std.specs.Option.{option_and_then}
use Rattle.vk_memory.specs.MemoryState.{MemoryState}
use Rattle.vk_model.specs.declared.resource.Spot.{Spot}
use Rattle.vk_model.specs.Memory.Allocations.{PoolMemory}
use Rattle.vma_pools.specs.declared.allocations.Allocation.{Allocation}
use Rattle.vma_pools.specs.declared.allocations.Asked.{Asked}
use Rattle.vma_pools.specs.declared.allocations.Home.{Home}
use Rattle.vma_pools.specs.State.{allocation_at}
use Rattle.vk_backing.specs.declared.backing.Own.{Own}
use Rattle.vk_backing.specs.Backed.{Backed, allocation_of, allocation_by, LiesIn, IsBacked, IsShared, IsDedicated}
use Rattle.vk_backing.specs.Allotted.{resident_at, resident_of, ArePoolsOf}

-- an allocation lies where it did, asks what it did, and has the place reserved that it had
abbrev pub Stays : Option Allocation → Option Allocation → Type 0
Stays o p = (x : Allocation) → o ≡ Some x → (y : Allocation) × (p ≡ Some y) × (y.home ≡ x.home) × (y.asked ≡ x.asked) × (y.target ≡ x.target)

pub stays : (o p : Option Allocation) → ((x : Allocation) → o ≡ Some x → p ≡ Some x) → Stays o p
stays o p same x is = (x, same x is, refl, refl, refl)

pub dedicated_stays : (o p : Option Allocation) (n k : Option ℕ) → Stays o p → k ≡ n → IsDedicated o n → IsDedicated p k
dedicated_stays o p n k stay e d = let s = stay d.allocation d.live in record { allocation = s.0; live = s.1; free = s.4 ∙ d.free; number = d.number; lies = s.2 ∙ d.lies; owns = e ∙ d.owns }

module _ (b : Backed) (m : MemoryState) (h : IsBacked b m) (owned : List (ℕ × Own)) (allocations : List (Option Allocation)) (stay : (j a : ℕ) → allocation_of b j ≡ Some a → Stays (allocation_at b.pools a) (slice_index_or allocations a None)) where
  abbrev pub turned : Backed
  turned = record b { owned = owned; pools = record b.pools { allocations = allocations } }

  pub turned_residents : (t j : ℕ) → resident_of t j (allocation_by b j) ≡ resident_of t j (allocation_by turned j)
  turned_residents t j = go (allocation_of b j) refl
    where
      go : (o : Option ℕ) → allocation_of b j ≡ o → resident_of t j (option_and_then (allocation_at b.pools) o) ≡ resident_of t j (option_and_then (allocation_at turned.pools) o)
      go None e = refl
      go (Some a) e =
          let x = h.shared j a e in let s = stay j a e x.allocation x.live in
          ap (λ (o : Option Allocation). resident_of t j o) x.live ∙ ap (λ (l : Home). resident_at t j x.allocation.asked l) (sym s.2) ∙ ap (λ (r : Asked). resident_at t j r s.0.home) (sym s.3)
          ∙ sym (ap (λ (o : Option Allocation). resident_of t j o) s.1)

  pub turned_pools : (i : ℕ) (o : Option ℕ) (qs : List PoolMemory) → ArePoolsOf b i o qs → ArePoolsOf turned i o qs
  turned_pools i None qs are = are
  turned_pools i (Some p) qs are = (are.0, are.1, are.2, are.3, record { id_is = are.4.id_is; pool = are.4.pool; residents = λ r. are.4.residents r ∙ turned_residents p r })

  pub turned_shared : (j a : ℕ) → allocation_of b j ≡ Some a → IsShared turned a
  turned_shared j a has =
      let x = h.shared j a has in let s = stay j a has x.allocation x.live in
      record { allocation = s.0; live = s.1; aligned = λ p place k lies at cached. subst (λ (r : Asked). 64 ≤ r.align) (sym s.3) (x.aligned p place k (sym s.2 ∙ lies) at cached); pool = x.pool; place = x.place; lies = s.2 ∙ x.lies; id = x.id; named = x.named }

  pub turned_keeps : (i q : ℕ) (s : Spot) → LiesIn b i q s → LiesIn turned i q s
  turned_keeps i q s l =
      let y = stay i l.number l.has l.allocation l.live in
      record {
        number = l.number;
        has = l.has;
        allocation = y.0;
        live = y.1;
        place = l.place;
        lies = y.2 ∙ l.lies;
        kept = l.kept;
        there = l.there;
        memory = l.memory;
        offset = l.offset;
        size = l.size ∙ ap (λ (r : Asked). r.size) (sym y.3);
      }
