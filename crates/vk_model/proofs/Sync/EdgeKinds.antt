-- An edge from a node to a later one, by its kinds. Other crates cite it.
use Rattle.std.proofs.Common.{◌≡◌, ℕ, List, Bool, true, ⊎_elim}
use Rattle.std.specs.Prelude.{nat_lt}
use Rattle.std.proofs.lemmas.Bool.{and_parts, or_cases}
use Rattle.vk_model.specs.Sync.Node.{Node}
use Rattle.vk_model.specs.Sync.Edge.{edge, earlier, by_host, by_stages, by_signal, by_all_commands, pairs, by_semaphore}

-- what follows from an edge of each kind
pub record EdgeKinds (R : Type 0) (ns : List Node) (m n : Node) : Type 0 where
  pub host : by_host m n ≡ true → R
  pub stages : by_stages m n ≡ true → R
  pub signal : by_signal m n ≡ true → R
  pub all_commands : by_all_commands m n ≡ true → R
  pub pair : pairs m.act n.act ≡ true → R
  pub semaphore : by_semaphore (earlier n ns) m n ≡ true → R

pub by_kind : {R : Type 0} (ns : List Node) (m n : Node) → EdgeKinds R ns m n → edge ns m n ≡ true → R
unfolding edge
by_kind ns m n kinds h =
    ⊎_elim (λ g.
    ⊎_elim (λ g.
    ⊎_elim (λ g.
    ⊎_elim (λ g.
    ⊎_elim kinds.host kinds.stages
    (or_cases (by_host m n) (by_stages m n) g))
    kinds.signal (or_cases _ (by_signal m n) g))
    kinds.all_commands (or_cases _ (by_all_commands m n) g))
    kinds.pair (or_cases _ (pairs m.act n.act) g))
    kinds.semaphore (or_cases _ (by_semaphore (earlier n ns) m n) (and_parts (nat_lt m.number n.number) _ h).1)
