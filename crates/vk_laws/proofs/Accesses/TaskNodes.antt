-- A task is its two numbers, and its node is in the trace.
use Rattle.std.proofs.Common.{◌≡◌, ℕ, Some, IsTrue}
use Rattle.std.specs.Prelude.{Contains, ◌==◌, nat_lt}
use Rattle.std.proofs.lemmas.Bool.{eqb-true}
use Rattle.vk_model.specs.Trace.Point.{Past}
use Rattle.vk_model.specs.Sync.Node.{Node, nodes}
use Rattle.vk_laws.specs.Machine.{Task}
use Rattle.vk_laws.specs.Tasks.{node_at, task_count, accesses_of}
use Rattle.vk_model.proofs.Lists.Members.{found}

pub same_task : (s t : Task) → s.node ≡ t.node → s.index ≡ t.index → s ≡ t
same_task s t e f = λ i. record { node = e i; index = f i }

pub node_of : (all : Past) (k : ℕ) (n : Node) → node_at all k ≡ Some n → Contains (nodes all) n × (n.number ≡ k)
node_of all k n e = let f = found (λ m. m.number == k) (nodes all) n e in (f.0, eqb-true n.number k f.1)

-- a task of a node is there where its act has so many
pub has_task : (all : Past) (u : Task) (n : Node) → node_at all u.node ≡ Some n → IsTrue (nat_lt u.index (task_count all n.act)) → IsTrue ((accesses_of all).has u)
has_task all u n e h = rw e h
