use Rattle.std.proofs.Common.{◌≡◌, ℕ, IsTrue, Option, Some, None, refl, ap, sym, ◌∙◌, subst}
use Rattle.vk_model.specs.Basics.{holds}
use Rattle.vk_model.specs.Trace.Point.{Past}
use Rattle.vk_model.specs.Sync.Node.{Node}
use Rattle.vk_model.specs.Sync.Edge.{is_host}
use Rattle.vk_laws.specs.Machine.{Task}
use Rattle.vk_model.specs.Run.Caches.{view}
use Rattle.vk_laws.specs.Tasks.{node_at}
use Rattle.vk_model.specs.Run.Caches.{agent_of}
use Rattle.vk_laws.specs.TraceCaches.{caching_of}
use Rattle.vk_laws.proofs.tasks.host_reads_the_meaning.Goals as goal

host_agent : (all : Past) (next : Task) → IsTrue (holds (node_at all next.node) (λ n. is_host n.act)) → (caching_of all).agent next ≡ 0
host_agent all next h = go (node_at all next.node) h
  where
    go : (o : Option Node) → IsTrue (holds o (λ n. is_host n.act)) → ◌≡◌ {A = ℕ} (elim o [ None ↦ 0 | Some n ↦ agent_of n ]) 0
    go None h = absurd cc
    go (Some n) h = rw h refl

pub returns : goal.returns
returns c = λ all done cells next b ordered none r may reads host.
    let d = c.reads_are_defined.ensures all next b none reads host in
    let is_seen = c.cached_trace_is_fresh.ensures.fresh all done cells next b d.0 ordered none r may reads d.1 in
    let here : view 0 (cells b) ≡ d.0 = subst (λ (a : ℕ). view a (cells b) ≡ d.0) (host_agent all next host) is_seen in
    d.1 ∙ ap Some (sym here)
