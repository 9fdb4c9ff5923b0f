-- Where a host entry has been applied, the pieces before it have run.
use Rattle.std.proofs.Common.{◌≡◌, ℕ, ◌<◌, List, length, IsTrue, Some, refl, ap, sym, subst, arith}
use Rattle.std.specs.Prelude.{Contains, nat_lt}
use Rattle.std.proofs.lemmas.Bool.{lt-ltb}
use Rattle.vk_model.specs.declared.command.Cmd.{Cmd}
use Rattle.vk_model.specs.declared.entry.Entry.{Entry}
use Rattle.vk_model.specs.Trace.Point.{Past}
use Rattle.vk_model.specs.Trace.Order.{order}
use Rattle.vk_model.specs.World.ByteWrites.{ByteWrite}
use Rattle.vk_model.specs.Run.Pieces.{pieces}
use Rattle.vk_model.specs.Sync.Node.{Node, Act, Hosts, Waits, Signals, Runs, Depends, nodes}
use Rattle.vk_model.specs.Basics.{below}
use Rattle.vk_model.specs.Sync.Edge.{is_host}
use Rattle.vk_model.specs.Sync.Before.{before}
use Rattle.vk_model.specs.Run.Runs.{Name, is_done, node_pieces, Stage}
use Rattle.vk_laws.specs.Machine.{IsIn, Task, TraceAccesses}
use Rattle.vk_laws.specs.Tasks.{task_count, node_at, accesses_of}
use Rattle.vk_model.proofs.Lists.Members.{none_in, mapped_from, range_from}
use Rattle.vk_laws.proofs.Accesses.TaskNodes.{has_task}
use Rattle.vk_laws.proofs.Caching.TraceCaches.{node_at_self}
use Rattle.vk_laws.proofs.EveryOrder.Fresh.{closed}
use Rattle.vk_laws.proofs.Running.StageTasks.{turned, plain_is, happened_is, before_is, Known, node_in_all, pieces_same, before_same}
use Rattle.vk_laws.proofs.Running.AtStage.{AtPoint, grows, entry_in}

module _ {t : List Entry} (known : Known t) (s : Stage) (did : List Task) (i : AtPoint known s did) where
  abbrev past : Past
  past = s.front.past

  abbrev all : Past
  all = order t

  abbrev tr : TraceAccesses
  tr = accesses_of all

  pub ran_before : (m h : Node) (c : Cmd) (x : Entry) (k : ℕ) → Contains (nodes past) m → Contains (nodes past) h → m.act ≡ Runs c → h.act ≡ Hosts x → IsTrue (before (nodes past) m h) → k < length (pieces past c)
      → IsTrue (is_done s.done (m.number, k))
  ran_before m h c x k cm ch runs hosts b lt = turned (happened_is all s v m at_m (Runs c) runs) ((i.happened v there_m (plain_is all v m at_m (Runs c) runs refl)).0 (closed tr i.tasks i.allowed u v entered (there_m, first)))
    where
      u : Task
      u = record { node = h.number; index = 0 }

      v : Task
      v = record { node = m.number; index = k }

      at_m : node_at all m.number ≡ Some m
      at_m = node_at_self known.paths known.joins all m (node_in_all known _ past (grows known s did i) m cm)

      at_h : node_at all h.number ≡ Some h
      at_h = node_at_self known.paths known.joins all h (node_in_all known _ past (grows known s did i) h ch)

      count : length (pieces all c) ≡ length (pieces past c)
      count = ap (λ (ps : List (List ByteWrite)). length ps) (pieces_same known _ past (grows known s did i) m c cm runs)

      there_m : IsTrue (tr.has v)
      there_m = has_task all v m at_m (subst (λ (a : Act). IsTrue (nat_lt k (task_count all a))) (sym runs) (lt-ltb k (length (pieces all c)) (omega (arith, lt, count))))

      there_h : IsTrue (tr.has u)
      there_h = has_task all u h at_h (subst (λ (a : Act). IsTrue (nat_lt 0 (task_count all a))) (sym hosts) refl)

      entered : IsIn u i.tasks
      entered = entry_in known s did i u h x there_h at_h hosts ch

      first : IsTrue (tr.before m.number h.number)
      first = turned (sym (before_is all v u m h at_m at_h)) (turned (sym (before_same known _ past (grows known s did i) m h ch)) b)

  pub names_ran : (m h : Node) (x : Name) → Contains (nodes past) m → Contains (nodes past) h → IsTrue (is_host h.act) → IsTrue (before (nodes past) m h) → Contains (node_pieces past m m.act) x → IsTrue (is_done s.done x)
  names_ran m h x cm ch host b cx = by_act m.act h.act refl refl host cx
    where
      by_act : (a e : Act) → m.act ≡ a → h.act ≡ e → IsTrue (is_host e) → Contains (node_pieces past m a) x → IsTrue (is_done s.done x)
      by_act (Runs c) (Hosts y) runs hosts host cx =
          let k = mapped_from (λ k. (m.number, k)) (below (length (pieces past c))) x cx in
          let within = (range_from 0 (length (pieces past c)) k.0 k.1).1 in
          subst (λ (z : Name). IsTrue (is_done s.done z)) k.2 (ran_before m h c y k.0 cm ch runs hosts b (omega (arith, within)))
      by_act (Runs c) (Runs y) runs hosts host cx = absurd cc
      by_act (Runs c) (Waits y) runs hosts host cx = absurd cc
      by_act (Runs c) (Signals y) runs hosts host cx = absurd cc
      by_act (Runs c) (Depends r e) runs hosts host cx = absurd cc
      by_act (Hosts y) e runs hosts host cx = absurd (none_in x cx)
      by_act (Waits y) e runs hosts host cx = absurd (none_in x cx)
      by_act (Signals y) e runs hosts host cx = absurd (none_in x cx)
      by_act (Depends r d) e runs hosts host cx = absurd (none_in x cx)
