-- A run that meets every premise of the law: queue 1 fills a byte and signals; queue 2 waits, and copies it. A fill on queue 2 has no order with any of this.
use Rattle.std.specs.Prelude.{◌≡◌, ℕ, zero, suc, Bool, true, false, ◌&&◌, ◌==◌, nat_lt, [], ◌∷◌, Option, Some, None}
use Rattle.vk_model.specs.World.Bytes.{Byte, in_buffer}
use Rattle.vk_model.specs.World.ByteWrites.{Value, From}
use Rattle.vk_laws.specs.Machine.{Task, Put, Puts, TraceAccesses, Reads, HazardFree, MayRun, IsModel}
use Rattle.vk_model.specs.Run.Caches.{Held, Clean, Dirty, Cell, view}
use Rattle.vk_laws.specs.Caches.{Caching, CacheFree, Reached}
use Rattle.vk_laws.specs.Commands.{Effects, meaning}

-- The tasks: the first fill is node 0, its queue's signal node 1, the other queue's wait node 2, the copy node 3, and the other fill node 4.
abbrev pub task : ℕ → Task
task n = record { node = n; index = 0 }

-- The byte that is filled and copied.
abbrev pub original : Byte
original = in_buffer 0 0

-- What each node writes: byte 0 of buffer 0 gets 7, byte 0 of buffer 1 gets a copy of it, and byte 1 of buffer 1 gets 9.
abbrev pub writes : ℕ → Byte → Option Put
writes zero (in_buffer zero zero) = Some (Puts (Value 7))
writes (suc (suc (suc zero))) (in_buffer (suc zero) zero) = Some (Puts (From original))
writes (suc (suc (suc (suc zero)))) (in_buffer (suc zero) (suc zero)) = Some (Puts (Value 9))
writes _ _ = None

-- What each node reads: the copy reads the filled byte.
abbrev pub reads : ℕ → Byte → Bool
reads (suc (suc (suc zero))) (in_buffer zero zero) = true
reads _ _ = false

-- What the only task of a node does, where others do nothing.
abbrev pub only_index : {A : Type 0} → A → A → ℕ → A
only_index nothing x zero = x
only_index nothing x (suc k) = nothing

-- The trace: fill, signal, wait and copy come one after another.
abbrev pub accesses : TraceAccesses
accesses = record {
  has = λ t. nat_lt t.node 5 && t.index == 0;
  write_of = λ t c. only_index None (writes t.node c) t.index;
  reads = λ t c. only_index false (reads t.node c) t.index;
  before = λ a b. nat_lt a b && nat_lt b 4;
}

-- The queue of a node.
abbrev pub queue : ℕ → ℕ
queue zero = 1
queue (suc zero) = 1
queue _ = 2

-- Each queue is an agent; the signal makes the fill's write available, and the wait makes every byte visible to queue 2.
abbrev pub caching : Caching
caching = record {
  agent = λ t. queue t.node;
  makes_available = λ p w c. p.node == 1 && p.index == 0 && w.node == 0 && w.index == 0;
  makes_visible = λ q a c. q.node == 2 && q.index == 0 && a == 2;
}

-- What the nodes do, each as a whole.
abbrev pub effects : Effects
effects = record { loses = λ n c. false; writes = writes }

-- What the caches of queues 1 and 2 hold.
abbrev pub holding : Option Held → Option Held → ℕ → Option Held
holding x y (suc zero) = x
holding x y (suc (suc zero)) = y
holding x y _ = None

-- The memory where every byte but the original is 0 and in no cache.
abbrev pub with_original : Cell → Byte → Cell
with_original x (in_buffer zero zero) = x
with_original x _ = record { region = 0; held = λ a. None }

-- The original byte when it has been filled: queue 1 holds it dirty, and queue 2 still has a copy of what was there before.
abbrev pub when_filled : Byte → Cell
when_filled = with_original (record { region = 0; held = holding (Some (Dirty 7)) (Some (Clean 0)) })

-- And when the copy comes next: it was written back, and dropped from the cache of queue 2.
abbrev pub when_copied : Byte → Cell
when_copied = with_original (record { region = 7; held = holding (Some (Clean 7)) None })

-- The premises hold of the trace; a run reaches a state in which the old byte is visible to queue 2; and then one in which the copy may come next, which reads a byte that the model defines. The other fill may come first.
pub record MeetsPremises : Type 0 where
  pub hazard_free : HazardFree accesses
  pub cache_free : CacheFree accesses caching
  pub is_model : IsModel accesses (meaning effects)
  pub stale : Reached accesses caching (task 0 ∷ []) when_filled × (view 2 (when_filled original) ≡ 0)
  pub ready : Reached accesses caching (task 2 ∷ task 1 ∷ task 0 ∷ []) when_copied
  pub next : MayRun accesses (task 2 ∷ task 1 ∷ task 0 ∷ []) (task 3)
  pub reads_original : Reads accesses (task 3) original
  pub defined : meaning effects 3 original ≡ Some 7
  pub other_first : MayRun accesses [] (task 4)
