-- A piece that is offered runs in the machine, through the cache of its queue.
use Rattle.std.proofs.Common.{◌≡◌, ⊎_elim, ℕ, zero, suc, ◌<◌, List, ◌∷◌, length, Bool, true, false, ◌&&◌, IsTrue, Option, Some, None, refl, ap, sym, ◌∙◌, subst, arith}
use Rattle.std.specs.Prelude.{◌==◌, option_map, if◌then◌else◌}
use Rattle.std.proofs.lemmas.Bool.{and_parts, or_cases}
use Rattle.vk_model.specs.declared.command.Cmd.{Cmd}
use Rattle.vk_model.specs.declared.entry.Entry.{Entry}
use Rattle.vk_model.specs.Basics.{holds}
use Rattle.vk_model.specs.World.Bytes.{Byte}
use Rattle.vk_model.specs.World.ByteWrites.{ByteWrite, Source, Value, From}
use Rattle.vk_model.specs.World.Effect.{world}
use Rattle.vk_model.specs.Trace.Order.{order}
use Rattle.vk_model.specs.Trace.Point.{Past, Point}
use Rattle.vk_model.specs.Run.Caches.{Dirty, queue_agent, view, with_write}
use Rattle.vk_model.specs.Run.Runs.{Name, Stage}
use Rattle.vk_model.specs.Run.CachedRuns.{Cells, numbered, named_piece, write_to, source_through, after_write, after_piece}
use Rattle.vk_model.specs.Sync.Node.{Node, Act, Hosts, Waits, Signals, Runs, Depends, nodes}
use Rattle.vk_model.specs.Sync.Edge.{edge, is_host}
use Rattle.vk_model.specs.Sync.Seen.{available_by}
use Rattle.vk_laws.specs.Machine.{Task, Put, Puts, TraceAccesses, MayRun}
use Rattle.vk_laws.specs.Caches.{CellRan, Caching, Guard, Reached, Run}
use Rattle.vk_laws.specs.Trace.{accesses}
use Rattle.vk_laws.specs.Tasks.{node_at, accesses_of}
use Rattle.vk_laws.specs.Discards.{with_discards}
use Rattle.vk_laws.specs.TraceCaches.{cached, makes_write_available, makes_visible_to, caching_of}
use Rattle.vk_laws.specs.DefinedRuns.{piece_task}
use Rattle.vk_laws.proofs.Caching.TraceCaches.{agent_is}
use Rattle.vk_laws.proofs.Running.StageTasks.{Known, pieces_same}
use Rattle.vk_laws.proofs.Running.OfferedPieces.{Offered}
use Rattle.vk_laws.proofs.Running.AtStage.{AtPoint, grows}
use Rattle.vk_laws.proofs.Running.Runs.{may_too}
use Rattle.vk_laws.proofs.CachedRunning.Touches.{held_elsewhere, within_same, keeps_write}
use Rattle.vk_laws.proofs.CachedRunning.LastWriters.{piece_write, IsNamed, named_at, named_at_past, named_same}
use Rattle.vk_laws.proofs.CachedRunning.HostCaches.{HostOk, byte_within}

module _ {t : List Entry} (known : Known t) where
  abbrev all : Past
  all = order t

  abbrev tr : TraceAccesses
  tr = with_discards all

  abbrev ca : Caching
  ca = caching_of all

  -- ---- a command's node makes nothing available or visible

  run_frees_none : (i : ℕ) (p : Point) (x : Cmd) (k : Node) (b : Act) (c : Byte) → IsTrue (accesses b) → IsTrue (available_by (cached all k.number) (nodes all) k b c (record { number = i; point = p; act = Runs x })) → ⊥
  run_frees_none i p x k (Runs y) c access h = let free : IsTrue false = (and_parts (edge (nodes all) k (record { number = i; point = p; act = Runs x })) false h).1 in cc
  run_frees_none i p x k (Hosts y) c access h = absurd cc
  run_frees_none i p x k (Waits y) c access h = absurd cc
  run_frees_none i p x k (Signals y) c access h = absurd cc
  run_frees_none i p x k (Depends r d) c access h = absurd cc

  run_shows_none : (i : ℕ) (p : Point) (x : Cmd) (b : ℕ) (c : Byte) → IsTrue (makes_visible_to all (record { number = i; point = p; act = Runs x }) b c) → ⊥
  run_shows_none i p x zero c h = go (cached all i c) h
    where
      go : (k : Bool) → IsTrue (if k then false else false) → ⊥
      go true h = cc
      go false h = cc
  run_shows_none i p x (suc k) c h = let no : IsTrue false = (and_parts (p.queue == k) false (⊎_elim (λ a. a) (λ b. absurd cc) (or_cases (p.queue == k && false) false h))).1 in cc

  module _ (u : Task) (n : Node) (x : Cmd) (at : node_at all u.node ≡ Some n) (act : n.act ≡ Runs x) where
    abbrev run_node : Node
    run_node = record { number = n.number; point = n.point; act = Runs x }

    same : n ≡ run_node
    same = λ i. record { number = n.number; point = n.point; act = act i }

    run_at : node_at all u.node ≡ Some run_node
    run_at = at ∙ ap Some same

    frees_none : (w : Task) (c : Byte) → IsTrue (ca.makes_available u w c) → ⊥
    frees_none w c h = go (node_at all w.node) (ap (λ (o : Option Node). holds o (λ m. holds (node_at all w.node) (λ k. makes_write_available all m k c))) (sym run_at) ∙ (and_parts _ _ h).1)
      where
        go : (o : Option Node) → IsTrue (holds o (λ k. makes_write_available all run_node k c)) → ⊥
        go None h = cc
        go (Some k) h = let parts = and_parts _ _ h in run_frees_none n.number n.point x k k.act c parts.0 parts.1

    shows_none : (b : ℕ) (c : Byte) → IsTrue (ca.makes_visible u b c) → ⊥
    shows_none b c h = run_shows_none n.number n.point x b c (ap (λ (o : Option Node). holds o (λ m. makes_visible_to all m b c)) (sym run_at) ∙ h)

    run_guard : (done : List Task) (cells : Cells) → Guard tr ca done cells u
    run_guard done cells = record { written_back = λ c w v is h held. frees_none w c h; dropped = λ c b v h held. shows_none b c h }

  -- ---- its writes

  wrote : (a : ℕ) (cells : Cells) (c : Byte) (o : Option ByteWrite) → CellRan (option_map (λ m. Puts m.source) o) a cells (cells c) (after_write a cells o (cells c))
  wrote a cells c None = (refl, λ b. refl)
  wrote a cells c (Some m) = by_source m.source
    where
      by_source : (s : Source) → CellRan (Some (Puts s)) a cells (cells c) (with_write a (source_through a cells s) (cells c))
      by_source (Value v) = keeps_write a v (cells c)
      by_source (From d) = keeps_write a (view a (cells d)) (cells c)

  after_held : (a : ℕ) (cells : Cells) (c : Byte) (o : Option ByteWrite) (b : ℕ) → (b ≡ a → ⊥) → (after_write a cells o (cells c)).held b ≡ (cells c).held b
  after_held a cells c None b other = refl
  after_held a cells c (Some m) b other = held_elsewhere a (Some (Dirty (source_through a cells m.source))) (cells c) b other

  module _ (s : Stage) (did : List Task) (i : AtPoint known s did) (y : Name) (o : Offered s.front.past s.done y) where
    abbrev past : Past
    past = s.front.past

    abbrev pub offered_named : IsNamed known past y
    offered_named = record {
      node = o.node;
      command = o.command;
      present = o.present;
      number = o.number;
      act = o.act;
      within = subst (λ (ps : List (List ByteWrite)). y.1 < length ps) (sym (pieces_same known _ past (grows known s did i) o.node o.command o.present o.act)) o.index;
    }

    at : node_at all y.0 ≡ Some o.node
    at = named_at known _ past (grows known s did i) y offered_named

    abbrev agent : ℕ
    agent = elim (numbered past y.0) [ None ↦ 0 | Some n ↦ queue_agent n.point.queue ]

    agent_in : agent ≡ queue_agent o.node.point.queue
    agent_in = ap (λ (n : Option Node). elim n [ None ↦ 0 | Some n ↦ queue_agent n.point.queue ]) (named_at_past known _ past (grows known s did i) y offered_named)

    its_agent : ca.agent (piece_task y) ≡ agent
    its_agent = agent_is known.paths known.joins all (piece_task y) o.node at ∙ ap (λ (d : Act). if is_host d then 0 else queue_agent o.node.point.queue) o.act ∙ sym agent_in

    pub agent_is_queue : ca.agent (piece_task y) ≡ queue_agent o.node.point.queue
    agent_is_queue = its_agent ∙ agent_in

    abbrev after : Cells → Cells
    after cells = after_piece agent (named_piece past y) cells

    pub its_write : (c : Byte) → tr.write_of (piece_task y) c ≡ option_map (λ m. Puts m.source) (write_to c (named_piece past y))
    its_write c = piece_write all y o.node o.command c at o.act ∙ ap (λ (ms : List ByteWrite). option_map (λ m. Puts m.source) (write_to c ms)) (sym (named_same known _ past (grows known s did i) y offered_named))

    pub piece_done : (done : List Task) (cells : Cells) → Reached tr ca done cells → MayRun (accesses_of all) done (piece_task y) → Reached tr ca (piece_task y ∷ done) (after cells)
    piece_done done cells r may = Run done (piece_task y) cells (after cells) r (may_too all done (piece_task y) may) (run_guard (piece_task y) o.node o.command at o.act done cells)
        (λ c.
        subst (λ (a : ℕ). CellRan (tr.write_of (piece_task y) c) a cells (cells c) (after cells c)) (sym its_agent)
        (subst (λ (w : Option Put). CellRan w agent cells (cells c) (after cells c)) (sym (its_write c)) (wrote agent cells c (write_to c (named_piece past y)))))

    -- the host's cache isn't touched
    pub piece_host : (cells : Cells) → HostOk known past cells → HostOk known past (after cells)
    piece_host cells ok c = byte_within known c ((world past).dirty c) (cells c) (after cells c)
        (within_same _ _ (after_held agent cells c (write_to c (named_piece past y)) 0 (λ e. let own = agent_in in omega (arith, e, own)))) (ok c)
