-- A byte between a piece's write and its way to memory, through the cache of the piece's queue.
use Rattle.std.proofs.Common.{◌≡◌, ℕ, zero, suc, List, [], ◌∷◌, Bool, true, false, Option, Some, None, refl, ap, sym, ◌∙◌, subst, arith}
use Rattle.std.specs.Prelude.{◌==◌, if◌then◌else◌}
use Rattle.std.specs.List.{fold}
use Rattle.std.proofs.lemmas.Bool.{eqb-true, eq-eqb}
use Rattle.vk_model.specs.World.Bytes.{Byte}
use Rattle.vk_model.specs.World.ByteWrites.{ByteWrite, Source, Value, From}
use Rattle.vk_model.specs.Trace.Point.{Past}
use Rattle.vk_model.specs.Sync.Node.{Node}
use Rattle.vk_model.specs.Run.Caches.{Held, Clean, Dirty, Cell, queue_agent, written_back_if, written_back, dropped_if, dropped}
use Rattle.vk_model.specs.Run.Runs.{Name, Stage}
use Rattle.vk_model.specs.Run.CachedRuns.{Cells, write_to, source_through, after_write, after_piece, makes_last_available, makes_byte_visible, after_node, happening, after_nodes}
use Rattle.vk_laws.specs.DirectRuns.{HostMemory, held_by_host, cells_of, value_in, byte_after, memory_after_piece}
use Rattle.vk_model.proofs.Lists.Truths.{clash}
use Rattle.vk_laws.proofs.CachedRunning.Touches.{held_there, held_elsewhere, drop_within, back_clean, drop_gone}
use Rattle.vk_laws.proofs.DirectRuns.Unheld.{same_cells}

-- what the cache of the queue holds of a byte whose value is v to it
pub data Mine (v region : ℕ) (held : Option Held) : Type 0 where
  unwritten : held ≡ Some (Dirty v) → Mine v region held
  copied : region ≡ v → held ≡ Some (Clean v) → Mine v region held
  gone : region ≡ v → held ≡ None → Mine v region held

-- a byte that is v to queue k, of which the host's cache holds this, and the caches of other queues nothing
pub record Passing (k v : ℕ) (h : Option Held) (cell : Cell) : Type 0 where
  pub host : cell.held 0 ≡ h
  pub others : (q : ℕ) → (q ≡ k → ⊥) → cell.held (queue_agent q) ≡ None
  pub mine : Mine v cell.region (cell.held (queue_agent k))

-- ---- caches write back and drop

module _ (k v : ℕ) (h : Option Held) (cell : Cell) (p : Passing k v h cell) where
  abbrev a : ℕ
  a = queue_agent k

  own_back : Passing k v h (written_back a cell)
  own_back = go (cell.held a) refl
    where
      same : (u : ℕ) → cell.held a ≡ Some (Dirty u) → Mine v cell.region (cell.held a) → u ≡ v
      same u e (unwritten f) = cc
      same u e (copied r f) = absurd cc
      same u e (gone r f) = absurd cc

      go : (g : Option Held) → cell.held a ≡ g → Passing k v h (written_back_if a g cell)
      go None e = p
      go (Some (Clean u)) e = p
      go (Some (Dirty u)) e = record {
        host = held_elsewhere a (Some (Clean u)) cell 0 (λ f. omega (arith, f)) ∙ p.host;
        others = λ q other. held_elsewhere a (Some (Clean u)) cell (queue_agent q) (λ f. other (omega (arith, f))) ∙ p.others q other;
        mine = copied (same u e p.mine) (held_there a (Some (Clean u)) cell ∙ ap (λ (w : ℕ). Some (Clean w)) (same u e p.mine));
      }

  own_drop : Passing k v h (dropped a cell)
  own_drop = go (cell.held a) refl
    where
      same : (u : ℕ) → cell.held a ≡ Some (Clean u) → Mine v cell.region (cell.held a) → cell.region ≡ v
      same u e (unwritten f) = absurd cc
      same u e (copied r f) = r
      same u e (gone r f) = r

      go : (g : Option Held) → cell.held a ≡ g → Passing k v h (dropped_if a g cell)
      go None e = p
      go (Some (Dirty u)) e = p
      go (Some (Clean u)) e = record {
        host = held_elsewhere a None cell 0 (λ f. omega (arith, f)) ∙ p.host;
        others = λ q other. held_elsewhere a None cell (queue_agent q) (λ f. other (omega (arith, f))) ∙ p.others q other;
        mine = gone (same u e p.mine) (held_there a None cell);
      }

  -- other queues' caches have nothing of it
  pub back_passing : (q : ℕ) → Passing k v h (written_back (queue_agent q) cell)
  back_passing q = go (q == k) refl
    where
      go : (b : Bool) → (q == k) ≡ b → Passing k v h (written_back (queue_agent q) cell)
      go true e = subst (λ (j : ℕ). Passing k v h (written_back (queue_agent j) cell)) (sym (eqb-true q k e)) own_back
      go false e = subst (λ (g : Option Held). Passing k v h (written_back_if (queue_agent q) g cell)) (sym (p.others q (λ f. clash {b = q == k} (eq-eqb q k f) e))) p

  pub drop_passing : (q : ℕ) → Passing k v h (dropped (queue_agent q) cell)
  drop_passing q = go (q == k) refl
    where
      go : (b : Bool) → (q == k) ≡ b → Passing k v h (dropped (queue_agent q) cell)
      go true e = subst (λ (j : ℕ). Passing k v h (dropped (queue_agent j) cell)) (sym (eqb-true q k e)) own_drop
      go false e = subst (λ (g : Option Held). Passing k v h (dropped_if (queue_agent q) g cell)) (sym (p.others q (λ f. clash {b = q == k} (eq-eqb q k f) e))) p

-- ---- nodes happen

module _ (k : ℕ) (v : Byte → ℕ) (h : Byte → Option Held) where
  abbrev agent : ℕ
  agent = queue_agent k

  abbrev pub AllPassing : Cells → Type 0
  AllPassing cells = (c : Byte) → Passing k (v c) (h c) (cells c)

  node_passing : (past : Past) (done : List Name) (n : Node) (cells : Cells) → AllPassing cells → AllPassing (after_node past done n cells)
  node_passing past done n cells all c = go (makes_last_available past done n c) (makes_byte_visible past n c)
    where
      back : (i : Bool) → Passing k (v c) (h c) (if i then written_back (queue_agent n.point.queue) (cells c) else cells c)
      back true = back_passing k (v c) (h c) (cells c) (all c) n.point.queue
      back false = all c

      go : (i j : Bool) → Passing k (v c) (h c) (let a = queue_agent n.point.queue in let back = if i then written_back a (cells c) else cells c in if j then dropped a back else back)
      go i true = drop_passing k (v c) (h c) (if i then written_back (queue_agent n.point.queue) (cells c) else cells c) (back i) n.point.queue
      go i false = back i

  each_passing : (past : Past) (done : List Name) (ns : List Node) (cells : Cells) → AllPassing cells → AllPassing (fold (λ cs n. after_node past done n cs) cells ns)
  each_passing past done [] cells all = all
  each_passing past done (n ∷ ns) cells all = each_passing past done ns (after_node past done n cells) (node_passing past done n cells all)

  pub nodes_passing : (s e : Stage) (cells : Cells) → AllPassing cells → AllPassing (after_nodes s e cells)
  nodes_passing s e cells all = each_passing e.front.past e.done (happening s e) cells all

  -- ---- then the queue's cache writes back and drops all bytes

  pub all_home : (cells : Cells) → AllPassing cells → cells_of (record { region = v; host = h }) ≡ (λ c. dropped (queue_agent k) (written_back (queue_agent k) (cells c)))
  all_home cells all = sym (same_cells (λ c. dropped agent (written_back agent (cells c))) (cells_of (record { region = v; host = h })) (λ c. (home c (final c).mine).0) each)
    where
      final : (c : Byte) → Passing k (v c) (h c) (dropped agent (written_back agent (cells c)))
      final c = drop_passing k (v c) (h c) (written_back agent (cells c)) (back_passing k (v c) (h c) (cells c) (all c) k) k

      home : (c : Byte) → Mine (v c) ((dropped agent (written_back agent (cells c))).region) ((dropped agent (written_back agent (cells c))).held agent) → ((dropped agent (written_back agent (cells c))).region ≡ v c) × ((dropped agent (written_back agent (cells c))).held agent ≡ None)
      home c (unwritten e) = let was = (drop_within agent (written_back agent (cells c)) agent).dirty (v c) e in absurd (back_clean agent (cells c) was.0 was.1)
      home c (copied r e) = absurd (drop_gone agent (written_back agent (cells c)) (v c) e)
      home c (gone r e) = (r, e)

      by_queue : (c : Byte) (q : ℕ) (b : Bool) → (q == k) ≡ b → (dropped agent (written_back agent (cells c))).held (queue_agent q) ≡ None
      by_queue c q true e = subst (λ (j : ℕ). (dropped agent (written_back agent (cells c))).held (queue_agent j) ≡ None) (sym (eqb-true q k e)) (home c (final c).mine).1
      by_queue c q false e = (final c).others q (λ f. clash {b = q == k} (eq-eqb q k f) e)

      each : (c : Byte) (b : ℕ) → (dropped agent (written_back agent (cells c))).held b ≡ held_by_host (h c) b
      each c zero = (final c).host
      each c (suc q) = by_queue c q (q == k) refl

-- ---- a piece has written

pub piece_passing : (k : ℕ) (m : HostMemory) (ms : List ByteWrite) → AllPassing k (memory_after_piece ms m).region m.host (after_piece (queue_agent k) ms (cells_of m))
piece_passing k m ms c = go (write_to c ms)
  where
    value_is : (s : Source) → source_through (queue_agent k) (cells_of m) s ≡ value_in m.region s
    value_is (Value v) = refl
    value_is (From d) = refl

    go : (o : Option ByteWrite) → Passing k (byte_after m.region o c) (m.host c) (after_write (queue_agent k) (cells_of m) o (cells_of m c))
    go None = record { host = refl; others = λ q other. refl; mine = gone refl refl }
    go (Some w) =
        let value = source_through (queue_agent k) (cells_of m) w.source in record {
          host = held_elsewhere (queue_agent k) (Some (Dirty value)) (cells_of m c) 0 (λ f. omega (arith, f));
          others = λ q other. held_elsewhere (queue_agent k) (Some (Dirty value)) (cells_of m c) (queue_agent q) (λ f. other (omega (arith, f)));
          mine = unwritten (held_there (queue_agent k) (Some (Dirty value)) (cells_of m c) ∙ ap (λ (u : ℕ). Some (Dirty u)) (value_is w.source));
        }
