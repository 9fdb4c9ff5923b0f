-- Writes that stay in caches.
use Rattle.std.proofs.Common.{◌≡◌, ◌≢◌, ◌⊎◌, inl, inr, ⊎_elim, ℕ, List, [], ◌∷◌, Bool, true, false, Option, Some, None, refl, ap, sym, ◌∙◌}
use Rattle.std.specs.Prelude.{Contains, if◌then◌else◌}
use Rattle.std.specs.List.{fold}
use Rattle.vk_model.specs.Trace.Point.{Past}
use Rattle.vk_model.specs.World.Bytes.{Byte}
use Rattle.vk_model.specs.World.ByteWrites.{ByteWrite}
use Rattle.vk_model.specs.Sync.Node.{Node}
use Rattle.vk_model.specs.Run.Caches.{Held, Clean, Dirty, Cell, queue_agent, written_back_if, written_back, dropped_if, dropped, loaded_if}
use Rattle.vk_model.specs.Run.Runs.{Name}
use Rattle.vk_model.specs.Run.CachedRuns.{Cells, source_through, write_to, after_write, after_piece, makes_last_available, makes_byte_visible, after_node, Touch, WriteBack, Drop, Load, touched}
use Rattle.vk_model.proofs.Lists.Members.{contains-head, contains-tail}
use Rattle.vk_laws.proofs.CachedRunning.Touches.{held_there, held_elsewhere}

-- ---- a copy is dropped

drop_region : (a : ℕ) (cell : Cell) → (dropped a cell).region ≡ cell.region
drop_region a cell = go (cell.held a)
  where
    go : (h : Option Held) → (dropped_if a h cell).region ≡ cell.region
    go None = refl
    go (Some (Clean v)) = refl
    go (Some (Dirty v)) = refl

-- what is dirty stays
drop_dirty : (b a v : ℕ) (cell : Cell) → cell.held a ≡ Some (Dirty v) → (dropped b cell).held a ≡ Some (Dirty v)
drop_dirty b a v cell is = go (cell.held b) refl
  where
    go : (h : Option Held) → cell.held b ≡ h → (dropped_if b h cell).held a ≡ Some (Dirty v)
    go None e = is
    go (Some (Dirty u)) e = is
    go (Some (Clean u)) e = held_elsewhere b None cell a (λ same. clean (sym e ∙ ap cell.held (sym same) ∙ is)) ∙ is
      where
        clean : Some (Clean u) ≡ Some (Dirty v) → ⊥
        clean e = absurd cc

-- ---- what happens

-- some node makes the last write available
abbrev pub Frees : Past → List Name → List Node → Byte → Type 0
Frees past done ns c = (k : Node) × Contains ns k × (makes_last_available past done k c ≡ true)

later : (past : Past) (done : List Name) (n : Node) (ns : List Node) (c : Byte) → Frees past done ns c → Frees past done (n ∷ ns) c
later past done n ns c f = (f.0, contains-tail n ns f.0 f.1, f.2)

-- a node that doesn't only drops
not_freed : (past : Past) (done : List Name) (n : Node) (cells : Cells) (c : Byte) → makes_last_available past done n c ≡ false
    → after_node past done n cells c ≡ (if makes_byte_visible past n c then dropped (queue_agent n.point.queue) (cells c) else cells c)
not_freed past done n cells c e = ap (λ (b : Bool). let back = if b then written_back (queue_agent n.point.queue) (cells c) else cells c in if makes_byte_visible past n c then dropped (queue_agent n.point.queue) back else back) e

node_region : (past : Past) (done : List Name) (n : Node) (cells : Cells) (c : Byte) → makes_last_available past done n c ≡ false → (after_node past done n cells c).region ≡ (cells c).region
node_region past done n cells c e = ap (λ (cell : Cell). cell.region) (not_freed past done n cells c e) ∙ go (makes_byte_visible past n c)
  where
    go : (b : Bool) → (if b then dropped (queue_agent n.point.queue) (cells c) else cells c).region ≡ (cells c).region
    go true = drop_region (queue_agent n.point.queue) (cells c)
    go false = refl

node_dirty : (past : Past) (done : List Name) (n : Node) (cells : Cells) (c : Byte) (a v : ℕ) → makes_last_available past done n c ≡ false → (cells c).held a ≡ Some (Dirty v) → (after_node past done n cells c).held a ≡ Some (Dirty v)
node_dirty past done n cells c a v e is = ap (λ (cell : Cell). cell.held a) (not_freed past done n cells c e) ∙ go (makes_byte_visible past n c)
  where
    go : (b : Bool) → (if b then dropped (queue_agent n.point.queue) (cells c) else cells c).held a ≡ Some (Dirty v)
    go true = drop_dirty (queue_agent n.point.queue) a v (cells c) is
    go false = is

abbrev Happened : Past → List Name → List Node → Cells → Cells
Happened past done ns cells = fold (λ cs n. after_node past done n cs) cells ns

pub nodes_region : (past : Past) (done : List Name) (ns : List Node) (cells : Cells) (c : Byte) → ((Happened past done ns cells c).region ≡ (cells c).region) ⊎ Frees past done ns c
nodes_region past done [] cells c = inl refl
nodes_region past done (n ∷ ns) cells c = go (makes_last_available past done n c) refl (nodes_region past done ns (after_node past done n cells) c)
  where
    go : (b : Bool) → makes_last_available past done n c ≡ b → ((Happened past done ns (after_node past done n cells) c).region ≡ (after_node past done n cells c).region) ⊎ Frees past done ns c
        → ((Happened past done ns (after_node past done n cells) c).region ≡ (cells c).region) ⊎ Frees past done (n ∷ ns) c
    go true e rest = inr (n, contains-head n ns, e)
    go false e rest = ⊎_elim (λ same. inl (same ∙ node_region past done n cells c e)) (λ f. inr (later past done n ns c f)) rest

pub nodes_dirty : (past : Past) (done : List Name) (ns : List Node) (cells : Cells) (c : Byte) (a v : ℕ) → (cells c).held a ≡ Some (Dirty v)
    → (((Happened past done ns cells c).held a ≡ Some (Dirty v)) × ((Happened past done ns cells c).region ≡ (cells c).region)) ⊎ Frees past done ns c
nodes_dirty past done [] cells c a v is = inl (is, refl)
nodes_dirty past done (n ∷ ns) cells c a v is = go (makes_last_available past done n c) refl (λ d. nodes_dirty past done ns (after_node past done n cells) c a v d)
  where
    go : (b : Bool) → makes_last_available past done n c ≡ b
        → ((after_node past done n cells c).held a ≡ Some (Dirty v)
        → (((Happened past done ns (after_node past done n cells) c).held a ≡ Some (Dirty v)) × ((Happened past done ns (after_node past done n cells) c).region ≡ (after_node past done n cells c).region)) ⊎ Frees past done ns c)
        → (((Happened past done ns (after_node past done n cells) c).held a ≡ Some (Dirty v)) × ((Happened past done ns (after_node past done n cells) c).region ≡ (cells c).region)) ⊎ Frees past done (n ∷ ns) c
    go true e again = inr (n, contains-head n ns, e)
    go false e again = ⊎_elim (λ kept. inl (kept.0, kept.1 ∙ node_region past done n cells c e)) (λ f. inr (later past done n ns c f)) (again (node_dirty past done n cells c a v e is))

-- ---- a piece

pub piece_region : (a : ℕ) (ms : List ByteWrite) (cells : Cells) (c : Byte) → (after_piece a ms cells c).region ≡ (cells c).region
piece_region a ms cells c = go (write_to c ms)
  where
    go : (o : Option ByteWrite) → (after_write a cells o (cells c)).region ≡ (cells c).region
    go None = refl
    go (Some m) = refl

pub piece_dirty : (a : ℕ) (ms : List ByteWrite) (cells : Cells) (c : Byte) (w : ByteWrite) → write_to c ms ≡ Some w → (after_piece a ms cells c).held a ≡ Some (Dirty (source_through a cells w.source))
piece_dirty a ms cells c w is = ap (λ (o : Option ByteWrite). (after_write a cells o (cells c)).held a) is ∙ held_there a (Some (Dirty (source_through a cells w.source))) (cells c)

-- ---- a touch

pub touch_others : (touch : Touch) (a b : ℕ) (cell : Cell) → b ≢ a → (touched touch a cell).held b ≡ cell.held b
touch_others WriteBack a b cell other = go (cell.held a)
  where
    go : (h : Option Held) → (written_back_if a h cell).held b ≡ cell.held b
    go None = refl
    go (Some (Clean v)) = refl
    go (Some (Dirty v)) = held_elsewhere a (Some (Clean v)) cell b other
touch_others Drop a b cell other = go (cell.held a)
  where
    go : (h : Option Held) → (dropped_if a h cell).held b ≡ cell.held b
    go None = refl
    go (Some (Clean v)) = held_elsewhere a None cell b other
    go (Some (Dirty v)) = refl
touch_others Load a b cell other = go (cell.held a)
  where
    go : (h : Option Held) → (loaded_if a h cell).held b ≡ cell.held b
    go None = held_elsewhere a (Some (Clean cell.region)) cell b other
    go (Some (Clean v)) = refl
    go (Some (Dirty v)) = refl

pub touch_memory : (touch : Touch) (a : ℕ) (cell : Cell) → touch ≢ WriteBack → (touched touch a cell).region ≡ cell.region
touch_memory WriteBack a cell other = absurd (other refl)
touch_memory Drop a cell other = drop_region a cell
touch_memory Load a cell other = go (cell.held a)
  where
    go : (h : Option Held) → (loaded_if a h cell).region ≡ cell.region
    go None = refl
    go (Some (Clean v)) = refl
    go (Some (Dirty v)) = refl
