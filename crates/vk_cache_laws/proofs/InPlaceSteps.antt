-- What pieces, dependencies, waits, signals, entries and touches do, told in place.
use Rattle.std.proofs.Common.{ℕ, List, [], ◌∷◌, Bool, true, false, ◌&&◌, not, Option, Some, None}
use Rattle.std.specs.Prelude.{if◌then◌else◌}
use Rattle.std.specs.List.{fold}
use Rattle.vk_model.specs.Trace.Point.{Past}
use Rattle.vk_model.specs.World.Bytes.{Byte}
use Rattle.vk_model.specs.Sync.Node.{Node}
use Rattle.vk_model.specs.Run.Caches.{Held, Cell, queue_agent, written_back, dropped}
use Rattle.vk_model.specs.Run.Runs.{Name, Stage}
use Rattle.vk_model.specs.Run.CachedRuns.{Cells, makes_byte_visible, happening, Touch, WriteBack, Drop, Load, touched}
use Rattle.vk_laws.specs.DirectRuns.{HostMemory}
use Rattle.vk_laws.specs.WriteBacks.{frees_byte, is_overtaken, after_node_by_starts, after_nodes_by_starts}
use Rattle.vk_cache_laws.specs.InPlace.{Behind, Lag, IsTold, AreTold, caught_up, lag_after_node, lag_after_nodes, lag_after_touch}
use Rattle.vk_cache_laws.proofs.Told.{told_back, told_drop, told_load}

-- memory that doesn't catch up
pub still : {value : ℕ} {host : Option Held} (behind : Option Behind) {cell : Cell} → IsTold value host behind cell → (q : ℕ) → IsTold value host (caught_up q false behind) cell
still None i q = i
still (Some b) i q = i

node_told : (past : Past) (done : List Name) (n : Node) (m : HostMemory) (lag : Lag) (cells : Cells) → AreTold m lag cells → AreTold m (lag_after_node past done n lag) (after_node_by_starts past done n cells)
node_told past done n m lag cells told c = go (frees_byte past n c && not (is_overtaken past done n c)) (makes_byte_visible past n c)
  where
    a : ℕ
    a = queue_agent n.point.queue

    back : (frees : Bool) → IsTold (m.region c) (m.host c) (caught_up n.point.queue frees (lag c)) (if frees then written_back (queue_agent n.point.queue) (cells c) else cells c)
    back true = told_back (lag c) (told c) n.point.queue
    back false = still (lag c) (told c) n.point.queue

    go : (frees shows : Bool) → IsTold (m.region c) (m.host c) (caught_up n.point.queue frees (lag c)) (let b = if frees then written_back (queue_agent n.point.queue) (cells c) else cells c in if shows then dropped (queue_agent n.point.queue) b else b)
    go frees true = told_drop (back frees) n.point.queue
    go frees false = back frees

all_told : (past : Past) (done : List Name) (ns : List Node) (m : HostMemory) (lag : Lag) (cells : Cells) → AreTold m lag cells
    → AreTold m (fold (λ l n. lag_after_node past done n l) lag ns) (fold (λ cs n. after_node_by_starts past done n cs) cells ns)
all_told past done [] m lag cells told = told
all_told past done (n ∷ ns) m lag cells told = all_told past done ns m (lag_after_node past done n lag) (after_node_by_starts past done n cells) (node_told past done n m lag cells told)

pub nodes_told : (s e : Stage) (m : HostMemory) (lag : Lag) (cells : Cells) → AreTold m lag cells → AreTold m (lag_after_nodes s e lag) (after_nodes_by_starts s e cells)
nodes_told s e m lag cells told = all_told e.front.past e.done (happening s e) m lag cells told

pub touch_told : (m : HostMemory) (lag : Lag) (cells : Cells) (touch : Touch) (queue : ℕ) (test : Byte → Bool) → AreTold m lag cells
    → AreTold m (lag_after_touch touch queue test lag) (λ c. if test c then touched touch (queue_agent queue) (cells c) else cells c)
touch_told m lag cells WriteBack queue test told c = go (test c)
  where
    go : (b : Bool) → IsTold (m.region c) (m.host c) (caught_up queue b (lag c)) (if b then touched WriteBack (queue_agent queue) (cells c) else cells c)
    go true = told_back (lag c) (told c) queue
    go false = still (lag c) (told c) queue
touch_told m lag cells Drop queue test told c = go (test c)
  where
    go : (b : Bool) → IsTold (m.region c) (m.host c) (lag c) (if b then touched Drop (queue_agent queue) (cells c) else cells c)
    go true = told_drop (told c) queue
    go false = told c
touch_told m lag cells Load queue test told c = go (test c)
  where
    go : (b : Bool) → IsTold (m.region c) (m.host c) (lag c) (if b then touched Load (queue_agent queue) (cells c) else cells c)
    go true = told_load (told c) queue
    go false = told c
