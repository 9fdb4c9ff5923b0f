-- Bytes of which no queue's cache holds anything, and that nothing but the host's cache changes that.
use Rattle.std.proofs.Common.{◌≡◌, ℕ, zero, suc, List, [], ◌∷◌, Bool, true, false, ◌&&◌, Option, Some, None, refl, ap, ◌∙◌, arith}
use Rattle.std.specs.Prelude.{if◌then◌else◌}
use Rattle.std.specs.List.{fold}
use Rattle.vk_model.specs.declared.entry.Entry.{Entry}
use Rattle.vk_model.specs.declared.entry.Entry.TheVariants as entry
use Rattle.vk_model.specs.Basics.{among}
use Rattle.vk_model.specs.World.Bytes.{Byte, resource_at}
use Rattle.vk_model.specs.World.Effect.{written, reaches}
use Rattle.vk_model.specs.Trace.Objects.{is_cached}
use Rattle.vk_model.specs.Trace.Point.{Past}
use Rattle.vk_model.specs.Sync.Node.{Node}
use Rattle.vk_model.specs.Run.Caches.{Held, Dirty, Cell, queue_agent, written_back, dropped, loaded, forgotten}
use Rattle.vk_model.specs.Run.Runs.{Name, Stage, touched_by}
use Rattle.vk_model.specs.Run.CachedRuns.{Cells, makes_last_available, makes_byte_visible, after_node, happening, after_nodes, in_atoms, turned_over, after_atoms, in_all_caches, after_host_write, after_host}
use Rattle.vk_laws.specs.DirectRuns.{HostMemory, held_by_host, cells_of, memory_of}
use Rattle.vk_laws.proofs.CachedRunning.Touches.{held_elsewhere, Within, back_within, drop_within, forget_within, load_elsewhere}

-- ---- cells by their parts

pub same_cells : (one other : Cells) → ((c : Byte) → (one c).region ≡ (other c).region) → ((c : Byte) (a : ℕ) → (one c).held a ≡ (other c).held a) → one ≡ other
same_cells one other region held = λ i c. record { region = region c i; held = λ a. held c a i }

pub same_memory : (one other : HostMemory) → ((c : Byte) → one.region c ≡ other.region c) → ((c : Byte) → one.host c ≡ other.host c) → one ≡ other
same_memory one other region host = λ i. record { region = λ c. region c i; host = λ c. host c i }

-- what no queue's cache holds anything of is memory with the host's cache
abbrev pub Unheld : Cell → Type 0
Unheld cell = (q : ℕ) → cell.held (queue_agent q) ≡ None

pub as_memory : (cells : Cells) → ((c : Byte) → Unheld (cells c)) → cells ≡ cells_of (memory_of cells)
as_memory cells none = same_cells cells (cells_of (memory_of cells)) (λ c. refl) each
  where
    each : (c : Byte) (a : ℕ) → (cells c).held a ≡ held_by_host ((cells c).held 0) a
    each c zero = refl
    each c (suc q) = none c q

-- ---- what doesn't come of another agent's cache

-- what held nothing holds nothing of what is within it
pub none_within : {old new : Option Held} → Within old new → old ≡ None → new ≡ None
none_within {new = new} w e = go new refl
  where
    go : (h : Option Held) → new ≡ h → new ≡ None
    go None f = f
    go (Some g) f = let is = (w.some g f).1 in absurd cc

all_unheld : (change : ℕ → Cell → Cell) → ((a : ℕ) (cell : Cell) (b : ℕ) → Within (cell.held b) ((change a cell).held b)) → (cell : Cell) → Unheld cell → Unheld (in_all_caches change cell)
all_unheld change each cell none q =
    let one = change 0 cell in
    let two = change 1 one in
    let three = change 2 two in
    let four = change 3 three in
    let a = queue_agent q in
    none_within (each 4 four a) (none_within (each 3 three a) (none_within (each 2 two a) (none_within (each 1 one a) (none_within (each 0 cell a) (none q)))))

not_host : (q : ℕ) → queue_agent q ≡ 0 → ⊥
not_host q e = omega (arith, e)

pub atoms_unheld : (x : Entry) (atoms : List ℕ) (cells : Cells) (c : Byte) → Unheld (cells c) → Unheld (after_atoms x atoms cells c)
atoms_unheld x atoms cells c none = go (in_atoms (touched_by x) atoms c)
  where
    turned : (h : Option Held) → Unheld (elim h [ None ↦ loaded 0 (cells c) | Some g ↦ dropped 0 (written_back 0 (cells c)) ])
    turned None q = load_elsewhere 0 (cells c) (queue_agent q) (not_host q) ∙ none q
    turned (Some g) q = none_within (drop_within 0 (written_back 0 (cells c)) (queue_agent q)) (none_within (back_within 0 (cells c) (queue_agent q)) (none q))

    go : (b : Bool) → Unheld (if b then turned_over (cells c) else cells c)
    go true = turned ((cells c).held 0)
    go false = none

pub host_unheld : (past : Past) (moved : List ℕ) (x : Entry) (c : Byte) (cell : Cell) → Unheld cell → Unheld (after_host past moved x c cell)
host_unheld past moved (entry.Write b o bytes) c cell none = go (is_cached past b) (written b o bytes c)
  where
    go : (k : Bool) (v : Option ℕ) → Unheld (after_host_write k v cell)
    go true None = none
    go false None = none
    go true (Some v) = λ q. held_elsewhere 0 (Some (Dirty v)) cell (queue_agent q) (not_host q) ∙ none q
    go false (Some v) = none
host_unheld past moved (entry.Flush b o n) c cell none = go (is_cached past b && reaches b o n c)
  where
    go : (k : Bool) → Unheld (if k then written_back 0 cell else cell)
    go true = λ q. none_within (back_within 0 cell (queue_agent q)) (none q)
    go false = none
host_unheld past moved (entry.Invalidate b o n) c cell none = go (is_cached past b && reaches b o n c)
  where
    go : (k : Bool) → Unheld (if k then forgotten 0 cell else cell)
    go true = λ q. none_within (forget_within 0 cell (queue_agent q)) (none q)
    go false = none
host_unheld past moved (entry.Submit k bs) c cell none = λ q. none_within (drop_within (queue_agent k) cell (queue_agent q)) (none q)
host_unheld past moved (entry.Pass d) c cell none = go (among (resource_at c) moved)
  where
    go : (k : Bool) → Unheld (if k then in_all_caches written_back cell else cell)
    go true = all_unheld written_back back_within cell none
    go false = none
host_unheld past moved (entry.EndPass d kept lost) c cell none = go (among (resource_at c) moved)
  where
    go : (k : Bool) → Unheld (if k then in_all_caches dropped cell else cell)
    go true = all_unheld dropped drop_within cell none
    go false = none
host_unheld past moved x c cell none = none

-- ---- nodes that happen change nothing

node_still : (past : Past) (done : List Name) (n : Node) (m : HostMemory) → after_node past done n (cells_of m) ≡ cells_of m
node_still past done n m = λ i c. at c i
  where
    at : (c : Byte) → after_node past done n (cells_of m) c ≡ cells_of m c
    at c = go (makes_last_available past done n c) (makes_byte_visible past n c)
      where
        -- what isn't held is neither written back nor dropped
        go : (k j : Bool) → (let a = queue_agent n.point.queue in let back = if k then written_back a (cells_of m c) else cells_of m c in if j then dropped a back else back) ≡ cells_of m c
        go true true = refl
        go true false = refl
        go false true = refl
        go false false = refl

each_still : (past : Past) (done : List Name) (ns : List Node) (m : HostMemory) → fold (λ cs n. after_node past done n cs) (cells_of m) ns ≡ cells_of m
each_still past done [] m = refl
each_still past done (n ∷ ns) m = ap (λ (cs : Cells). fold (λ cs n. after_node past done n cs) cs ns) (node_still past done n m) ∙ each_still past done ns m

pub nodes_still : (s e : Stage) (m : HostMemory) → after_nodes s e (cells_of m) ≡ cells_of m
nodes_still s e m = each_still e.front.past e.done (happening s e) m
