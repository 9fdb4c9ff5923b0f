-- Where memory is behind, through a run.
use Rattle.std.proofs.Common.{◌≡◌, ℕ, ◌<◌, List, [], ◌∷◌, Bool, true, false, ◌&&◌, not, Option, Some, None, refl, ap, sym, ◌∙◌, subst}
use Rattle.std.specs.Prelude.{◌==◌, is_some, if◌then◌else◌}
use Rattle.std.specs.List.{find, fold}
use Rattle.vk_model.specs.declared.entry.Entry.{Entry}
use Rattle.vk_model.specs.declared.entry.Entry.TheVariants as entry
use Rattle.vk_model.specs.Basics.{among, holds}
use Rattle.vk_model.specs.Trace.Point.{Past, entries}
use Rattle.vk_model.specs.Trace.Objects.{made_by}
use Rattle.vk_model.specs.World.Bytes.{Byte, resource_at}
use Rattle.vk_model.specs.World.ByteWrites.{ByteWrite}
use Rattle.vk_model.specs.Sync.Node.{Node}
use Rattle.vk_model.specs.Run.Runs.{Name, Stage, applied}
use Rattle.vk_model.specs.Run.CachedRuns.{write_to, happening, Touch, WriteBack, Drop, Load}
use Rattle.vk_model.proofs.Trace.Growing.{entries_after}
use Rattle.vk_laws.specs.DirectRuns.{HostMemory, is_made}
use Rattle.vk_laws.specs.WriteBacks.{frees_byte, is_overtaken}
use Rattle.vk_cache_laws.specs.InPlace.{Behind, Lag, IsOfQueues, caught_up, lag_after_write, lag_after_piece, lag_after_node, lag_after_nodes, lag_after_entry, lag_after_touch}

-- ---- memory catches up

-- what isn't behind stays so, and what is behind stays behind by the same queue
caught_less : (q : ℕ) (passes : Bool) (behind : Option Behind) (b : Behind) → caught_up q passes behind ≡ Some b → behind ≡ Some b
caught_less q passes None b e = e
caught_less q passes (Some d) b e = go (passes && d.queue == q) e
  where
    go : (same : Bool) → (if same then None else Some d) ≡ Some b → Some d ≡ Some b
    go true f = absurd cc
    go false f = f

caught_none : (q : ℕ) (passes : Bool) (behind : Option Behind) → behind ≡ None → caught_up q passes behind ≡ None
caught_none q passes None e = refl
caught_none q passes (Some d) e = absurd cc

module _ (past : Past) (done : List Name) where
  nodes_less : (ns : List Node) (lag : Lag) (c : Byte) (b : Behind) → fold (λ l n. lag_after_node past done n l) lag ns c ≡ Some b → lag c ≡ Some b
  nodes_less [] lag c b e = e
  nodes_less (n ∷ ns) lag c b e = caught_less n.point.queue (frees_byte past n c && not (is_overtaken past done n c)) (lag c) b (nodes_less ns (lag_after_node past done n lag) c b e)

  nodes_none : (ns : List Node) (lag : Lag) (c : Byte) → lag c ≡ None → fold (λ l n. lag_after_node past done n l) lag ns c ≡ None
  nodes_none [] lag c e = e
  nodes_none (n ∷ ns) lag c e = nodes_none ns (lag_after_node past done n lag) c (caught_none n.point.queue (frees_byte past n c && not (is_overtaken past done n c)) (lag c) e)

pub after_nodes_none : (s e : Stage) (lag : Lag) (c : Byte) → lag c ≡ None → lag_after_nodes s e lag c ≡ None
after_nodes_none s e lag c none = nodes_none e.front.past e.done (happening s e) lag c none

pub after_nodes_queues : (s e : Stage) (lag : Lag) → IsOfQueues lag → IsOfQueues (lag_after_nodes s e lag)
after_nodes_queues s e lag small c b is = small c b (nodes_less e.front.past e.done (happening s e) lag c b is)

-- ---- pieces, entries, touches

pub after_piece_queues : (q : ℕ) (ms : List ByteWrite) (m : HostMemory) (lag : Lag) → q < 4 → IsOfQueues lag → IsOfQueues (lag_after_piece q ms m lag)
after_piece_queues q ms m lag lt small c b is = go (write_to c ms) is
  where
    go : (o : Option ByteWrite) → lag_after_write q (m.region c) o (lag c) ≡ Some b → b.queue < 4
    go None e = small c b e
    go (Some w) e = (let mine : Behind = record { queue = q; value = m.region c } in let it : mine ≡ b = cc in subst (λ (x : Behind). x.queue < 4) it lt)

pub after_piece_none : (q : ℕ) (ms : List ByteWrite) (m : HostMemory) (lag : Lag) (c : Byte) → ((w : ByteWrite) → write_to c ms ≡ Some w → ⊥) → lag c ≡ None → lag_after_piece q ms m lag c ≡ None
after_piece_none q ms m lag c none is = go (write_to c ms) refl
  where
    go : (o : Option ByteWrite) → write_to c ms ≡ o → lag_after_write q (m.region c) o (lag c) ≡ None
    go None e = is
    go (Some w) e = absurd (none w e)

pub after_entry_queues : (moved : List ℕ) (x : Entry) (lag : Lag) → IsOfQueues lag → IsOfQueues (lag_after_entry moved x lag)
after_entry_queues moved (entry.Pass d) lag small c b is = go (among (resource_at c) moved) is
  where
    go : (test : Bool) → (if test then None else lag c) ≡ Some b → b.queue < 4
    go true e = absurd cc
    go false e = small c b e
after_entry_queues moved x lag small c b is = small c b is

pub after_entry_none : (moved : List ℕ) (x : Entry) (lag : Lag) (c : Byte) → lag c ≡ None → lag_after_entry moved x lag c ≡ None
after_entry_none moved (entry.Pass d) lag c is = go (among (resource_at c) moved)
  where
    go : (test : Bool) → (if test then None else lag c) ≡ None
    go true = refl
    go false = is
after_entry_none moved x lag c is = is

pub after_touch_queues : (touch : Touch) (q : ℕ) (test : Byte → Bool) (lag : Lag) → IsOfQueues lag → IsOfQueues (lag_after_touch touch q test lag)
after_touch_queues WriteBack q test lag small c b is = small c b (caught_less q (test c) (lag c) b is)
after_touch_queues Drop q test lag small c b is = small c b is
after_touch_queues Load q test lag small c b is = small c b is

pub after_touch_none : (touch : Touch) (q : ℕ) (test : Byte → Bool) (lag : Lag) (c : Byte) → lag c ≡ None → lag_after_touch touch q test lag c ≡ None
after_touch_none WriteBack q test lag c is = caught_none q (test c) (lag c) is
after_touch_none Drop q test lag c is = is
after_touch_none Load q test lag c is = is

-- ---- what was made

with_front : (s : Stage) (parts : ℕ) (x : Entry) (xs : List Entry) → entries (applied s parts x xs).front.past ≡ x ∷ entries s.front.past
with_front s parts (entry.Pass d) xs = entries_after s.count (entry.Pass d) s.front
with_front s parts (entry.EndPass d kept lost) xs = entries_after s.count (entry.EndPass d kept lost) s.front
with_front s parts x xs = entries_after s.count x s.front

-- what isn't made after an entry wasn't before
pub made_less : (s : Stage) (parts : ℕ) (x : Entry) (xs : List Entry) (c : Byte) → is_made (applied s parts x xs).front.past c ≡ false → is_made s.front.past c ≡ false
made_less s parts x xs c none = go (holds (made_by x) (λ j. resource_at c == j)) (sym (ap (λ (ys : List Entry). is_some (find (λ y. holds (made_by y) (λ j. resource_at c == j)) ys)) (with_front s parts x xs)) ∙ none)
  where
    go : (b : Bool) → is_some (if b then Some x else find (λ y. holds (made_by y) (λ j. resource_at c == j)) (entries s.front.past)) ≡ false → is_made s.front.past c ≡ false
    go true e = absurd cc
    go false e = e
