-- By which bytes memory is behind, through a run.
use Rattle.std.proofs.Common.{◌≡◌, ℕ, ◌<◌, List, [], ◌∷◌, Bool, true, false, ◌&&◌, Option, Some, None, refl, ap, subst}
use Rattle.std.specs.Prelude.{◌==◌, if◌then◌else◌}
use Rattle.std.specs.List.{fold}
use Rattle.vk_model.specs.declared.entry.Entry.{Entry}
use Rattle.vk_model.specs.declared.entry.Entry.TheVariants as entry
use Rattle.vk_model.specs.Basics.{among}
use Rattle.vk_model.specs.Trace.Point.{Past}
use Rattle.vk_model.specs.Sync.Node.{Node}
use Rattle.vk_model.specs.World.Bytes.{Byte, resource_at}
use Rattle.vk_model.specs.World.ByteWrites.{ByteWrite}
use Rattle.vk_model.specs.Run.CachedRuns.{write_to, Touch, WriteBack, Drop, Load}
use Rattle.vk_laws.specs.DirectRuns.{HostMemory}
use Rattle.vk_laws.specs.WriteBacks.{frees_byte}
use Rattle.vk_cache_laws.specs.InPlace.{Behind, IsOfQueues, caught_up, lag_after_write, lag_after_piece, lag_after_entry, lag_after_touch}
use Rattle.vk_cache_laws.specs.LateRuns.{LateByte, Late, behind_of, lag_of, caught_by, caught_all, late_after_write, late_after_piece, late_after_node, late_after_entry, late_after_touch}

-- ---- with the command, and without it

pub to_queues : (late : Late) → ((c : Byte) (l : LateByte) → late c ≡ Some l → l.queue < 4) → IsOfQueues (lag_of late)
to_queues late small c b is = go (late c) refl is
  where
    go : (o : Option LateByte) → late c ≡ o → behind_of o ≡ Some b → b.queue < 4
    go None e f = absurd cc
    go (Some l) e f = let mine : Behind = record { queue = l.queue; value = l.value } in let it : mine ≡ b = cc in subst (λ (x : Behind). x.queue < 4) it (small c l e)

pub from_queues : (late : Late) → IsOfQueues (lag_of late) → (c : Byte) (l : LateByte) → late c ≡ Some l → l.queue < 4
from_queues late small c l is = small c (record { queue = l.queue; value = l.value }) (ap behind_of is)

pub from_none : (o : Option LateByte) → behind_of o ≡ None → o ≡ None
from_none None e = refl
from_none (Some l) e = absurd cc

-- ---- a piece

pub piece_lag : (n : Node) (ms : List ByteWrite) (m : HostMemory) (late : Late) (c : Byte) → lag_after_piece n.point.queue ms m (lag_of late) c ≡ lag_of (late_after_piece n ms m late) c
piece_lag n ms m late c = go (write_to c ms)
  where
    go : (o : Option ByteWrite) → lag_after_write n.point.queue (m.region c) o (behind_of (late c)) ≡ behind_of (late_after_write n (m.region c) o (late c))
    go None = refl
    go (Some w) = refl

pub piece_queues : (n : Node) (ms : List ByteWrite) (m : HostMemory) (late : Late) → n.point.queue < 4 → ((c : Byte) (l : LateByte) → late c ≡ Some l → l.queue < 4) → (c : Byte) (l : LateByte) → late_after_piece n ms m late c ≡ Some l → l.queue < 4
piece_queues n ms m late lt small c l is = go (write_to c ms) is
  where
    go : (o : Option ByteWrite) → late_after_write n (m.region c) o (late c) ≡ Some l → l.queue < 4
    go None e = small c l e
    go (Some w) e = let mine : LateByte = record { queue = n.point.queue; node = n.number; value = m.region c } in let it : mine ≡ l = cc in subst (λ (x : LateByte). x.queue < 4) it lt

pub piece_none : (n : Node) (ms : List ByteWrite) (m : HostMemory) (late : Late) (c : Byte) → ((w : ByteWrite) → write_to c ms ≡ Some w → ⊥) → late c ≡ None → late_after_piece n ms m late c ≡ None
piece_none n ms m late c none is = go (write_to c ms) refl
  where
    go : (o : Option ByteWrite) → write_to c ms ≡ o → late_after_write n (m.region c) o (late c) ≡ None
    go None e = is
    go (Some w) e = absurd (none w e)

-- ---- dependencies, waits and signals

caught_none : (n : Node) (frees : Bool) (o : Option LateByte) → o ≡ None → caught_by n frees o ≡ None
caught_none n frees None e = refl
caught_none n frees (Some l) e = absurd cc

pub nodes_none : (past : Past) (ns : List Node) (late : Late) (c : Byte) → late c ≡ None → fold (λ l n. late_after_node past n l) late ns c ≡ None
nodes_none past [] late c e = e
nodes_none past (n ∷ ns) late c e = nodes_none past ns (late_after_node past n late) c (caught_none n (frees_byte past n c) (late c) e)

-- ---- an entry

pub entry_lag : (moved : List ℕ) (x : Entry) (late : Late) (c : Byte) → lag_after_entry moved x (lag_of late) c ≡ lag_of (late_after_entry moved x late) c
entry_lag moved (entry.Pass d) late c = go (among (resource_at c) moved)
  where
    go : (b : Bool) → (if b then None else behind_of (late c)) ≡ behind_of (if b then None else late c)
    go true = refl
    go false = refl
entry_lag moved x late c = refl

pub entry_less : (moved : List ℕ) (x : Entry) (late : Late) (c : Byte) (l : LateByte) → late_after_entry moved x late c ≡ Some l → late c ≡ Some l
entry_less moved (entry.Pass d) late c l is = go (among (resource_at c) moved) is
  where
    go : (b : Bool) → (if b then None else late c) ≡ Some l → late c ≡ Some l
    go true e = absurd cc
    go false e = e
entry_less moved x late c l is = is

pub entry_none : (moved : List ℕ) (x : Entry) (late : Late) (c : Byte) → late c ≡ None → late_after_entry moved x late c ≡ None
entry_none moved (entry.Pass d) late c is = go (among (resource_at c) moved)
  where
    go : (b : Bool) → (if b then None else late c) ≡ None
    go true = refl
    go false = is
entry_none moved x late c is = is

-- ---- a touch

all_lag : (q : ℕ) (test : Bool) (o : Option LateByte) → caught_up q test (behind_of o) ≡ behind_of (caught_all q test o)
all_lag q test None = refl
all_lag q test (Some l) = go (test && l.queue == q)
  where
    go : (b : Bool) → (if b then None else behind_of (Some l)) ≡ behind_of (if b then None else Some l)
    go true = refl
    go false = refl

all_less : (q : ℕ) (test : Bool) (o : Option LateByte) (l : LateByte) → caught_all q test o ≡ Some l → o ≡ Some l
all_less q test None l e = e
all_less q test (Some k) l e = go (test && k.queue == q) e
  where
    go : (b : Bool) → (if b then None else Some k) ≡ Some l → Some k ≡ Some l
    go true e = absurd cc
    go false e = e

pub touch_lag : (touch : Touch) (q : ℕ) (test : Byte → Bool) (late : Late) (c : Byte) → lag_after_touch touch q test (lag_of late) c ≡ lag_of (late_after_touch touch q test late) c
touch_lag WriteBack q test late c = all_lag q (test c) (late c)
touch_lag Drop q test late c = refl
touch_lag Load q test late c = refl

pub touch_less : (touch : Touch) (q : ℕ) (test : Byte → Bool) (late : Late) (c : Byte) (l : LateByte) → late_after_touch touch q test late c ≡ Some l → late c ≡ Some l
touch_less WriteBack q test late c l e = all_less q (test c) (late c) l e
touch_less Drop q test late c l e = e
touch_less Load q test late c l e = e
