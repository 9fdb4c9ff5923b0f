-- Two accesses of a byte anywhere in a trace without a fault are in order.
use Rattle.std.proofs.Common.{◌≡◌, ⊎_elim, ◌<◌, List, [], ◌∷◌, ◌++◌, Bool, true, false, ◌&&◌, not, IsTrue, None, refl, ap, sym, ◌∙◌, subst, arith}
use Rattle.std.specs.Prelude.{Contains}
use Rattle.std.proofs.lemmas.Bool.{lt-ltb}
use Rattle.std.proofs.lemmas.List.{append_assoc}
use Rattle.vk_model.specs.declared.command.Cmd.{Cmd}
use Rattle.vk_model.specs.World.Bytes.{Byte}
use Rattle.vk_model.specs.Trace.Point.{Past, Point}
use Rattle.vk_model.specs.World.ByteWrites.{byte_writes}
use Rattle.vk_model.specs.Sync.Node.{Node, Act, Hosts, Waits, Signals, Runs, Depends, nodes, acts}
use Rattle.vk_model.specs.Sync.Edge.{is_host}
use Rattle.vk_model.specs.Sync.Before.{before}
use Rattle.vk_model.specs.Sync.Seen.{Read, Write}
use Rattle.vk_model.specs.Sync.Access.{reads, writes, reads_of, writes_of, origins, targets, is_in, precedes}
use Rattle.vk_model.specs.Laws.{GrowthKeeps}
use Rattle.vk_model.specs.Rules.Table.{fault}
use Rattle.vk_laws.specs.Trace.{IsSeen, HasNoHazard, NoHazardLaw, SeenIsBefore, HostInOrder, CommandsStay, Meets, accesses}
use Rattle.vk_laws.proofs.Nodes.Prefixes.{is_old}
use Rattle.vk_laws.proofs.Nodes.Points.{AtPoint, at_point, action_of, comes_at, at_point_below}

module _ (stay : CommandsStay) (all : Past) (none : fault all ≡ None) (newer past : Past) (p : Point) (whole : all ≡ newer ++ p ∷ past) (x : Node) (cx : Contains (nodes (p ∷ past)) x) where
  -- a command's byte writes are those of the whole trace
  same_byte_writes : (c : Cmd) → x.act ≡ Runs c → byte_writes all c ≡ byte_writes (p ∷ past) c
  same_byte_writes c e =
      let s = at_point (p ∷ past) x cx in
      let action = action_of s.at.action c (subst (λ (a : Act). Contains (acts s.at.action) a) e s.acted) in
      let split : all ≡ newer ++ (s.newer ++ s.at ∷ s.past) = whole ∙ ap (λ (l : Past). newer ++ l) s.whole in
      let far : all ≡ (newer ++ s.newer) ++ s.at ∷ s.past = split ∙ sym (append_assoc newer s.newer (s.at ∷ s.past)) in
      let a = stay all newer s.newer s.past s.at c none split action in
      let b = stay all [] (newer ++ s.newer) s.past s.at c none far action in
      ap (λ (l : Past). byte_writes l c) far ∙ b ∙ sym a ∙ ap (λ (l : Past). byte_writes l c) (sym s.whole)

  same_reads : IsTrue (accesses x.act) → reads all x ≡ reads (p ∷ past) x
  same_reads h = go x.act refl h
    where
      go : (a : Act) → x.act ≡ a → IsTrue (accesses a) → reads_of all x.point.queue a ≡ reads_of (p ∷ past) x.point.queue a
      go (Hosts y) e h = refl
      go (Runs c) e h = ap origins (same_byte_writes c e)
      go (Waits s) e h = absurd cc
      go (Signals s) e h = absurd cc
      go (Depends r s) e h = absurd cc

  same_writes : IsTrue (accesses x.act) → writes all x ≡ writes (p ∷ past) x
  same_writes h = go x.act refl h
    where
      go : (a : Act) → x.act ≡ a → IsTrue (accesses a) → writes_of all x.point.queue a ≡ writes_of (p ∷ past) x.point.queue a
      go (Hosts y) e h = refl
      go (Runs c) e h = ap targets (same_byte_writes c e)
      go (Waits s) e h = absurd cc
      go (Signals s) e h = absurd cc
      go (Depends r s) e h = absurd cc

module _ (stay : CommandsStay) (hazards : NoHazardLaw) (visibilities : SeenIsBefore) (hosts : HostInOrder) (keeps : GrowthKeeps) (all : Past) (none : fault all ≡ None) (x y : Node)
    (cx : Contains (nodes all) x) (cy : Contains (nodes all) y) (lt : x.number < y.number) (ax : IsTrue (accesses x.act)) (ay : IsTrue (accesses y.act)) (b : Byte) where
  here : (s : AtPoint all y) → Contains (nodes (s.at ∷ s.past)) x
  here s =
      let low = at_point_below _ _ s in
      is_old keeps all s.newer (s.at ∷ s.past) s.whole x cx (omega (arith, low, lt))

  apart : IsTrue (not (is_host x.act && is_host y.act)) → IsTrue (precedes x y)
  apart h = rw (lt-ltb x.number y.number lt, h) refl

  -- the point of the later node, and what is judged there
  module _ (h : IsTrue (not (is_host x.act && is_host y.act))) where
    abbrev pub judged : AtPoint all y
    judged = at_point all y cy

    pub judged_has : Contains (nodes (judged.at ∷ judged.past)) x
    judged_has = here judged

    free : HasNoHazard all (judged.at ∷ judged.past) x y
    free = hazards all judged.past judged.at x y none (comes_at _ _ judged) judged_has judged.here judged.new (apart h)

    written_then : IsTrue (is_in b (writes all x)) → IsTrue (is_in b (writes (judged.at ∷ judged.past) x))
    written_then m = subst (λ (l : List Byte). IsTrue (is_in b l)) (same_writes stay all none judged.newer judged.past judged.at judged.whole x judged_has ax) m

    pub read_is_seen : IsTrue (is_in b (writes all x)) → Contains (reads all y) b → IsSeen all (judged.at ∷ judged.past) x y Read b
    read_is_seen m c = free.read_after b (written_then m) (subst (λ (l : List Byte). Contains l b) (same_reads stay all none judged.newer judged.past judged.at judged.whole y judged.here ay) c)

    pub write_is_seen : IsTrue (is_in b (writes all x)) → Contains (writes all y) b → IsSeen all (judged.at ∷ judged.past) x y Write b
    write_is_seen m c = free.written_after b (written_then m) (subst (λ (l : List Byte). Contains l b) (same_writes stay all none judged.newer judged.past judged.at judged.whole y judged.here ay) c)

    by_hazards : Meets all x y b → IsTrue (before (nodes all) x y)
    by_hazards meet =
        let xr = same_reads stay all none judged.newer judged.past judged.at judged.whole x judged_has ax in
        let yw = same_writes stay all none judged.newer judged.past judged.at judged.whole y judged.here ay in
        ⊎_elim
        (λ m. visibilities all _ x y Read b cx cy lt (read_is_seen m.0 m.1))
        (λ rest. ⊎_elim
        (λ m. free.read_first b (subst (λ (l : List Byte). IsTrue (is_in b l)) yw m.1) (subst (λ (l : List Byte). Contains l b) xr m.0))
        (λ m. visibilities all _ x y Write b cx cy lt (write_is_seen m.0 m.1))
        rest)
        meet

  pub in_order : Meets all x y b → IsTrue (before (nodes all) x y)
  in_order meet = go (is_host x.act) (is_host y.act) refl refl
    where
      go : (g h : Bool) → is_host x.act ≡ g → is_host y.act ≡ h → IsTrue (before (nodes all) x y)
      go true true e f = hosts all x y cx cy e f lt
      go true false e f = by_hazards (rw (e, f) refl) meet
      go false h e f = by_hazards (rw e refl) meet
