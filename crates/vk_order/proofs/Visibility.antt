-- An access that sees a later write sees an earlier one.
use Rattle.std.proofs.Common.{◌≡◌, ⊎_elim, ◌<◌, List, Bool, true, false, ◌&&◌, ◌||◌, not, IsTrue, refl, ap, sym, ◌∙◌, subst}
use Rattle.std.specs.Prelude.{Contains}
use Rattle.std.proofs.lemmas.Bool.{and_parts, and_from, or_left, or_right, or_cases, eqb-true}
use Rattle.vk_model.specs.declared.command.Cmd.{Cmd}
use Rattle.vk_model.specs.World.Bytes.{Byte}
use Rattle.vk_model.specs.Sync.Node.{Node, Act, Hosts, Waits, Signals, Runs, Depends, same_node}
use Rattle.vk_model.specs.Sync.Edge.{edge, is_host, is_submit}
use Rattle.vk_model.specs.Sync.Before.{before, direct, IsNumbered}
use Rattle.vk_model.specs.Sync.Seen.{Access, seen, available_by, visible_by, passes, flushes, makes_writes_visible, command_mask, is_wait}
use Rattle.vk_model.proofs.Lists.Members.{some_member, member_passes}
use Rattle.vk_model.proofs.Lists.Truths.{no}
use Rattle.vk_model.proofs.Sync.Numbers.{unique}
use Rattle.vk_model.proofs.Sync.Paths.{path_of_before, before_of_path, joined}
use Rattle.vk_order.proofs.LinePrefixes.{command_edges, host_edge}

-- ---- orders

module _ (ns : List Node) (numbers : IsNumbered ns) where
  -- the same node, or before it
  abbrev Reaches : Node → Node → Type 0
  Reaches m n = IsTrue (same_node m n || before ns m n)

  pub transitive : (l m n : Node) → Contains ns l → Contains ns m → Contains ns n → IsTrue (before ns l m) → IsTrue (before ns m n) → IsTrue (before ns l n)
  transitive l m n hl hm hn a b = before_of_path ns numbers l n hl hn (joined ns l m n (path_of_before ns numbers l m hl hm a) (path_of_before ns numbers m n hm hn b))

  same : (m n : Node) → Contains ns m → Contains ns n → IsTrue (same_node m n) → m ≡ n
  same m n hm hn h = unique ns numbers m n hm hn (eqb-true m.number n.number h)

  reaches_join : (l m n : Node) → Contains ns l → Contains ns m → Contains ns n → Reaches l m → Reaches m n → Reaches l n
  reaches_join l m n hl hm hn a b = ⊎_elim
      (λ e. subst (λ (x : Node). Reaches x n) (sym (same l m hl hm e)) b)
      (λ p. ⊎_elim
      (λ e. subst (λ (x : Node). Reaches l x) (same m n hm hn e) a)
      (λ q. or_right (same_node l n) (before ns l n) (transitive l m n hl hm hn p q))
      (or_cases (same_node m n) (before ns m n) b))
      (or_cases (same_node l m) (before ns l m) a)

  edge_reaches : (m n : Node) → Contains ns m → Contains ns n → IsTrue (edge ns m n) → Reaches m n
  edge_reaches m n hm hn e = or_right (same_node m n) (before ns m n) (before_of_path ns numbers m n hm hn (direct hm hn e))

-- ---- visibility, in parts

-- A node that makes a write available, and one that makes it visible.
pub record SeenBy (cached : Byte → Bool) (ns : List Node) (w a : Node) (k : Access) (b : Byte) : Type 0 where
  pub p : Node
  pub q : Node
  pub has_p : Contains ns p
  pub has_q : Contains ns q
  pub available : IsTrue (available_by cached ns w w.act b p)
  pub between : IsTrue (same_node p q || before ns p q)
  pub visible : IsTrue (visible_by cached ns w a a.act k b q)
  pub reached : IsTrue (same_node q a || before ns q a)

pub parts_of : (cached : Byte → Bool) (ns : List Node) (w a : Node) (k : Access) (b : Byte) → IsTrue (seen cached ns w a k b) → SeenBy cached ns w a k b
unfolding seen
parts_of cached ns w a k b h =
    let p = some_member _ ns h in
    let one = and_parts _ _ p.2 in
    let q = some_member _ ns one.1 in
    let two = and_parts _ _ q.2 in
    let three = and_parts _ _ two.0 in
    record { p = p.0; q = q.0; has_p = p.1; has_q = q.1; available = one.0; between = three.0; visible = three.1; reached = two.1 }

pub seen_by : (cached : Byte → Bool) (ns : List Node) (w a : Node) (k : Access) (b : Byte) → SeenBy cached ns w a k b → IsTrue (seen cached ns w a k b)
unfolding seen
seen_by cached ns w a k b s =
    member_passes _ ns s.p s.has_p (and_from _ _ s.available (member_passes _ ns s.q s.has_q (and_from _ _ (and_from _ _ s.between s.visible) s.reached)))

-- ---- what makes visible doesn't look at the write, but for submits and host writes

visible_same : (cached : Byte → Bool) (ns : List Node) (v w a q : Node) (act : Act) (k : Access) (b : Byte) → (IsTrue (is_host v.act) → IsTrue (is_host w.act))
    → IsTrue (visible_by cached ns v a act k b q) → IsTrue (visible_by cached ns w a act k b q)
visible_same cached ns v w a q (Runs c) k b imp h = more (edge ns q a) (makes_writes_visible cached ns (command_mask k) b q q.act) (is_wait q.act) (is_host v.act) (is_host w.act) (is_submit q.act) imp h
  where
    more : (e r s x y z : Bool) → (x ≡ true → y ≡ true) → (e && (r || s || x && z)) ≡ true → (e && (r || s || y && z)) ≡ true
    more false r s x y z imp h = h
    more true true s x y z imp h = refl
    more true false true x y z imp h = refl
    more true false false true y z imp h = rw (imp refl) h
    more true false false false y z imp h = no h
visible_same cached ns v w a q (Depends r e) k b imp h = h
visible_same cached ns v w a q (Hosts x) k b imp h = h
visible_same cached ns v w a q (Waits s) k b imp h = h
visible_same cached ns v w a q (Signals s) k b imp h = h

-- ---- the laws

pub commands_seen : (ns : List Node) (cached : Byte → Bool) (c d a : Node) (x y : Cmd) (k : Access) (b : Byte) → c.act ≡ Runs x → d.act ≡ Runs y → c.point.queue ≡ d.point.queue → c.number < d.number
    → IsTrue (seen cached ns d a k b) → IsTrue (seen cached ns c a k b)
commands_seen ns cached c d a x y k b ec ed q lt h =
    let s = parts_of cached ns d a k b h in
    let parts = and_parts _ _ (ap (λ (t : Act). available_by cached ns d t b s.p) (sym ed) ∙ s.available) in
    let first : IsTrue (available_by cached ns c (Runs x) b s.p) = and_from _ _ (command_edges ns c d lt x y ec ed q s.p parts.0) parts.1 in
    seen_by cached ns c a k b (record {
      p = s.p;
      q = s.q;
      has_p = s.has_p;
      has_q = s.has_q;
      between = s.between;
      reached = s.reached;
      available = ap (λ (t : Act). available_by cached ns c t b s.p) ec ∙ first;
      visible = visible_same cached ns d c a s.q a.act k b (λ is. no (ap is_host (sym ed) ∙ is)) s.visible;
    })

module _ (ns : List Node) (cached : Byte → Bool) (numbers : IsNumbered ns) where
  available_reaches : (w p : Node) (act : Act) (b : Byte) → Contains ns w → Contains ns p → IsTrue (available_by cached ns w act b p) → Reaches ns numbers w p
  available_reaches w p (Runs c) b hw hp h = edge_reaches ns numbers w p hw hp (and_parts _ _ h).0
  available_reaches w p (Depends r e) b hw hp h = or_left (same_node w p) (before ns w p) h
  available_reaches w p (Hosts x) b hw hp h = or_right (same_node w p) (before ns w p) (and_parts _ _ (and_parts _ _ h).0).1
  available_reaches w p (Waits s) b hw hp h = no h
  available_reaches w p (Signals s) b hw hp h = no h

  pub seen_through : (w v a : Node) (j k : Access) (b : Byte) → Contains ns w → Contains ns v → is_host v.act ≡ false
      → IsTrue (seen cached ns w v j b) → IsTrue (seen cached ns v a k b) → IsTrue (seen cached ns w a k b)
  seen_through w v a j k b hw hv device first second =
      let s = parts_of cached ns w v j b first in
      let t = parts_of cached ns v a k b second in
      let to_v = reaches_join ns numbers s.p s.q v s.has_p s.has_q hv s.between s.reached in
      let to_p = reaches_join ns numbers s.p v t.p s.has_p hv t.has_p to_v (available_reaches v t.p v.act b hv t.has_p t.available) in
      seen_by cached ns w a k b (record {
        p = s.p;
        q = t.q;
        has_p = s.has_p;
        has_q = t.has_q;
        available = s.available;
        between = reaches_join ns numbers s.p t.p t.q s.has_p t.has_p t.has_q to_p t.between;
        visible = visible_same cached ns v w a t.q a.act k b (λ is. no (sym device ∙ is)) t.visible;
        reached = t.reached;
      })

  pub host_seen : (c d a : Node) (k : Access) (b : Byte) → Contains ns c → Contains ns d → IsTrue (is_host c.act) → IsTrue (is_host d.act) → c.number < d.number
      → IsTrue (seen cached ns d a k b) → IsTrue (seen cached ns c a k b)
  host_seen c d a k b hc hd ic id lt h =
      let s = parts_of cached ns d a k b h in
      seen_by cached ns c a k b (record {
        p = s.p;
        q = s.q;
        has_p = s.has_p;
        has_q = s.has_q;
        between = s.between;
        reached = s.reached;
        available = earlier_available s.p s.has_p c.act d.act ic id s.available;
        visible = visible_same cached ns d c a s.q a.act k b (λ is. ic) s.visible;
      })
    where
      on : (n : Node) → Contains ns n → IsTrue (before ns d n) → IsTrue (before ns c n)
      on n hn e = transitive ns numbers c d n hc hd hn (before_of_path ns numbers c d hc hd (direct hc hd (host_edge ns c d lt ic id))) e

      pass_on : (test : Act → Bool) (p : Node) → IsTrue (passes cached ns test d p) → IsTrue (passes cached ns test c p)
      pass_on test p h =
          let f = some_member _ ns h in
          let parts = and_parts _ _ f.2 in
          let more = and_parts _ _ parts.0 in
          member_passes _ ns f.0 f.1 (and_from _ _ (and_from _ _ more.0 (on f.0 f.1 more.1)) parts.1)

      earlier_available : (p : Node) → Contains ns p → (ac ad : Act) → IsTrue (is_host ac) → IsTrue (is_host ad) → IsTrue (available_by cached ns d ad b p) → IsTrue (available_by cached ns c ac b p)
      earlier_available p hp (Hosts x) (Hosts y) ix iy h =
          let parts = and_parts (is_submit p.act && before ns d p) (not (cached b) || passes cached ns (λ f. flushes f b) d p) h in
          let front = and_parts (is_submit p.act) (before ns d p) parts.0 in
          and_from (is_submit p.act && before ns c p) (not (cached b) || passes cached ns (λ f. flushes f b) c p)
          (and_from (is_submit p.act) (before ns c p) front.0 (on p hp front.1))
          (⊎_elim
          (λ e. or_left (not (cached b)) (passes cached ns (λ f. flushes f b) c p) e)
          (λ e. or_right (not (cached b)) (passes cached ns (λ f. flushes f b) c p) (pass_on (λ f. flushes f b) p e))
          (or_cases (not (cached b)) (passes cached ns (λ f. flushes f b) d p) parts.1))
      earlier_available p hp (Waits s) ad ix iy h = no ix
      earlier_available p hp (Signals s) ad ix iy h = no ix
      earlier_available p hp (Runs s) ad ix iy h = no ix
      earlier_available p hp (Depends r e) ad ix iy h = no ix
      earlier_available p hp (Hosts x) (Waits s) ix iy h = no iy
      earlier_available p hp (Hosts x) (Signals s) ix iy h = no iy
      earlier_available p hp (Hosts x) (Runs s) ix iy h = no iy
      earlier_available p hp (Hosts x) (Depends r e) ix iy h = no iy
