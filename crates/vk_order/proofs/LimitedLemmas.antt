-- What is seen through dependencies on parts of memory.
use Rattle.std.proofs.Common.{◌≡◌, ◌⊎◌, inl, inr, ⊎_elim, ℕ, List, ◌∷◌, Bool, true, false, not, ◌&&◌, ◌||◌, IsTrue, refl, ap, sym, ◌∙◌, subst}
use Rattle.std.specs.Prelude.{Contains}
use Rattle.std.proofs.lemmas.Bool.{and_parts, and_from, or_left, or_right, or_cases, eqb-true, eq-eqb}
use Rattle.vk_model.specs.declared.command.Cmd.{Cmd}
use Rattle.vk_model.specs.declared.entry.Entry.{Entry}
use Rattle.vk_model.specs.declared.command.Element.{Element}
use Rattle.vk_model.specs.World.Bytes.{Byte}
use Rattle.vk_model.specs.Sync.Node.{Node, Act, Role, Hosts, Waits, Signals, Runs, Depends, same_node}
use Rattle.vk_model.specs.Sync.Edge.{edge, is_host, is_submit, is_command, is_element}
use Rattle.vk_model.specs.Sync.Before.{before, direct, IsNumbered}
use Rattle.vk_model.specs.Sync.Seen.{Access, seen, makes_writes_available, makes_writes_visible, available_by, visible_by, command_mask, host_mask, needs_invalidation, passes, to_host, is_wait, flushes, invalidates}
use Rattle.vk_model.proofs.Lists.Members.{contains-head, contains-tail}
use Rattle.vk_model.proofs.Lists.Truths.{no}
use Rattle.vk_model.proofs.Sync.Numbers.{unique, edge-new}
use Rattle.vk_model.proofs.Sync.Paths.{before_of_path}
use Rattle.vk_order.specs.Wide.{is_wide}
use Rattle.vk_order.specs.Limited.{is_limited, IsMark, Reaches, IsWrite, SeenByCommand, SeenByHost, SeenByTransition}
use Rattle.vk_order.specs.Inner.Rows.{makes_all_available, makes_available, shows, Visible, OnHost, IsAvailable, IsKnown, KnowsOne}
use Rattle.vk_order.proofs.ByEdges.{by_last, by_edge}
use Rattle.vk_order.proofs.KnownRows.{older_of, old_edge, heard_old, heard_new, unmade}
use Rattle.vk_order.proofs.NewNodeLemmas.{available_wide, makes_visible_each, made_visible_wide, on_host_each, on_host_wide, made_each}
use Rattle.vk_order.proofs.Visibility.{parts_of, seen_by}

-- ---- acts

pub limited_element : (a : Act) → is_limited a ≡ true → is_element a ≡ true
limited_element (Depends r e) h = refl
limited_element (Hosts x) h = no h
limited_element (Waits s) h = no h
limited_element (Signals s) h = no h
limited_element (Runs c) h = no h

limited_device : (a : Act) → is_limited a ≡ true → is_host a ≡ false
limited_device (Depends r e) h = refl
limited_device (Hosts x) h = no h
limited_device (Waits s) h = no h
limited_device (Signals s) h = no h
limited_device (Runs c) h = no h

command_device : (a : Act) → is_command a ≡ true → is_host a ≡ false
command_device (Runs c) h = refl
command_device (Hosts x) h = no h
command_device (Waits s) h = no h
command_device (Signals s) h = no h
command_device (Depends r e) h = no h

-- a dependency makes visible by its masks alone
visible_of_part : (cached : Byte → Bool) (ns : List Node) (mask : ℕ) (b : Byte) (q : Node) (z : Bool) (a : Act) → is_limited a ≡ true → (makes_writes_visible cached ns mask b q a || is_wait a || z && is_submit a) ≡ true → makes_writes_visible cached ns mask b q a ≡ true
visible_of_part cached ns mask b q z (Depends r e) lim h = three (makes_writes_visible cached ns mask b q (Depends r e)) z h
  where
    three : (x z : Bool) → (x || false || z && false) ≡ true → x ≡ true
    three true z h = refl
    three false true h = h
    three false false h = h
visible_of_part cached ns mask b q z (Hosts x) lim h = no lim
visible_of_part cached ns mask b q z (Waits s) lim h = no lim
visible_of_part cached ns mask b q z (Signals s) lim h = no lim
visible_of_part cached ns mask b q z (Runs c) lim h = no lim

-- ---- marks

mark_host : (cached : Byte → Bool) (ns : List Node) (b : Byte) (w m : Node) → IsMark cached ns b w m → is_host m.act ≡ is_host w.act
mark_host cached ns b w m (inl e) = ap (λ (x : Node). is_host x.act) e
mark_host cached ns b w m (inr (command, there, lim, makes, e)) = limited_device m.act lim ∙ sym (command_device w.act command)

module _ (ns : List Node) (numbers : IsNumbered ns) (cached : Byte → Bool) (w : Node) (b : Byte) (is_write : IsWrite cached ns w b) where
  -- a write that is made available reaches a node by one of its marks
  pub arrive : (p q : Node) → Contains ns p → Contains ns q → IsTrue (available_by cached ns w w.act b p) → IsTrue (same_node p q || before ns p q) → (m : Node) × IsMark cached ns b w m × Reaches ns m q
  arrive p q hp hq available between = go w.act refl available
    where
      way : (p ≡ q) ⊎ IsTrue (before ns p q)
      way = ⊎_elim (λ e. inl (unique ns numbers p q hp hq (eqb-true p.number q.number e))) (λ h. inr h) (or_cases (same_node p q) (before ns p q) between)

      by_command : (c : Cmd) → w.act ≡ Runs c → IsTrue (edge ns w p) → IsTrue (makes_writes_available cached ns p b p.act) → (t : Bool) → is_wide p.act ≡ t → (m : Node) × IsMark cached ns b w m × Reaches ns m q
      by_command c is e makes true wide =
          (w, inl refl, inl (inl (p, hp, subst (λ (a : Act). IsTrue (makes_available ns w a p)) (sym is) (and_from (edge ns w p) (makes_all_available p.act) e (available_wide cached ns p b p.act wide makes)), way)))
      by_command c is e makes false wide =
          let lim : is_limited p.act ≡ true = ap not wide in
          (p, inr (ap is_command is, hp, lim, makes, e), ⊎_elim (λ same. inr (same, lim)) (λ h. inl (inr (limited_element p.act lim, h))) way)

      itself : (r : Role) (e : Element) → w.act ≡ Depends r e → w ≡ p → ((p ≡ q) ⊎ IsTrue (before ns p q)) → (m : Node) × IsMark cached ns b w m × Reaches ns m q
      itself r e is same (inl here) = (w, inl refl, inr (same ∙ here, ap not (sym (ap (λ (a : Act). is_element a && is_wide w.act) is) ∙ is_write.limited)))
      itself r e is same (inr h) = (w, inl refl, inl (inr (ap is_element is, subst (λ (x : Node). IsTrue (before ns x q)) (sym same) h)))

      go : (a : Act) → w.act ≡ a → IsTrue (available_by cached ns w a b p) → (m : Node) × IsMark cached ns b w m × Reaches ns m q
      go (Runs c) is h = let parts = and_parts (edge ns w p) (makes_writes_available cached ns p b p.act) h in by_command c is parts.0 parts.1 (is_wide p.act) refl
      go (Hosts x) is h =
          let made = (and_parts (is_submit p.act && before ns w p) (not (cached b) || passes cached ns (λ f. flushes f b) w p) h).0 in
          (w, inl refl, inl (inl (p, hp, subst (λ (a : Act). IsTrue (makes_available ns w a p)) (sym is) made, way)))
      go (Depends r e) is h = itself r e is (unique ns numbers w p is_write.there hp (eqb-true w.number p.number h)) way
      go (Waits s) is h = no h
      go (Signals s) is h = no h

  -- and what its marks reach, it reaches
  pub leave : (m q : Node) → Contains ns q → IsMark cached ns b w m → Reaches ns m q → (p : Node) × Contains ns p × IsTrue (available_by cached ns w w.act b p) × IsTrue (same_node p q || before ns p q)
  leave m q hq (inl same) (inl (inl known)) = from_available (subst (λ (x : Node). IsAvailable ns x q) same known)
    where
      from_available : IsAvailable ns w q → (p : Node) × Contains ns p × IsTrue (available_by cached ns w w.act b p) × IsTrue (same_node p q || before ns p q)
      from_available (p, hp, made, way) = (
        p,
        hp,
        made_each cached ns w p b w.act is_write.uncached made,
        ⊎_elim (λ f. or_left (same_node p q) (before ns p q) (eq-eqb p.number q.number (ap (λ (u : Node). u.number) f))) (λ h. or_right (same_node p q) (before ns p q) h) way,
      )
  leave m q hq (inl same) (inl (inr (is, h))) =
      let element : is_element w.act ≡ true = ap (λ (x : Node). is_element x.act) (sym same) ∙ is in
      let early : IsTrue (before ns w q) = subst (λ (x : Node). IsTrue (before ns x q)) same h in
      (w, is_write.there, by_itself w.act element, or_right (same_node w q) (before ns w q) early)
    where
      by_itself : (a : Act) → is_element a ≡ true → IsTrue (available_by cached ns w a b w)
      by_itself (Depends r e) is = eq-eqb w.number w.number refl
      by_itself (Hosts x) is = no is
      by_itself (Waits s) is = no is
      by_itself (Signals s) is = no is
      by_itself (Runs c) is = no is
  leave m q hq (inl same) (inr (here, lim)) =
      let element : is_element w.act ≡ true = ap (λ (x : Node). is_element x.act) (sym same) ∙ limited_element m.act lim in
      let at : w ≡ q = sym same ∙ here in
      (w, is_write.there, by_itself w.act element, or_left (same_node w q) (before ns w q) (eq-eqb w.number q.number (ap (λ (u : Node). u.number) at)))
    where
      by_itself : (a : Act) → is_element a ≡ true → IsTrue (available_by cached ns w a b w)
      by_itself (Depends r e) is = eq-eqb w.number w.number refl
      by_itself (Hosts x) is = no is
      by_itself (Waits s) is = no is
      by_itself (Signals s) is = no is
      by_itself (Runs c) is = no is
  leave m q hq (inr (command, there, lim, makes, e)) r = (m, there, by_command w.act command, between r)
    where
      by_command : (a : Act) → is_command a ≡ true → IsTrue (available_by cached ns w a b m)
      by_command (Runs c) is = and_from (edge ns w m) (makes_writes_available cached ns m b m.act) e makes
      by_command (Hosts x) is = no is
      by_command (Waits s) is = no is
      by_command (Signals s) is = no is
      by_command (Depends x y) is = no is

      between : Reaches ns m q → IsTrue (same_node m q || before ns m q)
      between (inl (inl known)) = absurd (unmade ns m known.0 m.act (limited_element m.act lim) known.2)
      between (inl (inr h)) = or_right (same_node m q) (before ns m q) h.1
      between (inr h) = or_left (same_node m q) (before ns m q) (eq-eqb m.number q.number (ap (λ (u : Node). u.number) h.0))

-- ---- one node more

module _ (ns : List Node) (n : Node) (numbers : IsNumbered (n ∷ ns)) (cached : Byte → Bool) (w : Node) (k : Access) (b : Byte) (is_write : IsWrite cached ns w b) where
  write_now : IsWrite cached (n ∷ ns) w b
  write_now = record { there = contains-tail n ns w is_write.there; uncached = is_write.uncached; limited = is_write.limited }

  reach_old : (m q : Node) → Contains ns q → Reaches (n ∷ ns) m q → Reaches ns m q
  reach_old m q hq (inl known) = inl (heard_old ns n numbers m q hq known)
  reach_old m q hq (inr h) = inr h

  reach_new : (m q : Node) → Contains ns q → Reaches ns m q → Reaches (n ∷ ns) m q
  reach_new m q hq (inl known) = inl (heard_new ns n numbers m q hq known)
  reach_new m q hq (inr h) = inr h

  mark_old : (m q : Node) → Contains ns q → IsMark cached (n ∷ ns) b w m → Reaches (n ∷ ns) m q → IsMark cached ns b w m
  mark_old m q hq (inl e) r = inl e
  mark_old m q hq (inr (command, hm, lim, makes, e)) r = inr (command, there r, lim, makes, sym (old_edge ns n numbers w m (there r)) ∙ e)
    where
      there : Reaches (n ∷ ns) m q → Contains ns m
      there (inl (inl known)) = absurd (unmade (n ∷ ns) m known.0 m.act (limited_element m.act lim) known.2)
      there (inl (inr h)) = older_of ns n numbers m q hm (contains-tail n ns q hq) h.1
      there (inr h) = subst (λ (x : Node). Contains ns x) (sym h.0) hq

  mark_new : (m : Node) → IsMark cached ns b w m → IsMark cached (n ∷ ns) b w m
  mark_new m (inl e) = inl e
  mark_new m (inr (command, hm, lim, makes, e)) = inr (command, contains-tail n ns m hm, lim, makes, old_edge ns n numbers w m hm ∙ e)

  -- one of its marks reaches an older node that makes it visible
  from_mark : (m q : Node) → Contains ns q → IsMark cached ns b w m → Reaches ns m q → IsTrue (visible_by cached (n ∷ ns) w n n.act k b q) → IsTrue (before (n ∷ ns) q n) → IsTrue (seen cached (n ∷ ns) w n k b)
  from_mark m q hq mark r visible h =
      let s = leave (n ∷ ns) numbers cached w b write_now m q (contains-tail n ns q hq) (mark_new m mark) (reach_new m q hq r) in
      seen_by cached (n ∷ ns) w n k b (record {
        p = s.0;
        q = q;
        has_p = s.1;
        has_q = contains-tail n ns q hq;
        available = s.2;
        between = s.3;
        visible = visible;
        reached = or_right (same_node q n) (before (n ∷ ns) q n) h;
      })

  -- no dependency on a part is one on all memory
  known_wide : (m q : Node) → is_wide q.act ≡ true → Reaches ns m q → IsKnown ns m q
  known_wide m q wide (inl known) = known
  known_wide m q wide (inr h) = no (sym (ap not wide) ∙ ap (λ (x : Node). is_limited x.act) (sym h.0) ∙ h.1)

  -- by a command
  module _ (x : Cmd) (is : n.act ≡ Runs x) where
    edge_back : (q : Node) → Contains ns q → IsTrue (edge ns q n) → IsTrue (before (n ∷ ns) q n)
    edge_back q hq e = before_of_path (n ∷ ns) numbers q n (contains-tail n ns q hq) (contains-head n ns) (direct (contains-tail n ns q hq) (contains-head n ns) (edge-new n ns q ∙ e))

    made_visible : (q : Node) → IsTrue (edge ns q n) → (makes_writes_visible cached (n ∷ ns) (command_mask k) b q q.act || is_wait q.act || is_host w.act && is_submit q.act) ≡ true → IsTrue (visible_by cached (n ∷ ns) w n n.act k b q)
    made_visible q e v = subst (λ (u : Act). IsTrue (visible_by cached (n ∷ ns) w n u k b q)) (sym is)
        (and_from (edge (n ∷ ns) q n) (makes_writes_visible cached (n ∷ ns) (command_mask k) b q q.act || is_wait q.act || is_host w.act && is_submit q.act) (edge-new n ns q ∙ e) v)

    pub seen_by_command : SeenByCommand ns n cached w k b
    seen_by_command = (forth, back)
      where
        forth : IsTrue (seen cached (n ∷ ns) w n k b) → (m : Node) × IsMark cached ns b w m × (KnowsOne (Visible k) ns (λ q. edge ns q n) m
            ⊎ ((q : Node) × Contains ns q × IsTrue (is_limited q.act) × IsTrue (makes_writes_visible cached ns (command_mask k) b q q.act) × IsTrue (edge ns q n) × Reaches ns m q))
        forth h =
            let s = parts_of cached (n ∷ ns) w n k b h in
            let two = and_parts (edge (n ∷ ns) s.q n) (makes_writes_visible cached (n ∷ ns) (command_mask k) b s.q s.q.act || is_wait s.q.act || is_host w.act && is_submit s.q.act) (subst (λ (u : Act). IsTrue (visible_by cached (n ∷ ns) w n u k b s.q)) is s.visible) in
            let hq = older_of ns n numbers s.q n s.has_q (contains-head n ns) (before_of_path (n ∷ ns) numbers s.q n s.has_q (contains-head n ns) (direct s.has_q (contains-head n ns) two.0)) in
            let e : IsTrue (edge ns s.q n) = sym (edge-new n ns s.q) ∙ two.0 in
            let r = arrive (n ∷ ns) numbers cached w b write_now s.p s.q s.has_p s.has_q s.available s.between in
            let mark = mark_old r.0 s.q hq r.1 r.2 in
            let reach = reach_old r.0 s.q hq r.2 in
            go s.q hq e two.1 r.0 mark reach (is_wide s.q.act) refl
          where
            go : (q : Node) → Contains ns q → IsTrue (edge ns q n) → (makes_writes_visible cached (n ∷ ns) (command_mask k) b q q.act || is_wait q.act || is_host w.act && is_submit q.act) ≡ true → (m : Node) → IsMark cached ns b w m → Reaches ns m q
                → (t : Bool) → is_wide q.act ≡ t → (m : Node) × IsMark cached ns b w m × (KnowsOne (Visible k) ns (λ q. edge ns q n) m
                ⊎ ((q : Node) × Contains ns q × IsTrue (is_limited q.act) × IsTrue (makes_writes_visible cached ns (command_mask k) b q q.act) × IsTrue (edge ns q n) × Reaches ns m q))
            go q hq e v m mark reach true wide =
                (m, mark, inl (q, hq, e, (ap (λ (t : Bool). shows k t q.act) (mark_host cached ns b w m mark) ∙ made_visible_wide cached (n ∷ ns) q k b q.act (is_host w.act) wide v, known_wide m q wide reach)))
            go q hq e v m mark reach false wide =
                let lim : is_limited q.act ≡ true = ap not wide in
                (m, mark, inr (q, hq, lim, visible_of_part cached (n ∷ ns) (command_mask k) b q (is_host w.act) q.act lim v, e, reach))

        back : ((m : Node) × IsMark cached ns b w m × (KnowsOne (Visible k) ns (λ q. edge ns q n) m
            ⊎ ((q : Node) × Contains ns q × IsTrue (is_limited q.act) × IsTrue (makes_writes_visible cached ns (command_mask k) b q q.act) × IsTrue (edge ns q n) × Reaches ns m q))) → IsTrue (seen cached (n ∷ ns) w n k b)
        back (m, mark, inl (q, hq, e, (s, known))) =
            from_mark m q hq mark (inl known)
            (made_visible q e (makes_visible_each cached (n ∷ ns) q k b q.act (is_host w.act) (sym (ap (λ (t : Bool). shows k t q.act) (mark_host cached ns b w m mark)) ∙ s)))
            (edge_back q hq e)
        back (m, mark, inr (q, hq, lim, v, e, r)) =
            from_mark m q hq mark r
            (made_visible q e (or_left (makes_writes_visible cached (n ∷ ns) (command_mask k) b q q.act || is_wait q.act) (is_host w.act && is_submit q.act) (or_left (makes_writes_visible cached (n ∷ ns) (command_mask k) b q q.act) (is_wait q.act) v)))
            (edge_back q hq e)

  -- by the host
  module _ (x : Entry) (is : n.act ≡ Hosts x) (asked : needs_invalidation cached (n ∷ ns) k b ≡ false) where
    on_host : (q : Node) → IsTrue (before (n ∷ ns) q n) → (to_host q.act && makes_writes_visible cached (n ∷ ns) (host_mask k) b q q.act) ≡ true → IsTrue (visible_by cached (n ∷ ns) w n n.act k b q)
    on_host q h v =
        let parts = and_parts (to_host q.act) (makes_writes_visible cached (n ∷ ns) (host_mask k) b q q.act) v in
        subst (λ (u : Act). IsTrue (visible_by cached (n ∷ ns) w n u k b q)) (sym is)
        (and_from (before (n ∷ ns) q n && to_host q.act && makes_writes_visible cached (n ∷ ns) (host_mask k) b q q.act) (not (needs_invalidation cached (n ∷ ns) k b) || passes cached (n ∷ ns) (λ f. invalidates f b) q n)
        (and_from (before (n ∷ ns) q n && to_host q.act) (makes_writes_visible cached (n ∷ ns) (host_mask k) b q q.act) (and_from (before (n ∷ ns) q n) (to_host q.act) h parts.0) parts.1)
        (rw asked refl))

    pub seen_by_host : SeenByHost ns n cached w k b
    seen_by_host = (forth, back)
      where
        forth : IsTrue (seen cached (n ∷ ns) w n k b) → (m : Node) × IsMark cached ns b w m × (KnowsOne (OnHost k) ns (λ q. edge ns q n) m
            ⊎ ((q : Node) × Contains ns q × IsTrue (is_limited q.act) × IsTrue (to_host q.act && makes_writes_visible cached ns (host_mask k) b q q.act) × IsTrue (before (n ∷ ns) q n) × Reaches ns m q))
        forth h =
            let s = parts_of cached (n ∷ ns) w n k b h in
            let one = and_parts (before (n ∷ ns) s.q n && to_host s.q.act && makes_writes_visible cached (n ∷ ns) (host_mask k) b s.q s.q.act) (not (needs_invalidation cached (n ∷ ns) k b) || passes cached (n ∷ ns) (λ f. invalidates f b) s.q n)
            (subst (λ (u : Act). IsTrue (visible_by cached (n ∷ ns) w n u k b s.q)) is s.visible) in
            let two = and_parts (before (n ∷ ns) s.q n && to_host s.q.act) (makes_writes_visible cached (n ∷ ns) (host_mask k) b s.q s.q.act) one.0 in
            let three = and_parts (before (n ∷ ns) s.q n) (to_host s.q.act) two.0 in
            let hq = older_of ns n numbers s.q n s.has_q (contains-head n ns) three.0 in
            let r = arrive (n ∷ ns) numbers cached w b write_now s.p s.q s.has_p s.has_q s.available s.between in
            go s.q hq three.0 (and_from (to_host s.q.act) (makes_writes_visible cached (n ∷ ns) (host_mask k) b s.q s.q.act) three.1 two.1) r.0 (mark_old r.0 s.q hq r.1 r.2) (reach_old r.0 s.q hq r.2) (is_wide s.q.act) refl
          where
            go : (q : Node) → Contains ns q → IsTrue (before (n ∷ ns) q n) → (to_host q.act && makes_writes_visible cached (n ∷ ns) (host_mask k) b q q.act) ≡ true → (m : Node) → IsMark cached ns b w m → Reaches ns m q
                → (t : Bool) → is_wide q.act ≡ t → (m : Node) × IsMark cached ns b w m × (KnowsOne (OnHost k) ns (λ q. edge ns q n) m
                ⊎ ((q : Node) × Contains ns q × IsTrue (is_limited q.act) × IsTrue (to_host q.act && makes_writes_visible cached ns (host_mask k) b q q.act) × IsTrue (before (n ∷ ns) q n) × Reaches ns m q))
            go q hq h v m mark reach true wide =
                let last = by_last n ns numbers q hq h in
                (m, mark, inl (last.0, last.1, last.2, (q, hq, on_host_wide cached (n ∷ ns) q k b q.act wide v, last.3, known_wide m q wide reach)))
            go q hq h v m mark reach false wide = (m, mark, inr (q, hq, ap not wide, v, h, reach))

        back : ((m : Node) × IsMark cached ns b w m × (KnowsOne (OnHost k) ns (λ q. edge ns q n) m
            ⊎ ((q : Node) × Contains ns q × IsTrue (is_limited q.act) × IsTrue (to_host q.act && makes_writes_visible cached ns (host_mask k) b q q.act) × IsTrue (before (n ∷ ns) q n) × Reaches ns m q))) → IsTrue (seen cached (n ∷ ns) w n k b)
        back (m, mark, inl (y, hy, t, (q, hq, r, way, known))) =
            let h : IsTrue (before (n ∷ ns) q n) = by_edge n ns numbers q hq (y, hy, t, way) in
            from_mark m q hq mark (inl known) (on_host q h (on_host_each cached (n ∷ ns) q k b q.act r)) h
        back (m, mark, inr (q, hq, lim, v, h, r)) = from_mark m q hq mark r (on_host q h v) h

  -- by a transition
  module _ (r : Role) (e : Element) (is : n.act ≡ Depends r e) where
    pub seen_by_transition : SeenByTransition ns n cached w k b
    seen_by_transition = (forth, back)
      where
        forth : IsTrue (seen cached (n ∷ ns) w n k b) → (m : Node) × IsMark cached (n ∷ ns) b w m × Reaches (n ∷ ns) m n
        forth h =
            let s = parts_of cached (n ∷ ns) w n k b h in
            let v : IsTrue (same_node s.q n) = subst (λ (u : Act). IsTrue (visible_by cached (n ∷ ns) w n u k b s.q)) is s.visible in
            let same : s.q ≡ n = unique (n ∷ ns) numbers s.q n s.has_q (contains-head n ns) (eqb-true s.q.number n.number v) in
            arrive (n ∷ ns) numbers cached w b write_now s.p n s.has_p (contains-head n ns) s.available (subst (λ (x : Node). IsTrue (same_node s.p x || before (n ∷ ns) s.p x)) same s.between)

        back : ((m : Node) × IsMark cached (n ∷ ns) b w m × Reaches (n ∷ ns) m n) → IsTrue (seen cached (n ∷ ns) w n k b)
        back (m, mark, reach) =
            let s = leave (n ∷ ns) numbers cached w b write_now m n (contains-head n ns) mark reach in
            seen_by cached (n ∷ ns) w n k b (record {
              p = s.0;
              q = n;
              has_p = s.1;
              has_q = contains-head n ns;
              available = s.2;
              between = s.3;
              visible = subst (λ (u : Act). IsTrue (visible_by cached (n ∷ ns) w n u k b n)) (sym is) (eq-eqb n.number n.number refl);
              reached = or_left (same_node n n) (before (n ∷ ns) n n) (eq-eqb n.number n.number refl);
            })
