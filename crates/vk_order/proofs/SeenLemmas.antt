-- What an access sees, by what rows say.
use Rattle.std.proofs.Common.{◌≡◌, ◌⊎◌, ⊎_elim, ℕ, ◌<◌, List, [], get_or, Bool, true, false, not, ◌&&◌, ◌||◌, IsTrue, Option, Some, None, refl, ap, sym, ◌∙◌, subst, arith}
use Rattle.std.specs.Prelude.{nat_lt, Contains, slice_get}
use Rattle.std.specs.List.{list_any}
use Rattle.std.proofs.lemmas.Bool.{lt-ltb, ltb-true, and_parts, and_from, or_left, or_right, cases_lt}
use Rattle.std.proofs.lemmas.Option.{slice_get_within, get_or_from_slice_get}
use Rattle.vk_model.specs.World.Bytes.{Byte}
use Rattle.vk_model.specs.Sync.Node.{Node, Act, Hosts, Waits, Signals, Runs, Depends, same_node}
use Rattle.vk_model.specs.Sync.Edge.{edge, by_semaphore, signaled_by, is_host, is_submit}
use Rattle.vk_model.specs.Sync.Before.{before, direct, IsNumbered}
use Rattle.vk_model.specs.Sync.Seen.{Access, Read, Write, seen, available_by, visible_by, makes_writes_visible, needs_invalidation, passes, flushes, invalidates, to_host, is_wait, command_mask, host_mask}
use Rattle.vk_model.proofs.Lists.Members.{member_passes, some_member}
use Rattle.vk_model.proofs.Lists.Truths.{no, clash, bool_same}
use Rattle.vk_model.proofs.Sync.Numbers.{unique}
use Rattle.vk_model.proofs.Sync.Paths.{before_of_path, path_of_before, joined, leads_on}
use Rattle.vk_model.proofs.Sync.HostActs.{submit_host, flush_host, invalidation_host, same_available}
use Rattle.vk_order.specs.declared.acts.Row.{Row}
use Rattle.vk_order.specs.NodeViews.{act_of, node_of, nodes_after}
use Rattle.vk_order.specs.Edges.{unsignaled, makes_available, makes_visible, made_available_by}
use Rattle.vk_order.specs.Inner.Availability.{ends_by, is_after, IsUntil, IsLastInvalidation, IsFrom, IsInTime}
use Rattle.vk_order.proofs.Arrange.{holds-false}
use Rattle.vk_order.proofs.LinePrefixes.{node, host_edge}
use Rattle.vk_order.proofs.RowLemmas.{numbered_after}
use Rattle.vk_order.proofs.EdgeLemmas.{edge-at, first_nodes}
use Rattle.vk_order.proofs.NamedLemmas.{node_there}
use Rattle.vk_order.proofs.BeforeLemmas.{node_row}
use Rattle.vk_order.proofs.Visibility.{parts_of, seen_by}
use Rattle.std.proofs.Math.Bool.{or-false, and-true}

-- ---- acts

same_visible : (cached : Byte → Bool) (ns : List Node) (mask : ℕ) (b : Byte) (q : Node) (a : Act) → makes_writes_visible (λ c. false) [] mask b q a ≡ makes_writes_visible cached ns mask b q a
same_visible cached ns mask b q (Depends r e) = refl
same_visible cached ns mask b q (Signals s) = refl
same_visible cached ns mask b q (Hosts x) = refl
same_visible cached ns mask b q (Waits s) = refl
same_visible cached ns mask b q (Runs c) = refl

module _ (rows : List Row) where
  abbrev all : List Node
  all = nodes_after [] rows

  numbers : IsNumbered (nodes_after [] rows)
  numbers = numbered_after [] rows tt

  edge_before : (s n : Node) → Contains all s → Contains all n → IsTrue (edge all s n) → IsTrue (before all s n)
  edge_before s n cs cn e = before_of_path all numbers s n cs cn (direct cs cn e)

  transitive : (l m n : Node) → Contains all l → Contains all m → Contains all n → IsTrue (before all l m) → IsTrue (before all m n) → IsTrue (before all l n)
  transitive l m n hl hm hn a b = before_of_path all numbers l n hl hn (joined all l m n (path_of_before all numbers l m hl hm a) (path_of_before all numbers m n hm hn b))

  host_before : (m n : Node) → Contains all m → Contains all n → is_host m.act ≡ true → is_host n.act ≡ true → m.number < n.number → IsTrue (before all m n)
  host_before m n cm cn hm hn lt = edge_before m n cm cn (host_edge all m n lt hm hn)

  -- an edge to row k that isn't by a semaphore
  silent_edge : (m : Node) (k : ℕ) (x : Row) → slice_get rows k ≡ Some x → by_semaphore (first_nodes k rows) m (node_of k x) ≡ false → edge all m (node_of k x) ≡ (nat_lt m.number k && unsignaled m (node_of k x))
  silent_edge m k x at silent =
      let lt = slice_get_within rows k x at in
      let here : get_or rows k x ≡ x = get_or_from_slice_get rows k x x at in
      subst (λ (y : Row). edge all m (node_of k y) ≡ (nat_lt m.number k && (unsignaled m (node_of k y) || by_semaphore (first_nodes k rows) m (node_of k y)))) here (edge-at rows k x m lt)
      ∙ rw (silent, or-false (unsignaled m (node_of k x))) refl

  -- ---- what makes a write available

  module _ (cached : Byte → Bool) (b : Byte) (w : Node) (cw : Contains all w) where
    module _ (from : ℕ) (is_from : IsFrom rows w.number b (cached b) from) where
      submit_after : (p : Node) → Contains all p → is_host w.act ≡ true → is_submit p.act ≡ true → nat_lt from p.number ≡ (before all w p && (not (cached b) || passes cached all (λ f. flushes f b) w p))
      submit_after p cp hw sp = go (cached b) is_from
        where
          hp : is_host p.act ≡ true
          hp = submit_host p.act sp

          go : (t : Bool) → IsFrom rows w.number b t from → nat_lt from p.number ≡ (before all w p && (not t || passes cached all (λ f. flushes f b) w p))
          go false e = ap (λ (k : ℕ). nat_lt k p.number) e ∙ bool_same (nat_lt w.number p.number) (before all w p && true)
              (λ h. and_from (before all w p) true (host_before w p cw cp hw hp (ltb-true w.number p.number h)) refl)
              (λ h. lt-ltb w.number p.number (leads_on all w p (and_parts (before all w p) true h).0))
          go true first = bool_same (nat_lt from p.number) (before all w p && passes cached all (λ f. flushes f b) w p) on back
            where
              on : nat_lt from p.number ≡ true → (before all w p && passes cached all (λ f. flushes f b) w p) ≡ true
              on h =
                  let lt = ltb-true from p.number h in
                  let own = node_row rows p p.number cp refl in
                  let low = slice_get_within rows p.number own.0 own.1 in
                  let there = first.there (omega arith) in
                  let f : Node = node_of from there.0 in
                  let cf = node_there rows from there.0 there.1 in
                  let hf = flush_host f.act b there.3 in
                  let up = there.2 in
                  and_from (before all w p) (passes cached all (λ f. flushes f b) w p) (host_before w p cw cp hw hp (omega arith))
                  (member_passes (λ f. flushes f.act b && before all w f && before all f p) all f cf
                  (and_from (flushes f.act b && before all w f) (before all f p) (and_from (flushes f.act b) (before all w f) there.3 (host_before w f cw cf hw hf up)) (host_before f p cf cp hf hp lt)))

              back : (before all w p && passes cached all (λ f. flushes f b) w p) ≡ true → nat_lt from p.number ≡ true
              back h =
                  let f = some_member (λ f. flushes f.act b && before all w f && before all f p) all (and_parts (before all w p) (passes cached all (λ f. flushes f b) w p) h).1 in
                  let one = and_parts (flushes f.0.act b && before all w f.0) (before all f.0 p) f.2 in
                  let two = and_parts (flushes f.0.act b) (before all w f.0) one.0 in
                  let after = leads_on all w f.0 two.1 in
                  let earlier = leads_on all f.0 p one.1 in
                  let own = node_row rows f.0 f.0.number f.1 refl in
                  ⊎_elim
                  (λ low. clash (and_from (nat_lt w.number f.0.number) (flushes (act_of own.0.act) b) (lt-ltb w.number f.0.number after) (ap (λ (m : Node). flushes m.act b) (sym own.2) ∙ two.0)) (first.none f.0.number own.0 own.1 low))
                  (λ high. lt-ltb from p.number (omega arith))
                  (cases_lt f.0.number from)

      available_same : (a : Act) → w.act ≡ a → (p : Node) → Contains all p → made_available_by w a from b p ≡ available_by cached all w a b p
      available_same (Runs c) is p cp =
          let own = node_row rows p p.number cp refl in
          let silent : by_semaphore (first_nodes p.number rows) w (node_of p.number own.0) ≡ false = rw (ap signaled_by is) refl in
          let e : edge all w p ≡ (nat_lt w.number p.number && unsignaled w p) = ap (edge all w) own.2 ∙ silent_edge w p.number own.0 own.1 silent ∙ ap (λ (m : Node). nat_lt w.number p.number && unsignaled w m) (sym own.2) in
          ap (λ (t : Bool). t && makes_available b p) (sym e) ∙ ap (λ (t : Bool). edge all w p && t) (same_available cached all p b p.act)
      available_same (Hosts x) is p cp = go (is_submit p.act) refl
        where
          go : (t : Bool) → is_submit p.act ≡ t → (is_submit p.act && nat_lt from p.number) ≡ (is_submit p.act && before all w p && (not (cached b) || passes cached all (λ f. flushes f b) w p))
          go false e = rw e refl
          go true e = rw e (submit_after p cp (ap is_host is) e)
      available_same (Depends r e) is p cp = refl
      available_same (Waits s) is p cp = refl
      available_same (Signals s) is p cp = refl

  -- ---- what makes writes visible

  module _ (cached : Byte → Bool) (b : Byte) (k : Access) (w a : Node) (ca : Contains all a) where
    -- what a host access needs of the nodes that serve it
    abbrev pub in_time : Node → Bool
    in_time q = before all q a && (not (needs_invalidation cached all k b) || passes cached all (λ f. invalidates f b) q a)

    rearrange : (x y z u : Bool) → (x && y && (z && u)) ≡ (z && x && y && u)
    rearrange x y z u = grind arith

    unwaited : (ns : List Node) (q : Node) (c : Rattle.vk_model.specs.declared.command.Cmd.Cmd) → a.act ≡ Runs c → by_semaphore ns q a ≡ false
    unwaited ns q c is = subst (λ (t : Act). by_semaphore ns q (node a.number a.point t) ≡ false) (sym is) (holds-false (signaled_by q.act))

    pub visible_same : (test : Node → Bool) (act : Act) → a.act ≡ act → (is_host act ≡ true → (q : Node) → Contains all q → test q ≡ in_time q) → (q : Node) → Contains all q
        → ends_by test (is_host w.act) a act k b q ≡ visible_by cached all w a act k b q
    visible_same test (Runs c) is same q cq =
        let own = node_row rows a a.number ca refl in
        let silent : by_semaphore (first_nodes a.number rows) q (node_of a.number own.0) ≡ false = ap (by_semaphore (first_nodes a.number rows) q) (sym own.2) ∙ unwaited (first_nodes a.number rows) q c is in
        let e : edge all q a ≡ (nat_lt q.number a.number && unsignaled q a) = ap (edge all q) own.2 ∙ silent_edge q a.number own.0 own.1 silent ∙ ap (λ (m : Node). nat_lt q.number a.number && unsignaled q m) (sym own.2) in
        ap (λ (t : Bool). t && (makes_visible (command_mask k) b q || is_wait q.act || is_host w.act && is_submit q.act)) (sym e)
        ∙ ap (λ (t : Bool). edge all q a && (t || is_wait q.act || is_host w.act && is_submit q.act)) (same_visible cached all (command_mask k) b q q.act)
    visible_same test (Hosts x) is same q cq =
        ap (λ (t : Bool). to_host q.act && makes_visible (host_mask k) b q && t) (same refl q cq)
        ∙ ap (λ (t : Bool). to_host q.act && t && in_time q) (same_visible cached all (host_mask k) b q q.act)
        ∙ rearrange (to_host q.act) (makes_writes_visible cached all (host_mask k) b q q.act) (before all q a) (not (needs_invalidation cached all k b) || passes cached all (λ f. invalidates f b) q a)
    visible_same test (Depends r e) is same q cq = refl
    visible_same test (Waits s) is same q cq = refl
    visible_same test (Signals s) is same q cq = refl

    visible_reaches : (act : Act) (q : Node) → Contains all q → IsTrue (visible_by cached all w a act k b q) → IsTrue (same_node q a || before all q a)
    visible_reaches (Runs c) q cq h = or_right (same_node q a) (before all q a) (edge_before q a cq ca (and_parts (edge all q a) _ h).0)
    visible_reaches (Depends r e) q cq h = or_left (same_node q a) (before all q a) h
    visible_reaches (Hosts x) q cq h =
        let one = and_parts (before all q a && to_host q.act && makes_writes_visible cached all (host_mask k) b q q.act) _ h in
        let two = and_parts (before all q a && to_host q.act) _ one.0 in
        or_right (same_node q a) (before all q a) (and_parts (before all q a) _ two.0).0
    visible_reaches (Waits s) q cq h = no h
    visible_reaches (Signals s) q cq h = no h

    -- ---- the whole

    pub seen_way : (is_available served : Node → Bool) → ((p : Node) → Contains all p → is_available p ≡ available_by cached all w w.act b p) → ((q : Node) → Contains all q → served q ≡ visible_by cached all w a a.act k b q)
        → list_any (λ n. served n && is_after all is_available n) all ≡ seen cached all w a k b
    seen_way is_available served available_as_well served_same = bool_same (list_any (λ n. served n && is_after all is_available n) all) (seen cached all w a k b) on back
      where
        on : list_any (λ n. served n && is_after all is_available n) all ≡ true → IsTrue (seen cached all w a k b)
        on h =
            let q = some_member (λ n. served n && is_after all is_available n) all h in
            let parts = and_parts (served q.0) (is_after all is_available q.0) q.2 in
            let p = some_member (λ p. is_available p && (same_node p q.0 || before all p q.0)) all parts.1 in
            let two = and_parts (is_available p.0) (same_node p.0 q.0 || before all p.0 q.0) p.2 in
            let visible : IsTrue (visible_by cached all w a a.act k b q.0) = sym (served_same q.0 q.1) ∙ parts.0 in
            seen_by cached all w a k b (record { p = p.0; q = q.0; has_p = p.1; has_q = q.1; available = sym (available_as_well p.0 p.1) ∙ two.0; between = two.1; visible = visible; reached = visible_reaches a.act q.0 q.1 visible })

        back : IsTrue (seen cached all w a k b) → list_any (λ n. served n && is_after all is_available n) all ≡ true
        back h =
            let s = parts_of cached all w a k b h in
            member_passes (λ n. served n && is_after all is_available n) all s.q s.has_q (and_from (served s.q) (is_after all is_available s.q) (served_same s.q s.has_q ∙ s.visible)
            (member_passes (λ p. is_available p && (same_node p s.q || before all p s.q)) all s.p s.has_p (and_from (is_available s.p) (same_node s.p s.q || before all s.p s.q) (available_as_well s.p s.has_p ∙ s.available) s.between)))

    -- ---- which nodes serve a host access

    not_so : (x : Bool) → (x ≡ true → ⊥) → x ≡ false
    not_so true h = absurd (h refl)
    not_so false h = refl

    until_plain : (until : Option ℕ) → needs_invalidation cached all k b ≡ false → until ≡ Some a.number → IsUntil rows until in_time
    until_plain until none e = subst (λ (o : Option ℕ). IsUntil rows o in_time) (sym e)
        (let own = node_row rows a a.number ca refl in
        (own.0, own.1, λ q cq. ap (λ (t : Bool). before all q a && (not t || passes cached all (λ f. invalidates f b) q a)) none ∙ and-true (before all q a) ∙ ap (before all q) own.2))

    -- a node that an invalidation before the access follows
    invalidated : (q : Node) → in_time q ≡ true → needs_invalidation cached all k b ≡ true → (f : Node) × Contains all f × IsTrue (invalidates f.act b) × IsTrue (before all q f) × (f.number < a.number)
    invalidated q h need =
        let parts = and_parts (before all q a) (not (needs_invalidation cached all k b) || passes cached all (λ f. invalidates f b) q a) h in
        let passed : passes cached all (λ f. invalidates f b) q a ≡ true = ap (λ (t : Bool). not t || passes cached all (λ f. invalidates f b) q a) (sym need) ∙ parts.1 in
        let f = some_member (λ f. invalidates f.act b && before all q f && before all f a) all passed in
        let one = and_parts (invalidates f.0.act b && before all q f.0) (before all f.0 a) f.2 in
        let two = and_parts (invalidates f.0.act b) (before all q f.0) one.0 in
        (f.0, f.1, two.0, two.1, leads_on all f.0 a one.1)

    until_last : (until : Option ℕ) → is_host a.act ≡ true → needs_invalidation cached all k b ≡ true → IsLastInvalidation rows a.number b until → IsUntil rows until in_time
    until_last None ha need none = λ q cq. not_so (in_time q) (λ h.
        let f = invalidated q h need in
        let own = node_row rows f.0 f.0.number f.1 refl in
        clash (ap (λ (m : Node). invalidates m.act b) (sym own.2) ∙ f.2) (none f.0.number own.0 own.1 f.4))
    until_last (Some last) ha need known = (known.0, known.1, λ q cq. bool_same (in_time q) (before all q l) (on q cq) (back q cq))
      where
        l : Node
        l = node_of last known.0

        cl : Contains all l
        cl = node_there rows last known.0 known.1

        hl : is_host l.act ≡ true
        hl = invalidation_host l.act b known.3

        on : (q : Node) → Contains all q → in_time q ≡ true → before all q l ≡ true
        on q cq h =
            let f = invalidated q h need in
            let own = node_row rows f.0 f.0.number f.1 refl in
            let hf = invalidation_host f.0.act b f.2 in
            ⊎_elim
            (λ low. ⊎_elim
            (λ less. transitive q f.0 l cq f.1 cl f.3 (host_before f.0 l f.1 cl hf hl less))
            (λ ge. ap (λ (m : Node). before all q m) (unique all numbers l f.0 cl f.1 (let at = low in let up = ge in omega arith)) ∙ f.3)
            (cases_lt f.0.number last))
            (λ high. clash (ap (λ (m : Node). invalidates m.act b) (sym own.2) ∙ f.2) (known.4 f.0.number own.0 own.1 (omega arith) f.4))
            (cases_lt f.0.number (Rattle.std.proofs.Common.suc last))

        back : (q : Node) → Contains all q → before all q l ≡ true → in_time q ≡ true
        back q cq h =
            let lt = known.2 in
            let to_a = host_before l a cl ca hl ha lt in
            and_from (before all q a) (not (needs_invalidation cached all k b) || passes cached all (λ f. invalidates f b) q a) (transitive q l a cq cl ca h to_a)
            (or_right (not (needs_invalidation cached all k b)) (passes cached all (λ f. invalidates f b) q a)
            (member_passes (λ f. invalidates f.act b && before all q f && before all f a) all l cl (and_from (invalidates l.act b && before all q l) (before all l a) (and_from (invalidates l.act b) (before all q l) known.3 h) to_a)))

pub until_known : (rows : List Row) (cached : Byte → Bool) (b : Byte) (k : Access) (w a : Node) (ca : Contains (nodes_after [] rows) a) (until : Option ℕ) → is_host a.act ≡ true → IsInTime rows a.number b (cached b) k until → IsUntil rows until (in_time rows cached b k w a ca)
until_known rows cached b Read w a ca until ha h = go (cached b) refl h
  where
    go : (t : Bool) → cached b ≡ t → IsInTime rows a.number b t Read until → IsUntil rows until (in_time rows cached b Read w a ca)
    go true e h = until_last rows cached b Read w a ca until ha e h
    go false e h = until_plain rows cached b Read w a ca until e h
until_known rows cached b Write w a ca until ha h = go (cached b) h
  where
    go : (t : Bool) → IsInTime rows a.number b t Write until → IsUntil rows until (in_time rows cached b Write w a ca)
    go true h = until_plain rows cached b Write w a ca until refl h
    go false h = until_plain rows cached b Write w a ca until refl h

-- some test fits
pub until_some : (rows : List Row) (j : ℕ) (r : Row) (b : Byte) (t : Bool) (k : Access) (until : Option ℕ) → slice_get rows j ≡ Some r → IsInTime rows j b t k until → (g : Node → Bool) × IsUntil rows until g
until_some rows j r b t k None at h = (λ q. false, λ n cn. refl)
until_some rows j r b true Read (Some u) at h = (λ q. before (nodes_after [] rows) q (node_of u h.0), (h.0, h.1, λ n cn. refl))
until_some rows j r b true Write (Some u) at h = let e : u ≡ j = cc in (λ q. before (nodes_after [] rows) q (node_of u r), (r, ap (slice_get rows) e ∙ at, λ n cn. refl))
until_some rows j r b false Read (Some u) at h = let e : u ≡ j = cc in (λ q. before (nodes_after [] rows) q (node_of u r), (r, ap (slice_get rows) e ∙ at, λ n cn. refl))
until_some rows j r b false Write (Some u) at h = let e : u ≡ j = cc in (λ q. before (nodes_after [] rows) q (node_of u r), (r, ap (slice_get rows) e ∙ at, λ n cn. refl))

pub seen_rows : (rows : List Row) (cached : Byte → Bool) (b : Byte) (k : Access) (i j : ℕ) (q r : Row) → slice_get rows i ≡ Some q → slice_get rows j ≡ Some r → (from : ℕ) → IsFrom rows i b (cached b) from → (until : Option ℕ) → IsInTime rows j b (cached b) k until
    → (sees : Bool) → ((g : Node → Bool) → IsUntil rows until g → sees ≡ list_any (λ n. ends_by g (is_host (act_of q.act)) (node_of j r) (act_of r.act) k b n && is_after (nodes_after [] rows) (λ p. made_available_by (node_of i q) (act_of q.act) from b p) n) (nodes_after [] rows))
    → sees ≡ seen cached (nodes_after [] rows) (node_of i q) (node_of j r) k b
seen_rows rows cached b k i j q r at_i at_j from is_from until is_until sees is = go (is_host (act_of r.act)) refl
  where
    w : Node
    w = node_of i q

    a : Node
    a = node_of j r

    cw : Contains (nodes_after [] rows) w
    cw = node_there rows i q at_i

    ca : Contains (nodes_after [] rows) a
    ca = node_there rows j r at_j

    with_test : (g : Node → Bool) → IsUntil rows until g → (is_host (act_of r.act) ≡ true → (q : Node) → Contains (nodes_after [] rows) q → g q ≡ in_time rows cached b k w a ca q) → sees ≡ seen cached (nodes_after [] rows) w a k b
    with_test g u same = is g u ∙ seen_way rows cached b k w a ca (λ p. made_available_by w (act_of q.act) from b p) (λ n. ends_by g (is_host (act_of q.act)) a (act_of r.act) k b n)
        (λ p cp. available_same rows cached b w cw from is_from (act_of q.act) refl p cp)
        (λ n cn. visible_same rows cached b k w a ca g (act_of r.act) refl same n cn)

    go : (t : Bool) → is_host (act_of r.act) ≡ t → sees ≡ seen cached (nodes_after [] rows) w a k b
    go true h = with_test (in_time rows cached b k w a ca) (until_known rows cached b k w a ca until h is_until) (λ e q cq. refl)
    go false h = let some = until_some rows j r b (cached b) k until at_j is_until in with_test some.0 some.1 (λ e. clash e h)
