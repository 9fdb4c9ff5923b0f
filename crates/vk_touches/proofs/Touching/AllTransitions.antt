-- In a past without a fault the last transition of a byte stands for all of them: who sees it sees each, and what comes after it comes after each.
use Rattle.std.proofs.Common.{◌≡◌, ◌⊎◌, inl, inr, ⊎_elim, ℕ, ◌+◌, ◌<◌, ◌≤◌, List, [], ◌∷◌, ◌++◌, map, length, Bool, true, false, ◌&&◌, Option, Some, None, refl, ap, sym, ◌∙◌, subst, arith}
use Rattle.std.specs.Prelude.{Contains}
use Rattle.std.specs.List.{enumerate_from}
use Rattle.std.specs.Option.{option_or}
use Rattle.std.proofs.lemmas.Bool.{cases_lt, false_from_ne_true, lt-ltb}
use Rattle.std.proofs.lemmas.List.{append_assoc}
use Rattle.std.proofs.Math.Bool.{and-false}
use Rattle.vk_model.specs.declared.command.Cmd.{Cmd}
use Rattle.vk_model.specs.declared.command.Cmd.TheVariants as cmd
use Rattle.vk_model.specs.declared.command.Element.{Element}
use Rattle.vk_model.specs.declared.command.Element.TheVariants as element
use Rattle.vk_model.specs.declared.command.ImageElement.{ImageElement}
use Rattle.vk_model.specs.declared.rule.Rule.TheVariants as rule
use Rattle.vk_model.specs.World.Bytes.{Byte, resource_at}
use Rattle.vk_model.specs.World.ByteWrites.{byte_writes}
use Rattle.vk_model.specs.Trace.Objects.{is_cached}
use Rattle.vk_model.specs.Trace.Point.{Past, Point, Action, Host, Wait, Run, Signal}
use Rattle.vk_model.specs.Sync.Node.{Node, Act, Role, Depends, Barrier, nodes, acts, with_acts}
use Rattle.vk_model.specs.Sync.Edge.{is_host}
use Rattle.vk_model.specs.Sync.Before.{before, IsNumbered}
use Rattle.vk_model.specs.Sync.Seen.{Access, seen}
use Rattle.vk_model.specs.Sync.Access.{reads, writes, is_in, is_seen, hazard, waw, reads_of, writes_of, transition_bytes}
use Rattle.vk_model.specs.Rules.Table.{fault, breaks}
use Rattle.vk_model.specs.Rules.Fault.{Comes, IsUnbroken}
use Rattle.vk_model.proofs.Lists.Members.{contains-cons, mapped_from, only_one}
use Rattle.vk_model.proofs.Rules.Fault.{unbroken_of_none}
use Rattle.vk_model.proofs.Sync.Growth.{growth}
use Rattle.vk_model.proofs.Sync.Numbers.{numbered, unique, number_below}
use Rattle.vk_model.proofs.Sync.Paths.{transitive}
use Rattle.vk_laws.proofs.Nodes.Counts.{more_nodes}
use Rattle.vk_laws.proofs.Nodes.NoHazard.{no_hazard}
use Rattle.vk_laws.proofs.Nodes.Points.{at_point, older_node}
use Rattle.vk_laws.proofs.Nodes.Prefixes.{has_more}
use Rattle.vk_laws.specs.Trace.{HasNoHazard}
use Rattle.vk_laws.proofs.Nodes.Steady.{comes_here, comes_within}
use Rattle.vk_order.specs.Barriers.{element_node}
use Rattle.vk_order.proofs.LastWriter as order
use Rattle.vk_touches.specs.Touched.{only_if, is_transition_of, transition_next, last_element, last_transition}
use Rattle.vk_touches.proofs.Touching.LastNodes.{last_found}
use Rattle.vk_touches.proofs.Touching.LastTransitions.{transition_is, transition_there}
use Rattle.vk_touches.proofs.Touching.TransitionBytes.{in_back, moved, same_transition, transition_kept, same_cached}
use Rattle.vk_model.proofs.World.BytePlaces.{is_in_from}

-- ---- the nodes of a barrier

-- where an element of it is
pub record IsElementAt (p : Point) (es : List Element) (ns : List Node) (x : Node) : Type 0 where
  pub front : List Element
  pub element : Element
  pub back : List Element
  pub whole : es ≡ front ++ element ∷ back
  pub node_is : element_node p (length ns + length front) element ≡ x

pub element_at : (p : Point) (es : List Element) (ns : List Node) (x : Node) → Contains (with_acts p (map (Depends Barrier) es) ns) x → Contains ns x ⊎ IsElementAt p es ns x
element_at p [] ns x c = inl c
element_at p (e ∷ es) ns x c = ⊎_elim
    (λ there. ⊎_elim
    (λ same. inr (record { front = []; element = e; back = es; whole = refl; node_is = ap (λ (j : ℕ). element_node p j e) (omega arith) ∙ same }))
    (λ old. inl old)
    (contains-cons n ns x there))
    (λ later.
    let more : length ns + length (e ∷ later.front) ≡ length (n ∷ ns) + length later.front = omega arith in
    inr (record { front = e ∷ later.front; element = later.element; back = later.back; whole = ap (λ (l : List Element). e ∷ l) later.whole; node_is = ap (λ (j : ℕ). element_node p j later.element) more ∙ later.node_is }))
    (element_at p es (n ∷ ns) x c)
  where
    n : Node
    n = element_node p (length ns) e

-- only barriers have elements of images
pub image_element : (d : Action) (r : Role) (e : ImageElement) → Contains (acts d) (Depends r (element.Image e)) → (es : List Element) × (d ≡ Run (cmd.Barrier es))
image_element (Run (cmd.Barrier es)) r e c = (es, refl)
image_element (Run (cmd.Set v ms)) r e c = let m = mapped_from _ (enumerate_from 0 ms) (Depends r (element.Image e)) c in let bad = m.2 in absurd cc
image_element (Run (cmd.Await v ms)) r e c = let m = mapped_from _ (enumerate_from 0 ms) (Depends r (element.Image e)) c in let bad = m.2 in absurd cc
image_element (Host x) r e c = let bad = only_one _ (Depends r (element.Image e)) c in absurd cc
image_element (Wait s) r e c = let bad = only_one _ (Depends r (element.Image e)) c in absurd cc
image_element (Signal s) r e c = let bad = only_one _ (Depends r (element.Image e)) c in absurd cc
image_element (Run (cmd.Fill b o n w)) r e c = let bad = only_one _ (Depends r (element.Image e)) c in absurd cc
image_element (Run (cmd.Update b o bytes)) r e c = let bad = only_one _ (Depends r (element.Image e)) c in absurd cc
image_element (Run (cmd.Copy s d gs)) r e c = let bad = only_one _ (Depends r (element.Image e)) c in absurd cc
image_element (Run (cmd.Clear i l color rs)) r e c = let bad = only_one _ (Depends r (element.Image e)) c in absurd cc
image_element (Run (cmd.CopyIn b i l gs)) r e c = let bad = only_one _ (Depends r (element.Image e)) c in absurd cc
image_element (Run (cmd.CopyOut i l b gs)) r e c = let bad = only_one _ (Depends r (element.Image e)) c in absurd cc
image_element (Run (cmd.CopyImage s l d m gs)) r e c = let bad = only_one _ (Depends r (element.Image e)) c in absurd cc

-- of elements that pass a test none is later than the last one
pub last_not_before : (p : Point) (test : Element → Bool) (k : ℕ) (front back : List Element) (e : Element) → test e ≡ true → (v : Node) × (last_element p test k (front ++ e ∷ back) ≡ Some v) × (k + length front ≤ v.number)
last_not_before p test k [] back e h = go (last_element p test (k + 1) back) refl where
  higher : (j : ℕ) (es : List Element) (v : Node) → last_element p test j es ≡ Some v → j ≤ v.number
  higher j [] v is = absurd cc
  higher j (f ∷ es) v is = from (last_element p test (j + 1) es) refl (test f) is (higher (j + 1) es v) where
    from : (o : Option Node) → last_element p test (j + 1) es ≡ o → (t : Bool) → option_or o (only_if t (element_node p j f)) ≡ Some v → (last_element p test (j + 1) es ≡ Some v → j + 1 ≤ v.number) → j ≤ v.number
    from None e true is rest = let own : element_node p j f ≡ v = cc in let at : j ≡ v.number = ap (λ (n : Node). n.number) own in omega (arith, at)
    from None e false is rest = absurd cc
    from (Some w) e t is rest = let more = rest (e ∙ is) in omega (arith, more)

  go : (o : Option Node) → last_element p test (k + 1) back ≡ o → (v : Node) × (option_or (last_element p test (k + 1) back) (only_if (test e) (element_node p k e)) ≡ Some v) × (k + 0 ≤ v.number)
  go None is = (element_node p k e, rw (is, h) refl, omega arith)
  go (Some v) is = let more = higher (k + 1) back v is in (v, rw is refl, omega (arith, more))
last_not_before p test k (f ∷ front) back e h =
    let rest = last_not_before p test (k + 1) front back e h in
    let le = rest.2 in
    (rest.0, rw (rest.1) refl, omega (arith, le))

-- ---- in a past without a fault

module _ (past : Past) (none : fault past ≡ None) (p : Point) (steady : (c : Cmd) → byte_writes (p ∷ past) c ≡ byte_writes past c) where
  sound : IsUnbroken past
  sound = (unbroken_of_none past) none

  -- a node that is a transition of a byte
  abbrev pub Transits : Byte → Node → Type 0
  Transits b x = (r : Role) × (e : Element) × (x.act ≡ Depends r e) × (is_in b (writes (p ∷ past) x) ≡ true)

  -- it is an element of a barrier
  pub record IsTransition (b : Byte) (x : Node) : Type 0 where
    pub newer : Past
    pub before_it : Past
    pub at : Point
    pub whole : past ≡ newer ++ at ∷ before_it
    pub elements : List Element
    pub runs : at.action ≡ Run (cmd.Barrier elements)
    pub is_at : IsElementAt at elements (nodes before_it) x
    pub here : Contains (nodes (at ∷ before_it)) x
    pub new : length (nodes before_it) ≤ x.number
    pub covers : is_transition_of (at ∷ before_it) at.queue b is_at.element ≡ true

  -- the bytes of an element of a past's barrier are those that it had
  kept : (newer older : Past) (q : Point) (es : List Element) → past ≡ newer ++ q ∷ older → q.action ≡ Run (cmd.Barrier es) → (e : Element) → Contains es e → (k : ℕ) → transition_bytes (p ∷ past) k e ≡ transition_bytes (q ∷ older) k e
  kept newer older q es whole runs e there k = same_transition (p ∷ past) past steady k e ∙ transition_kept past sound newer older q es whole runs e there k

  member : (es front back : List Element) (e : Element) → es ≡ front ++ e ∷ back → Contains es e
  member es front back e whole = subst (λ (l : List Element). Contains l e) (sym whole) (in_back back e front)

  pub is_transition_node : (b : Byte) (x : Node) → Contains (nodes past) x → Transits b x → IsTransition b x
  is_transition_node b x there (r, e, is, wrote) =
      let s = at_point past x there in
      let bytes : is_in b (transition_bytes (p ∷ past) x.point.queue e) ≡ true = ap (λ (a : Act). is_in b (writes_of (p ∷ past) x.point.queue a)) (sym is) ∙ wrote in
      let m = moved (p ∷ past) x.point.queue e b (is_in_from b (transition_bytes (p ∷ past) x.point.queue e) bytes) in
      let barrier = image_element s.at.action r m.of (subst (λ (a : Act). Contains (acts s.at.action) a) (is ∙ ap (Depends r) m.named) s.acted) in
      by_barrier s.newer s.past s.at s.whole s.here s.new s.pointed barrier.0 barrier.1 bytes
    where
      by_barrier : (newer older : Past) (q : Point) → past ≡ newer ++ q ∷ older → Contains (nodes (q ∷ older)) x → length (nodes older) ≤ x.number → x.point ≡ q → (es : List Element) → q.action ≡ Run (cmd.Barrier es)
          → is_in b (transition_bytes (p ∷ past) x.point.queue e) ≡ true → IsTransition b x
      by_barrier newer older q whole here new pointed es runs bytes = ⊎_elim
          (λ old. absurd (let low = number_below (nodes older) (numbered older) x old in omega (arith, low, new)))
          (λ at.
          let act : e ≡ at.element = same_act (sym is ∙ ap (λ (n : Node). n.act) (sym at.node_is)) in
          record {
            newer = newer;
            before_it = older;
            at = q;
            whole = whole;
            elements = es;
            runs = runs;
            is_at = at;
            here = here;
            new = new;
            covers = ap (is_in b) (sym (kept newer older q es whole runs at.element (member es at.front at.back at.element at.whole) q.queue)) ∙ ap (λ (f : Element). is_in b (transition_bytes (p ∷ past) q.queue f)) (sym act)
                ∙ ap (λ (z : Point). is_in b (transition_bytes (p ∷ past) z.queue e)) (sym pointed) ∙ bytes;
          })
          (element_at q es (nodes older) x (subst (λ (l : List Act). Contains (with_acts q l (nodes older)) x) (ap acts runs) here))
        where
          same_act : {f : Element} → Depends r e ≡ Depends Barrier f → e ≡ f
          same_act h = cc

  -- ---- the last one

  -- none is later than it
  pub record HasLastTransition (b : Byte) (x : Node) : Type 0 where
    pub node : Node
    pub is : last_transition past b ≡ Some node
    pub not_before : x.number ≤ node.number

  abbrev Later : Past → Byte → Node → Type 0
  Later l b x = (v : Node) × (last_transition l b ≡ Some v) × (x.number ≤ v.number)

  later_from : (b : Byte) (newer older : Past) (q : Point) (x w : Node) → transition_next b older q q.action ≡ Some w → x.number ≤ w.number → Later (newer ++ q ∷ older) b x
  later_from b [] older q x w gives le = (w, rw gives refl, le)
  later_from b (r ∷ newer) older q x w gives le = go (transition_next b (newer ++ q ∷ older) r r.action) refl (later_from b newer older q x w gives le) where
    go : (o : Option Node) → transition_next b (newer ++ q ∷ older) r r.action ≡ o → Later (newer ++ q ∷ older) b x → Later (r ∷ newer ++ q ∷ older) b x
    go None e h = (h.0, rw e h.1, h.2)
    go (Some v) e h =
        let t = transition_is b (newer ++ q ∷ older) r r.action v e in
        let l = t.is_last in
        let high : length (nodes (newer ++ q ∷ older)) + length l.front ≡ v.number = ap (λ (n : Node). n.number) l.node_is in
        let low = number_below (nodes (q ∷ older)) (numbered (q ∷ older)) w (transition_there b older q w gives) in
        let more = more_nodes newer (q ∷ older) in
        (v, rw e refl, omega (arith, high, low, more, le))

  pub transition_last : (b : Byte) (x : Node) → Contains (nodes past) x → Transits b x → HasLastTransition b x
  transition_last b x there does =
      let t = is_transition_node b x there does in
      let a = t.is_at in
      let v = last_not_before t.at (is_transition_of (t.at ∷ t.before_it) t.at.queue b) (length (nodes t.before_it)) a.front a.back a.element t.covers in
      let gives : transition_next b t.before_it t.at t.at.action ≡ Some v.0 =
      ap (transition_next b t.before_it t.at) t.runs ∙ ap (last_element t.at (is_transition_of (t.at ∷ t.before_it) t.at.queue b) (length (nodes t.before_it))) a.whole ∙ v.1 in
      let number : length (nodes t.before_it) + length a.front ≡ x.number = ap (λ (n : Node). n.number) a.node_is in
      let le = v.2 in
      let l = later_from b t.newer t.before_it t.at x v.0 gives (omega (arith, number, le)) in
      record { node = l.0; is = ap (λ (q : Past). last_transition q b) t.whole ∙ l.1; not_before = l.2 }

  -- it is a transition of the byte
  pub record IsLastTransition (b : Byte) (v : Node) : Type 0 where
    pub there : Contains (nodes past) v
    pub does : Transits b v

  pub last_transition_is : (b : Byte) (v : Node) → last_transition past b ≡ Some v → IsLastTransition b v
  last_transition_is b v is =
      let l = last_found (transition_next b) past v is in
      let here = transition_there b l.before l.at v l.gives in
      let t = transition_is b l.before l.at l.at.action v l.gives in
      let e = t.is_last in
      let act : v.act ≡ Depends Barrier e.element = ap (λ (n : Node). n.act) (sym e.node_is) in
      let point : v.point ≡ l.at = ap (λ (n : Node). n.point) (sym e.node_is) in
      record {
        there = subst (λ (l : Past). Contains (nodes l) v) (sym l.whole) (has_more growth l.newer (l.at ∷ l.before) v here);
        does = (
          Barrier,
          e.element,
          act,
          ap (λ (a : Act). is_in b (writes_of (p ∷ past) v.point.queue a)) act ∙ ap (λ (z : Point). is_in b (transition_bytes (p ∷ past) z.queue e.element)) point
              ∙ ap (is_in b) (kept l.newer l.before l.at t.elements l.whole t.runs e.element (member t.elements e.front e.back e.element e.whole) l.at.queue) ∙ e.passes,
        );
      }

  -- ---- what is so of the last one is so of all

  -- no point has a hazard
  free_at : (newer older : Past) (q : Point) → past ≡ newer ++ q ∷ older → hazard waw older q ≡ false
  unfolding breaks
  free_at newer older q whole = false_from_ne_true (hazard waw older q) (λ h. sound older q rule.HazardWaw (subst (λ (l : Past). Comes l older q) (sym whole) (comes_here newer older q), h))

  no_hazard_at : (newer older : Past) (q : Point) → past ≡ newer ++ q ∷ older → (x y : Node) → Contains (nodes (q ∷ older)) x → Contains (nodes (q ∷ older)) y → length (nodes older) ≤ y.number → x.number < y.number → (is_host x.act && is_host y.act) ≡ false → HasNoHazard past (q ∷ older) x y
  unfolding breaks
  no_hazard_at newer older q whole x y cx cy new lt apart =
      let comes : Comes past older q = subst (λ (l : Past). Comes l older q) (sym whole) (comes_here newer older q) in
      no_hazard growth past older q comes x y cx cy new (rw (lt-ltb x.number y.number lt, apart) refl)
      (λ h. sound older q rule.HazardWar (comes, h)) (λ h. sound older q rule.HazardRaw (comes, h)) (λ h. sound older q rule.HazardWaw (comes, h))

  -- where the last transition is
  last_at : (b : Byte) (v : Node) → last_transition past b ≡ Some v → IsTransition b v
  last_at b v is = let l = last_transition_is b v is in is_transition_node b v l.there l.does

  -- what is no later than it has come when it has
  in_front : (b : Byte) (v : Node) (t : IsTransition b v) (x : Node) → Contains (nodes past) x → x.number ≤ v.number → Contains (nodes (t.at ∷ t.before_it)) x
  in_front b v t x there le =
      let stays = growth (t.at ∷ t.before_it) t.newer in
      let low = number_below (nodes (t.at ∷ t.before_it)) (numbered (t.at ∷ t.before_it)) v t.here in
      let all = subst (λ (q : Past). Contains (nodes q) x) t.whole there in
      older_node stays.added.0 (nodes (t.at ∷ t.before_it)) x (subst (λ (ns : List Node). IsNumbered ns) stays.added.1 (numbered (t.newer ++ t.at ∷ t.before_it))) (subst (λ (ns : List Node). Contains ns x) stays.added.1 all) (omega (arith, low, le))

  -- what another node transitions it transitioned then
  wrote_then : (b : Byte) (v : Node) (t : IsTransition b v) (x : Node) → Contains (nodes (t.at ∷ t.before_it)) x → Transits b x → is_in b (writes (t.at ∷ t.before_it) x) ≡ true
  wrote_then b v t x there_then (r, e, is, wrote) =
      let s = at_point (t.at ∷ t.before_it) x there_then in
      let bytes : is_in b (transition_bytes (p ∷ past) x.point.queue e) ≡ true = ap (λ (a : Act). is_in b (writes_of (p ∷ past) x.point.queue a)) (sym is) ∙ wrote in
      let m = moved (p ∷ past) x.point.queue e b (is_in_from b (transition_bytes (p ∷ past) x.point.queue e) bytes) in
      let barrier = image_element s.at.action r m.of (subst (λ (a : Act). Contains (acts s.at.action) a) (is ∙ ap (Depends r) m.named) s.acted) in
      let split : past ≡ (t.newer ++ s.newer) ++ s.at ∷ s.past = t.whole ∙ ap (λ (q : Past). t.newer ++ q) s.whole ∙ sym (append_assoc t.newer s.newer (s.at ∷ s.past)) in
      let among : Contains barrier.0 e = of_barrier s.at.action barrier.0 barrier.1 (subst (λ (a : Act). Contains (acts s.at.action) a) is s.acted) in
      let there : transition_bytes (t.at ∷ t.before_it) x.point.queue e ≡ transition_bytes (s.at ∷ s.past) x.point.queue e =
      transition_kept (t.at ∷ t.before_it) (λ c q y h. sound c q y (comes_within past t.newer (t.at ∷ t.before_it) t.whole c q h.0, h.1)) s.newer s.past s.at barrier.0 s.whole barrier.1 e among x.point.queue in
      ap (λ (a : Act). is_in b (writes_of (t.at ∷ t.before_it) x.point.queue a)) is
      ∙ ap (is_in b) (there ∙ sym (kept (t.newer ++ s.newer) s.past s.at barrier.0 split barrier.1 e among x.point.queue)) ∙ bytes
    where
      of_barrier : (d : Action) (es : List Element) → d ≡ Run (cmd.Barrier es) → Contains (acts d) (Depends r e) → Contains es e
      of_barrier d es runs c = let f = mapped_from (Depends Barrier) es (Depends r e) (subst (λ (d : Action). Contains (acts d) (Depends r e)) runs c) in let act = f.2 in let same : f.0 ≡ e = cc in subst (λ (g : Element). Contains es g) same f.1

  -- who sees the last one sees each
  pub all_transitions_seen : (b : Byte) → is_cached (p ∷ past) (resource_at b) ≡ is_cached past (resource_at b)
      → (x v y : Node) (k : Access) → Contains (nodes past) x → Transits b x → last_transition past b ≡ Some v → x.number ≤ v.number → is_seen (p ∷ past) v y k b ≡ true → is_seen (p ∷ past) x y k b ≡ true
  all_transitions_seen b still x v y k there does last le seen_v = ⊎_elim earlier same (cases_lt x.number v.number) where
    l : IsLastTransition b v
    l = last_transition_is b v last

    t : IsTransition b v
    t = last_at b v last

    same : v.number ≤ x.number → is_seen (p ∷ past) x y k b ≡ true
    same ge = subst (λ (n : Node). is_seen (p ∷ past) n y k b ≡ true) (unique (nodes past) (numbered past) v x l.there there (omega (arith, le, ge))) seen_v

    written : Contains (writes (t.at ∷ t.before_it) v) b
    written = is_in_from b (writes (t.at ∷ t.before_it) v) (wrote_then b v t v t.here l.does)

    device : is_host v.act ≡ false
    device = rw (l.does.2) refl

    still_then : is_cached (p ∷ past) (resource_at b) ≡ is_cached (t.at ∷ t.before_it) (resource_at b)
    still_then = still ∙ of_image t.is_at.element (is_in_from b (transition_bytes (t.at ∷ t.before_it) t.at.queue t.is_at.element) t.covers) (member t.elements t.is_at.front t.is_at.back t.is_at.element t.is_at.whole) where
      of_image : (e : Element) → Contains (transition_bytes (t.at ∷ t.before_it) t.at.queue e) b → Contains t.elements e → is_cached past (resource_at b) ≡ is_cached (t.at ∷ t.before_it) (resource_at b)
      of_image e c among =
          let m = moved (t.at ∷ t.before_it) t.at.queue e b c in
          let image : resource_at b ≡ m.of.image = ap resource_at m.byte in
          subst (λ (i : ℕ). is_cached past i ≡ is_cached (t.at ∷ t.before_it) i) (sym image) (same_cached past sound t.newer t.before_it t.at t.elements t.whole t.runs m.of (subst (λ (f : Element). Contains t.elements f) m.named among))

    -- no point has a write after write
    free : hazard waw t.before_it t.at ≡ false
    free = free_at t.newer t.before_it t.at t.whole

    earlier : x.number < v.number → is_seen (p ∷ past) x y k b ≡ true
    earlier lt =
        let old = in_front b v t x there le in
        subst (λ (q : Past). seen (λ d. is_cached (p ∷ past) (resource_at d)) (nodes (p ∷ q)) x y k b ≡ true) (sym t.whole)
        (order.last_writer growth t.before_it (p ∷ t.newer) t.at (λ d. is_cached (p ∷ past) (resource_at d)) x v y k b free still_then old t.here t.new lt device (wrote_then b v t x old does) written
        (subst (λ (q : Past). seen (λ d. is_cached (p ∷ past) (resource_at d)) (nodes (p ∷ q)) v y k b ≡ true) t.whole seen_v))

  -- what comes after the last one comes after each
  pub all_transitions_before : (b : Byte) (x v y : Node) → Contains (nodes past) x → Transits b x → last_transition past b ≡ Some v → x.number ≤ v.number → Contains (nodes (p ∷ past)) y → before (nodes (p ∷ past)) v y ≡ true → before (nodes (p ∷ past)) x y ≡ true
  all_transitions_before b x v y there does last le has_y h = ⊎_elim earlier same (cases_lt x.number v.number) where
    l : IsLastTransition b v
    l = last_transition_is b v last

    t : IsTransition b v
    t = last_at b v last

    same : v.number ≤ x.number → before (nodes (p ∷ past)) x y ≡ true
    same ge = subst (λ (n : Node). before (nodes (p ∷ past)) n y ≡ true) (unique (nodes past) (numbered past) v x l.there there (omega (arith, le, ge))) h

    earlier : x.number < v.number → before (nodes (p ∷ past)) x y ≡ true
    earlier lt =
        let old = in_front b v t x there le in
        let first : before (nodes past) x v ≡ true = (no_hazard_at t.newer t.before_it t.at t.whole x v old t.here t.new lt (rw (l.does.2) (and-false (is_host x.act)))).read_first b (wrote_then b v t v t.here l.does) (is_in_from b (reads (t.at ∷ t.before_it) x) (reads_too x does (wrote_then b v t x old does))) in
        transitive (p ∷ past) x v y (has_more growth (p ∷ []) past x there) (has_more growth (p ∷ []) past v l.there) has_y ((growth past (p ∷ [])).orders x v l.there ∙ first) h
      where
        -- a transition reads what it writes
        reads_too : (x : Node) → Transits b x → is_in b (writes (t.at ∷ t.before_it) x) ≡ true → is_in b (reads (t.at ∷ t.before_it) x) ≡ true
        reads_too x (r, e, is, wrote) w = ap (λ (a : Act). is_in b (reads_of (t.at ∷ t.before_it) x.point.queue a)) is ∙ sym (ap (λ (a : Act). is_in b (writes_of (t.at ∷ t.before_it) x.point.queue a)) is) ∙ w
