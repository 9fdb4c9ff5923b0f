-- Who owns resources, as nodes come.
use Rattle.std.proofs.Common.{◌≡◌, ◌≤◌, ◌<◌, ◌+◌, ℕ, ◌==◌, List, [], ◌∷◌, Bool, true, false, ◌&&◌, ◌||◌, length, refl, ap, sym, ◌∙◌, subst, arith, Option, Some, None, map, drop, get_or}
use Rattle.std.specs.Prelude.{if◌then◌else◌}
use Rattle.std.specs.List.{fold, enumerate_from}
use Rattle.std.proofs.lemmas.Bool.{eqb-true, eq-eqb}
use Rattle.std.proofs.lemmas.List.{drop_all, drop_more}
use Rattle.vk_model.specs.Basics.{among, holds}
use Rattle.vk_model.specs.declared.command.Cmd.{Cmd}
use Rattle.vk_model.specs.declared.command.Cmd.TheVariants as cmd
use Rattle.vk_model.specs.declared.command.Dependency.{Dependency}
use Rattle.vk_model.specs.declared.command.Element.{Element}
use Rattle.vk_model.specs.declared.command.Element.TheVariants as element
use Rattle.vk_model.specs.declared.command.BufferElement.{BufferElement}
use Rattle.vk_model.specs.declared.command.ImageElement.{ImageElement}
use Rattle.vk_model.specs.declared.entry.Entry.{Entry}
use Rattle.vk_model.specs.declared.entry.SemaphoreSubmit.{SemaphoreSubmit}
use Rattle.vk_model.specs.Trace.Objects.{is_exclusive}
use Rattle.vk_model.specs.Trace.Point.{Past, Point, Action, Host, Wait, Signal}
use Rattle.vk_model.specs.World.Bytes as world
use Rattle.vk_model.specs.World.Bytes.{World}
use Rattle.vk_model.specs.World.Effect as effect
use Rattle.vk_model.specs.World.Effect.{used, set_owner, after_action, after_command, transitioned}
use Rattle.vk_model.specs.World.Ownership.{Transfer, Stays, Release, Acquire, Neither, transfer, family_of, uses, named_by, families_of, is_transition, releases, is_release}
use Rattle.vk_model.specs.Rules.Owners.{is_released, is_release_of, element_in}
use Rattle.vk_model.specs.Sync.Node.{Node, Act, Hosts, Waits, Signals, Runs, Depends, Role, Barrier, with_acts, command_acts, acts, nodes}
use Rattle.vk_model.specs.Sync.Before.{IsNumbered}
use Rattle.vk_model.proofs.Lists.Members.{found}
use Rattle.vk_model.proofs.Lists.Truths.{clash}
use Rattle.vk_model.proofs.Sync.Numbers.{number_below, numbered}
use Rattle.vk_laws.proofs.Forms.Unchanged.{host_owner, transitioned_owner}
use Rattle.vk_order.specs.declared.parts.Spot.{Spot}
use Rattle.vk_order.specs.Lines.{line_of, place}
use Rattle.vk_order.proofs.PlaceLemmas.{place-older}
use Rattle.vk_order.specs.declared.frontier.Frontier.{Frontier}
use Rattle.vk_order.specs.Frontiers.{IsFrontier}
use Rattle.vk_history.specs.declared.last_uses.ElementCounts.{ElementCounts}
use Rattle.vk_history.specs.declared.objects.Objects.{Objects}
use Rattle.vk_history.specs.declared.owners.Owners.{Owners}
use Rattle.vk_history.specs.Tabled.{AreObjects}
use Rattle.vk_history.specs.Uses.{AreElementCounts}
use Rattle.vk_history.specs.Counted.{is_id}
use Rattle.vk_history.specs.Owners.{Kept, owner_now, kept_at, IsLastRelease, IsOwned, AreOwned, AreOwners, owned_by, released_by, is_transition_of, after_half, half_of, after_element}
use Rattle.std.proofs.Math.Bool.{and-false}

-- ---- uses

-- the owner after uses by a family
pub owner_used : (past : Past) (f : ℕ) (rs : List ℕ) (w : World) (r : ℕ) → (fold (λ v k. used past f k v) w rs).owner r ≡ (if among r rs && is_exclusive past r then world.Family f else w.owner r)
owner_used past f [] w r = refl
owner_used past f (k ∷ rs) w r = owner_used past f rs (used past f k w) r ∙ go (r == k) refl (is_exclusive past r) refl (among r rs) where
  once : (x : Bool) → is_exclusive past k ≡ x → (used past f k w).owner r ≡ (if x then (if r == k then world.Family f else w.owner r) else w.owner r)
  once true e = rw e refl
  once false e = rw e refl

  pick : (b x t : Bool) → (used past f k w).owner r ≡ (if b && x then world.Family f else w.owner r) → (if t && x then world.Family f else (used past f k w).owner r) ≡ (if (b || t) && x then world.Family f else w.owner r)
  pick true true true e = refl
  pick true true false e = e
  pick true false true e = e
  pick true false false e = e
  pick false true true e = refl
  pick false true false e = e
  pick false false true e = e
  pick false false false e = e

  here : (b : Bool) → (r == k) ≡ b → (x : Bool) → is_exclusive past r ≡ x → (y : Bool) → is_exclusive past k ≡ y → (used past f k w).owner r ≡ (if b && x then world.Family f else w.owner r)
  here true e true h true g = once true g ∙ rw e refl
  here true e false h false g = once false g
  here true e true h false g = clash (ap (is_exclusive past) (sym (eqb-true r k e)) ∙ h) g
  here true e false h true g = clash (ap (is_exclusive past) (eqb-true r k e) ∙ g) h
  here false e true h true g = once true g ∙ rw e refl
  here false e false h true g = once true g ∙ rw e refl
  here false e true h false g = once false g
  here false e false h false g = once false g

  go : (b : Bool) → (r == k) ≡ b → (x : Bool) → is_exclusive past r ≡ x → (t : Bool) → (if t && is_exclusive past r then world.Family f else (used past f k w).owner r) ≡ (if ((r == k) || t) && is_exclusive past r then world.Family f else w.owner r)
  go b e x h t = rw (h, e) (pick b x t (here b e x h (is_exclusive past k) refl))

-- ---- elements

-- the owner after an element, by what it does
abbrev pub owner_half : Past → ℕ → Element → ℕ → Transfer → world.Owner → world.Owner
owner_half past f e r Stays o = if is_transition_of e && is_exclusive past r then world.Family f else o
owner_half past f e r Release o = world.Released f e
owner_half past f e r Acquire o = world.Family f
owner_half past f e r Neither o = o

used_one : (past : Past) (f k : ℕ) (w : World) (r : ℕ) → (used past f k w).owner r ≡ (if is_id r (Some k) && is_exclusive past r then world.Family f else w.owner r)
used_one past f k w r = owner_used past f (k ∷ []) w r ∙ drop_or (r == k) where
  drop_or : (b : Bool) → (if (b || false) && is_exclusive past r then world.Family f else w.owner r) ≡ (if b && is_exclusive past r then world.Family f else w.owner r)
  drop_or true = refl
  drop_or false = refl

module _ (past : Past) (f : ℕ) (w : World) (r : ℕ) where
  -- what is set for one resource
  set_here : (k : ℕ) (o : world.Owner) (v : World) → (r == k ≡ false → v.owner r ≡ w.owner r) → (set_owner k o v).owner r ≡ (if is_id r (Some k) then o else w.owner r)
  set_here k o v same = go (r == k) refl where
    go : (b : Bool) → (r == k) ≡ b → (set_owner k o v).owner r ≡ (if is_id r (Some k) then o else w.owner r)
    go true e = rw e refl
    go false e = rw e (same e)

  -- a use leaves the owners of others
  used_other : (k : ℕ) → r == k ≡ false → (used past f k w).owner r ≡ w.owner r
  used_other k e = used_one past f k w r ∙ rw e refl

  of_buffer : (e : BufferElement) (t : Transfer) → transfer f e.families ≡ t → (effect.after_element past f w (element.Buffer e)).owner r ≡ (if is_id r (Some e.buffer) then owner_half past f (element.Buffer e) r t (w.owner r) else w.owner r)
  of_buffer e Stays h = rw h (same (is_id r (Some e.buffer))) where
    same : (b : Bool) → w.owner r ≡ (if b then w.owner r else w.owner r)
    same true = refl
    same false = refl
  of_buffer e Neither h = rw h (same (is_id r (Some e.buffer))) where
    same : (b : Bool) → w.owner r ≡ (if b then w.owner r else w.owner r)
    same true = refl
    same false = refl
  of_buffer e Release h = rw h (set_here e.buffer (world.Released f (element.Buffer e)) (used past f e.buffer w) (used_other e.buffer))
  of_buffer e Acquire h = rw h (set_here e.buffer (world.Family f) w (λ n. refl))

  of_image : (e : ImageElement) (t : Transfer) → transfer f e.families ≡ t → (effect.after_element past f w (element.Image e)).owner r ≡ (if is_id r (Some e.image) then owner_half past f (element.Image e) r t (w.owner r) else w.owner r)
  of_image e Stays h = rw h (go (is_transition e) refl) where
    flat : (b x : Bool) → (if b && x then world.Family f else w.owner r) ≡ (if b then (if x then world.Family f else w.owner r) else w.owner r)
    flat true x = refl
    flat false x = refl

    same : (b : Bool) → w.owner r ≡ (if b then w.owner r else w.owner r)
    same true = refl
    same false = refl

    go : (b : Bool) → is_transition e ≡ b → (if is_transition e then transitioned e (used past f e.image w) else w).owner r ≡ (if is_id r (Some e.image) then (if is_transition e && is_exclusive past r then world.Family f else w.owner r) else w.owner r)
    go true g =
        ap (λ (b : Bool). (if b then transitioned e (used past f e.image w) else w).owner r) g
        ∙ transitioned_owner e (used past f e.image w) r ∙ used_one past f e.image w r ∙ flat (is_id r (Some e.image)) (is_exclusive past r)
        ∙ ap (λ (b : Bool). if is_id r (Some e.image) then (if b && is_exclusive past r then world.Family f else w.owner r) else w.owner r) (sym g)
    go false g =
        ap (λ (b : Bool). (if b then transitioned e (used past f e.image w) else w).owner r) g
        ∙ same (is_id r (Some e.image))
        ∙ ap (λ (b : Bool). if is_id r (Some e.image) then (if b && is_exclusive past r then world.Family f else w.owner r) else w.owner r) (sym g)
  of_image e Neither h = rw h (same (is_id r (Some e.image))) where
    same : (b : Bool) → w.owner r ≡ (if b then w.owner r else w.owner r)
    same true = refl
    same false = refl
  of_image e Release h = rw h (set_here e.image (world.Released f (element.Image e)) (used past f e.image w) (used_other e.image))
  of_image e Acquire h = rw h (set_here e.image (world.Family f) (transitioned e w) (λ n. transitioned_owner e w r))

  -- the owner after an element
  pub owner_after : (e : Element) → (effect.after_element past f w e).owner r ≡ (if is_id r (named_by e) then owner_half past f e r (half_of f (families_of e)) (w.owner r) else w.owner r)
  owner_after (element.Memory d) = refl
  owner_after (element.Buffer e) = of_buffer e (transfer f e.families) refl
  owner_after (element.Image e) = of_image e (transfer f e.families) refl

-- ---- which nodes are releases

flip : (r k : ℕ) → (r == k) ≡ (k == r)
flip r k = go (r == k) refl (k == r) refl where
  go : (b : Bool) → (r == k) ≡ b → (c : Bool) → (k == r) ≡ c → (r == k) ≡ (k == r)
  go true e true h = e ∙ sym h
  go false e false h = e ∙ sym h
  go true e false h = clash (eq-eqb k r (sym (eqb-true r k e))) h
  go false e true h = clash (eq-eqb r k (sym (eqb-true k r h))) e

pub release_now : (r q : ℕ) (e : Element) → (is_release q e && holds (named_by e) (λ i. i == r)) ≡ (releases (half_of (family_of q) (families_of e)) && is_id r (named_by e))
release_now r q (element.Memory d) = refl
release_now r q (element.Buffer e) = ap (λ (b : Bool). releases (transfer (family_of q) e.families) && b) (flip e.buffer r)
release_now r q (element.Image e) = ap (λ (b : Bool). releases (transfer (family_of q) e.families) && b) (flip e.image r)

-- ---- a node comes

module _ (ns : List Node) (n : Node) (numbers : IsNumbered (n ∷ ns)) (r : ℕ) where
  stays : (s : Spot) → is_release_of r n ≡ false → IsLastRelease ns r s → IsLastRelease (n ∷ ns) r s
  stays s none last = record {
    node = last.node;
    last = rw none last.last;
    line = last.line;
    place = place-older n ns numbers.0 s.line last.node.number (let lt = number_below ns numbers.1 last.node (found (is_release_of r) ns last.node last.last).0 in omega (arith, lt)) ∙ last.place;
  }

  -- one that isn't a release of the resource
  pub other_node : (kept : Option Kept) (o : world.Owner) → is_release_of r n ≡ false → IsOwned kept o ns r → IsOwned kept o (n ∷ ns) r
  other_node kept o none is = record { owner = is.owner; released = λ k e h. (let s = is.released k e h in (s.0, s.1, stays s.0 none s.2)) }

  -- the family that has it now
  pub taken : (f : ℕ) → IsOwned (Some (owned_by f)) (world.Family f) (n ∷ ns) r
  taken f = record { owner = refl; released = λ k e h. clash h (subst (λ (o : Option Kept). is_released (owner_now o) ≡ false) e refl) }

  -- one that is
  pub released_now : (f : ℕ) (e : Element) (s : Spot) → is_release_of r n ≡ true → line_of n ≡ Some s.line → s.place ≡ place ns s.line (length ns) → IsOwned (Some (released_by f e s)) (world.Released f e) (n ∷ ns) r
  released_now f e s is on at = record { owner = refl; released = λ k same h. (s, subst (λ (o : Option Kept). holds_spot o) same refl, record { node = n; last = rw is refl; line = on; place = own }) } where
    holds_spot : Option Kept → Type 0
    holds_spot None = ⊥
    holds_spot (Some k) = k.release ≡ Some s

    own : place (n ∷ ns) s.line n.number ≡ s.place
    own = place-older n ns numbers.0 s.line n.number (let e = numbers.0 in omega (arith, e)) ∙ ap (place ns s.line) numbers.0 ∙ sym at

-- an element of a barrier comes
pub element_comes : (past : Past) (w : World) (ns : List Node) (n : Node) → IsNumbered (n ∷ ns) → (q : ℕ) → n.point.queue ≡ q → (e : Element) → n.act ≡ Depends Barrier e → (s : Spot) → line_of n ≡ Some s.line → s.place ≡ place ns s.line (length ns)
    → (old new : Owners) → ((r : ℕ) → kept_at new r ≡ after_element past (family_of q) e s r (kept_at old r)) → AreOwned old w.owner ns → AreOwned new (effect.after_element past (family_of q) w e).owner (n ∷ ns)
element_comes past w ns n numbers q on e is s line at old new same are r =
    subst (λ (o : world.Owner). IsOwned (kept_at new r) o (n ∷ ns) r) (sym (owner_after past f w r e))
    (subst (λ (k : Option Kept). IsOwned k (if is_id r (named_by e) then owner_half past f e r t (w.owner r) else w.owner r) (n ∷ ns) r) (sym (same r)) (by_name (is_id r (named_by e)) refl))
  where
    f : ℕ
    f = family_of q

    t : Transfer
    t = half_of (family_of q) (families_of e)

    is_release_now : is_release_of r n ≡ (releases t && is_id r (named_by e))
    is_release_now = ap (λ (a : Act). holds (element_in a) (λ x. is_release n.point.queue x && holds (named_by x) (λ i. i == r))) is ∙ ap (λ (k : ℕ). is_release k e && holds (named_by e) (λ i. i == r)) on ∙ release_now r q e

    by_half : (u : Transfer) → t ≡ u → is_id r (named_by e) ≡ true → IsOwned (after_half past f e s r u (kept_at old r)) (owner_half past f e r u (w.owner r)) (n ∷ ns) r
    by_half Stays g h = go (is_transition_of e && is_exclusive past r) where
      go : (b : Bool) → IsOwned (if b then Some (owned_by f) else kept_at old r) (if b then world.Family f else w.owner r) (n ∷ ns) r
      go true = taken ns n numbers r f
      go false = other_node ns n numbers r (kept_at old r) (w.owner r) (is_release_now ∙ ap (λ (u : Transfer). releases u && is_id r (named_by e)) g) (are r)
    by_half Release g h = released_now ns n numbers r f e s (is_release_now ∙ ap (λ (u : Transfer). releases u && is_id r (named_by e)) g ∙ h) line at
    by_half Acquire g h = taken ns n numbers r f
    by_half Neither g h = other_node ns n numbers r (kept_at old r) (w.owner r) (is_release_now ∙ ap (λ (u : Transfer). releases u && is_id r (named_by e)) g) (are r)

    by_name : (b : Bool) → is_id r (named_by e) ≡ b → IsOwned (if is_id r (named_by e) then after_half past f e s r t (kept_at old r) else kept_at old r) (if is_id r (named_by e) then owner_half past f e r t (w.owner r) else w.owner r) (n ∷ ns) r
    by_name true h = rw h (by_half t refl h)
    by_name false h = rw h (other_node ns n numbers r (kept_at old r) (w.owner r) (is_release_now ∙ ap (λ (b : Bool). releases t && b) h ∙ and-false (releases t)) (are r))

-- ---- the elements of a barrier, one after another

abbrev pub HaveCome : ElementCounts → Owners → Owners → Objects → Frontier → ℕ → List Element → List Element → Type 0
HaveCome counts first now objects f q rest all =
    (past : Past) (w : World) (ns : List Node) (p : Point) → p.queue ≡ q → AreObjects objects past → IsFrontier f ns → AreOwned first w.owner ns
    → (ms : List Node) × (v : World) × IsNumbered ms × AreElementCounts counts q ms × AreOwned now v.owner ms
    × (with_acts p (map (Depends Barrier) rest) ms ≡ with_acts p (map (Depends Barrier) all) ns) × (fold (effect.after_element past (family_of q)) v rest ≡ fold (effect.after_element past (family_of q)) w all)

abbrev pub OneComes : ElementCounts → ElementCounts → Owners → Owners → Objects → ℕ → Element → Type 0
OneComes before after old new objects q e =
    (past : Past) (w : World) (ns : List Node) (n : Node) → IsNumbered (n ∷ ns) → n.point.queue ≡ q → n.act ≡ Depends Barrier e → AreObjects objects past → AreElementCounts before q ns → AreOwned old w.owner ns
    → AreElementCounts after q (n ∷ ns) × AreOwned new (effect.after_element past (family_of q) w e).owner (n ∷ ns)

pub one_more : (before after : ElementCounts) (first old new : Owners) (objects : Objects) (f : Frontier) (q : ℕ) (xs : List Element) (i : ℕ) (d e : Element) → i < length xs → e ≡ get_or xs i d
    → OneComes before after old new objects q e → HaveCome before first old objects f q (drop i xs) xs → HaveCome after first new objects f q (drop (i + 1) xs) xs
one_more before after first old new objects f q xs i d e lt here step come past w ns p on made frontier are =
    let h = come past w ns p on made frontier are in
    let n : Node = record { number = length h.0; point = p; act = Depends Barrier e } in
    let s = step past h.1 h.0 n (refl, h.2) on refl made h.3 h.4 in
    let next : e ∷ drop (i + 1) xs ≡ drop i xs = ap (λ (x : Element). x ∷ drop (i + 1) xs) here ∙ sym (drop_more xs i d lt) in (
      n ∷ h.0,
      effect.after_element past (family_of q) h.1 e,
      (refl, h.2),
      s.0,
      s.1,
      ap (λ (l : List Element). with_acts p (map (Depends Barrier) l) h.0) next ∙ h.5,
      ap (λ (l : List Element). fold (effect.after_element past (family_of q)) h.1 l) next ∙ h.6,
    )

pub all_come : (counts : ElementCounts) (first now : Owners) (objects : Objects) (f : Frontier) (q : ℕ) (xs : List Element) (i : ℕ) → length xs ≤ i → HaveCome counts first now objects f q (drop i xs) xs
    → (past : Past) (w : World) (ns : List Node) (p : Point) → p.queue ≡ q → AreObjects objects past → IsFrontier f ns → AreOwned first w.owner ns
    → AreOwned now (fold (effect.after_element past (family_of q)) w xs).owner (with_acts p (map (Depends Barrier) xs) ns)
all_come counts first now objects f q xs i ge come past w ns p on made frontier are =
    let h = come past w ns p on made frontier are in
    let none : drop i xs ≡ [] = drop_all i xs ge in
    let same_nodes : h.0 ≡ with_acts p (map (Depends Barrier) xs) ns = ap (λ (l : List Element). with_acts p (map (Depends Barrier) l) h.0) (sym none) ∙ h.5 in
    let same_world : h.1 ≡ fold (effect.after_element past (family_of q)) w xs = ap (λ (l : List Element). fold (effect.after_element past (family_of q)) h.1 l) (sym none) ∙ h.6 in
    subst (λ (v : World). AreOwned now v.owner (with_acts p (map (Depends Barrier) xs) ns)) same_world (subst (λ (l : List Node). AreOwned now h.1.owner l) same_nodes h.4)

-- ---- other points

-- a node comes that releases nothing
pub quiet_comes : (owners : Owners) (o : ℕ → world.Owner) (ns : List Node) (n : Node) → IsNumbered (n ∷ ns) → ((r : ℕ) → is_release_of r n ≡ false) → AreOwned owners o ns → AreOwned owners o (n ∷ ns)
quiet_comes owners o ns n numbers none are r = other_node ns n numbers r (kept_at owners r) (o r) (none r) (are r)

-- a barrier of one element on all memory
pub memory_comes : (owners : Owners) (past : Past) (w : World) (f : ℕ) (p : Point) (ns : List Node) (d : Dependency) → IsNumbered ns → AreOwned owners w.owner ns
    → AreOwned owners (fold (effect.after_element past f) w (element.Memory d ∷ [])).owner (with_acts p (map (Depends Barrier) (element.Memory d ∷ [])) ns)
memory_comes owners past w f p ns d numbers are =
    let n : Node = record { number = length ns; point = p; act = Depends Barrier (element.Memory d) } in
    quiet_comes owners w.owner ns n (refl, numbers) (λ r. refl) are

-- a set or an await
pub events_come : (role : ℕ → Role) (owners : Owners) (o : ℕ → world.Owner) (p : Point) (k : ℕ) (ms : List Dependency) (ns : List Node) → IsNumbered ns → AreOwned owners o ns
    → AreOwned owners o (with_acts p (map (λ x. Depends (role x.0) (element.Memory x.1)) (enumerate_from k ms)) ns)
events_come role owners o p k [] ns numbers are = are
events_come role owners o p k (m ∷ ms) ns numbers are =
    let n : Node = record { number = length ns; point = p; act = Depends (role k) (element.Memory m) } in
    events_come role owners o p (k + 1) ms (n ∷ ns) (refl, numbers) (quiet_comes owners o ns n (refl, numbers) (λ r. refl) are)

-- a clear or copy
pub command_comes : (c : Cmd) → ((es : List Element) → c ≡ cmd.Barrier es → ⊥) → ((v : ℕ) (ms : List Dependency) → c ≡ cmd.Set v ms → ⊥) → ((v : ℕ) (ms : List Dependency) → c ≡ cmd.Await v ms → ⊥)
    → (past : Past) (w : World) (f : ℕ) (ns : List Node) (p : Point) → IsNumbered ns → (old new : Owners) (ids : List ℕ) → ids ≡ uses c
    → ((r : ℕ) → kept_at new r ≡ (if among r ids && is_exclusive past r then Some (owned_by f) else kept_at old r)) → AreOwned old w.owner ns → AreOwned new (after_command past f c w).owner (with_acts p (command_acts c) ns)
command_comes c barrier set_of await_of past w f ns p numbers old new ids are_ids same are r =
    subst (λ (l : List Act). IsOwned (kept_at new r) ((after_command past f c w).owner r) (with_acts p l ns) r) (sym (alone c barrier set_of await_of).0)
    (subst (λ (o : world.Owner). IsOwned (kept_at new r) o (n ∷ ns) r) (sym ((alone c barrier set_of await_of).1 ∙ owner_used past f (uses c) w r))
    (subst (λ (k : Option Kept). IsOwned k (if among r (uses c) && is_exclusive past r then world.Family f else w.owner r) (n ∷ ns) r) (sym (same r ∙ ap (λ (l : List ℕ). if among r l && is_exclusive past r then Some (owned_by f) else kept_at old r) are_ids)) (go (among r (uses c) && is_exclusive past r))))
  where
    n : Node
    n = record { number = length ns; point = p; act = Runs c }

    alone : (c : Cmd) → ((es : List Element) → c ≡ cmd.Barrier es → ⊥) → ((v : ℕ) (ms : List Dependency) → c ≡ cmd.Set v ms → ⊥) → ((v : ℕ) (ms : List Dependency) → c ≡ cmd.Await v ms → ⊥)
        → (command_acts c ≡ Runs c ∷ []) × ((after_command past f c w).owner r ≡ (fold (λ v k. used past f k v) w (uses c)).owner r)
    alone (cmd.Barrier es) b s a = absurd (b es refl)
    alone (cmd.Set v ms) b s a = absurd (s v ms refl)
    alone (cmd.Await v ms) b s a = absurd (a v ms refl)
    alone (cmd.Fill i o n w) b s a = (refl, refl)
    alone (cmd.Update i o bytes) b s a = (refl, refl)
    alone (cmd.Copy i d gs) b s a = (refl, refl)
    alone (cmd.Clear i l color rs) b s a = (refl, refl)
    alone (cmd.CopyIn i j l gs) b s a = (refl, refl)
    alone (cmd.CopyOut i l j gs) b s a = (refl, refl)
    alone (cmd.CopyImage i l d m gs) b s a = (refl, refl)

    go : (b : Bool) → IsOwned (if b then Some (owned_by f) else kept_at old r) (if b then world.Family f else w.owner r) (n ∷ ns) r
    go true = taken ns n (refl, numbers) r f
    go false = other_node ns n (refl, numbers) r (kept_at old r) (w.owner r) refl (are r)

-- a point of one act that releases nothing
abbrev quiet_act : Act → Type 0
quiet_act a = (q r : ℕ) → holds (element_in a) (λ e. is_release q e && holds (named_by e) (λ i. i == r)) ≡ false

module _ (owners : Owners) (past : Past) (p : Point) (are : AreOwners owners past) where
  one : (a : Act) → quiet_act a → AreOwned owners (effect.world past).owner (record { number = length (nodes past); point = p; act = a } ∷ nodes past)
  one a quiet = quiet_comes owners (effect.world past).owner (nodes past) (record { number = length (nodes past); point = p; act = a }) (refl, numbered past) (λ r. quiet p.queue r) are

  -- what there is after an action
  abbrev pub AreAfter : Action → Type 0
  AreAfter d = AreOwned owners (after_action past p.queue d (effect.world past)).owner (with_acts p (acts d) (nodes past))

  pub host_comes : (x : Entry) → AreAfter (Host x)
  host_comes x = subst (λ (o : ℕ → world.Owner). AreOwned owners o (record { number = length (nodes past); point = p; act = Hosts x } ∷ nodes past)) (sym (host_owner past x (effect.world past))) (one (Hosts x) (λ q r. refl))

  pub wait_comes : (s : SemaphoreSubmit) → AreAfter (Wait s)
  wait_comes s = one (Waits s) (λ q r. refl)

  pub signal_comes : (s : SemaphoreSubmit) → AreAfter (Signal s)
  signal_comes s = one (Signals s) (λ q r. refl)
