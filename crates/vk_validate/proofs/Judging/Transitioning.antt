-- What searches of the bytes of a barrier's layout transitions find is what the rules on accesses say of it.
use Rattle.std.proofs.Common.{◌≡◌, ◌<◌, ◌≤◌, ◌+◌, ◌*◌, ◌∷◌, ◌++◌, ℕ, List, [], length, map, slice_get, Bool, true, false, not, ◌||◌, ◌==◌, nat_lt, refl, ap, sym, ◌∙◌, subst, Option, Some, None, inl, inr}
use Rattle.std.specs.Prelude.{Contains, if◌then◌else◌}
use Rattle.std.specs.List.{list_any}
use Rattle.std.proofs.Math.Bool.{or-false, or-true}
use Rattle.std.proofs.lemmas.Bool.{false_from_ne_true, ltb-false, or_parts}
use Rattle.vk_model.specs.declared.command.Cmd.{Cmd}
use Rattle.vk_model.specs.declared.command.Cmd.TheVariants as cmd
use Rattle.vk_model.specs.declared.command.Element.{Element}
use Rattle.vk_model.specs.declared.command.Element.TheVariants as element
use Rattle.vk_model.specs.declared.command.ImageElement.{ImageElement}
use Rattle.vk_model.specs.declared.resource.ImageInfo.{ImageInfo}
use Rattle.vk_model.specs.Basics.{holds}
use Rattle.vk_model.specs.Trace.Objects.{image, is_cached}
use Rattle.vk_model.specs.Trace.Point.{Past, Point, Action, Run, command_of}
use Rattle.vk_model.specs.Trace.Structure.{IsOrdered}
use Rattle.vk_model.specs.World.Areas.{areas_read, areas_written}
use Rattle.vk_model.specs.World.Bytes.{Byte, resource_at}
use Rattle.vk_model.specs.World.ByteWrites.{byte_writes, subresource_bytes}
use Rattle.vk_model.specs.Rules.Hazards.{breaks_read_undefined}
use Rattle.vk_model.specs.Rules.Ranges.{bad_area, bad_element, bad_range, bad_subresource, breaks_overlap, is_beyond}
use Rattle.vk_model.specs.Sync.Access.{image_bytes, transition_bytes}
use Rattle.vk_model.specs.Sync.Before.{before, IsNumbered}
use Rattle.vk_model.specs.Sync.Node.{Node, nodes}
use Rattle.vk_model.specs.Sync.Seen.{Access, Read, Write, seen}
use Rattle.vk_model.proofs.Lists.Members.{member_passes, none_passes_any}
use Rattle.vk_model.proofs.Lists.Truths.{clash}
use Rattle.vk_model.proofs.Rules.Fault.{unbroken_of_none}
use Rattle.vk_model.proofs.Sync.Numbers.{numbered}
use Rattle.vk_image_bytes.specs.Numbers.{byte_of, byte_count}
use Rattle.vk_order.specs.Barriers.{ElementsComeAlone, ElementsSeeAlone}
use Rattle.vk_order.specs.Frontiers.{IsNewNode}
use Rattle.vk_order.specs.Prefixes.{LinePrefix}
use Rattle.vk_order.specs.Visibility.{HostSeen}
use Rattle.vk_order.specs.declared.new_node.NewNode.{NewNode}
use Rattle.vk_touches.specs.declared.touches.LastTouches.{LastTouches}
use Rattle.vk_touches.specs.declared.touches.Touch.TheVariants as touch
use Rattle.vk_touches.specs.declared.transitions.TransitionAccess.{TransitionAccess}
use Rattle.vk_touches.specs.Bytes.{numbered_byte}
use Rattle.vk_touches.specs.Conflicts.{AreConflicts, FoundAmong, FoundAt, FoundInRanges, IsEarly, IsRefused, MissesAt, SaysSeenAt}
use Rattle.vk_touches.specs.Touched.{last_touch, last_transition, touched}
use Rattle.vk_touches.proofs.Judging.Alone.{commands_before, host_before, transition_before, transition_unseen, write_unseen}
use Rattle.vk_touches.proofs.Judging.Covered.{AreThere, ranges_found}
use Rattle.vk_touches.proofs.Judging.Missed.{IsOnImage}
use Rattle.vk_touches.proofs.Judging.Ways.{of_images}
use Rattle.vk_touches.proofs.Touching.BarrierHazards.{early_alone, moved_ways, raw_of_barrier, unseen_alone, war_of_barrier, waw_of_barrier}
use Rattle.vk_touches.proofs.Touching.LastHazards.{OnQueues, read_ways, some_last}
use Rattle.vk_history.specs.Judged.{early_rules, first_among, IsJudged}
use Rattle.vk_history.proofs.Kept.ImageRules.{image_good}
use Rattle.vk_history.proofs.Kept.NextPoint.{IsWithin}
use Rattle.vk_history.proofs.Making.Numbers.{byte_of_image, size_of_image}
use Rattle.vk_validate.specs.declared.rules.hazards.barriers.Moved.{Moved}
use Rattle.vk_validate.specs.Inner.Transitions.{AreCovered, AreMoved, FindsEarly, FindsMissed, FoundInMoved, IsTransitionAccess, node_alone}
use Rattle.vk_validate.proofs.Judging.Early.{early_overlap, early_within}
use Rattle.vk_rules.proofs.Judging.Elements.{apart}
use Rattle.vk_validate.proofs.Points.Queues.{queue_low}

-- what is found among the items of a list is whether a test holds of some
among : {A : Type 0} (is : Bool → A → Type 0) (test : A → Bool) (xs : List A) → ((a : A) → Contains xs a → (r : Bool) → is r a → test a ≡ r) → (r : Bool) → FoundAmong is r xs → list_any test xs ≡ r
among is test xs same true h = member_passes test xs h.0 h.1 (same h.0 h.1 true h.2)
among is test xs same false h = none_passes_any test xs (λ a c. same a c false (h a c))

-- ---- the bytes of a transition

module _ (past : Past) (q : ℕ) where
  -- those of its range
  moved_bytes : (e : Element) (x : Moved) (are : AreMoved past q e x) → transition_bytes past q e ≡ map (λ p. p.0) (subresource_bytes are.on.image are.covered.info are.on.range)
  moved_bytes e x are =
      ap (transition_bytes past q) are.is ∙ ap (λ (t : Bool). if t then image_bytes (image past are.on.image) are.on else []) are.moves ∙ ap (λ (o : Option ImageInfo). image_bytes o are.on) are.covered.made

-- what is found in them is what a test says of them
module _ (past : Past) (on : ImageElement) (x : Moved) (are : AreCovered past on x) (there : AreThere are.info on.range) where
  size_is : length x.contents.now.touches ≡ byte_count are.info
  size_is = are.kept.touches_size ∙ size_of_image past on.image are.info are.made

  ends : (n : ℕ) → n < x.ranges.count → x.ranges.first + n * x.ranges.step + x.ranges.size ≤ length x.contents.now.touches
  ends n lt = subst (λ (z : ℕ). x.ranges.first + n * x.ranges.step + x.ranges.size ≤ z) (sym size_is) (are.ranges.inside n lt)

  remembered : (k : ℕ) → k < byte_count are.info → slice_get x.contents.now.touches k ≡ Some (touched past (byte_of are.info on.image k))
  remembered k lt =
      are.kept.touches k (subst (λ (z : ℕ). k < z) (sym (size_of_image past on.image are.info are.made)) lt) ∙ ap (λ (b : Byte). Some (touched past b)) (byte_of_image past on.image are.info are.made k)

  within : (says : ℕ → Bool → LastTouches → Type 0) (r : Bool) → FoundInMoved says r x → FoundInRanges (λ t low high. FoundAt says t x.contents.now.touches low high) r x.ranges
  within says true h = (h.0, h.1, h.2 (ends h.0 h.1))
  within says false h = λ n lt. h n lt (ends n lt)

  bytes_found : (says : ℕ → Bool → LastTouches → Type 0) (test : Byte → Bool) → ((k : ℕ) (t : Bool) → says k t (touched past (byte_of are.info on.image k)) → test (byte_of are.info on.image k) ≡ t) → (r : Bool) → FoundInMoved says r x
      → list_any test (map (λ p. p.0) (subresource_bytes on.image are.info on.range)) ≡ r
  bytes_found says test same r h = ranges_found are.info on.image on.range there past says test same x.contents.now.touches remembered x.ranges are.ranges r (within says r h)

-- ---- a barrier that comes next

module _ (past : Past) (p : Point) (es : List Element) (is : p.action ≡ Run (cmd.Barrier es)) where
  steady : (c : Cmd) → byte_writes (p ∷ past) c ≡ byte_writes past c
  steady c = subst (λ (d : Action). byte_writes (record p { action = d } ∷ past) c ≡ byte_writes past c) (sym is) refl

  same_bytes : (e : Element) → transition_bytes (p ∷ past) p.queue e ≡ transition_bytes past p.queue e
  same_bytes e = subst (λ (d : Action). transition_bytes (record p { action = d } ∷ past) p.queue e ≡ transition_bytes past p.queue e) (sym is) refl

  -- the levels and layers that its elements name are there
  module _ (fit : IsWithin past p) where
    good_elements : list_any (bad_element past) es ≡ false
    good_elements = (or_parts (list_any (bad_area past) (areas_read past (cmd.Barrier es) ++ areas_written past (cmd.Barrier es))) (list_any (bad_element past) es) (subst (λ (d : Action). holds (command_of d) (bad_subresource past) ≡ false) is fit.subresource)).1

    range_there : (on : ImageElement) (m : ImageInfo) → Contains es (element.Image on) → image past on.image ≡ Some m → AreThere m on.range
    range_there on m c made =
        let good : bad_element past (element.Image on) ≡ false = false_from_ne_true (bad_element past (element.Image on)) (λ h. clash (member_passes (bad_element past) es (element.Image on) c h) good_elements) in
        let fine : bad_range m on.range ≡ false = subst (λ (o : Option ImageInfo). holds o (λ n. bad_range n on.range) ≡ false) made good in
        let both = or_parts (is_beyond m.levels on.range.first_level on.range.levels) (is_beyond m.layers on.range.first_layer on.range.layers) fine in
        record {
          shaped = image_good past fit.faultless on.image m made;
          levels = ltb-false m.levels (on.range.first_level + on.range.levels) (or_parts (on.range.levels == 0) (nat_lt m.levels (on.range.first_level + on.range.levels)) both.0).1;
          layers = ltb-false m.layers (on.range.first_layer + on.range.layers) (or_parts (on.range.layers == 0) (nat_lt m.layers (on.range.first_layer + on.range.layers)) both.1).1;
        }

-- ---- one of its elements

-- reads by the host, those by commands of the four queues, and the transition after them
grouped : (h a b c d t : Bool) → (h || (a || (b || (c || (d || (t || false)))))) ≡ ((h || (a || (b || (c || (d || false))))) || t)
grouped true a b c d t = refl
grouped false true b c d t = refl
grouped false false true c d t = refl
grouped false false false true d t = refl
grouped false false false false true t = refl
grouped false false false false false t = or-false t

module _ (past : Past) (judged : IsJudged past) (p : Point) (ordered : IsOrdered (p ∷ past)) (early : first_among early_rules past p ≡ None) (es : List Element) (is : p.action ≡ Run (cmd.Barrier es)) where
  images : (b : Byte) (v : Node) → last_transition past b ≡ Some v → IsOnImage past v
  images = of_images past judged.faultless p (steady past p es is)

  module _ (e : Element) (listed : Contains es e) where
    abbrev n : Node
    n = node_alone past p e

    found : (x : Moved) (are : AreMoved past p.queue e x) (says : ℕ → Bool → LastTouches → Type 0) (test : Byte → Bool)
        → ((k : ℕ) (t : Bool) → says k t (touched past (byte_of are.covered.info are.on.image k)) → test (byte_of are.covered.info are.on.image k) ≡ t) → (r : Bool) → FoundInMoved says r x → list_any test (transition_bytes (p ∷ past) p.queue e) ≡ r
    found x are says test same r h =
        let there = range_there past p es is (early_within past p early judged.faultless) are.on are.covered.info (subst (λ (d : Element). Contains es d) are.is listed) are.covered.made in
        ap (list_any test) (same_bytes past p es is e ∙ moved_bytes past p.queue e x are) ∙ bytes_found past are.on x are.covered there says test same r h

    none_found : (test : Byte → Bool) → transition_bytes past p.queue e ≡ [] → (r : Bool) → r ≡ false → list_any test (transition_bytes (p ∷ past) p.queue e) ≡ r
    none_found test none r isnt = ap (list_any test) (same_bytes past p es is e ∙ none) ∙ sym isnt

    -- what it doesn't come after
    abbrev ahead_of : Option Node → Bool
    ahead_of o = holds o (λ v. not (before (n ∷ nodes past) v n))

    abbrev by_commands : Byte → Bool
    by_commands b = ahead_of (last_touch (touch.Read 0) past b) || (ahead_of (last_touch (touch.Read 1) past b) || (ahead_of (last_touch (touch.Read 2) past b) || (ahead_of (last_touch (touch.Read 3) past b) || false)))

    ahead : (s : NewNode) → IsNewNode (nodes past) n s → (b : Byte) (r : Bool) → IsEarly s r (touched past b) → some_last past (read_ways false) (early_alone past p e) b ≡ r
    ahead s new_node b r h =
        let host : ahead_of (last_touch touch.HostRead past b) ≡ h.of_host = host_before past judged.faultless p (steady past p es is) n images s new_node b h.of_host h.host in
        let commands : by_commands b ≡ h.of_commands = commands_before past judged.faultless p (steady past p es is) n images s new_node b h.of_commands h.commands in
        let moving : ahead_of (last_transition past b) ≡ h.of_transition = transition_before past judged.faultless p (steady past p es is) n images s new_node b h.of_transition h.transition in
        grouped (ahead_of (last_touch touch.HostRead past b)) (ahead_of (last_touch (touch.Read 0) past b)) (ahead_of (last_touch (touch.Read 1) past b)) (ahead_of (last_touch (touch.Read 2) past b)) (ahead_of (last_touch (touch.Read 3) past b)) (ahead_of (last_transition past b))
        ∙ rw (host, commands, moving) (sym h.either)

    early_found : (r : Bool) → FindsEarly past p r e → list_any (some_last past (read_ways false) (early_alone past p e)) (transition_bytes (p ∷ past) p.queue e) ≡ r
    early_found r (inl none) = none_found (some_last past (read_ways false) (early_alone past p e)) none.0 r none.1
    early_found r (inr h) =
        let s = h.2 (apart past p ordered es is e) in
        found h.0 h.1 (λ k. IsEarly s.0) (some_last past (read_ways false) (early_alone past p e)) (λ k. ahead s.0 s.1 (byte_of h.1.covered.info h.1.on.image k)) r s.2

    -- what it doesn't see
    abbrev missed : Access → Byte → Bool
    missed a b = some_last past moved_ways (unseen_alone past p e a) b

    module _ (a : Access) (i : ℕ) (y : TransitionAccess) (at : IsTransitionAccess past n i y) (k : ℕ) where
      new : IsNumbered (n ∷ nodes past)
      new = (refl, numbered past)

      abbrev unseen_of : Option Node → Bool
      unseen_of o = holds o (λ v. not (seen (λ c. is_cached (p ∷ past) (resource_at c)) (n ∷ nodes past) v n a (numbered_byte y.bytes k)))

      of_command : (r : Bool) → IsRefused (SaysSeenAt y k) r (touched past (numbered_byte y.bytes k)).write → unseen_of (last_touch touch.Write past (numbered_byte y.bytes k)) ≡ r
      of_command r h = write_unseen past judged.faultless p (steady past p es is) n images y (λ c. is_cached (p ∷ past) (resource_at c)) a new at.frontier at.part k r h

      of_transition : (r : Bool) → IsRefused (SaysSeenAt y k) r (touched past (numbered_byte y.bytes k)).transition → unseen_of (last_transition past (numbered_byte y.bytes k)) ≡ r
      of_transition r h = transition_unseen past judged.faultless p (steady past p es is) n images y (λ c. is_cached (p ∷ past) (resource_at c)) a new at.frontier at.part k r h

      unseen : (r : Bool) → MissesAt y k r (touched past (numbered_byte y.bytes k)) → missed a (numbered_byte y.bytes k) ≡ r
      unseen true (inl h) = rw (of_command true h) refl
      unseen true (inr h) = rw (of_transition true h) (or-true (unseen_of (last_touch touch.Write past (numbered_byte y.bytes k))))
      unseen false (h, g) = rw (of_command false h, of_transition false g) refl

    missed_found : (a : Access) (r : Bool) → FindsMissed past p r e → list_any (missed a) (transition_bytes (p ∷ past) p.queue e) ≡ r
    missed_found a r (inl none) = none_found (missed a) none.0 r none.1
    missed_found a r (inr h) =
        let y = h.2 (apart past p ordered es is e) in
        let are = h.1.covered in
        let named : (k : ℕ) → numbered_byte y.0.bytes k ≡ byte_of are.info h.1.on.image k =
        λ k. y.1.bytes.byte k ∙ byte_of_image past h.0.image are.info (ap (image past) are.named ∙ are.made) k ∙ ap (λ (i : ℕ). byte_of are.info i k) are.named in
        found h.0 h.1 (MissesAt y.0) (missed a) (λ k t. subst (λ (b : Byte). MissesAt y.0 k t (touched past b) → missed a b ≡ t) (named k) (unseen a h.0.image y.0 y.1 k t)) r y.2

  -- ---- the rules

  on_queues : OnQueues past
  on_queues x c there runs = queue_low past (unbroken_of_none past judged.faultless) judged.ordered x c there runs

  pub barrier_conflicts : ElementsComeAlone → ElementsSeeAlone → LinePrefix → HostSeen → (war missed : Bool) → FoundAmong (FindsEarly past p) war es → FoundAmong (FindsMissed past p) missed es → AreConflicts (record { war = war; raw = missed; waw = missed; undefined = false }) past p
  barrier_conflicts come_alone see_alone line host war missed ahead unseen = record {
    war = sym (war_of_barrier past judged.faultless p es is overlap come_alone line on_queues
        ∙ among (FindsEarly past p) (λ e. list_any (some_last past (read_ways false) (early_alone past p e)) (transition_bytes (p ∷ past) p.queue e)) es early_found war ahead);
    raw = sym (raw_of_barrier past judged.faultless p es is overlap see_alone host ∙ among (FindsMissed past p) (λ e. list_any (some_last past moved_ways (unseen_alone past p e Read)) (transition_bytes (p ∷ past) p.queue e)) es (λ e c. missed_found e c Read) missed unseen);
    waw = sym (waw_of_barrier past judged.faultless p es is overlap see_alone host ∙ among (FindsMissed past p) (λ e. list_any (some_last past moved_ways (unseen_alone past p e Write)) (transition_bytes (p ∷ past) p.queue e)) es (λ e c. missed_found e c Write) missed unseen);
    undefined = subst (λ (d : Action). false ≡ breaks_read_undefined past (record p { action = d })) (sym is) refl;
  } where
    overlap : breaks_overlap past p ≡ false
    overlap = early_overlap past p early
