-- What a byte remembers after a barrier: its elements have come one after another.
use Rattle.std.proofs.Common.{◌≡◌, ◌+◌, ℕ, List, [], ◌∷◌, map, length, Bool, true, false, not, ◌&&◌, ◌==◌, refl, ap, sym, ◌∙◌, arith, Option, Some, None}
use Rattle.std.specs.Prelude.{if◌then◌else◌}
use Rattle.std.specs.Option.{option_map, option_or}
use Rattle.std.proofs.Math.Bool.{and-false}
use Rattle.vk_model.specs.declared.command.Cmd.TheVariants as cmd
use Rattle.vk_model.specs.declared.command.Element.{Element}
use Rattle.vk_model.specs.declared.command.Element.TheVariants as element
use Rattle.vk_model.specs.declared.resource.ImageInfo.{ImageInfo}
use Rattle.vk_model.specs.Trace.Objects.{image}
use Rattle.vk_model.specs.Trace.Point.{Past, Point, Action, Run}
use Rattle.vk_model.specs.World.Bytes.{Byte}
use Rattle.vk_model.specs.World.Ownership.{is_transition, is_release}
use Rattle.vk_model.specs.Sync.Access.{is_in, image_bytes}
use Rattle.vk_model.specs.Sync.Node.{Node, Depends, Barrier, nodes, acts, with_acts}
use Rattle.vk_model.specs.Sync.Seen.{invalidates, flushes}
use Rattle.vk_order.specs.Barriers.{element_node}
use Rattle.vk_order.specs.Lines.{place, class_of}
use Rattle.vk_order.proofs.PlaceLemmas.{place_stays}
use Rattle.vk_touches.specs.declared.touches.LastTouches.{LastTouches}
use Rattle.vk_touches.specs.declared.touches.Spot.{Spot}
use Rattle.vk_touches.specs.declared.touches.Touch.{Touch}
use Rattle.vk_touches.specs.declared.touches.Touch.TheVariants as touch
use Rattle.vk_touches.specs.Remembered.{with_transition}
use Rattle.vk_touches.specs.Touched.{touches, touched, last_spot, last_place, is_invalidated, flush_spot, act_next, only_if, is_transition_of, last_element, transition_next, transition_spot, spot_of}
use Rattle.vk_touches.proofs.Touching.Flushing.{flush_step, invalidated_step}
use Rattle.vk_touches.proofs.Touching.LastTransitions.{transition_step}
use Rattle.vk_touches.proofs.Touching.Spots.{last_step}
use Rattle.vk_history.specs.Inner.Passing.{spot_after, touched_by, touched_by_all}

module _ (past : Past) (p : Point) (b : Byte) where
  -- the last transition among elements that come after some nodes
  abbrev last_among : List Node → List Element → Option Node
  last_among ns es = last_element p (is_transition_of (p ∷ past) p.queue b) (length ns) es

  -- with it, or with what was remembered
  abbrev with_last : Option Node → LastTouches → LastTouches
  with_last o t = record t { transition = option_or (option_map (spot_of (p ∷ past)) o) t.transition }

  module _ (same : (e : Element) → is_transition_of past p.queue b e ≡ is_transition_of (p ∷ past) p.queue b e) where
    spot_is : (es : List Element) (ns : List Node) (e : Element) → with_acts p (map (Depends Barrier) es) ns ≡ nodes (p ∷ past) → spot_after ns (element_node p (length ns) e) ≡ spot_of (p ∷ past) (element_node p (length ns) e)
    spot_is es ns e whole =
        let n : Node = element_node p (length ns) e in
        ap (λ (k : ℕ). let s : Spot = record { line = class_of n; place = k; number = length ns } in s)
        (sym (place_stays p (map (Depends Barrier) es) ns (class_of n) (length ns) (omega arith)) ∙ ap (λ (ms : List Node). place ms (class_of n) (length ns)) whole)

    one_more : (u : Bool) (s : Spot) (n : Node) → s ≡ spot_of (p ∷ past) n → (o : Option Node) (t : LastTouches) → with_last o (if u then with_transition t s else t) ≡ with_last (option_or o (only_if u n)) t
    one_more true s n is None t = ap (with_transition t) is
    one_more true s n is (Some v) t = refl
    one_more false s n is None t = refl
    one_more false s n is (Some v) t = refl

    touched_folds : (es : List Element) (ns : List Node) → with_acts p (map (Depends Barrier) es) ns ≡ nodes (p ∷ past) → (t : Byte → LastTouches) → touched_by_all past p ns es t b ≡ with_last (last_among ns es) (t b)
    touched_folds [] ns whole t = refl
    touched_folds (e ∷ es) ns whole t =
        let n : Node = element_node p (length ns) e in
        let s : Spot = spot_after ns n in
        let next : length (n ∷ ns) ≡ length ns + 1 = omega arith in
        touched_folds es (n ∷ ns) whole (touched_by past p.queue e s t)
        ∙ ap (λ (k : ℕ). with_last (last_element p (is_transition_of (p ∷ past) p.queue b) k es) (if is_transition_of past p.queue b e then with_transition (t b) s else t b)) next
        ∙ ap (λ (u : Bool). with_last (last_element p (is_transition_of (p ∷ past) p.queue b) (length ns + 1) es) (if u then with_transition (t b) s else t b)) (same e)
        ∙ one_more (is_transition_of (p ∷ past) p.queue b e) s n (spot_is (e ∷ es) ns e whole) (last_element p (is_transition_of (p ∷ past) p.queue b) (length ns + 1) es) (t b)

-- what a byte remembers, part by part
abbrev made : Option Spot → Bool → (h f x : Option Spot) → (r i j k l : Option ℕ) → LastTouches
made w v h f x r i j k l = record { write = w; is_invalidated = v; host_write = h; flush = f; transition = x; host_read = r; reads = record { first = i; second = j; third = k; fourth = l } }

all_same : (w w' : Option Spot) (v v' : Bool) (h h' f f' x x' : Option Spot) (r r' i i' j j' k k' l l' : Option ℕ) → w ≡ w' → v ≡ v' → h ≡ h' → f ≡ f' → x ≡ x' → r ≡ r' → i ≡ i' → j ≡ j' → k ≡ k' → l ≡ l'
    → made w v h f x r i j k l ≡ made w' v' h' f' x' r' i' j' k' l'
all_same w w' v v' h h' f f' x x' r r' i i' j j' k k' l l' e1 e2 e3 e4 e5 e6 e7 e8 e9 e10 = rw (e1, e2, e3, e4, e5, e6, e7, e8, e9, e10) refl

module _ (past : Past) (p : Point) (es : List Element) (is : p.action ≡ Run (cmd.Barrier es)) (b : Byte) where
  none : (t : Touch) → touches t b past p (Run (cmd.Barrier es)) ≡ false
  none touch.Write = refl
  none touch.HostWrite = refl
  none touch.HostRead = refl
  none (touch.Read q) = and-false (p.queue == q)

  untouched : (t : Touch) → touches t b past p p.action ≡ false
  untouched t = ap (touches t b past p) is ∙ none t

  spot_kept : (t : Touch) → last_spot t (p ∷ past) b ≡ last_spot t past b
  spot_kept t = last_step t past p b ∙ rw (untouched t) refl

  place_kept : (t : Touch) → last_place t (p ∷ past) b ≡ last_place t past b
  place_kept t = ap (option_map (λ (s : Spot). s.place)) (spot_kept t)

  flush_kept : flush_spot (p ∷ past) b ≡ flush_spot past b
  flush_kept = flush_step past p b ∙ rw (untouched touch.HostWrite, unflushed) refl where
    unflushed : flushes (act_next p.action) b ≡ false
    unflushed = ap (λ (d : Action). flushes (act_next d) b) is

  validity_kept : is_invalidated (p ∷ past) b ≡ is_invalidated past b
  validity_kept = invalidated_step past p b ∙ rw (untouched touch.Write, valid) refl where
    valid : invalidates (act_next p.action) b ≡ false
    valid = ap (λ (d : Action). invalidates (act_next d) b) is

  transition_now : transition_spot (p ∷ past) b ≡ option_or (option_map (spot_of (p ∷ past)) (last_among past p b (nodes past) es)) (transition_spot past b)
  transition_now = transition_step past p b ∙ ap (λ (d : Action). option_or (option_map (spot_of (p ∷ past)) (transition_next b past p d)) (transition_spot past b)) is

  same_image : (i : ℕ) → image (p ∷ past) i ≡ image past i
  same_image i = rw is refl

  same_bytes : (e : Element) → is_transition_of past p.queue b e ≡ is_transition_of (p ∷ past) p.queue b e
  same_bytes (element.Memory d) = refl
  same_bytes (element.Buffer d) = refl
  same_bytes (element.Image d) = ap (λ (o : Option ImageInfo). is_in b (let bs : List Byte = if is_transition d && not (is_release p.queue (element.Image d)) then image_bytes o d else [] in bs)) (sym (same_image d.image))

  pub barrier_touched_at : touched (p ∷ past) b ≡ touched_by_all past p (nodes past) es (touched past) b
  barrier_touched_at =
      all_same _ _ _ _ _ _ _ _ _ _ _ _ _ _ _ _ _ _ _ _ (spot_kept touch.Write) validity_kept (spot_kept touch.HostWrite) flush_kept transition_now (place_kept touch.HostRead) (place_kept (touch.Read 0)) (place_kept (touch.Read 1)) (place_kept (touch.Read 2)) (place_kept (touch.Read 3))
      ∙ sym (touched_folds past p b same_bytes es (nodes past) (sym (ap (λ (d : Action). with_acts p (acts d) (nodes past)) is)) (touched past))

-- what each byte remembers after a barrier
pub barrier_touched : (past : Past) (p : Point) (es : List Element) → p.action ≡ Run (cmd.Barrier es) → (b : Byte) → touched (p ∷ past) b ≡ touched_by_all past p (nodes past) es (touched past) b
barrier_touched past p es is b = barrier_touched_at past p es is b
