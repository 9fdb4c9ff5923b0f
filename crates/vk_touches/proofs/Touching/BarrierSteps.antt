-- What a byte remembers as the elements of a barrier come, one after another.
use Rattle.std.proofs.Common.{◌≡◌, ℕ, ◌+◌, List, [], ◌∷◌, ◌++◌, length, Bool, true, false, refl, ap, ◌∙◌, arith, Option, Some, None}
use Rattle.std.specs.Prelude.{if◌then◌else◌}
use Rattle.std.specs.Option.{option_or, option_map_or}
use Rattle.vk_model.specs.declared.command.Cmd.TheVariants as cmd
use Rattle.vk_model.specs.declared.command.Element.{Element}
use Rattle.vk_model.specs.World.Bytes.{Byte}
use Rattle.vk_model.specs.Trace.Point.{Past, Point}
use Rattle.vk_model.specs.Sync.Node.{Node, nodes}
use Rattle.vk_order.specs.Barriers.{element_node}
use Rattle.vk_order.proofs.PlaceLemmas as places
use Rattle.vk_touches.specs.declared.touches.LastTouches.{LastTouches}
use Rattle.vk_touches.specs.declared.touches.Spot.{Spot}
use Rattle.vk_touches.specs.Remembered.{with_transition}
use Rattle.vk_touches.specs.Touched.{only_if, is_transition_of, last_element, spot_of, touched}

-- one more element
pub last_element-push : (p : Point) (test : Element → Bool) (k : ℕ) (front : List Element) (e : Element)
    → last_element p test k (front ++ e ∷ []) ≡ (if test e then Some (element_node p (k + length front) e) else last_element p test k front)
last_element-push p test k [] e = go (test e) where
  go : (t : Bool) → only_if t (element_node p k e) ≡ (if t then Some (element_node p (k + 0) e) else None)
  go true = ap (λ (j : ℕ). Some (element_node p j e)) (omega arith)
  go false = refl
last_element-push p test k (f ∷ front) e = ap (λ (o : Option Node). option_or o (only_if (test f) (element_node p k f))) (last_element-push p test (k + 1) front e) ∙ go (test e) where
  go : (t : Bool) → option_or (let o : Option Node = if t then Some (element_node p (k + 1 + length front) e) else last_element p test (k + 1) front in o) (only_if (test f) (element_node p k f))
      ≡ (if t then Some (element_node p (k + length (f ∷ front)) e) else option_or (last_element p test (k + 1) front) (only_if (test f) (element_node p k f)))
  go true = let more : k + 1 + length front ≡ k + length (f ∷ front) = omega arith in ap (λ (j : ℕ). Some (element_node p j e)) more
  go false = refl

module _ (past : Past) (p : Point) (b : Byte) where
  -- what the byte remembers after some elements
  abbrev pub touched_after : List Element → LastTouches
  touched_after es = option_map_or (λ v. with_transition (touched past b) (spot_of (p ∷ past) v)) (last_element p (is_transition_of (p ∷ past) p.queue b) (length (nodes past)) es) (touched past b)

  -- after one more
  pub after_element : (front : List Element) (e : Element) → touched_after (front ++ e ∷ [])
      ≡ (if is_transition_of (p ∷ past) p.queue b e then with_transition (touched_after front) (spot_of (p ∷ past) (element_node p (length (nodes past) + length front) e)) else touched_after front)
  after_element front e = ap (λ (o : Option Node). option_map_or (λ v. with_transition (touched past b) (spot_of (p ∷ past) v)) o (touched past b)) (last_element-push p (is_transition_of (p ∷ past) p.queue b) (length (nodes past)) front e)
      ∙ go (is_transition_of (p ∷ past) p.queue b e) (last_element p (is_transition_of (p ∷ past) p.queue b) (length (nodes past)) front)
    where
      own : Spot
      own = spot_of (p ∷ past) (element_node p (length (nodes past) + length front) e)

      after : Option Node → LastTouches
      after o = option_map_or (λ v. with_transition (touched past b) (spot_of (p ∷ past) v)) o (touched past b)

      go : (t : Bool) (o : Option Node) → after (if t then Some (element_node p (length (nodes past) + length front) e) else o) ≡ (if t then with_transition (after o) own else after o)
      go true None = refl
      go true (Some v) = refl
      go false o = refl
