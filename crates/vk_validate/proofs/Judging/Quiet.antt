-- Points that access no bytes, and the hazards that reads and fills can't have.
use Rattle.std.proofs.Common.{◌≡◌, ℕ, List, [], ◌∷◌, Bool, false, ◌&&◌, refl}
use Rattle.std.specs.Prelude.{Contains}
use Rattle.std.proofs.Math.Bool.{and-false}
use Rattle.vk_model.specs.World.Bytes.{Byte}
use Rattle.vk_model.specs.Trace.Point.{Past, Point}
use Rattle.vk_model.specs.Sync.Node.{Node, Act, nodes, acts, next_nodes}
use Rattle.vk_model.specs.Sync.Access.{hazard, war, raw, waw, share, reads, precedes, reads_of, writes_of}
use Rattle.vk_model.specs.Rules.Hazards.{breaks_hazard_war, breaks_hazard_raw, breaks_hazard_waw}
use Rattle.vk_model.proofs.Lists.Members.{none_passes_any}
use Rattle.vk_touches.proofs.Touching.LastHazards.{next_acted}

share_none : (bs : List Byte) → share bs [] ≡ false
share_none bs = none_passes_any _ bs (λ b c. refl)

-- no hazard, where no pair of a new node and another is one
pub hazard_none : (kind : Past → Node → Node → Bool) (past : Past) (p : Point) → ((y : Node) → Contains (acts p.action) y.act → (x : Node) → (precedes x y && kind (p ∷ past) x y) ≡ false) → hazard kind past p ≡ false
hazard_none kind past p none = none_passes_any _ (next_nodes past p) (λ y cy. none_passes_any _ (nodes (p ∷ past)) (λ x cx. none y (next_acted past p y cy) x))

module _ (past : Past) (p : Point) where
  -- nodes that read nothing, and such as write nothing
  pub no_raw : ((a : Act) → Contains (acts p.action) a → (q : ℕ) → reads_of (p ∷ past) q a ≡ []) → breaks_hazard_raw past p ≡ false
  no_raw none = hazard_none raw past p (λ y c x. rw (none y.act c y.point.queue) (and-false (precedes x y)))

  pub no_waw : ((a : Act) → Contains (acts p.action) a → (q : ℕ) → writes_of (p ∷ past) q a ≡ []) → breaks_hazard_waw past p ≡ false
  no_waw none = hazard_none waw past p (λ y c x. rw (none y.act c y.point.queue) (and-false (precedes x y)))

  pub no_war : ((a : Act) → Contains (acts p.action) a → (q : ℕ) → writes_of (p ∷ past) q a ≡ []) → breaks_hazard_war past p ≡ false
  no_war none = hazard_none war past p (λ y c x. rw (none y.act c y.point.queue, share_none (reads (p ∷ past) x)) (and-false (precedes x y)))
