-- OWNER_PAIR: a release or an acquire that doesn't fit the owner of its resource.
use Rattle.std.specs.Prelude.{◌≡◌, ℕ, List, false, option_map, take}
use Rattle.std.specs.List.{list_any}
use Rattle.vk_model.specs.declared.command.Cmd.TheVariants as cmd
use Rattle.vk_model.specs.declared.command.Element.{Element}
use Rattle.vk_model.specs.Trace.Objects.{is_exclusive}
use Rattle.vk_model.specs.Trace.Point.{Past, Action, Run}
use Rattle.vk_model.specs.World.Effect.{world}
use Rattle.vk_model.specs.Trace.PointViews.{point_of}
use Rattle.vk_rules.specs.Owners.{AreUnpaired, owner_at}
use Rattle.vk_findings.specs.declared.owners.Ownership.{Ownership}
use Rattle.vk_findings.specs.declared.transfers.OwnerState.{OwnerState}
use Rattle.vk_findings.specs.Owners.{holder_of, owned_since, takes_by}

-- The owner of a resource, and the newest point that made it so (Vulkan, "Resource Sharing Mode").
pub record IsOwned (past : Past) (r : ℕ) (o : Ownership) : Type 0 where
  pub owner : holder_of o.holder ≡ (world past).owner r
  pub since : option_map point_of o.since ≡ owned_since past r
  pub exclusive : o.is_exclusive ≡ is_exclusive past r

-- What the rule finds of one of some elements on a queue; no element before it changes the owner, so this is the owner that it finds.
pub record AreTransfers (past : Past) (q : ℕ) (es : List Element) (s : OwnerState) : Type 0 where
  pub found : AreUnpaired past q es (record { element = s.element; resource = s.resource; families = s.families; fault = s.fault })
  pub owned : IsOwned past s.resource s.owned
  pub first : list_any (takes_by s.owned.is_exclusive q s.resource) (take s.element es) ≡ false
  pub finds : owner_at past q es s.element s.resource ≡ holder_of s.owned.holder

-- What is reported of an action on a queue that breaks OWNER_PAIR.
abbrev pub IsOwnerPair : Past → ℕ → Action → OwnerState → Type 0
IsOwnerPair past q (Run (cmd.Barrier es)) s = AreTransfers past q es s
IsOwnerPair past q _ s = ⊥
