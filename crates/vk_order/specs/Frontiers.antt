-- What is known of the nodes so far, for those that come next.
use Rattle.std.specs.Prelude.{◌≡◌, ◌∷◌, List, Option, None, Some, length}
use Rattle.vk_model.specs.Sync.Node.{Node}
use Rattle.vk_model.specs.Sync.Edge.{edge, is_host}
use Rattle.vk_model.specs.Sync.Before.{IsNumbered}
use Rattle.vk_order.specs.declared.frontier.Frontier.{Frontier}
use Rattle.vk_order.specs.declared.new_node.NewNode.{NewNode}
use Rattle.vk_order.specs.Inner.Fronts.{IsFront}
use Rattle.vk_order.specs.Inner.Tallies.{lines_of, IsTallied}
use Rattle.vk_order.specs.Inner.Names.{IsNames}
use Rattle.vk_order.specs.declared.parts.Part.{Part}
use Rattle.vk_order.specs.Limited.{part_of}
use Rattle.vk_order.specs.Inner.Parts.{IsPart, AreParts}

-- A frontier is that of the nodes so far, the newest first.
pub record IsFrontier (f : Frontier) (ns : List Node) : Type 0 where
  pub numbers : IsNumbered ns
  pub total : f.nodes ≡ length ns
  pub tallied : IsTallied ns f.tallies.items
  pub names : IsNames ns (lines_of f.tallies.items) f.names
  pub parts : AreParts ns (lines_of f.tallies.items) f.parts

-- The new node is node n, which comes next after the nodes so far: what is before it, and what it sees.
pub record IsNewNode (ns : List Node) (n : Node) (s : NewNode) : Type 0 where
  pub numbers : IsNumbered (n ∷ ns)
  pub front : IsFront ns (lines_of s.tallies.now) (λ k. edge ns k n) s.front
  pub is_host : s.is_host ≡ is_host n.act
  pub queue : s.queue ≡ n.point.queue

-- A new node knows the lines that a frontier has.
abbrev pub IsFrom : Frontier → NewNode → Type 0
IsFrom f s = (lines_of s.tallies.now) ≡ lines_of f.tallies.items

-- This is kept of node n, a dependency on a part of memory, which comes next after the nodes so far.
abbrev pub IsKeptOf : Frontier → List Node → Node → Part → Type 0
IsKeptOf f ns n part = IsPart (n ∷ ns) (lines_of f.tallies.items) n part

-- The same where it may be no such dependency.
abbrev pub MayBeKeptOf : Frontier → List Node → Node → Option Part → Type 0
MayBeKeptOf f ns n None = part_of n.act ≡ None
MayBeKeptOf f ns n (Some part) = IsKeptOf f ns n part
