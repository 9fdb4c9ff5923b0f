-- The nodes of a past that grew.
use Rattle.std.proofs.Common.{◌⊎◌, inl, inr, ⊎_elim, ◌≤◌, [], ◌∷◌, ◌++◌, length, sym, subst, arith}
use Rattle.std.specs.Prelude.{Contains}
use Rattle.vk_model.specs.Trace.Point.{Point, Past}
use Rattle.vk_model.specs.Sync.Node.{Node, nodes, acts}
use Rattle.vk_model.proofs.Lists.Pairs.{Each}
use Rattle.vk_model.proofs.Trace.Growing.{Grows}
use Rattle.vk_laws.proofs.Nodes.Points.{in_acts}
use Rattle.vk_laws.proofs.Nodes.Counts.{more_nodes}

-- a node of a past that grew is old, or one of a point that passes
abbrev pub IsNewer : (Point → Type 0) → Past → Node → Type 0
IsNewer P past n = P n.point × Contains (acts n.point.action) n.act × (length (nodes past) ≤ n.number)

newer_node : (P : Point → Type 0) (newer past : Past) → Each P newer → (n : Node) → Contains (nodes (newer ++ past)) n → Contains (nodes past) n ⊎ IsNewer P past n
newer_node P [] past each n c = inl c
newer_node P (p ∷ newer) past each n c =
    ⊎_elim (λ older. newer_node P newer past each.1 n older)
    (λ h. let le = h.0 in let more = more_nodes newer past in
    inr (subst P (sym h.2) each.0, subst (λ (q : Point). Contains (acts q.action) n.act) (sym h.2) h.1, omega (arith, le, more)))
    (in_acts p (acts p.action) (nodes (newer ++ past)) n c)

pub old_or_newer : (P : Point → Type 0) (past all : Past) → Grows P past all → (n : Node) → Contains (nodes all) n → Contains (nodes past) n ⊎ IsNewer P past n
old_or_newer P past all g n c = newer_node P g.newer past g.each n (subst (λ (l : Past). Contains (nodes l) n) g.whole c)
