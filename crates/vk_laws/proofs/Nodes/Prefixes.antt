-- The nodes of a past stay what they are when points come.
use Rattle.std.proofs.Common.{◌≡◌, ℕ, ◌<◌, List, ◌∷◌, ◌++◌, length, Bool, false, IsTrue, Option, Some, None, refl, ap, sym, ◌∙◌, subst, arith}
use Rattle.std.specs.Prelude.{Contains}
use Rattle.std.proofs.lemmas.List.{append_assoc}
use Rattle.vk_model.specs.declared.command.Cmd.{Cmd}
use Rattle.vk_model.specs.Basics.{holds}
use Rattle.vk_model.specs.Trace.Point.{Past, Point, Run}
use Rattle.vk_model.specs.Run.Pieces.{pieces}
use Rattle.vk_model.specs.Sync.Node.{Node, Act, Runs, nodes, acts}
use Rattle.vk_model.specs.Sync.Before.{before, IsNumbered}
use Rattle.vk_model.specs.Rules.Fault.{Comes}
use Rattle.vk_model.specs.Laws.{GrowthKeeps}
use Rattle.vk_laws.specs.Tasks.{node_at, by_act, accesses_of}
use Rattle.vk_laws.proofs.Accesses.TaskNodes.{node_of}
use Rattle.vk_laws.proofs.Nodes.Steady.{IsNew, kept_pieces, IsLive, comes_within}
use Rattle.vk_laws.proofs.Nodes.Points.{AtPoint, at_point, action_of, older_node}
use Rattle.vk_model.proofs.Sync.Numbers.{number_below, numbered}
use Rattle.vk_model.proofs.Sync.Paths.{leads_on}
use Rattle.std.proofs.lemmas.List.Elements.{Contains-append_right}

pub has_more : GrowthKeeps → (newer past : Past) (n : Node) → Contains (nodes past) n → Contains (nodes (newer ++ past)) n
has_more keeps newer past n c =
    let kept = keeps past newer in
    subst (λ (l : List Node). Contains l n) (sym kept.added.1) (Contains-append_right kept.added.0 (nodes past) n c)

module _ (all : Past) where
  -- the task's node is below the count of nodes
  pub there_below : (k : ℕ) (f : Act → Bool) → IsTrue (by_act false f (node_at all k)) → k < length (nodes all)
  there_below k f h = go (node_at all k) refl h
    where
      go : (o : Option Node) → node_at all k ≡ o → IsTrue (by_act false f o) → k < length (nodes all)
      go None e h = absurd cc
      go (Some n) e h = let at = node_of all k n e in let lt = number_below (nodes all) (numbered all) n at.0 in let same = at.1 in omega (arith, lt, same)

  pub tasks_lead_on : (a b : ℕ) → IsTrue ((accesses_of all).before a b) → a < b
  tasks_lead_on a b h = go (node_at all a) (node_at all b) refl refl h
    where
      go : (o u : Option Node) → node_at all a ≡ o → node_at all b ≡ u → IsTrue (holds o (λ m. holds u (λ n. before (nodes all) m n))) → a < b
      go None u e f h = absurd cc
      go (Some m) None e f h = absurd cc
      go (Some m) (Some n) e f h =
          let lt = leads_on (nodes all) m n h in
          let i = (node_of all a m e).1 in
          let j = (node_of all b n f).1 in omega (arith, lt, i, j)

module _ (keeps : GrowthKeeps) (all newer old : Past) (whole : all ≡ newer ++ old) where
  pub old_has : (n : Node) → Contains (nodes old) n → Contains (nodes all) n
  old_has n c = subst (λ (l : Past). Contains (nodes l) n) (sym whole) (has_more keeps newer old n c)

  pub is_old : (n : Node) → Contains (nodes all) n → n.number < length (nodes old) → Contains (nodes old) n
  is_old n c lt =
      let kept = keeps old newer in
      let same : nodes all ≡ kept.added.0 ++ nodes old = ap nodes whole ∙ kept.added.1 in
      older_node kept.added.0 (nodes old) n (subst IsNumbered same (numbered all)) (subst (λ (l : List Node). Contains l n) same c) lt

  pub same_before : (m n : Node) → Contains (nodes old) n → before (nodes all) m n ≡ before (nodes old) m n
  same_before m n c = ap (λ (l : Past). before (nodes l) m n) whole ∙ (keeps old newer).orders m n c

module _ (all newer old : Past) (whole : all ≡ newer ++ old) (new : IsNew all) (alive : IsLive all) where
  pub same_pieces : (n : Node) (c : Cmd) → Contains (nodes old) n → n.act ≡ Runs c → pieces all c ≡ pieces old c
  same_pieces n c cn act =
      let place : AtPoint old n = at_point old n cn in
      let action : place.at.action ≡ Run c = action_of place.at.action c (subst (λ (a : Act). Contains (acts place.at.action) a) act place.acted) in
      let come : (b : Past) (q : Point) → Comes old b q → Comes all b q = λ b q h. comes_within _ newer old whole b q h in
      let split : all ≡ (newer ++ place.newer) ++ place.at ∷ place.past = whole ∙ ap (λ (l : Past). newer ++ l) place.whole ∙ sym (append_assoc newer place.newer (place.at ∷ place.past)) in
      kept_pieces all (newer ++ place.newer) place.past place.at c split action new alive
      ∙ sym (kept_pieces old place.newer place.past place.at c place.whole action (λ b q h. new b q (come b q h)) (λ b q h. alive b q (come b q h)))
