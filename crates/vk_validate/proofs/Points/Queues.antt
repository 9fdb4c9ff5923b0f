-- Commands are on one of four queues.
use Rattle.std.proofs.Common.{◌≡◌, ◌<◌, ℕ, ◌∷◌, Bool, true, false, nat_lt, refl, ap, sym, subst, arith}
use Rattle.std.specs.Prelude.{Contains}
use Rattle.std.proofs.lemmas.Bool.{ltb-false}
use Rattle.vk_model.specs.declared.command.Cmd.{Cmd}
use Rattle.vk_model.specs.declared.entry.Entry.TheVariants as entry
use Rattle.vk_model.specs.declared.rule.Rule.TheVariants as rule
use Rattle.vk_model.specs.Trace.Point.{Past, Point, Action, Run}
use Rattle.vk_model.specs.Trace.Order.{host}
use Rattle.vk_model.specs.Trace.Structure.{IsOrdered, Follows}
use Rattle.vk_model.specs.Rules.Table.{breaks}
use Rattle.vk_model.specs.Rules.Fault.{Comes, older, IsUnbroken}
use Rattle.vk_model.specs.Sync.Node.{Node, Act, Runs, acts, nodes}
use Rattle.vk_model.proofs.Trace.Older.{comes_of, ordered_older}
use Rattle.vk_laws.proofs.Nodes.Points.{at_point, action_of}
use Rattle.vk_laws.proofs.Nodes.Steady.{comes_within}

-- a command is on one of four queues
pub queue_low : (past : Past) → IsUnbroken past → IsOrdered past → (x : Node) (c : Cmd) → Contains (nodes past) x → x.act ≡ Runs c → x.point.queue < 4
unfolding breaks
queue_low past sound ordered x c there is =
    let s = at_point past x there in
    let action : s.at.action ≡ Run c = action_of s.at.action c (subst (λ (a : Act). Contains (acts s.at.action) a) is s.acted) in
    let follows : Follows s.past s.at (Run c) = subst (λ (d : Action). Follows s.past s.at d) action (ordered_older s.newer (s.at ∷ s.past) (subst (λ (l : Past). IsOrdered l) s.whole ordered)).0 in
    let at = comes_of s.past (host s.at.entry (entry.Submit s.at.queue follows.batches)) follows.submitted in
    let comes : Comes past at.0 (host s.at.entry (entry.Submit s.at.queue follows.batches)) = comes_within past s.newer (s.at ∷ s.past) s.whole at.0 _ (older at.1) in
    subst (λ (q : ℕ). q < 4) (ap (λ (p : Point). p.queue) (sym s.pointed)) (go s.at.queue (nat_lt 3 s.at.queue) refl (λ h. sound at.0 (host s.at.entry (entry.Submit s.at.queue follows.batches)) rule.Queue (comes, h)))
  where
    go : (q : ℕ) (b : Bool) → nat_lt 3 q ≡ b → (nat_lt 3 q ≡ true → ⊥) → q < 4
    go q true over never = absurd (never over)
    go q false within never = let least = ltb-false 3 q within in omega (arith, least)
