-- The bytes before a node are those of a past.
use Rattle.std.proofs.Common.{◌≡◌, ℕ, ◌<◌, ◌≤◌, [], ◌∷◌, ◌++◌, length, Bool, true, false, Option, Some, None, refl, sym, ◌∙◌, subst, arith}
use Rattle.std.specs.Prelude.{nat_le, if◌then◌else◌}
use Rattle.std.proofs.lemmas.Bool.{leb-true, le-leb}
use Rattle.std.proofs.lemmas.List.{append-nil}
use Rattle.vk_model.specs.declared.command.Cmd.TheVariants as cmd
use Rattle.vk_model.specs.World.Bytes.{Byte}
use Rattle.vk_model.specs.Trace.Point.{Past, Point, Action, Host, Wait, Run, Signal}
use Rattle.vk_model.specs.World.ByteWrites.{Source}
use Rattle.vk_model.specs.World.Effect.{world}
use Rattle.vk_model.specs.Sync.Node.{nodes, acts}
use Rattle.vk_laws.specs.TraceBytes.{before_node, value_before}
use Rattle.vk_laws.proofs.EveryOrder.Fresh.{none_unless}
use Rattle.vk_laws.proofs.Nodes.Counts.{count_acts, more_nodes}
use Rattle.vk_laws.proofs.Bytes.PointSources.{source_at, from_source, point_source}

-- ---- the past before a node

pub before_whole : (past : Past) (k : ℕ) → length (nodes past) ≤ k → before_node past k ≡ past
before_whole [] k le = refl
before_whole (p ∷ past) k le = rw (le-leb (length (nodes (p ∷ past))) k le) refl

before_skips : (q : Point) (past : Past) (k : ℕ) → k < length (nodes (q ∷ past)) → before_node (q ∷ past) k ≡ before_node past k
before_skips q past k lt = go (nat_le (length (nodes (q ∷ past))) k) refl
  where
    go : (b : Bool) → nat_le (length (nodes (q ∷ past))) k ≡ b → (if b then q ∷ past else before_node past k) ≡ before_node past k
    go true e = let le = leb-true (length (nodes (q ∷ past))) k e in absurd (omega arith)
    go false e = refl

pub before_inside : (newer past : Past) (p : Point) (k : ℕ) → length (nodes past) ≤ k → k < length (nodes (p ∷ past)) → before_node (newer ++ p ∷ past) k ≡ past
before_inside [] past p k le lt = before_skips p past k lt ∙ before_whole past k le
before_inside (q ∷ newer) past p k le lt = let more = more_nodes (q ∷ newer) (p ∷ past) in before_skips q (newer ++ p ∷ past) k (omega arith) ∙ before_inside newer past p k le lt

-- a point without nodes writes nothing
idle_source : (past : Past) (d : Action) (c : Byte) → length (acts d) ≡ 0 → source_at past d c ≡ None
idle_source past (Host x) c e = absurd (omega (arith, e))
idle_source past (Wait s) c e = refl
idle_source past (Signal s) c e = refl
idle_source past (Run (cmd.Barrier es)) c e = refl
idle_source past (Run (cmd.Set v ms)) c e = refl
idle_source past (Run (cmd.Await v ms)) c e = refl
idle_source past (Run (cmd.Fill b o n w)) c e = absurd (omega (arith, e))
idle_source past (Run (cmd.Update b o bytes)) c e = absurd (omega (arith, e))
idle_source past (Run (cmd.Copy s d gs)) c e = absurd (omega (arith, e))
idle_source past (Run (cmd.Clear i l color rs)) c e = absurd (omega (arith, e))
idle_source past (Run (cmd.CopyIn b i l gs)) c e = absurd (omega (arith, e))
idle_source past (Run (cmd.CopyOut i l b gs)) c e = absurd (omega (arith, e))
idle_source past (Run (cmd.CopyImage s l d m gs)) c e = absurd (omega (arith, e))

kept_by_point : (past : Past) (p : Point) (c : Byte) (v : ℕ) → source_at past p.action c ≡ None → (world (p ∷ past)).value c ≡ Some v → (world past).value c ≡ Some v
kept_by_point past p c v none h = subst (λ (o : Option Source). from_source o (world past).value c ≡ Some v) none (point_source past p c v h)

idle_points : (newer low : Past) (c : Byte) (v : ℕ) → length (nodes (newer ++ low)) ≤ length (nodes low) → (world (newer ++ low)).value c ≡ Some v → (world low).value c ≡ Some v
idle_points [] low c v le h = h
idle_points (q ∷ newer) low c v le h =
    let e = count_acts q (acts q.action) (nodes (newer ++ low)) in
    let more = more_nodes newer low in
    idle_points newer low c v (omega (arith, e)) (kept_by_point (newer ++ low) q c v (idle_source (newer ++ low) q.action c (omega (arith, e))) h)

-- right after the nodes of a past its bytes are those of the past
pub settles : (newer low : Past) (k : ℕ) (c : Byte) (v : ℕ) → length (nodes low) ≡ k → value_before (newer ++ low) k c ≡ Some v → (world low).value c ≡ Some v
settles [] low k c v same h = subst (λ (l : Past). (world l).value c ≡ Some v) (before_whole low k (omega arith)) h
settles (q ∷ newer) low k c v same h = go (settles newer low k c v same) (nat_le (length (nodes (q ∷ newer ++ low))) k) refl h
  where
    go : (value_before (newer ++ low) k c ≡ Some v → (world low).value c ≡ Some v) → (b : Bool) → nat_le (length (nodes (q ∷ newer ++ low))) k ≡ b
        → (world (if b then q ∷ newer ++ low else before_node (newer ++ low) k)).value c ≡ Some v → (world low).value c ≡ Some v
    go rest true e h = let le = leb-true (length (nodes (q ∷ newer ++ low))) k e in idle_points (q ∷ newer) low c v (omega arith) h
    go rest false e h = rest h

pub undefined_first : (all : Past) (c : Byte) → value_before all 0 c ≡ None
undefined_first all c = none_unless (value_before all 0 c) (λ v h. let e = settles all [] 0 c v refl (subst (λ (l : Past). value_before l 0 c ≡ Some v) (sym (append-nil all)) h) in cc)
