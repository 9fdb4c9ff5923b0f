-- A node that comes changes no edge, no order and no visibility among those that were there.
use Rattle.std.proofs.Common.{◌≡◌, ◌<◌, ◌≤◌, List, [], ◌∷◌, ◌++◌, length, Bool, true, false, ◌&&◌, ◌||◌, refl, ap, ◌∙◌, arith}
use Rattle.std.specs.Prelude.{nat_lt, Contains, if◌then◌else◌}
use Rattle.std.specs.List.{list_any}
use Rattle.std.proofs.lemmas.Bool.{ne_eqb}
use Rattle.vk_model.specs.World.Bytes.{Byte}
use Rattle.vk_model.specs.Trace.Point.{Past, Point}
use Rattle.vk_model.specs.Sync.Node.{Node, Act, nodes, with_acts, acts, same_node}
use Rattle.vk_model.specs.Sync.Edge.{edge}
use Rattle.vk_model.specs.Sync.Before.{before, reached, IsNumbered}
use Rattle.vk_model.specs.Laws.{Keeps}
use Rattle.vk_model.specs.Sync.Seen.{Access, seen, passes, available_by, visible_by}
use Rattle.vk_model.specs.Sync.Node.{Hosts, Waits, Signals, Runs, Depends}
use Rattle.vk_model.proofs.Lists.Members.{any_same, none_passes_any}
use Rattle.vk_model.proofs.Sync.Numbers.{number_below, numbered, not_earlier, edge-older}
use Rattle.std.proofs.Math.Bool.{and-false}

-- ---- one node more

module _ (n : Node) (ns : List Node) (new : n.number ≡ length ns) where
  not_same : (y : Node) → y.number < length ns → same_node y n ≡ false
  not_same y lt = ne_eqb y.number n.number (λ e. let bad : y.number ≡ n.number = e in omega arith)

  same_not : (y : Node) → y.number < length ns → same_node n y ≡ false
  same_not y lt = ne_eqb n.number y.number (λ e. let bad : n.number ≡ y.number = e in omega arith)

  pub before-older : (x y : Node) → y.number < length ns → before (n ∷ ns) x y ≡ before ns x y
  unfolding before
  before-older x y lt =
      ap (λ (t : Bool). nat_lt x.number y.number && t)
      (elim (same_node x n || list_any (λ m. edge ns m n) (reached x ns)) as (λ t. list_any (same_node y) (if t then n ∷ reached x ns else reached x ns) ≡ list_any (same_node y) (reached x ns)) [
        | true ↦ rw (not_same y lt) refl
        | false ↦ refl
      ])

  -- nothing of the old comes after the new node
  before-new : (y : Node) → y.number < length ns → before (n ∷ ns) n y ≡ false
  unfolding before
  before-new y lt = rw (not_earlier n ns new y lt) refl

  module _ (numbers : IsNumbered ns) (cached : Byte → Bool) where
    passes-older : (test : Act → Bool) (m k : Node) → k.number < length ns → passes cached (n ∷ ns) test m k ≡ passes cached ns test m k
    passes-older test m k lt =
        rw (before-new k lt, and-false (test n.act && before (n ∷ ns) m n))
        (any_same _ _ ns (λ f c. let low = number_below ns numbers f c in rw (before-older m f low, before-older f k lt) refl))

    available-older : (w p : Node) (act : Act) (b : Byte) → p.number < length ns → available_by cached (n ∷ ns) w act b p ≡ available_by cached ns w act b p
    available-older w p (Runs c) b lt = rw (edge-older n ns new w p lt) refl
    available-older w p (Depends r e) b lt = refl
    available-older w p (Hosts x) b lt = rw (before-older w p lt, passes-older (λ f. Rattle.vk_model.specs.Sync.Seen.flushes f b) w p lt) refl
    available-older w p (Waits s) b lt = refl
    available-older w p (Signals s) b lt = refl

    visible-older : (w a q : Node) (act : Act) (k : Access) (b : Byte) → a.number < length ns → visible_by cached (n ∷ ns) w a act k b q ≡ visible_by cached ns w a act k b q
    visible-older w a q (Runs c) k b lt = rw (edge-older n ns new q a lt) refl
    visible-older w a q (Depends r e) k b lt = refl
    visible-older w a q (Hosts x) k b lt = rw (before-older q a lt, passes-older (λ f. Rattle.vk_model.specs.Sync.Seen.invalidates f b) q a lt) refl
    visible-older w a q (Waits s) k b lt = refl
    visible-older w a q (Signals s) k b lt = refl

    -- what makes a write by w available, as p, and visible to a, as q
    abbrev reaches_by : List Node → Node → Node → Access → Byte → Node → Node → Bool
    reaches_by all w a k b p q = (same_node p q || before all p q) && visible_by cached all w a a.act k b q && (same_node q a || before all q a)

    reaches_by-new : (w a p : Node) (k : Access) (b : Byte) → a.number < length ns → reaches_by (n ∷ ns) w a k b p n ≡ false
    reaches_by-new w a p k b lt = rw (same_not a lt, before-new a lt) (and-false ((same_node p n || before (n ∷ ns) p n) && visible_by cached (n ∷ ns) w a a.act k b n))

    reaches_by-older : (w a p q : Node) (k : Access) (b : Byte) → a.number < length ns → q.number < length ns → reaches_by (n ∷ ns) w a k b p q ≡ reaches_by ns w a k b p q
    reaches_by-older w a p q k b lt low = rw (before-older p q low, visible-older w a q a.act k b lt, before-older q a lt) refl

    -- nothing is made visible by the new node as p
    from-new : (w a q : Node) (k : Access) (b : Byte) → q.number < length ns → reaches_by (n ∷ ns) w a k b n q ≡ false
    from-new w a q k b low = rw (same_not q low, before-new q low) refl

    reached_by-older : (w a p : Node) (k : Access) (b : Byte) → a.number < length ns → list_any (reaches_by (n ∷ ns) w a k b p) (n ∷ ns) ≡ list_any (reaches_by ns w a k b p) ns
    reached_by-older w a p k b lt =
        rw (reaches_by-new w a p k b lt)
        (any_same (reaches_by (n ∷ ns) w a k b p) (reaches_by ns w a k b p) ns (λ q c. reaches_by-older w a p q k b lt (number_below ns numbers q c)))

    reached_by-from-new : (w a : Node) (k : Access) (b : Byte) → a.number < length ns → list_any (reaches_by (n ∷ ns) w a k b n) (n ∷ ns) ≡ false
    reached_by-from-new w a k b lt =
        rw (reaches_by-new w a n k b lt)
        (none_passes_any (reaches_by (n ∷ ns) w a k b n) ns (λ q c. from-new w a q k b (number_below ns numbers q c)))

    pub seen-older : (w a : Node) (k : Access) (b : Byte) → a.number < length ns → seen cached (n ∷ ns) w a k b ≡ seen cached ns w a k b
    unfolding seen
    seen-older w a k b lt =
        rw (reached_by-from-new w a k b lt, and-false (available_by cached (n ∷ ns) w w.act b n))
        (any_same _ _ ns (λ p c. rw (available-older w p w.act b (number_below ns numbers p c), reached_by-older w a p k b lt) refl))

-- ---- many nodes more

kept_one : (old : List Node) (n : Node) (ns : List Node) → IsNumbered old → IsNumbered ns → n.number ≡ length ns → Keeps old ns → length old ≤ length ns → Keeps old (n ∷ ns)
kept_one old n ns old_numbers numbers new kept le = record {
  added = (n ∷ kept.added.0, ap (λ (l : List Node). n ∷ l) kept.added.1);
  edges = λ m k c. edge-older n ns new m k (low k c) ∙ kept.edges m k c;
  orders = λ m k c. before-older n ns new m k (low k c) ∙ kept.orders m k c;
  visibilities = λ cached w a k b c. seen-older n ns new numbers cached w a k b (low a c) ∙ kept.visibilities cached w a k b c;
}
  where
    low : (k : Node) → Contains old k → k.number < length ns
    low k c = let lt = number_below old old_numbers k c in omega arith

kept_acts : (old : List Node) (p : Point) (more : List Act) (ns : List Node) → IsNumbered old → IsNumbered ns → Keeps old ns → length old ≤ length ns → Keeps old (with_acts p more ns) × (length old ≤ length (with_acts p more ns))
kept_acts old p [] ns old_numbers numbers kept le = (kept, le)
kept_acts old p (a ∷ more) ns old_numbers numbers kept le =
    kept_acts old p more (record { number = length ns; point = p; act = a } ∷ ns) old_numbers (refl, numbers)
    (kept_one old (record { number = length ns; point = p; act = a }) ns old_numbers numbers refl kept le) (omega arith)

kept_points : (past more : Past) → Keeps (nodes past) (nodes (more ++ past)) × (length (nodes past) ≤ length (nodes (more ++ past)))
kept_points past [] = (record { added = ([], refl); edges = λ m n c. refl; orders = λ m n c. refl; visibilities = λ cached w a k b c. refl }, omega arith)
kept_points past (p ∷ more) =
    let kept = kept_points past more in
    kept_acts (nodes past) p (acts p.action) (nodes (more ++ past)) (numbered past) (numbered (more ++ past)) kept.0 kept.1

pub growth : (past more : Past) → Keeps (nodes past) (nodes (more ++ past))
growth past more = (kept_points past more).0
