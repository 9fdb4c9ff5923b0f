-- Nodes are numbered one after another, and a node that comes changes no edge among those that were there. Other crates cite it.
use Rattle.std.proofs.Common.{◌≡◌, ◌<◌, List, [], ◌∷◌, length, false, refl, ap, sym, ◌∙◌, arith, inl, inr, ◌⊎◌}
use Rattle.std.specs.Prelude.{nat_lt, Contains}
use Rattle.std.proofs.lemmas.Bool.{le-ltb}
use Rattle.vk_model.specs.Trace.Point.{Past, Point}
use Rattle.vk_model.specs.Sync.Node.{Node, Act, nodes, with_acts, acts}
use Rattle.vk_model.specs.Sync.Edge.{edge}
use Rattle.vk_model.specs.Sync.Before.{IsNumbered}
use Rattle.vk_model.proofs.Lists.Members.{none_in, contains-cons}

-- ---- numbers of nodes

-- a node that is there has a number below the count
pub number_below : (ns : List Node) → IsNumbered ns → (m : Node) → Contains ns m → m.number < length ns
number_below [] numbers m c = absurd (none_in m c)
number_below (n ∷ ns) numbers m c = elim (contains-cons n ns m c) [
  | inl same ↦ let here : m.number ≡ length ns = ap (λ (k : Node). k.number) (sym same) ∙ numbers.0 in omega arith
  | inr later ↦ let lt = number_below ns numbers.1 m later in omega arith
]

pub numbered_acts : (p : Point) (more : List Act) (ns : List Node) → IsNumbered ns → IsNumbered (with_acts p more ns)
numbered_acts p [] ns numbers = numbers
numbered_acts p (a ∷ more) ns numbers = numbered_acts p more (record { number = length ns; point = p; act = a } ∷ ns) (refl, numbers)

-- the nodes of a past are numbered one after another
pub numbered : (past : Past) → IsNumbered (nodes past)
numbered [] = tt
numbered (p ∷ past) = numbered_acts p (acts p.action) (nodes past) (numbered past)

-- two nodes with one number are one
pub unique : (ns : List Node) → IsNumbered ns → (m n : Node) → Contains ns m → Contains ns n → m.number ≡ n.number → m ≡ n
unique [] numbers m n c d same = absurd (none_in m c)
unique (k ∷ ns) numbers m n c d same = go (contains-cons k ns m c) (contains-cons k ns n d) (unique ns numbers.1 m n)
  where
    go : (k ≡ m) ⊎ Contains ns m → (k ≡ n) ⊎ Contains ns n → (Contains ns m → Contains ns n → m.number ≡ n.number → m ≡ n) → m ≡ n
    go (inl a) (inl b) next = sym a ∙ b
    go (inl a) (inr b) next = let lt = number_below ns numbers.1 n b in let here : m.number ≡ length ns = ap (λ (x : Node). x.number) (sym a) ∙ numbers.0 in absurd (omega arith)
    go (inr a) (inl b) next = let lt = number_below ns numbers.1 m a in let here : n.number ≡ length ns = ap (λ (x : Node). x.number) (sym b) ∙ numbers.0 in absurd (omega arith)
    go (inr a) (inr b) next = next a b same

-- ---- one node more

module _ (n : Node) (ns : List Node) (new : n.number ≡ length ns) where
  -- an older node is still there
  pub in_rest : (k : Node) → Contains (n ∷ ns) k → k.number < length ns → Contains ns k
  in_rest k c lt = elim (contains-cons n ns k c) [
    | inl same ↦ let here : k.number ≡ length ns = ap (λ (x : Node). x.number) (sym same) ∙ new in absurd (omega arith)
    | inr later ↦ later
  ]

  pub not_earlier : (k : Node) → k.number < length ns → nat_lt n.number k.number ≡ false
  not_earlier k lt = le-ltb n.number k.number (omega arith)

  -- edges to an older node stay
  pub edge-older : (m k : Node) → k.number < length ns → edge (n ∷ ns) m k ≡ edge ns m k
  unfolding edge
  edge-older m k lt = rw (not_earlier k lt) refl

-- edges to the new node don't look at it
pub edge-new : (n : Node) (ns : List Node) (m : Node) → edge (n ∷ ns) m n ≡ edge ns m n
unfolding edge
edge-new n ns m = rw (le-ltb n.number n.number (omega arith)) refl
