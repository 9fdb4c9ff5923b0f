-- The order of nodes: paths of edges, by computation and as a relation.
use Rattle.std.specs.Prelude.{◌≡◌, List, [], ◌∷◌, Bool, ◌&&◌, ◌||◌, nat_lt, if◌then◌else◌, IsTrue, Contains, length, ⊤}
use Rattle.std.specs.List.{list_any}
use Rattle.vk_model.specs.Sync.Node.{Node, same_node}
use Rattle.vk_model.specs.Sync.Edge.{edge}

-- Node x, and the nodes among ns to which a path of edges leads from it.
abbrev pub reached : Node → List Node → List Node
reached x [] = []
reached x (n ∷ ns) =
    let found = reached x ns in
    if same_node x n || list_any (λ m. edge ns m n) found then n ∷ found else found

-- Whether node x comes before node y in every allowed order: a path of edges leads from x to y (Vulkan, "Execution and Memory Dependencies", on dependency chains).
unfoldable pub before : List Node → Node → Node → Bool
before ns x y = nat_lt x.number y.number && list_any (same_node y) (reached x ns)

-- The same as a relation: an edge between two nodes of ns, or a path and a further edge.
pub data Path (ns : List Node) : Node → Node → Type 0 where
  direct : {m n : Node} → Contains ns m → Contains ns n → IsTrue (edge ns m n) → Path ns m n
  longer : {m k n : Node} → Path ns m k → Contains ns n → IsTrue (edge ns k n) → Path ns m n

-- Each node's number is the count of the older ones, as in the nodes of a past.
abbrev pub IsNumbered : List Node → Type 0
IsNumbered [] = ⊤
IsNumbered (n ∷ ns) = (n.number ≡ length ns) × IsNumbered ns
