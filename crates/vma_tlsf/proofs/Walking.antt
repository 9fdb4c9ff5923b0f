-- Walks from one range to the next.
use Rattle.std.proofs.Common.{◌≡◌, ℕ, ◌+◌, ◌<◌, ◌≤◌, ◌^◌, inl, inr, List, Option, Some, None, get_or, refl, ap, sym, subst, ◌∙◌, arith}
use Rattle.std.specs.Prelude.{IsTrue, nat_le}
use Rattle.std.specs.List.{list_any}
use Rattle.std.proofs.lemmas.Bool.{and_parts, not-true, leb-true}
use Rattle.std.proofs.lemmas.Bool.Decides.{leb_tells}
use Rattle.vk_nodes.specs.declared.node.Node.{Node}
use Rattle.vk_nodes.specs.declared.node.RangeState.TheVariants as state
use Rattle.vk_model.specs.Memory.Suballocation.{Request, conflict}
use Rattle.vk_model.specs.Memory.Room.{fits}
use Rattle.vma_tlsf.specs.Inner.Chain.{range, seen, taken_in, taken_here}
use Rattle.vma_tlsf.specs.Inner.Changes.{HasChain}
use Rattle.vma_tlsf.specs.Inner.Fits.{IsBlock, HasBlock, HasBlockFrom, HasByte, IsLowestIn, NoneBelow, NoneBefore, IsLive, IsSlotOf}
use Rattle.vma_tlsf.proofs.Slots.{node_of}
use Rattle.vma_tlsf.proofs.Splits.{some_same, none_some}
use Rattle.vma_tlsf.proofs.Cuts.{node_seen, node_range}
use Rattle.vma_tlsf.proofs.Conflicts.{meet_of, any_each, one_any, state_cases}

-- the node of a slot that is walked to
pub record IsAt (nodes : List (Option Node)) (slot : ℕ) (node : Node) : Type 0 where
  pub here : get_or nodes slot None ≡ Some node
  pub some : 0 < node.size

pub at_live : (nodes : List (Option Node)) (slot : ℕ) (node : Node) → IsLive nodes slot → get_or nodes slot None ≡ Some node → IsAt nodes slot node
at_live nodes slot node live here =
    let m = node_of (get_or nodes slot None) live.0 live.1 in
    let same : m.node ≡ node = some_same m.node node (sym m.there ∙ here) in
    let some = m.some in
    let sizes : m.node.size ≡ node.size = ap (λ n. n.size) same in
    record { here = here; some = omega arith }

module _ (nodes : List (Option Node)) (has : HasChain nodes) (slot : ℕ) (node : Node) (at : IsAt nodes slot node) where
  there : seen nodes slot ≡ Some (range node)
  there = node_seen nodes slot node at.here at.some

  pub start_bound : node.start + node.size < 2 ^ 62
  start_bound =
      let inside = (has.3.linked slot (range node) there).inside in
      let bound = has.2 in
      omega arith

  pub after_live : (j : ℕ) → node.after ≡ Some j → IsLive nodes j
  after_live j on = let q = (has.3.linked slot (range node) there).after j on in (q.range, q.there)

  pub before_live : (j : ℕ) → node.before ≡ Some j → IsLive nodes j
  before_live j on = let q = (has.3.linked slot (range node) there).before j on in (q.range, q.there)

  pub after_start : (j : ℕ) (n : Node) → node.after ≡ Some j → get_or nodes j None ≡ Some n → n.start ≡ node.start + node.size
  after_start j n on is =
      let q = (has.3.linked slot (range node) there).after j on in
      ap (λ r. r.start) (node_range nodes j n q.range is q.there) ∙ q.touches

  pub before_start : (j : ℕ) (n : Node) → node.before ≡ Some j → get_or nodes j None ≡ Some n → n.start < node.start
  before_start j n on is =
      let q = (has.3.linked slot (range node) there).before j on in
      let linked = has.3.linked j q.range q.there in
      let next = linked.after slot q.on in
      let starts : next.range.start ≡ node.start = ap (λ r. r.start) (some_same next.range (range node) (sym next.there ∙ there)) in
      let same : n.start ≡ q.range.start = ap (λ r. r.start) (node_range nodes j n q.range is q.there) in
      let touches = next.touches in
      let some = linked.some in
      omega arith

  pub not_first : (start : ℕ) → start < node.start → node.before ≡ None → ⊥
  not_first start less none = let first = (has.3.linked slot (range node) there).first none in omega arith

  pub slot_there : (byte : ℕ) → node.start ≤ byte → byte < node.start + node.size → IsSlotOf nodes slot byte
  slot_there byte from to = (range node, there, from, to)

-- nothing fits from within a taken range
pub none_taken : (nodes : List (Option Node)) (slot : ℕ) (node : Node) (r : Request) (limit s : ℕ) → 0 < r.size → IsAt nodes slot node → (node.state ≡ state.Free → ⊥) → node.start ≤ s → s < node.start + node.size → IsTrue (fits (taken_in nodes) r 0 limit s) → ⊥
none_taken nodes slot node r limit s some at taken from to h =
    let three = and_parts _ _ h in
    let none = not-true (list_any (λ t. conflict r.kind s r.size t.kind t.start t.size) (taken_in nodes)) three.1 in
    elim (state_cases node.state) [
      | inl free ↦ taken free
      | inr other ↦
          let there = node_seen nodes slot node at.here at.some in
          let clear = sym (ap (λ v. list_any (λ t. conflict r.kind s r.size t.kind t.start t.size) (taken_here v)) there ∙ one_any (λ t. conflict r.kind s r.size t.kind t.start t.size) (range node) other.0 other.1) ∙ any_each (λ t. conflict r.kind s r.size t.kind t.start t.size) nodes none slot in
          meet_of r.kind s r.size other.0 node.start node.size clear some at.some to (omega arith)
    ]

pub lowest_taken : (nodes : List (Option Node)) (slot : ℕ) (node : Node) (r : Request) (limit : ℕ) → 0 < r.size → IsAt nodes slot node → (node.state ≡ state.Free → ⊥) → IsLowestIn nodes node r limit None
lowest_taken nodes slot node r limit some at taken = record {
  fitting = λ s e. absurd (none_some s None refl e);
  from = λ s e. absurd (none_some s None refl e);
  to = λ s e. absurd (none_some s None refl e);
  lowest = λ s other e. absurd (none_some s None refl e);
  none = λ _ s from to h. none_taken nodes slot node r limit s some at taken from to h;
}

-- nothing fits further down
pub none_further : (nodes : List (Option Node)) (node : Node) (r : Request) (limit : ℕ) → NoneBelow nodes r limit node.start → IsLowestIn nodes node r limit None → NoneBelow nodes r limit (node.start + node.size)
none_further nodes node r limit below lowest s less h = elim (leb_tells node.start s) [
  | inl one ↦ lowest.none refl s one.1 less h
  | inr one ↦ below s one.1 h
]

-- nothing fits that ends at or below a limit, where nothing does that starts below it
pub none_at_all : (nodes : List (Option Node)) (limit reached : ℕ) (r : Request) → 0 < r.size → limit ≤ reached → NoneBelow nodes r limit reached → (s : ℕ) → IsTrue (fits (taken_in nodes) r 0 limit s) → ⊥
none_at_all nodes limit reached r some inside below s h =
    let within = leb-true (s + r.size) limit (and_parts _ (nat_le (s + r.size) limit) (and_parts _ _ h).0).1 in
    below s (omega arith) h

pub none_behind : (nodes : List (Option Node)) (limit slot : ℕ) (node : Node) (r : Request) → 0 < r.size → HasBlock nodes limit → IsAt nodes slot node → node.after ≡ None → NoneBelow nodes r limit (node.start + node.size) → (s : ℕ) → IsTrue (fits (taken_in nodes) r 0 limit s) → ⊥
none_behind nodes limit slot node r some has at last =
    let ends = (has.2.chain.linked slot (range node) (node_seen nodes slot node at.here at.some)).last last in
    none_at_all nodes limit (node.start + node.size) r some (omega (arith, ends, has.3))

pub none_lower : (nodes : List (Option Node)) (node : Node) (r : Request) (limit start : ℕ) → NoneBelow nodes r limit node.start → IsLowestIn nodes node r limit (Some start) → NoneBelow nodes r limit start
none_lower nodes node r limit start below lowest s less h = elim (leb_tells node.start s) [
  | inl one ↦ lowest.lowest start s refl one.1 less h
  | inr one ↦ below s one.1 h
]

pub begin_at : (nodes : List (Option Node)) (root limit : ℕ) (node : Node) → HasBlockFrom nodes root limit → get_or nodes root None ≡ Some node → IsAt nodes root node × (node.start ≡ 0)
begin_at nodes root limit node has here =
    let chain = has.1.chain in
    (at_live nodes root node (chain.begin, chain.begin_there) here, ap (λ r. r.start) (node_range nodes root node chain.begin here chain.begin_there) ∙ chain.begin_start)

-- where a walk begins
pub before_at : (nodes : List (Option Node)) (r : Request) (limit slot : ℕ) (node : Node) → NoneBefore nodes r limit slot → get_or nodes slot None ≡ Some node → IsAt nodes slot node × NoneBelow nodes r limit node.start
before_at nodes r limit slot node has here = (
  at_live nodes slot node (has.0, has.1) here,
  subst (NoneBelow nodes r limit) (sym (ap (λ q. q.start) (node_range nodes slot node has.0 here has.1))) has.2,
)

pub before_first : (nodes : List (Option Node)) (r : Request) (limit whole root : ℕ) → IsBlock whole root nodes → NoneBefore nodes r limit root
before_first nodes r limit whole root block =
    let chain = block.chain in (chain.begin, chain.begin_there, λ s less h. (let starts = chain.begin_start in omega (arith, less, starts)))

pub before_byte : (nodes : List (Option Node)) (r : Request) (limit slot low : ℕ) → NoneBelow nodes r limit low → IsSlotOf nodes slot low → NoneBefore nodes r limit slot
before_byte nodes r limit slot low below has = (has.0, has.1, λ s less h. below s (omega (arith, less, has.2)) h)

pub byte_below : (nodes : List (Option Node)) (limit whole root byte : ℕ) → IsBlock whole root nodes → limit ≤ whole → byte < limit → HasByte nodes byte
byte_below nodes limit whole root byte block inside less = (whole, root, block.bound, block.chain, omega (arith, inside, less))

pub not_last : (nodes : List (Option Node)) (byte slot : ℕ) (node : Node) → HasByte nodes byte → IsAt nodes slot node → node.start + node.size ≤ byte → node.after ≡ None → ⊥
not_last nodes byte slot node has at before none =
    let ends = (has.3.linked slot (range node) (node_seen nodes slot node at.here at.some)).last none in
    let within = has.4 in
    omega arith

pub byte_chain : (nodes : List (Option Node)) (byte : ℕ) → HasByte nodes byte → HasChain nodes
byte_chain nodes byte has = (has.0, has.1, has.2, has.3)
