-- The commands that were started, and what is left of them.
use Rattle.std.specs.Prelude.{◌≡◌, ℕ, ◌<◌, List, ◌∷◌, true, false, map, reverse, length, Bool, not, ◌||◌, slice_get, Contains, Option, Some, None, IsTrue}
use Rattle.std.specs.List.{filter, list_all}
use Rattle.vk_model.specs.declared.command.Cmd.{Cmd}
use Rattle.vk_model.specs.declared.command.Cmd.TheVariants as cmd
use Rattle.vk_model.specs.declared.entry.Entry.{Entry}
use Rattle.vk_model.specs.Basics.{below}
use Rattle.vk_model.specs.Trace.Point.{Past, Point, Action, Run}
use Rattle.vk_model.specs.Trace.Order.{host}
use Rattle.vk_model.specs.Trace.Structure.{IsOrdered}
use Rattle.vk_model.specs.Sync.Node.{Node, Act, Runs, Hosts, nodes}
use Rattle.vk_model.specs.Sync.Edge.{is_command}
use Rattle.vk_model.specs.Sync.Before.{before}
use Rattle.vk_model.specs.Run.Pieces.{pieces}
use Rattle.vk_model.specs.Run.Runs.{Name, is_done, node_pieces}
use Rattle.vk_order.specs.Queries.{IsNew}
use Rattle.vk_order.specs.Frontiers.{IsFrontier}
use Rattle.vk_sync.specs.declared.board.Command.{Command}
use Rattle.vk_sync.specs.declared.ready.Piece.{Piece}
pub use Rattle.vk_events.specs.Happens.{CountsBefore}
use Rattle.vk_offers.specs.declared.offers.Offers.{Offers}

-- The clears and copies among nodes, the oldest first (Vulkan, "Clear Commands" and "Copy Commands").
abbrev pub commands_in : List Node → List Node
commands_in ns = filter (λ n. is_command n.act) (reverse ns)

-- How many pieces an act is run in; only a clear or a copy has any (profile).
abbrev pub piece_count : Past → Act → ℕ
piece_count past (Runs c) = length (pieces past c)
piece_count past _ = 0

-- The number of a node, if there is one.
abbrev pub number_of : Option Node → ℕ
number_of None = 0
number_of (Some n) = n.number

-- A piece of the commands that were started, by its name: the number of its command's node, and its place among the pieces.
abbrev pub name_of : Past → Piece → Name
name_of past p = (number_of (slice_get (commands_in (nodes past)) p.command), p.index)

-- Whether a command is run in pieces: a barrier, a set or an await isn't (Vulkan, "Clear Commands" and "Copy Commands").
abbrev pub is_run : Cmd → Bool
is_run (cmd.Barrier es) = false
is_run (cmd.Set v ms) = false
is_run (cmd.Await v ms) = false
is_run c = true

-- Whether an action is a command that is run in pieces.
abbrev pub is_run_in_pieces : Action → Bool
is_run_in_pieces (Run c) = is_run c
is_run_in_pieces _ = false

-- A point that comes changes no piece of the commands that were started: the resources that they name stay what they are (profile: ids aren't made twice).
abbrev pub PiecesStay : Past → Point → Type 0
PiecesStay past p = (n : Node) → Contains (nodes past) n → piece_count (p ∷ past) n.act ≡ piece_count past n.act

-- A command is that of a node, with the pieces that haven't run.
pub record IsStarted (past : Past) (done : List Name) (n : Node) (c : Command) : Type 0 where
  pub queue : c.queue ≡ n.point.queue
  pub on_queue : c.queue < 4
  pub counts : CountsBefore (nodes past) n c.before
  pub left : c.left ≡ filter (λ k. not (is_done done (n.number, k))) (below (piece_count past n.act))

-- The same of all that were started.
pub record AreStarted (past : Past) (done : List Name) (ns : List Node) (cs : List Command) : Type 0 where
  pub lengths : length cs ≡ length ns
  pub each : (j : ℕ) (n : Node) (c : Command) → slice_get ns j ≡ Some n → slice_get cs j ≡ Some c → IsStarted past done n c

-- What is offered of a past whose pieces have run so far: the nodes of its points, its clears and copies, and what is left of them.
pub record IsOffers (o : Offers) (past : Past) (done : List Name) : Type 0 where
  pub frontier : IsFrontier o.frontier (nodes past)
  pub acts : map (λ c. Runs c.now) o.commands.items ≡ map (λ n. n.act) (commands_in (nodes past))
  pub started : AreStarted past done (commands_in (nodes past)) o.ready
  pub known : (x : Name) → IsTrue (is_done done x) → x.0 < length (nodes past)

-- A point may come next, run in so many pieces: in order, at a place of its own, on one of four queues, and it changes no piece of those that came (Vulkan, "Queue Submission").
pub record ComesNext (past : Past) (p : Point) (count : ℕ) : Type 0 where
  pub ordered : IsOrdered (p ∷ past)
  pub new : IsNew p (nodes past)
  pub stay : PiecesStay past p
  pub queue : (c : Cmd) → p.action ≡ Run c → p.queue < 4
  pub counted : (c : Cmd) → p.action ≡ Run c → is_run c ≡ true → count ≡ length (pieces (p ∷ past) c)

-- A piece is one of a command that was started, which is this.
pub record IsPieceOf (past : Past) (piece : Piece) (c : Cmd) : Type 0 where
  pub node : Node
  pub here : slice_get (commands_in (nodes past)) piece.command ≡ Some node
  pub runs : node.act ≡ Runs c
  pub among : piece.index < length (pieces past c)

-- The node of an entry of the host that comes next.
abbrev pub host_node : Past → ℕ → Entry → Node
host_node past number x = record { number = length (nodes past); point = host number x; act = Hosts x }

-- Whether all pieces of commands before a node that comes next have run (Vulkan, "Execution and Memory Dependencies").
abbrev pub is_free_next : Past → List Name → Node → Bool
is_free_next past done h = list_all (λ m. not (before (h ∷ nodes past) m h) || list_all (is_done done) (node_pieces past m m.act)) (nodes past)
