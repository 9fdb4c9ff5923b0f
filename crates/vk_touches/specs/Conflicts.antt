-- What is found wrong with the bytes that a point accesses.
use Rattle.std.specs.Prelude.{◌≡◌, ◌⊎◌, ◌≤◌, ◌<◌, ◌+◌, ◌*◌, ◌∷◌, ◌||◌, ◌&&◌, ℕ, List, Bool, true, false, not, Contains, slice_get, is_some, Option, Some, None}
use Rattle.vk_model.specs.World.Bytes.{Byte}
use Rattle.vk_model.specs.Trace.Point.{Past, Point}
use Rattle.vk_model.specs.Sync.Node.{Node, nodes}
use Rattle.vk_model.specs.Sync.Before.{before}
use Rattle.vk_model.specs.Rules.Hazards.{breaks_hazard_war, breaks_hazard_raw, breaks_hazard_waw, breaks_read_undefined}
use Rattle.vk_image_bytes.specs.declared.ranges.ByteRanges.{ByteRanges}
use Rattle.vk_order.specs.Lines.{line_of, place}
use Rattle.vk_order.specs.SeenWrites as order
use Rattle.vk_order.specs.VisiblePrefix.{is_among}
use Rattle.vk_order.specs.Frontiers.{IsFrontier, IsNewNode}
use Rattle.vk_order.specs.declared.access.Access.{Access}
use Rattle.vk_order.specs.declared.lines.Line.{Line}
use Rattle.vk_order.specs.declared.lines.Line.TheVariants.{Host as OfHost, Commands as OfCommands}
use Rattle.vk_order.specs.declared.parts.Spot.{Spot as Placed}
use Rattle.vk_order.specs.declared.visible_prefix.VisiblePrefix.{VisiblePrefix}
use Rattle.vk_order.specs.declared.new_node.NewNode.{NewNode}
use Rattle.vk_touches.specs.declared.accesses.ResourceAccess.{ResourceAccess}
use Rattle.vk_touches.specs.declared.bytes.Bytes.{Bytes}
use Rattle.vk_touches.specs.declared.found.Conflicts.{Conflicts}
use Rattle.vk_touches.specs.declared.touches.LastTouches.{LastTouches}
use Rattle.vk_touches.specs.declared.touches.QueueReads.{QueueReads}
use Rattle.vk_touches.specs.declared.touches.Spot.{Spot}
use Rattle.vk_touches.specs.declared.transitions.TransitionAccess.{TransitionAccess}
use Rattle.vk_touches.specs.Bytes.{numbered_byte}

-- ---- what an access sees

-- Of a resource, by the node that comes next.
pub record IsAccess (past : Past) (s : NewNode) (b : Bytes) (kind : Access) (x : ResourceAccess) : Type 0 where
  pub frontier : IsFrontier x.frontier.now (nodes past)
  pub new_node : x.new_node.now ≡ s
  pub bytes : x.bytes ≡ b
  pub access : x.access ≡ kind

-- Of the write of byte k of the resource by the node of a spot: whether the access sees it.
abbrev pub SaysSeen : ResourceAccess → ℕ → Bool → Spot → Type 0
SaysSeen x k answer w = order.SaysSeen x.frontier.now x.new_node.now (record { line = w.line; place = w.place }) w.number x.access (numbered_byte x.bytes k) answer

-- Each write by one of these nodes is seen.
abbrev pub AreSeen : ResourceAccess → VisiblePrefix → Type 0
AreSeen x visible_prefix = (w : Placed) (from : ℕ) (b : Byte) → is_among visible_prefix w ≡ true → order.SaysSeen x.frontier.now x.new_node.now w from x.access b true

-- The same where the access is a transition's, by what is known at its element.
abbrev pub SaysSeenAt : TransitionAccess → ℕ → Bool → Spot → Type 0
SaysSeenAt x k answer w = order.SaysSeenAt x.frontier.now x.part.now (record { line = w.line; place = w.place }) w.number (numbered_byte x.bytes k) answer

-- Of whether a node of a line is before.
abbrev pub SaysFollows : NewNode → Line → Bool → ℕ → Type 0
SaysFollows s l answer k = (ns : List Node) (n m : Node) → IsNewNode ns n s → Contains ns m → line_of m ≡ Some l → place ns l m.number ≡ k → answer ≡ before (n ∷ ns) m n

-- ---- what is wrong with a byte

-- Whether there is one of which a new node says no.
pub record IsRefused {A : Type 0} (says : Bool → A → Type 0) (answer : Bool) (last : Option A) : Type 0 where
  pub none : last ≡ None → answer ≡ false
  pub some : (a : A) → last ≡ Some a → says (not answer) a

-- Of byte k, whether the last write by a command isn't seen.
abbrev pub MissesWrite : ResourceAccess → ℕ → Bool → LastTouches → Type 0
MissesWrite x k answer t = IsRefused (SaysSeen x k) answer t.write

-- Of byte k, whether there is a last write by a command, and it is seen.
pub record SeesWrite (x : ResourceAccess) (k : ℕ) (answer : Bool) (t : LastTouches) : Type 0 where
  pub none : t.write ≡ None → answer ≡ false
  pub some : (w : Spot) → t.write ≡ Some w → SaysSeen x k answer w

-- The same of a read by the host: of cached memory the last invalidation has to see the write (Vulkan, "Host Access to Device Memory Objects").
abbrev pub MissesRead : Bool → ResourceAccess → ℕ → Bool → LastTouches → Type 0
MissesRead false x k answer t = MissesWrite x k answer t
MissesRead true x k answer t = answer ≡ (is_some t.write && not t.is_invalidated)

-- Whether the last write by the host to cached memory isn't seen: where it wasn't flushed, or the first flush since then isn't seen (Vulkan, "Host Access to Device Memory Objects").
pub record MissesFlush (x : ResourceAccess) (k : ℕ) (answer : Bool) (t : LastTouches) : Type 0 where
  pub none : t.host_write ≡ None → answer ≡ false
  pub unflushed : (w : Spot) → t.host_write ≡ Some w → t.flush ≡ None → answer ≡ true
  pub flushed : (w f : Spot) → t.host_write ≡ Some w → t.flush ≡ Some f → SaysSeen x k (not answer) f

-- Whether the last write by the host isn't seen.
abbrev pub MissesHostWrite : Bool → ResourceAccess → ℕ → Bool → LastTouches → Type 0
MissesHostWrite false x k answer t = IsRefused (SaysSeen x k) answer t.host_write
MissesHostWrite true x k answer t = MissesFlush x k answer t

-- Whether the last transition isn't seen.
abbrev pub MissesTransition : ResourceAccess → ℕ → Bool → LastTouches → Type 0
MissesTransition x k answer t = IsRefused (SaysSeen x k) answer t.transition

-- Whether one of these two isn't seen.
abbrev pub MissesOther : Bool → ResourceAccess → ℕ → Bool → LastTouches → Type 0
MissesOther cached x k true t = MissesHostWrite cached x k true t ⊎ MissesTransition x k true t
MissesOther cached x k false t = MissesHostWrite cached x k false t × MissesTransition x k false t

-- Whether one of the three isn't seen.
abbrev pub Misses : Bool → ResourceAccess → ℕ → Bool → LastTouches → Type 0
Misses cached x k true t = MissesWrite x k true t ⊎ (MissesHostWrite cached x k true t ⊎ MissesTransition x k true t)
Misses cached x k false t = MissesWrite x k false t × MissesHostWrite cached x k false t × MissesTransition x k false t

-- Whether the last write by a command isn't seen by a transition.
abbrev pub MissesWriteAt : TransitionAccess → ℕ → Bool → LastTouches → Type 0
MissesWriteAt x k answer t = IsRefused (SaysSeenAt x k) answer t.write

-- Whether the last transition isn't.
abbrev pub MissesTransitionAt : TransitionAccess → ℕ → Bool → LastTouches → Type 0
MissesTransitionAt x k answer t = IsRefused (SaysSeenAt x k) answer t.transition

-- Whether the last write by a command, or the last transition, isn't seen by a transition.
abbrev pub MissesAt : TransitionAccess → ℕ → Bool → LastTouches → Type 0
MissesAt x k true t = IsRefused (SaysSeenAt x k) true t.write ⊎ IsRefused (SaysSeenAt x k) true t.transition
MissesAt x k false t = IsRefused (SaysSeenAt x k) false t.write × IsRefused (SaysSeenAt x k) false t.transition

-- Whether the last read by a command of some queue doesn't come before.
pub record HasEarlyRead (s : NewNode) (answer : Bool) (r : QueueReads) : Type 0 where
  pub on_first : Bool
  pub on_second : Bool
  pub on_third : Bool
  pub on_fourth : Bool
  pub either : answer ≡ (on_first || on_second || on_third || on_fourth)
  pub first : IsRefused (SaysFollows s (OfCommands 0)) on_first r.first
  pub second : IsRefused (SaysFollows s (OfCommands 1)) on_second r.second
  pub third : IsRefused (SaysFollows s (OfCommands 2)) on_third r.third
  pub fourth : IsRefused (SaysFollows s (OfCommands 3)) on_fourth r.fourth

-- The same of a byte.
abbrev pub HasEarlyCommand : NewNode → Bool → LastTouches → Type 0
HasEarlyCommand s answer t = HasEarlyRead s answer t.reads

-- Whether the last transition of a byte, which reads it, doesn't come before.
abbrev pub HasEarlyTransition : NewNode → Bool → LastTouches → Type 0
HasEarlyTransition s answer t = IsRefused (λ a w. SaysFollows s w.line a w.place) answer t.transition

-- Whether the last read by the host or by a command of some queue, or the last transition, doesn't come before.
pub record IsEarly (s : NewNode) (answer : Bool) (t : LastTouches) : Type 0 where
  pub of_host : Bool
  pub of_commands : Bool
  pub of_transition : Bool
  pub either : answer ≡ (of_host || of_commands || of_transition)
  pub host : IsRefused (SaysFollows s OfHost) of_host t.host_read
  pub commands : HasEarlyCommand s of_commands t
  pub transition : HasEarlyTransition s of_transition t

-- ---- what is found

-- Whether some number from one on and below another is such, or none is.
abbrev pub SomeBetween : (ℕ → Bool → Type 0) → Bool → ℕ → ℕ → Type 0
SomeBetween is true low high = (k : ℕ) × (low ≤ k) × (k < high) × is k true
SomeBetween is false low high = (k : ℕ) → low ≤ k → k < high → is k false

-- Whether some item of a part is such at its index, or none is.
abbrev pub FoundAt : {A : Type 0} → (ℕ → Bool → A → Type 0) → Bool → List A → ℕ → ℕ → Type 0
FoundAt {A} is true xs low high = (k : ℕ) × (low ≤ k) × (k < high) × (a : A) × (slice_get xs k ≡ Some a) × is k true a
FoundAt {A} is false xs low high = (k : ℕ) → low ≤ k → k < high → (a : A) × (slice_get xs k ≡ Some a) × is k false a

-- The same wherever it is.
abbrev pub FoundIn : {A : Type 0} → (Bool → A → Type 0) → Bool → List A → ℕ → ℕ → Type 0
FoundIn is answer xs low high = FoundAt (λ k. is) answer xs low high

-- Whether one of some ranges of numbers is such, or none is.
abbrev pub FoundInRanges : (Bool → (low high : ℕ) → Type 0) → Bool → ByteRanges → Type 0
FoundInRanges is true s = (n : ℕ) × (n < s.count) × is true (s.first + n * s.step) (s.first + n * s.step + s.size)
FoundInRanges is false s = (n : ℕ) → n < s.count → is false (s.first + n * s.step) (s.first + n * s.step + s.size)

-- Whether some item of a list is such, or none is.
abbrev pub FoundAmong : {A : Type 0} → (Bool → A → Type 0) → Bool → List A → Type 0
FoundAmong {A} is true xs = (a : A) × Contains xs a × is true a
FoundAmong {A} is false xs = (a : A) → Contains xs a → is false a

-- What is found is what the rules say.
pub record AreConflicts (found : Conflicts) (past : Past) (p : Point) : Type 0 where
  pub war : found.war ≡ breaks_hazard_war past p
  pub raw : found.raw ≡ breaks_hazard_raw past p
  pub waw : found.waw ≡ breaks_hazard_waw past p
  pub undefined : found.undefined ≡ breaks_read_undefined past p
