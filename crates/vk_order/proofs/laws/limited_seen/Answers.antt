use Rattle.std.proofs.Common.{◌≡◌, ◌∷◌, List, Bool, IsTrue, false, refl}
use Rattle.vk_model.specs.World.Bytes.{Byte}
use Rattle.vk_model.specs.Sync.Node.{Node, Act, Hosts, Waits, Signals, Runs, Depends}
use Rattle.vk_model.specs.Sync.Edge.{is_host, is_command, is_element}
use Rattle.vk_model.specs.Sync.Before.{IsNumbered}
use Rattle.vk_model.specs.Sync.Seen.{Access, needs_invalidation}
use Rattle.vk_model.proofs.Lists.Truths.{no}
use Rattle.vk_order.specs.Limited.{IsWrite, SeenByCommand, SeenByHost, SeenByTransition}
use Rattle.vk_order.proofs.LimitedLemmas.{seen_by_command, seen_by_host, seen_by_transition}
use Rattle.vk_order.proofs.laws.limited_seen.Goals as goal

module _ (ns : List Node) (n w : Node) (cached : Byte → Bool) (k : Access) (b : Byte) (numbers : IsNumbered (n ∷ ns)) (is_write : IsWrite cached ns w b) where
  by_command : (a : Act) → n.act ≡ a → IsTrue (is_command a) → SeenByCommand ns n cached w k b
  by_command (Runs x) is h = seen_by_command ns n numbers cached w k b is_write x is
  by_command (Hosts x) is h = no h
  by_command (Waits x) is h = no h
  by_command (Signals x) is h = no h
  by_command (Depends r e) is h = no h

  by_host : (a : Act) → n.act ≡ a → IsTrue (is_host a) → needs_invalidation cached (n ∷ ns) k b ≡ false → SeenByHost ns n cached w k b
  by_host (Hosts x) is h asked = seen_by_host ns n numbers cached w k b is_write x is asked
  by_host (Runs x) is h asked = no h
  by_host (Waits x) is h asked = no h
  by_host (Signals x) is h asked = no h
  by_host (Depends r e) is h asked = no h

  by_transition : (a : Act) → n.act ≡ a → IsTrue (is_element a) → SeenByTransition ns n cached w k b
  by_transition (Depends r e) is h = seen_by_transition ns n numbers cached w k b is_write r e is
  by_transition (Hosts x) is h = no h
  by_transition (Runs x) is h = no h
  by_transition (Waits x) is h = no h
  by_transition (Signals x) is h = no h

pub returns : goal.returns
returns c = λ ns n w cached k b numbers is_write. (by_command ns n w cached k b numbers is_write n.act refl, by_host ns n w cached k b numbers is_write n.act refl, by_transition ns n w cached k b numbers is_write n.act refl)
