-- Laws of what is offered and of what happens: points of an order come one after another, what the host waits for, and where nothing happens.
use Rattle.std.specs.Prelude.{◌≡◌, ℕ, ◌<◌, true, List, [], ◌∷◌, ◌++◌, length, Contains}
use Rattle.vk_model.specs.declared.command.Cmd.{Cmd}
use Rattle.vk_model.specs.declared.entry.Entry.TheVariants as entry
use Rattle.vk_model.specs.declared.entry.SemaphoreValue.{SemaphoreValue}
use Rattle.vk_model.specs.Trace.Point.{Past, Point, Run, entries}
use Rattle.vk_model.specs.Trace.Structure.{IsOrdered}
use Rattle.vk_model.specs.Rules.Fault.{IsUnbroken}
use Rattle.vk_model.specs.Run.Pieces.{pieces}
use Rattle.vk_model.specs.Run.Runs.{Name, Stage, past_with, may_go}
use Rattle.vk_model.specs.Run.CachedRuns.{happening}
use Rattle.vk_sync.specs.declared.ready.Piece.{Piece}
use Rattle.vk_sync.specs.Ready.{ready}
use Rattle.vk_offers.specs.declared.offers.Offers.{Offers}
use Rattle.vk_offers.specs.IsOffers.{is_run, ComesNext, IsOffers, host_node, is_free_next}

-- Each point of an ordered past without a fault may come next after those before it.
abbrev pub OrderComesNext : Type 0
OrderComesNext = (all newer past : Past) (p : Point) (count : ℕ) → IsUnbroken all → IsOrdered all → all ≡ newer ++ p ∷ past
    → ((c : Cmd) → p.action ≡ Run c → is_run c ≡ true → count ≡ length (pieces (p ∷ past) c)) → ComesNext past p count

-- Each point of an ordered past without a fault is on one of four queues; those of the host are on the first (Vulkan, "Queue Submission"; four: profile).
abbrev pub PointsAreOnQueues : Type 0
PointsAreOnQueues = (all newer past : Past) (p : Point) → IsUnbroken all → IsOrdered all → all ≡ newer ++ p ∷ past → p.queue < 4

-- From a stage to itself nothing happens: what is free at it has happened (profile: as soon as it can).
abbrev pub NothingHappens : Type 0
NothingHappens = (s : Stage) → happening s s ≡ []

-- A wait of the host may be applied exactly where all pieces of commands before it have run, seen from the points before it alone (Vulkan, "Semaphores", on `vkWaitSemaphores`).
abbrev pub WaitsMayGo : Type 0
WaitsMayGo = (s : Stage) (ws : List SemaphoreValue) → IsUnbroken (past_with s (entry.Wait ws)) → IsOrdered (past_with s (entry.Wait ws)) → s.count ≡ length (entries s.front.past)
    → may_go s (entry.Wait ws) ≡ is_free_next s.front.past s.done (host_node s.front.past s.count (entry.Wait ws))

-- A piece that is ready in what is offered of a past whose pieces have run so far is ready in all that is (Vulkan, "Execution and Memory Dependencies").
abbrev pub OffersAgree : Type 0
OffersAgree = (past : Past) (done : List Name) (one other : Offers) (piece : Piece) → IsOffers one past done → IsOffers other past done → Contains (ready one.ready) piece → Contains (ready other.ready) piece
