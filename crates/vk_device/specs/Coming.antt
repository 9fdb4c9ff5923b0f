-- Commands that come to a device.
use Rattle.std.specs.Prelude.{◌≡◌, ℕ, ◌<◌, length, true}
use Rattle.vk_model.specs.declared.command.Cmd.{Cmd}
use Rattle.vk_model.specs.Trace.Point.{Past, Point, Run}
use Rattle.vk_model.specs.Run.Pieces.{pieces}
use Rattle.vk_offers.specs.IsOffers.{is_run}
use Rattle.vk_resources.specs.Held.{Held}
use Rattle.vk_resources.specs.Matches.{Stands}
use Rattle.vk_resources.specs.Fits.{FitsCommand, NamesLive}
use Rattle.vk_resources.specs.Done.{CommandReady}
use Rattle.vk_device.specs.declared.device.Device.{Device}

-- A command that comes fits what the resources are, and names live objects where it has a piece.
pub record CommandFits (past : Past) (c : Cmd) (resources : Held) : Type 0 where
  pub matches : Stands past resources
  pub fits : FitsCommand past c
  pub alive : 0 < length (pieces past c) → NamesLive past c

-- The resources are those of some past in which the command of a point fits, where it is a clear or a copy.
abbrev pub PrepareReady : Device → Point → Type 0
PrepareReady d p = (c : Cmd) → p.action ≡ Run c → is_run c ≡ true → CommandReady d.resources c
