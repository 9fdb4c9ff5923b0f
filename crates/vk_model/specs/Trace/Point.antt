-- The points of a trace: its host entries, and the waits, commands and signals of its batches; and what has happened so far.
use Rattle.std.specs.Prelude.{ℕ, List, Bool, Option, Some, None}
use Rattle.std.specs.List.{filter_map}
use Rattle.vk_model.specs.declared.command.Cmd.{Cmd}
use Rattle.vk_model.specs.declared.entry.Entry.{Entry}
use Rattle.vk_model.specs.declared.entry.SemaphoreSubmit.{SemaphoreSubmit}
use Rattle.vk_model.specs.declared.rule.At.{At}
use Rattle.vk_model.specs.declared.rule.At.TheVariants as at
use Rattle.vk_model.specs.Basics.{holds}

-- What happens at a point: an entry of the host, or a batch's wait, command or signal (Vulkan, "Queue Submission").
pub data Action : Type 0 where
  Host : Entry → Action
  Wait : SemaphoreSubmit → Action
  Run : Cmd → Action
  Signal : SemaphoreSubmit → Action

-- An action of entry `entry`. One of a batch has its batch, its place in the batch's list and its queue; for a host entry nothing reads these three (profile).
pub record Point : Type 0 where
  pub entry : ℕ
  pub batch : ℕ
  pub place : ℕ
  pub queue : ℕ
  pub action : Action

-- What has happened so far, the newest point first. Every other notion is a function of it (profile).
abbrev pub Past : Type 0
Past = List Point

-- How a point is reported, by its action (profile).
abbrev pub label : Point → Action → At
label p (Host x) = at.Entry p.entry
label p (Wait s) = at.Wait p.entry p.batch p.place
label p (Run c) = at.Command p.entry p.batch p.place
label p (Signal s) = at.Signal p.entry p.batch p.place

-- How a point is reported (profile).
abbrev pub at_of : Point → At
at_of p = label p p.action

-- The host entry that an action is.
abbrev pub host_of : Action → Option Entry
host_of (Host x) = Some x
host_of _ = None

-- The command that an action is.
abbrev pub command_of : Action → Option Cmd
command_of (Run c) = Some c
command_of _ = None

-- Whether a point is a host entry that passes the test.
abbrev pub on_host : (Entry → Bool) → Point → Bool
on_host test p = holds (host_of p.action) test

-- Whether a point is a command that passes the test.
abbrev pub on_command : (Cmd → Bool) → Point → Bool
on_command test p = holds (command_of p.action) test

-- The host entries so far, the newest first.
abbrev pub entries : Past → List Entry
entries past = filter_map (λ p. host_of p.action) past
