-- Where everything lies in the course of a trace.
use Rattle.std.specs.Prelude.{◌≡◌, ◌+◌, ℕ, List, take}
use Rattle.vk_model.specs.declared.entry.Entry.{Entry}
use Rattle.vk_model.specs.Memory.HeapSizes.{HeapSizes}
use Rattle.vk_model.specs.Memory.Allocations.{Allocated, ReachesWith}
use Rattle.vk_model.specs.Run.Runs.{Step, Stage}
use Rattle.vk_backing.specs.PassAllots.{FulfilsAll}
use Rattle.vk_resources.specs.Allocating.{allotted}
use Rattle.vk_device.specs.declared.device.Device.{Device}
use Rattle.vk_device.specs.Led.{Led}
use Rattle.vk_places.specs.declared.states.State.{State}
use Rattle.vk_places.specs.States.{IsStateOf}

-- A device after the first n entries of a trace: an allowed run has led to it, and what these entries allocate, passes included, is what it holds (Vulkan, "Execution and Memory Dependencies" and "Device Memory"; VMA, "Custom memory pools" and "Defragmentation").
pub record IsAfter (sizes : HeapSizes) (t : List Entry) (n : ℕ) (d : Device) : Type 0 where
  pub steps : List Step
  pub stage : Stage
  pub led : Led t steps stage d
  pub at : stage.count ≡ n
  pub allocated : Allocated
  pub held : FulfilsAll (allotted d.resources) d.passes allocated
  pub parts : ℕ → ℕ
  pub reached : ReachesWith parts sizes (take n t) allocated

-- The state is that of a device after its entry.
pub record IsStateAfter (sizes : HeapSizes) (t : List Entry) (s : State) : Type 0 where
  pub device : Device
  pub after : IsAfter sizes t (s.entry + 1) device
  pub state : IsStateOf device.resources device.passes s
