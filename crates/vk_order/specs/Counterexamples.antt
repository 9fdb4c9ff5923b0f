-- Where the laws would be false: nodes, the newest first, for which a premise or a part of a line can't be left out.
use Rattle.std.specs.Prelude.{◌≡◌, ℕ, ◌∷◌, [], List, true, false}
use Rattle.vk_model.specs.declared.command.Cmd.TheVariants as cmd
use Rattle.vk_model.specs.declared.command.Element.{Element}
use Rattle.vk_model.specs.declared.command.Element.TheVariants as element
use Rattle.vk_model.specs.declared.command.Length.TheVariants as length_of
use Rattle.vk_model.specs.declared.entry.Entry.TheVariants as entry
use Rattle.vk_model.specs.World.Bytes.{in_buffer}
use Rattle.vk_model.specs.Trace.Point.{Host}
use Rattle.vk_model.specs.Sync.Node.{Node, Act, Hosts, Waits, Signals, Runs, Depends, Barrier, SetOf, AwaitOf}
use Rattle.vk_model.specs.Sync.Before.{before}
use Rattle.vk_model.specs.Sync.Seen.{Write, seen}
use Rattle.vk_order.specs.Lines.{line_of}

-- A node at a place of entry e, all on queue 0.
abbrev pub at : ℕ → ℕ → ℕ → Act → Node
at number e place act = record { number = number; point = record { entry = e; batch = 0; place = place; queue = 0; action = Host (entry.Map 0) }; act = act }

-- An element of all memory, from stages to stages, with the accesses of writes by commands and by the host.
abbrev pub from_to : ℕ → ℕ → Element
from_to s d = element.Memory (record { source_stages = record { 0 = s }; source_accesses = record { 0 = 4096 }; destination_stages = record { 0 = d }; destination_accesses = record { 0 = 16384 } })

-- ---- an element between two of one command

abbrev pub first : Node
first = at 0 0 0 (Depends Barrier (from_to 0 4096))

abbrev pub second : Node
second = at 1 0 1 (Depends Barrier (from_to 0 4096))

abbrev pub third : Node
third = at 2 0 0 (Depends Barrier (from_to 4096 0))

-- ---- two sets

abbrev pub set_one : Node
set_one = at 0 0 0 (Depends (SetOf 1 0) (from_to 4096 4096))

abbrev pub set_two : Node
set_two = at 1 0 1 (Depends (SetOf 2 0) (from_to 4096 4096))

abbrev pub await_two : Node
await_two = at 2 0 2 (Depends (AwaitOf 2 0) (from_to 4096 4096))

-- ---- two waits

abbrev pub wait_some : Node
wait_some = at 0 0 0 (Waits (record { semaphore = 1; value = 1; stages = record { 0 = 4096 } }))

abbrev pub wait_all : Node
wait_all = at 1 0 1 (Waits (record { semaphore = 1; value = 1; stages = record { 0 = 65536 } }))

abbrev pub other_stage : Node
other_stage = at 2 0 0 (Depends Barrier (from_to 16384 0))

-- ---- a host write after a command's

abbrev pub by_command : Node
by_command = at 0 0 0 (Runs (cmd.Fill 1 0 (length_of.Bytes 4) 7))

abbrev pub by_host : Node
by_host = at 4 2 0 (Hosts (entry.Write 1 0 (9 ∷ [])))

abbrev pub next_command : Node
next_command = at 6 3 0 (Runs (cmd.Fill 1 0 (length_of.Bytes 4) 8))

abbrev pub written : List Node
written =
    next_command ∷ at 5 3 0 (Hosts (entry.Submit 0 [])) ∷ by_host ∷ at 3 1 0 (Hosts (entry.Wait (record { semaphore = 2; value = 1 } ∷ [])))
    ∷ at 2 0 0 (Signals (record { semaphore = 2; value = 1; stages = record { 0 = 65536 } })) ∷ at 1 0 1 (Depends Barrier (from_to 4096 16384)) ∷ by_command ∷ []

-- An element of another command between two of one command; two sets; two waits that differ in ALL_COMMANDS alone; and a host write that sees a command's, with a command after it that sees the host's alone.
pub record Counterexamples : Type 0 where
  pub same_line : line_of first ≡ line_of second
  pub later_leads : before (third ∷ second ∷ first ∷ []) second third ≡ true
  pub earlier_not : before (third ∷ second ∷ first ∷ []) first third ≡ false
  pub later_set : before (await_two ∷ set_two ∷ set_one ∷ []) set_two await_two ≡ true
  pub earlier_set : before (await_two ∷ set_two ∷ set_one ∷ []) set_one await_two ≡ false
  pub later_wait : before (other_stage ∷ wait_all ∷ wait_some ∷ []) wait_all other_stage ≡ true
  pub earlier_wait : before (other_stage ∷ wait_all ∷ wait_some ∷ []) wait_some other_stage ≡ false
  pub host_sees : seen (λ b. false) written by_command by_host Write (in_buffer 1 0) ≡ true
  pub host_seen : seen (λ b. false) written by_host next_command Write (in_buffer 1 0) ≡ true
  pub command_unseen : seen (λ b. false) written by_command next_command Write (in_buffer 1 0) ≡ false
