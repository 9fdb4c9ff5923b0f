-- Which lines lead to which acts.
use Rattle.std.specs.Prelude.{ℕ, Bool, true, false, ◌&&◌, ◌||◌, ◌==◌}
use Rattle.vk_model.specs.Basics.{has_bits, holds}
use Rattle.vk_model.specs.Sync.Node.{Act, Hosts, Waits, Signals, Runs, Depends}
use Rattle.vk_model.specs.Sync.Edge.{all_commands, first_scope}
use Rattle.vk_order.specs.declared.lines.Line.{Line}
use Rattle.vk_order.specs.declared.lines.Line.TheVariants.{Host as OfHost, Commands as OfCommands, Signals as OfSignals, Elements as OfElements, Sets as OfSets, Waits as OfWaits}
use Rattle.vk_order.specs.Lines.{has_transfer, has_host}

-- Whether a line is of the commands of a queue.
abbrev pub is_of_commands : ℕ → Line → Bool
is_of_commands q (OfCommands r) = r == q
is_of_commands q _ = false

-- Whether it is of a queue's elements, also those of sets.
abbrev pub is_of_elements : ℕ → Line → Bool
is_of_elements q (OfElements r t h) = r == q
is_of_elements q (OfSets r) = r == q
is_of_elements q _ = false

-- Whether it is of elements of barriers and awaits.
abbrev pub is_of_barriers : Line → Bool
is_of_barriers (OfElements r t h) = true
is_of_barriers _ = false

-- Whether it has a queue's dependencies or waits that end in clears and copies.
abbrev pub ends_in_transfer : ℕ → Line → Bool
ends_in_transfer q (OfElements r t h) = r == q && t
ends_in_transfer q (OfWaits r t h a) = r == q && t
ends_in_transfer q _ = false

-- Whether it has a queue's dependencies or waits that end in the host.
abbrev pub ends_in_host : ℕ → Line → Bool
ends_in_host q (OfElements r t h) = r == q && h
ends_in_host q (OfWaits r t h a) = r == q && h
ends_in_host q _ = false

-- Whether it has a queue's waits with ALL_COMMANDS.
abbrev pub waits_for_all : ℕ → Line → Bool
waits_for_all q (OfWaits r t h a) = r == q && a
waits_for_all q _ = false

-- Whether it leads to each later signal of a queue: its signals, and dependencies to the host.
abbrev pub leads_to_signals : ℕ → Line → Bool
leads_to_signals q (OfSignals r) = r == q
leads_to_signals q (OfElements r t h) = r == q && h
leads_to_signals q _ = false

-- Whether its second scope meets a first scope of these stages.
abbrev pub leads_to_stages : ℕ → ℕ → Line → Bool
leads_to_stages q stages l = has_transfer stages && (is_of_commands q l || ends_in_transfer q l) || has_host stages && ends_in_host q l

-- Whether a signal with these stages covers it.
abbrev pub is_covered : ℕ → ℕ → Line → Bool
is_covered q stages l = leads_to_stages q stages l || has_bits stages all_commands && is_of_elements q l

-- Whether a line is the host's.
abbrev pub is_of_host : Line → Bool
is_of_host OfHost = true
is_of_host _ = false

-- Whether the nodes of a line lead to a later act on a queue, but for submits, semaphores, events and siblings (Vulkan, "Execution and Memory Dependencies").
abbrev pub line_leads : ℕ → Act → Line → Bool
line_leads q (Hosts x) l = is_of_host l
line_leads q (Waits s) l = false
line_leads q (Runs c) l = ends_in_transfer q l
line_leads q (Signals s) l = leads_to_signals q l || is_covered q s.stages.0 l
line_leads q (Depends r e) l = waits_for_all q l || holds (first_scope (Depends r e)) (λ stages. leads_to_stages q stages l)
