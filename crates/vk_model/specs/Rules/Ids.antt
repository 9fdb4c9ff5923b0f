-- The rules on ids and queues: NEW_ID, LIVE_ID, QUEUE, QUEUE_KIND.
use Rattle.std.specs.Prelude.{ℕ, List, [], ◌∷◌, ◌++◌, map, Bool, true, false, not, ◌&&◌, ◌||◌, ◌==◌, nat_lt, nat_le, if◌then◌else◌, Option, Some, None, is_some, option_and_then}
use Rattle.std.specs.List.{list_any, flat_map}
use Rattle.vk_model.specs.declared.command.Cmd.{Cmd}
use Rattle.vk_model.specs.declared.command.Cmd.TheVariants as cmd
use Rattle.vk_model.specs.declared.command.Element.{Element}
use Rattle.vk_model.specs.declared.command.Element.TheVariants as element
use Rattle.vk_model.specs.declared.entry.Entry.{Entry}
use Rattle.vk_model.specs.declared.entry.Entry.TheVariants as entry
use Rattle.vk_model.specs.declared.resource.Place.{Place}
use Rattle.vk_model.specs.declared.resource.Place.TheVariants as place
use Rattle.vk_model.specs.Basics.{holds, option_list}
use Rattle.vk_model.specs.Trace.Point.{Past, Point, Action, Host, Wait, Run, Signal, host_of, on_host, on_command}
use Rattle.vk_model.specs.Trace.Objects.{made_by, made, live, buffer_in, image_in, pool_in, memory_in, semaphore_in, event_in, defrag_in, resource_in, pool_of}

-- ---- NEW_ID

-- NEW_ID: the id made was made before, also that of an object that has ended (profile).
abbrev pub breaks_new_id : Past → Point → Bool
breaks_new_id past p = on_host (λ x. holds (made_by x) (λ i. is_some (made past i))) p

-- ---- LIVE_ID

-- Ids, each with what the entry that made it has to be.
abbrev pub Asked : Type 0
Asked = List (ℕ × (Entry → Bool))

-- Whether an entry makes a buffer.
abbrev pub is_buffer : Entry → Bool
is_buffer x = is_some (buffer_in x)

-- Whether an entry makes an image.
abbrev pub is_image : Entry → Bool
is_image x = is_some (image_in x)

-- Whether an entry makes a buffer or an image.
abbrev pub is_resource : Entry → Bool
is_resource x = is_some (resource_in x)

-- Whether an entry makes a pool.
abbrev pub is_pool : Entry → Bool
is_pool x = is_some (pool_in x)

-- Whether an entry makes a memory object.
abbrev pub is_memory : Entry → Bool
is_memory x = is_some (memory_in x)

-- Whether an entry makes a semaphore.
abbrev pub is_semaphore : Entry → Bool
is_semaphore x = is_some (semaphore_in x)

-- Whether an entry makes an event.
abbrev pub is_event : Entry → Bool
is_event x = is_some (event_in x)

-- Whether an entry begins a defragmentation.
abbrev pub is_defrag : Entry → Bool
is_defrag x = is_some (defrag_in x)

-- What a place names (Vulkan, "Resource Memory Association"; VMA, "Custom memory pools").
abbrev pub asked_by_place : Place → Asked
asked_by_place (place.Dedicated t) = []
asked_by_place (place.Pool p) = (p, is_pool) ∷ []
asked_by_place (place.PoolUpper p) = (p, is_pool) ∷ []
asked_by_place (place.Memory m o) = (m, is_memory) ∷ []

-- The buffer that the host maps, unmaps, writes, reads, flushes or invalidates by an entry (Vulkan, "Host Access to Device Memory Objects").
abbrev pub accessed_by : Entry → Option ℕ
accessed_by (entry.Map b) = Some b
accessed_by (entry.Unmap b) = Some b
accessed_by (entry.Write b o bytes) = Some b
accessed_by (entry.Read b o n) = Some b
accessed_by (entry.Flush b o n) = Some b
accessed_by (entry.Invalidate b o n) = Some b
accessed_by _ = None

-- What an entry names; the ids in a submit are those of its batches' points.
abbrev pub asked_by_entry : Entry → Asked
asked_by_entry (entry.Buffer i b) = asked_by_place b.place
asked_by_entry (entry.Image i m) = asked_by_place m.place
asked_by_entry (entry.Free m) = (m, is_memory) ∷ []
asked_by_entry (entry.Destroy r) = (r, is_resource) ∷ []
asked_by_entry (entry.DropPool p) = (p, is_pool) ∷ []
asked_by_entry (entry.Signal s v) = (s, is_semaphore) ∷ []
asked_by_entry (entry.Wait ws) = map (λ w. (w.semaphore, is_semaphore)) ws
asked_by_entry (entry.Defrag i p b m) = (p, is_pool) ∷ []
asked_by_entry (entry.Pass d) = (d, is_defrag) ∷ []
asked_by_entry (entry.EndPass d kept lost) = (d, is_defrag) ∷ map (λ r. (r, is_resource)) (kept ++ lost)
asked_by_entry (entry.EndDefrag d) = (d, is_defrag) ∷ []
asked_by_entry x = map (λ b. (b, is_buffer)) (option_list (accessed_by x))

-- What an element names (Vulkan, "Memory Barriers").
abbrev pub asked_by_element : Element → Asked
asked_by_element (element.Memory d) = []
asked_by_element (element.Buffer e) = (e.buffer, is_buffer) ∷ []
asked_by_element (element.Image e) = (e.image, is_image) ∷ []

-- What a command names (Vulkan, "Clear Commands", "Copy Commands", "Pipeline Barriers" and "Events").
abbrev pub asked_by_command : Cmd → Asked
asked_by_command (cmd.Fill b o n w) = (b, is_buffer) ∷ []
asked_by_command (cmd.Update b o bytes) = (b, is_buffer) ∷ []
asked_by_command (cmd.Copy s d gs) = (s, is_buffer) ∷ (d, is_buffer) ∷ []
asked_by_command (cmd.Clear i l color rs) = (i, is_image) ∷ []
asked_by_command (cmd.CopyIn b i l gs) = (b, is_buffer) ∷ (i, is_image) ∷ []
asked_by_command (cmd.CopyOut i l b gs) = (i, is_image) ∷ (b, is_buffer) ∷ []
asked_by_command (cmd.CopyImage s l d m gs) = (s, is_image) ∷ (d, is_image) ∷ []
asked_by_command (cmd.Barrier es) = flat_map asked_by_element es
asked_by_command (cmd.Set v ms) = (v, is_event) ∷ []
asked_by_command (cmd.Await v ms) = (v, is_event) ∷ []

-- What an action names.
abbrev pub asked_by : Action → Asked
asked_by (Host x) = asked_by_entry x
asked_by (Wait s) = (s.semaphore, is_semaphore) ∷ []
asked_by (Run c) = asked_by_command c
asked_by (Signal s) = (s.semaphore, is_semaphore) ∷ []

-- The past of host entry e.
abbrev pub until : ℕ → Past → Past
until e [] = []
until e (p ∷ past) = if p.entry == e && is_some (host_of p.action) then past else until e past

-- The past in which a point's ids are judged: its own, and for a point of a batch that of its submit (profile).
abbrev pub judged_in : Past → Point → Past
judged_in past p = if is_some (host_of p.action) then past else until p.entry past

-- Whether an id isn't a live object of the kind asked (Vulkan, "Object Lifetime").
abbrev pub is_dead : Past → ℕ × (Entry → Bool) → Bool
is_dead past x = not (holds (live past x.0) x.1)

-- Whether a resource isn't in the pool of a defragmentation (VMA, "Defragmentation").
abbrev pub is_stray : Past → ℕ → ℕ → Bool
is_stray past d r = not (holds (pool_of past r) (λ p. holds (option_and_then defrag_in (live past d)) (λ q. p == q)))

-- Whether an end of a pass lists such a resource (VMA, "Defragmentation").
abbrev pub lists_stray : Past → Entry → Bool
lists_stray past (entry.EndPass d kept lost) = list_any (is_stray past d) (kept ++ lost)
lists_stray past _ = false

-- LIVE_ID: an id named isn't a live object of the kind asked, or an end of a pass lists a resource that isn't in the pool (Vulkan, "Object Lifetime"; VMA, "Defragmentation").
abbrev pub breaks_live_id : Past → Point → Bool
breaks_live_id past p = list_any (is_dead (judged_in past p)) (asked_by p.action) || on_host (lists_stray past) p

-- ---- QUEUE and QUEUE_KIND

-- Whether a submit names a queue that isn't there.
abbrev pub is_over_3 : Entry → Bool
is_over_3 (entry.Submit q bs) = nat_lt 3 q
is_over_3 _ = false

-- QUEUE: the queue is over 3 (Vulkan, "Queues"; four queues: profile).
abbrev pub breaks_queue : Past → Point → Bool
breaks_queue past p = on_host is_over_3 p

-- Commands that queues of transfer alone don't have (Vulkan, "Clearing Images Outside a Render Pass Instance" and "Events", on supported queue types).
abbrev pub needs_family_0 : Cmd → Bool
needs_family_0 (cmd.Clear i l color rs) = true
needs_family_0 (cmd.Set v ms) = true
needs_family_0 (cmd.Await v ms) = true
needs_family_0 _ = false

-- QUEUE_KIND: a clear, set or await on queue 2 or 3 (Vulkan, "Command Buffers", on supported queue types; the numbers: profile).
abbrev pub breaks_queue_kind : Past → Point → Bool
breaks_queue_kind past p = on_command needs_family_0 p && nat_le 2 p.queue
