-- The broken and the corrected traces for each rule from MAP_STATE to READ_UNDEFINED.
use Rattle.std.specs.Prelude.{List, [], ◌∷◌}
use Rattle.vk_model.specs.declared.entry.Entry.{Entry}
use Rattle.vk_model.specs.declared.entry.Entry.TheVariants as entry
use Rattle.vk_model.specs.declared.resource.Sharing.TheVariants as sharing
use Rattle.vk_model.specs.declared.resource.Place.TheVariants as place
use Rattle.vk_model.specs.declared.resource.PoolKind.TheVariants as algorithm
use Rattle.vk_model.specs.declared.command.Element.TheVariants as element
use Rattle.vk_model.specs.declared.command.Cmd.TheVariants as cmd
use Rattle.vk_rows.specs.Writing.{bytes, dependency, buffer_region, submit_info, semaphore_value, batch, buffer_entry, pool_entry, transfer, host, all_commands, transfer_write, host_read, both}

-- An unmap of what isn't mapped.
abbrev pub map_state : List Entry
map_state =
    buffer_entry 1 16 both sharing.Exclusive (place.Dedicated 1)
    ∷ entry.Unmap 1
    ∷ []

-- Of what is.
abbrev pub map_state_corrected : List Entry
map_state_corrected =
    buffer_entry 1 16 both sharing.Exclusive (place.Dedicated 1)
    ∷ entry.Map 1
    ∷ entry.Unmap 1
    ∷ []

-- A map of memory that isn't visible to the host.
abbrev pub host_visible : List Entry
host_visible =
    buffer_entry 1 16 both sharing.Exclusive (place.Dedicated 0)
    ∷ entry.Map 1
    ∷ []

-- Of memory that is visible to it.
abbrev pub host_visible_corrected : List Entry
host_visible_corrected =
    buffer_entry 1 16 both sharing.Exclusive (place.Dedicated 1)
    ∷ entry.Map 1
    ∷ []

-- The upper end of a pool of two blocks.
abbrev pub pool_kind : List Entry
pool_kind =
    pool_entry 1 algorithm.Linear 1 4096 2
    ∷ buffer_entry 2 16 both sharing.Exclusive (place.PoolUpper 1)
    ∷ []

-- Of one.
abbrev pub pool_kind_corrected : List Entry
pool_kind_corrected =
    pool_entry 1 algorithm.Linear 1 4096 1
    ∷ buffer_entry 2 16 both sharing.Exclusive (place.PoolUpper 1)
    ∷ []

-- The end of a pass that hasn't begun.
abbrev pub pass_state : List Entry
pass_state =
    pool_entry 1 algorithm.Tlsf 1 4096 2
    ∷ entry.Defrag 2 1 0 0
    ∷ entry.EndPass 2 [] []
    ∷ []

-- That has.
abbrev pub pass_state_corrected : List Entry
pass_state_corrected =
    pool_entry 1 algorithm.Tlsf 1 4096 2
    ∷ entry.Defrag 2 1 0 0
    ∷ entry.Pass 2
    ∷ entry.EndPass 2 [] []
    ∷ []

-- A pass begins while a fill of the pool isn't known complete.
abbrev pub pass_busy : List Entry
pass_busy =
    pool_entry 1 algorithm.Tlsf 1 4096 2
    ∷ buffer_entry 2 16 both sharing.Exclusive (place.Pool 1)
    ∷ entry.Semaphore 3 0
    ∷ entry.Defrag 4 1 0 0
    ∷ entry.Submit 0 (batch [] (cmd.Fill 2 0 (bytes 16) 7 ∷ []) (submit_info 3 1 all_commands ∷ []) ∷ [])
    ∷ entry.Pass 4
    ∷ []

-- After a wait.
abbrev pub pass_busy_corrected : List Entry
pass_busy_corrected =
    pool_entry 1 algorithm.Tlsf 1 4096 2
    ∷ buffer_entry 2 16 both sharing.Exclusive (place.Pool 1)
    ∷ entry.Semaphore 3 0
    ∷ entry.Defrag 4 1 0 0
    ∷ entry.Submit 0 (batch [] (cmd.Fill 2 0 (bytes 16) 7 ∷ []) (submit_info 3 1 all_commands ∷ []) ∷ [])
    ∷ entry.Wait (semaphore_value 3 1 ∷ [])
    ∷ entry.Pass 4
    ∷ []

-- The host writes a resource that moves.
abbrev pub pass_write : List Entry
pass_write =
    pool_entry 1 algorithm.Tlsf 1 4096 2
    ∷ buffer_entry 2 16 both sharing.Exclusive (place.Pool 1)
    ∷ entry.Defrag 3 1 0 0
    ∷ entry.Map 2
    ∷ entry.Pass 3
    ∷ entry.Write 2 0 (7 ∷ [])
    ∷ []

-- After the pass.
abbrev pub pass_write_corrected : List Entry
pass_write_corrected =
    pool_entry 1 algorithm.Tlsf 1 4096 2
    ∷ buffer_entry 2 16 both sharing.Exclusive (place.Pool 1)
    ∷ entry.Defrag 3 1 0 0
    ∷ entry.Map 2
    ∷ entry.Pass 3
    ∷ entry.EndPass 3 [] []
    ∷ entry.Write 2 0 (7 ∷ [])
    ∷ []

-- A fill of what a copy reads, without an order.
abbrev pub hazard_war : List Entry
hazard_war =
    buffer_entry 1 16 both sharing.Exclusive (place.Dedicated 1)
    ∷ buffer_entry 2 16 both sharing.Exclusive (place.Dedicated 1)
    ∷ entry.Submit 0 (batch [] (cmd.Copy 1 2 ((buffer_region 0 0 4) ∷ []) ∷ cmd.Fill 1 0 (bytes 4) 7 ∷ []) [] ∷ [])
    ∷ []

-- After a barrier without any access.
abbrev pub hazard_war_corrected : List Entry
hazard_war_corrected =
    buffer_entry 1 16 both sharing.Exclusive (place.Dedicated 1)
    ∷ buffer_entry 2 16 both sharing.Exclusive (place.Dedicated 1)
    ∷ entry.Submit 0 (batch []
    (cmd.Copy 1 2 ((buffer_region 0 0 4) ∷ [])
    ∷ cmd.Barrier (element.Memory (dependency transfer 0 transfer 0) ∷ [])
    ∷ cmd.Fill 1 0 (bytes 4) 7 ∷ [])
    [] ∷ [])
    ∷ []

-- The host reads what a fill wrote, after a wait alone.
abbrev pub hazard_raw : List Entry
hazard_raw =
    buffer_entry 1 16 both sharing.Exclusive (place.Dedicated 1)
    ∷ entry.Semaphore 2 0
    ∷ entry.Map 1
    ∷ entry.Submit 0 (batch [] (cmd.Fill 1 0 (bytes 4) 7 ∷ []) (submit_info 2 1 all_commands ∷ []) ∷ [])
    ∷ entry.Wait (semaphore_value 2 1 ∷ [])
    ∷ entry.Read 1 0 4
    ∷ []

-- After a barrier to the host too.
abbrev pub hazard_raw_corrected : List Entry
hazard_raw_corrected =
    buffer_entry 1 16 both sharing.Exclusive (place.Dedicated 1)
    ∷ entry.Semaphore 2 0
    ∷ entry.Map 1
    ∷ entry.Submit 0 (batch []
    (cmd.Fill 1 0 (bytes 4) 7
    ∷ cmd.Barrier (element.Memory (dependency transfer transfer_write host host_read) ∷ []) ∷ [])
    (submit_info 2 1 all_commands ∷ []) ∷ [])
    ∷ entry.Wait (semaphore_value 2 1 ∷ [])
    ∷ entry.Read 1 0 4
    ∷ []

-- Two fills of the same bytes, without a dependency.
abbrev pub hazard_waw : List Entry
hazard_waw =
    buffer_entry 1 16 both sharing.Exclusive (place.Dedicated 1)
    ∷ entry.Submit 0 (batch [] (cmd.Fill 1 0 (bytes 4) 7 ∷ cmd.Fill 1 0 (bytes 4) 8 ∷ []) [] ∷ [])
    ∷ []

-- With one from writes to writes.
abbrev pub hazard_waw_corrected : List Entry
hazard_waw_corrected =
    buffer_entry 1 16 both sharing.Exclusive (place.Dedicated 1)
    ∷ entry.Submit 0 (batch []
    (cmd.Fill 1 0 (bytes 4) 7
    ∷ cmd.Barrier (element.Memory (dependency transfer transfer_write transfer transfer_write) ∷ [])
    ∷ cmd.Fill 1 0 (bytes 4) 8 ∷ [])
    [] ∷ [])
    ∷ []

-- A buffer is destroyed while a fill isn't known complete.
abbrev pub in_use : List Entry
in_use =
    buffer_entry 1 16 both sharing.Exclusive (place.Dedicated 1)
    ∷ entry.Semaphore 2 0
    ∷ entry.Submit 0 (batch [] (cmd.Fill 1 0 (bytes 16) 1 ∷ []) (submit_info 2 1 all_commands ∷ []) ∷ [])
    ∷ entry.Destroy 1
    ∷ []

-- After a wait.
abbrev pub in_use_corrected : List Entry
in_use_corrected =
    buffer_entry 1 16 both sharing.Exclusive (place.Dedicated 1)
    ∷ entry.Semaphore 2 0
    ∷ entry.Submit 0 (batch [] (cmd.Fill 1 0 (bytes 16) 1 ∷ []) (submit_info 2 1 all_commands ∷ []) ∷ [])
    ∷ entry.Wait (semaphore_value 2 1 ∷ [])
    ∷ entry.Destroy 1
    ∷ []

-- The host reads what nobody wrote.
abbrev pub read_undefined : List Entry
read_undefined =
    buffer_entry 1 16 both sharing.Exclusive (place.Dedicated 1)
    ∷ entry.Map 1
    ∷ entry.Read 1 0 1
    ∷ []

-- What it wrote.
abbrev pub read_undefined_corrected : List Entry
read_undefined_corrected =
    buffer_entry 1 16 both sharing.Exclusive (place.Dedicated 1)
    ∷ entry.Map 1
    ∷ entry.Write 1 0 (7 ∷ [])
    ∷ entry.Read 1 0 1
    ∷ []
