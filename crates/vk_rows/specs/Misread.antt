-- Readings of the definitions that are wrong, each with a trace that is judged otherwise by it and the corrected trace: what no other rows here tell apart.
use Rattle.std.specs.Prelude.{[], ◌∷◌}
use Rattle.vk_model.specs.declared.rule.Rule.TheVariants as rule
use Rattle.vk_model.specs.declared.rule.At.TheVariants as at
use Rattle.vk_rows.specs.Claims.{Accepts, Refuses}
use Rattle.vk_rows.specs.TracesMisread as trace
use Rattle.vk_rows.specs.HazardsMisread as hazard

-- The first fault of each trace, and what its corrected trace reads.
pub record Misread : Type 0 where
  -- What the end of a pass lists is of the pass's pool, also what stays where it is.
  pub kept_of_another_pool : Refuses trace.kept_of_another_pool (at.Entry 5) rule.LiveId
  pub kept_of_another_pool_corrected : Accepts trace.kept_of_another_pool_corrected []
  -- A fill to the end of a buffer writes whole words: with one to three bytes left it writes none.
  pub fill_of_less_than_a_word : Refuses trace.fill_of_less_than_a_word (at.Command 1 0 0) rule.Size
  pub fill_of_less_than_a_word_corrected : Accepts trace.fill_of_less_than_a_word_corrected []
  -- An image may have levels down to one texel: 13 where its longest side has 4,096.
  pub levels_of_the_longest_side : Refuses trace.levels_of_the_longest_side (at.Entry 0) rule.Size
  pub levels_of_the_longest_side_corrected : Accepts trace.levels_of_the_longest_side_corrected []
  -- On a queue of transfer alone a region begins at a multiple of 4 in its buffer, whatever its texels.
  pub offset_on_a_transfer_queue : Refuses trace.offset_on_a_transfer_queue (at.Command 2 0 1) rule.Align
  pub offset_on_a_transfer_queue_corrected : Accepts trace.offset_on_a_transfer_queue_corrected []
  -- A batch waits in stages of its queue, and HOST is none.
  pub host_in_a_wait : Refuses trace.host_in_a_wait (at.Wait 1 0 0) rule.Stage
  pub host_in_a_wait_corrected : Accepts trace.host_in_a_wait_corrected []
  -- HOST is no stage of a batch's signal either.
  pub host_in_a_signal : Refuses trace.host_in_a_signal (at.Signal 1 0 0) rule.Stage
  pub host_in_a_signal_corrected : Accepts trace.host_in_a_signal_corrected []
  -- The two halves of an ownership transfer have the same layouts, the new one too.
  pub acquired_in_another_layout : Refuses trace.acquired_in_another_layout (at.Command 3 0 0) rule.OwnerPair
  pub acquired_in_another_layout_corrected : Accepts trace.acquired_in_another_layout_corrected []
  -- No queue family owns a resource that is shared as concurrent.
  pub release_of_a_concurrent_resource : Refuses trace.release_of_a_concurrent_resource (at.Command 1 0 0) rule.OwnerPair
  pub release_of_a_concurrent_resource_corrected : Accepts trace.release_of_a_concurrent_resource_corrected []
  -- An event is awaited on the queue that has set it.
  pub set_on_another_queue : Refuses trace.set_on_another_queue (at.Command 2 0 0) rule.EventState
  pub set_on_another_queue_corrected : Accepts trace.set_on_another_queue_corrected []
  -- A mapping is of memory: that of a dedicated allocation ends with its buffer, and a memory object stays mapped when a buffer in it is destroyed.
  pub destroyed_while_its_memory_is_mapped : Refuses trace.destroyed_while_its_memory_is_mapped (at.Entry 2) rule.MapState
  pub destroyed_while_its_memory_is_mapped_corrected : Accepts trace.destroyed_while_its_memory_is_mapped_corrected []
  -- One pass is open at a time, whatever its pool.
  pub passes_of_two_pools : Refuses trace.passes_of_two_pools (at.Entry 5) rule.PassState
  pub passes_of_two_pools_corrected : Accepts trace.passes_of_two_pools_corrected []
  -- A defragmentation ends after its pass.
  pub ended_inside_its_pass : Refuses trace.ended_inside_its_pass (at.Entry 3) rule.PassState
  pub ended_inside_its_pass_corrected : Accepts trace.ended_inside_its_pass_corrected []
  -- A pool is kept while it has a defragmentation, also outside a pass.
  pub dropped_while_defragmented : Refuses trace.dropped_while_defragmented (at.Entry 2) rule.PassState
  pub dropped_while_defragmented_corrected : Accepts trace.dropped_while_defragmented_corrected []
  -- An element is judged on the queue that it is submitted to. From family 0 to family 1 it is an acquire on queue 2, and there its transition is made, which writes the image.
  pub acquired_inside_a_pass : Refuses trace.acquired_inside_a_pass (at.Command 7 0 0) rule.PassWrite
  pub acquired_inside_a_pass_corrected : Accepts trace.acquired_inside_a_pass_corrected []
  -- A wait for a value that the semaphore begins with waits for no signal, and orders nothing.
  pub wait_that_the_initial_value_meets : Refuses hazard.wait_that_the_initial_value_meets (at.Entry 5) rule.HazardRaw
  pub wait_that_the_initial_value_meets_corrected : Accepts hazard.wait_that_the_initial_value_meets_corrected ((5, 7 ∷ 0 ∷ 0 ∷ 0 ∷ []) ∷ [])
  -- A dependency to the host comes before each later signal of its queue, whatever the stages of that.
  pub dependency_to_the_host_after_the_signal : Refuses hazard.dependency_to_the_host_after_the_signal (at.Entry 5) rule.HazardRaw
  pub dependency_to_the_host_after_the_signal_corrected : Accepts hazard.dependency_to_the_host_after_the_signal_corrected ((5, 7 ∷ 0 ∷ 0 ∷ 0 ∷ []) ∷ [])
  -- The set of an event makes writes available; what makes them visible is its await.
  pub set_and_not_awaited : Refuses hazard.set_and_not_awaited (at.Entry 6) rule.HazardRaw
  pub set_and_not_awaited_corrected : Accepts hazard.set_and_not_awaited_corrected ((6, 7 ∷ 0 ∷ 0 ∷ 0 ∷ []) ∷ [])
  -- Where the host reaches memory through a cache it invalidates before it reads what a command wrote, and needn't before it writes over that.
  pub read_without_an_invalidation : Refuses hazard.read_without_an_invalidation (at.Entry 5) rule.HazardRaw
  pub read_without_an_invalidation_corrected : Accepts hazard.read_without_an_invalidation_corrected []
  -- MEMORY_WRITE stands for the writes of commands as well as TRANSFER_WRITE does, and MEMORY_READ for none.
  pub memory_read_between_fills : Refuses hazard.memory_read_between_fills (at.Command 1 0 2) rule.HazardWaw
  pub memory_read_between_fills_corrected : Accepts hazard.memory_read_between_fills_corrected []
  -- MEMORY_WRITE stands for the host's writes as well as HOST_WRITE does.
  pub memory_read_before_a_write_of_the_host : Refuses hazard.memory_read_before_a_write_of_the_host (at.Entry 5) rule.HazardWaw
  pub memory_read_before_a_write_of_the_host_corrected : Accepts hazard.memory_read_before_a_write_of_the_host_corrected []
  -- The transition of an ownership transfer is made at its acquire; the release is no access.
  pub transition_of_a_release : Refuses hazard.transition_of_a_release (at.Command 1 0 2) rule.HazardRaw
  pub transition_of_a_release_corrected : Accepts hazard.transition_of_a_release_corrected []
  -- An invalidation or a flush reaches the atoms of 64 bytes in which its range has a byte, and no further one.
  pub range_that_ends_with_an_atom : Refuses hazard.range_that_ends_with_an_atom (at.Entry 4) rule.ReadUndefined
  pub range_that_ends_with_an_atom_corrected : Accepts hazard.range_that_ends_with_an_atom_corrected ((4, 7 ∷ []) ∷ [])
