use Rattle.std.proofs.Common.{◌≡◌, ℕ, ◌||◌, take}
use Rattle.vk_model.specs.Basics.{among}
use Rattle.vk_queues.specs.Inner.Tallied.{tally_at}
use Rattle.vk_queues.proofs.tallies.Tallies.end_all.Given as goal

abbrev pub invariant-loop-id : goal.invariant-loop-id
invariant-loop-id l = (other : ℕ) → let t = tally_at l.fn.self other in tally_at l.self other ≡ record t { is_ended = among other (take l.id-index l.ids) || t.is_ended }
