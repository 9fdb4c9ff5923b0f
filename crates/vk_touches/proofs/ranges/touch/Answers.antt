use Rattle.std.proofs.Common.{◌≡◌, ◌∙◌, length, sym, ap, refl, arith, rules, ℕ, slice_get, subst, Some}
use Rattle.std.specs.Option.{option_map}
use Rattle.vk_model.specs.Basics.{within}
use Rattle.vk_touches.specs.declared.reads.LastReads.{LastReads}
use Rattle.vk_touches.specs.declared.touches.Touch.{Touch}
use Rattle.vk_touches.specs.declared.touches.Touch.TheVariants as touch
use Rattle.vk_touches.specs.declared.writes.LastWrite.{LastWrite}
use Rattle.vk_touches.specs.Remembered.{with_read, with_touch}
use Rattle.vk_touches.specs.TouchMaps.{without_reads, others_of, with_write, all_remembered}
use Rattle.vk_touches.specs.TouchedRanges.{touching}
use Rattle.vk_touches.proofs.PartChanges.{on_three, changed_within, assigned_within}
use Rattle.vk_touches.proofs.TouchMaps.{writes_len, others_len, reads_len, writes_changed_len, others_changed_len, reads_changed_len, writes_updated, others_updated, reads_updated}
use Rattle.vk_touches.proofs.ranges.touch.Goals as goal

pub assign-requires-clause-within : goal.assign-requires-clause-within
assign-requires-clause-within c =
    let high = c.of-part.ensures.high in
    let all = c.len.ensures in
    omega (arith, high, all, writes_len c.touches.invariant c.touches.view_is)

pub returns-in_ok-kept-in-Write-clause-len : goal.returns-in_ok-kept-in-Write-clause-len
returns-in_ok-kept-in-Write-clause-len c = writes_changed_len c.touches.invariant c.touches.view_is c.assign.new.self c.assign.ensures.len

pub returns-in_ok-kept-in-Write-clause-values : goal.returns-in_ok-kept-in-Write-clause-values
returns-in_ok-kept-in-Write-clause-values c = on_three c.assign.result c.assign.ensures.inside c.assign.ensures.before c.assign.ensures.after (λ inside before after.
    let all : length c.touches.inside.writes ≡ c.len.result = writes_len c.touches.invariant c.touches.view_is ∙ sym c.len.ensures in
    let high = c.of-part.ensures.high in
    subst (λ (v : Touch). (k : ℕ) → slice_get (all_remembered c.assign.new.self c.touches.inside.others c.touches.inside.reads) k ≡ option_map (touching (within c.args.offset c.args.size) v c.args.spot k) (slice_get c.args.touches.now k)) (sym c.in-Write.is)
    (writes_updated c.touches.invariant c.touches.view_is (λ t. with_touch t touch.Write c.args.spot) (within c.args.offset c.args.size) (λ w. c.in_ok-kept-in-Write.kept) (λ w t. ap (λ (v : LastWrite). with_write v t) c.in_ok-kept-in-Write.ensures) c.assign.new.self
    (assigned_within c.in_ok-kept-in-Write.kept c.touches.inside.writes c.assign.new.self c.args.offset c.args.size c.of-part.result.low c.of-part.result.high (rw all high) c.of-part.ensures.low inside before after)))

pub update-requires-clause-within : goal.update-requires-clause-within
update-requires-clause-within c =
    let high = c.of-part.ensures.high in
    let all = c.len.ensures in
    omega (arith, high, all, others_len c.touches.invariant c.touches.view_is)

pub returns-in-HostWrite-clause-len : goal.returns-in-HostWrite-clause-len
returns-in-HostWrite-clause-len c = others_changed_len c.touches.invariant c.touches.view_is c.update.new.self c.update.ensures.len

pub returns-in-HostWrite-clause-values : goal.returns-in-HostWrite-clause-values
returns-in-HostWrite-clause-values c = on_three c.update.result c.update.ensures.inside c.update.ensures.before c.update.ensures.after (λ inside before after.
    let all : length c.touches.inside.others ≡ c.len.result = others_len c.touches.invariant c.touches.view_is ∙ sym c.len.ensures in
    let high = c.of-part.ensures.high in
    subst (λ (v : Touch). (k : ℕ) → slice_get (all_remembered c.touches.inside.writes c.update.new.self c.touches.inside.reads) k ≡ option_map (touching (within c.args.offset c.args.size) v c.args.spot k) (slice_get c.args.touches.now k)) (sym c.in-HostWrite.is)
    (others_updated c.touches.invariant c.touches.view_is (λ t. with_touch t touch.HostWrite c.args.spot) (within c.args.offset c.args.size) (λ w t. refl) (λ t. others_of (with_touch (without_reads t) touch.HostWrite c.args.spot)) (λ t h. refl) c.update.new.self
    (changed_within (λ t. others_of (with_touch (without_reads t) touch.HostWrite c.args.spot)) _ (λ a b h. search rules) c.touches.inside.others c.update.new.self c.args.offset c.args.size c.of-part.result.low c.of-part.result.high (rw all high) c.of-part.ensures.low inside before after)))

pub update-requires-in-HostRead-clause-within : goal.update-requires-in-HostRead-clause-within
update-requires-in-HostRead-clause-within c =
    let high = c.of-part.ensures.high in
    let all = c.len.ensures in
    omega (arith, high, all, reads_len c.touches.invariant c.touches.view_is)

pub returns-in-HostRead-clause-len : goal.returns-in-HostRead-clause-len
returns-in-HostRead-clause-len c = reads_changed_len c.touches.invariant c.touches.view_is c.update-in-HostRead.new.self c.update-in-HostRead.ensures.len

pub returns-in-HostRead-clause-values : goal.returns-in-HostRead-clause-values
returns-in-HostRead-clause-values c = on_three c.update-in-HostRead.result c.update-in-HostRead.ensures.inside c.update-in-HostRead.ensures.before c.update-in-HostRead.ensures.after (λ inside before after.
    let all : length c.touches.inside.reads ≡ c.len.result = reads_len c.touches.invariant c.touches.view_is ∙ sym c.len.ensures in
    let high = c.of-part.ensures.high in
    subst (λ (v : Touch). (k : ℕ) → slice_get (all_remembered c.touches.inside.writes c.touches.inside.others c.update-in-HostRead.new.self) k ≡ option_map (touching (within c.args.offset c.args.size) v c.args.spot k) (slice_get c.args.touches.now k)) (sym c.in-HostRead.is)
    (reads_updated c.touches.invariant c.touches.view_is (λ t. with_touch t touch.HostRead c.args.spot) (within c.args.offset c.args.size) (λ w t. refl) (λ (r : LastReads). record { by_host = Some c.args.spot.place; by_queues = r.by_queues }) (λ t h. refl) c.update-in-HostRead.new.self
    (changed_within (λ (r : LastReads). record { by_host = Some c.args.spot.place; by_queues = r.by_queues }) _ (λ a b h. search rules) c.touches.inside.reads c.update-in-HostRead.new.self c.args.offset c.args.size c.of-part.result.low c.of-part.result.high (rw all high) c.of-part.ensures.low inside before after)))

pub update-requires-in-Read-clause-within : goal.update-requires-in-Read-clause-within
update-requires-in-Read-clause-within c =
    let high = c.of-part.ensures.high in
    let all = c.len.ensures in
    omega (arith, high, all, reads_len c.touches.invariant c.touches.view_is)

pub returns-in-Read-clause-len : goal.returns-in-Read-clause-len
returns-in-Read-clause-len c = reads_changed_len c.touches.invariant c.touches.view_is c.update-in-Read.new.self c.update-in-Read.ensures.len

pub returns-in-Read-clause-values : goal.returns-in-Read-clause-values
returns-in-Read-clause-values c = on_three c.update-in-Read.result c.update-in-Read.ensures.inside c.update-in-Read.ensures.before c.update-in-Read.ensures.after (λ inside before after.
    let all : length c.touches.inside.reads ≡ c.len.result = reads_len c.touches.invariant c.touches.view_is ∙ sym c.len.ensures in
    let high = c.of-part.ensures.high in
    subst (λ (v : Touch). (k : ℕ) → slice_get (all_remembered c.touches.inside.writes c.touches.inside.others c.update-in-Read.new.self) k ≡ option_map (touching (within c.args.offset c.args.size) v c.args.spot k) (slice_get c.args.touches.now k)) (sym c.in-Read.is)
    (reads_updated c.touches.invariant c.touches.view_is (λ t. with_touch t (touch.Read c.in-Read.queue) c.args.spot) (within c.args.offset c.args.size) (λ w t. refl) (λ (r : LastReads). record { by_host = r.by_host; by_queues = with_read r.by_queues c.in-Read.queue c.args.spot.place }) (λ t h. refl) c.update-in-Read.new.self
    (changed_within (λ (r : LastReads). record { by_host = r.by_host; by_queues = with_read r.by_queues c.in-Read.queue c.args.spot.place }) _ (λ a b h. search rules) c.touches.inside.reads c.update-in-Read.new.self c.args.offset c.args.size c.of-part.result.low c.of-part.result.high (rw all high) c.of-part.ensures.low inside before after)))
