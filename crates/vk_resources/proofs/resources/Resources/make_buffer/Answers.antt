use Rattle.std.proofs.Common.{◌+◌, ◌*◌, ◌/◌, refl, true, false, arith, None}
use Rattle.std.proofs.lemmas.Result.{IfOk-weaker}
use Rattle.vk_model.specs.declared.entry.Entry.TheVariants as entry
use Rattle.vk_model.specs.declared.resource.Kind.TheVariants as kind
use Rattle.vk_model.specs.Trace.Objects.{of_buffer}
use Rattle.vk_resources.proofs.Applying.{creates_buffer}
use Rattle.vk_resources.proofs.Ending.{buffer_fits}
use Rattle.vk_resources.proofs.Making.{own_done, may_bind, bind_done, resource_keeps, shared_keeps, same_passing, resource_passing, put_passing}
use Rattle.vk_resources.proofs.Keeping.{same_objects}
use Rattle.vk_resources.proofs.Sharing.{all_elsewhere, shared_done, shared_rooms, shared_allots}
use Rattle.vk_resources.proofs.resources.Resources.make_buffer.Goals as goal

pub bind-requires-clause-ready : goal.bind-requires-clause-ready
bind-requires-clause-ready c = λ consistent. let r = c.requires.ready in may_bind c.args.self.now c.args.self.now (entry.Buffer c.args.id c.args.info.now) (entry.Buffer c.args.id c.args.info.now) refl c.args.id (of_buffer c.args.info.now) c.args.info.now.size None (creates_buffer c.args.id c.args.info.now) (λ past fit. buffer_fits (entry.Buffer c.args.id c.args.info.now) c.args.id c.args.info.now refl past fit) consistent c.in-Memory.memory c.in-Memory.offset c.in-Memory.is r.0 r.1.live r.2

pub make_shared-requires-clause-elsewhere : goal.make_shared-requires-clause-elsewhere
make_shared-requires-clause-elsewhere c = let r = c.requires.ready in all_elsewhere r.0 c.args.self.now c.args.id r.1.live (buffer_fits (entry.Buffer c.args.id c.args.info.now) c.args.id c.args.info.now refl r.0 r.2).unused

pub make_shared-requires-in-PoolUpper-clause-elsewhere : goal.make_shared-requires-in-PoolUpper-clause-elsewhere
make_shared-requires-in-PoolUpper-clause-elsewhere c = let r = c.requires.ready in all_elsewhere r.0 c.args.self.now c.args.id r.1.live (buffer_fits (entry.Buffer c.args.id c.args.info.now) c.args.id c.args.info.now refl r.0 r.2).unused

pub returns-in-Dedicated-clause-done : goal.returns-in-Dedicated-clause-done
returns-in-Dedicated-clause-done c =
    IfOk-weaker c.make_resource.result _ _ (λ a made. λ e past m fit. own_done c.args.self.now c.make_resource.new.self (entry.Buffer c.args.id c.args.info.now) (entry.Buffer c.args.id c.args.info.now) refl c.args.id (of_buffer c.args.info.now) c.args.info.now.size None (creates_buffer c.args.id c.args.info.now) (λ past fit. buffer_fits (entry.Buffer c.args.id c.args.info.now) c.args.id c.args.info.now refl past fit) c.make_resource.ensures.consistent c.in-Dedicated.memory_type c.in-Dedicated.is a made e past m fit) c.make_resource.ensures.made

pub returns-in_ok-bind-in-Memory-clause-done : goal.returns-in_ok-bind-in-Memory-clause-done
returns-in_ok-bind-in-Memory-clause-done c = λ e past m fit. bind_done c.args.self.now c.bind.new.self (entry.Buffer c.args.id c.args.info.now) (entry.Buffer c.args.id c.args.info.now) refl c.args.id (of_buffer c.args.info.now) c.args.info.now.size None (creates_buffer c.args.id c.args.info.now) (λ past fit. buffer_fits (entry.Buffer c.args.id c.args.info.now) c.args.id c.args.info.now refl past fit) c.bind.ensures.consistent c.in-Memory.memory c.in-Memory.offset c.in-Memory.is c.in_ok-bind-in-Memory.ensures.bound e past m fit

pub returns-in-Pool-clause-done : goal.returns-in-Pool-clause-done
returns-in-Pool-clause-done c =
    IfOk-weaker c.make_shared.result _ _ (λ a made. λ e past m fit. shared_done c.args.self.now c.make_shared.new.self (entry.Buffer c.args.id c.args.info.now) c.args.id (of_buffer c.args.info.now) c.args.info.now.size None (creates_buffer c.args.id c.args.info.now) c.in-Pool.pool false c.in-Pool.is (record { size = (c.args.info.now.size + 15) / 16 * 16; align = 16; kind = kind.Linear }) (refl, refl, refl) c.make_shared.ensures.consistent a made (omega arith) e past m (buffer_fits (entry.Buffer c.args.id c.args.info.now) c.args.id c.args.info.now refl past fit).unused) c.make_shared.ensures.made

pub returns-in-Pool-clause-rooms : goal.returns-in-Pool-clause-rooms
returns-in-Pool-clause-rooms c =
    IfOk-weaker c.make_shared.result _ _ (λ a made. λ past fit. shared_rooms c.args.self.now c.make_shared.new.self (entry.Buffer c.args.id c.args.info.now) c.args.id (of_buffer c.args.info.now) c.args.info.now.size None (creates_buffer c.args.id c.args.info.now) c.in-Pool.pool false c.in-Pool.is (record { size = (c.args.info.now.size + 15) / 16 * 16; align = 16; kind = kind.Linear }) (refl, refl, refl) a made) c.make_shared.ensures.made

pub returns-in-Pool-clause-allots : goal.returns-in-Pool-clause-allots
returns-in-Pool-clause-allots c =
    IfOk-weaker c.make_shared.result _ _ (λ a made. λ past m fit. shared_allots c.args.self.now c.make_shared.new.self (entry.Buffer c.args.id c.args.info.now) c.args.id (of_buffer c.args.info.now) c.args.info.now.size None (creates_buffer c.args.id c.args.info.now) c.in-Pool.pool false c.in-Pool.is (record { size = (c.args.info.now.size + 15) / 16 * 16; align = 16; kind = kind.Linear }) (refl, refl, refl) a made) c.make_shared.ensures.made

pub returns-in-PoolUpper-clause-done : goal.returns-in-PoolUpper-clause-done
returns-in-PoolUpper-clause-done c =
    IfOk-weaker c.make_shared-in-PoolUpper.result _ _ (λ a made. λ e past m fit. shared_done c.args.self.now c.make_shared-in-PoolUpper.new.self (entry.Buffer c.args.id c.args.info.now) c.args.id (of_buffer c.args.info.now) c.args.info.now.size None (creates_buffer c.args.id c.args.info.now) c.in-PoolUpper.pool true c.in-PoolUpper.is (record { size = (c.args.info.now.size + 15) / 16 * 16; align = 16; kind = kind.Linear }) (refl, refl, refl) c.make_shared-in-PoolUpper.ensures.consistent a made (omega arith) e past m (buffer_fits (entry.Buffer c.args.id c.args.info.now) c.args.id c.args.info.now refl past fit).unused) c.make_shared-in-PoolUpper.ensures.made

pub returns-in-PoolUpper-clause-rooms : goal.returns-in-PoolUpper-clause-rooms
returns-in-PoolUpper-clause-rooms c =
    IfOk-weaker c.make_shared-in-PoolUpper.result _ _ (λ a made. λ past fit. shared_rooms c.args.self.now c.make_shared-in-PoolUpper.new.self (entry.Buffer c.args.id c.args.info.now) c.args.id (of_buffer c.args.info.now) c.args.info.now.size None (creates_buffer c.args.id c.args.info.now) c.in-PoolUpper.pool true c.in-PoolUpper.is (record { size = (c.args.info.now.size + 15) / 16 * 16; align = 16; kind = kind.Linear }) (refl, refl, refl) a made) c.make_shared-in-PoolUpper.ensures.made

pub returns-in-PoolUpper-clause-allots : goal.returns-in-PoolUpper-clause-allots
returns-in-PoolUpper-clause-allots c =
    IfOk-weaker c.make_shared-in-PoolUpper.result _ _ (λ a made. λ past m fit. shared_allots c.args.self.now c.make_shared-in-PoolUpper.new.self (entry.Buffer c.args.id c.args.info.now) c.args.id (of_buffer c.args.info.now) c.args.info.now.size None (creates_buffer c.args.id c.args.info.now) c.in-PoolUpper.pool true c.in-PoolUpper.is (record { size = (c.args.info.now.size + 15) / 16 * 16; align = 16; kind = kind.Linear }) (refl, refl, refl) a made) c.make_shared-in-PoolUpper.ensures.made

pub returns-in-Dedicated-clause-keeps : goal.returns-in-Dedicated-clause-keeps
returns-in-Dedicated-clause-keeps c = IfOk-weaker c.make_resource.result _ _ (λ a made. resource_keeps a c.args.self.now c.make_resource.new.self c.args.id c.in-Dedicated.memory_type _ _ _ made) c.make_resource.ensures.made

pub returns-in_ok-bind-in-Memory-clause-keeps : goal.returns-in_ok-bind-in-Memory-clause-keeps
returns-in_ok-bind-in-Memory-clause-keeps c = same_objects c.args.self.now c.bind.new.self c.in_ok-bind-in-Memory.ensures.bound.0

pub returns-in-Pool-clause-keeps : goal.returns-in-Pool-clause-keeps
returns-in-Pool-clause-keeps c = IfOk-weaker c.make_shared.result _ _ (λ a made. shared_keeps a c.args.self.now c.make_shared.new.self c.args.id c.in-Pool.pool _ _ _ _ made) c.make_shared.ensures.made

pub returns-in-PoolUpper-clause-keeps : goal.returns-in-PoolUpper-clause-keeps
returns-in-PoolUpper-clause-keeps c = IfOk-weaker c.make_shared-in-PoolUpper.result _ _ (λ a made. shared_keeps a c.args.self.now c.make_shared-in-PoolUpper.new.self c.args.id c.in-PoolUpper.pool _ _ _ _ made) c.make_shared-in-PoolUpper.ensures.made

pub returns-in-Dedicated-clause-passing : goal.returns-in-Dedicated-clause-passing
returns-in-Dedicated-clause-passing c = IfOk-weaker c.make_resource.result _ _ (λ a made. resource_passing a c.args.self.now c.make_resource.new.self c.args.id c.in-Dedicated.memory_type _ _ _ made) c.make_resource.ensures.made

pub returns-in_ok-bind-in-Memory-clause-passing : goal.returns-in_ok-bind-in-Memory-clause-passing
returns-in_ok-bind-in-Memory-clause-passing c = same_passing c.args.self.now c.bind.new.self c.in_ok-bind-in-Memory.ensures.bound.0 c.in_ok-bind-in-Memory.ensures.bound.1

pub returns-in-Pool-clause-passing : goal.returns-in-Pool-clause-passing
returns-in-Pool-clause-passing c = IfOk-weaker c.make_shared.result _ _ (λ a made. put_passing a c.args.self.now c.make_shared.new.self c.args.id c.in-Pool.pool _ _ _ _ made) c.make_shared.ensures.made

pub returns-in-PoolUpper-clause-passing : goal.returns-in-PoolUpper-clause-passing
returns-in-PoolUpper-clause-passing c = IfOk-weaker c.make_shared-in-PoolUpper.result _ _ (λ a made. put_passing a c.args.self.now c.make_shared-in-PoolUpper.new.self c.args.id c.in-PoolUpper.pool _ _ _ _ made) c.make_shared-in-PoolUpper.ensures.made
