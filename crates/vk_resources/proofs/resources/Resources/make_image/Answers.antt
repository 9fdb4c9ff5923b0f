use Rattle.std.proofs.Common.{◌≡◌, ℕ, true, false, ap, sym, ◌∙◌, refl, subst, arith, Some}
use Rattle.std.proofs.lemmas.Result.{IfOk-weaker}
use Rattle.vk_model.specs.declared.entry.Entry.TheVariants as entry
use Rattle.vk_model.specs.declared.resource.ImageInfo.{ImageInfo}
use Rattle.vk_model.specs.declared.resource.Need.{Need}
use Rattle.vk_model.specs.Rules.Sizes.{bad_image}
use Rattle.vk_model.specs.Trace.Image.{image_size}
use Rattle.vk_model.specs.Trace.Objects.{of_image}
use Rattle.vma_pools.specs.declared.allocations.Asked.{Asked}
use Rattle.vk_resources.specs.Inner.Steps.{BindReady}
use Rattle.vk_resources.proofs.Applying.{creates_image}
use Rattle.vk_model.specs.Memory.Suballocation.{IsRequest}
use Rattle.vk_resources.proofs.Requests.{image_request}
use Rattle.vk_resources.proofs.Ending.{image_fits, image_good}
use Rattle.vk_resources.proofs.Making.{image_some, image_shaped, some_of, made_as, binds_as, shared_as, own_done, may_bind, bind_done, resource_keeps, shared_keeps, same_passing, resource_passing, put_passing}
use Rattle.vk_resources.proofs.Keeping.{same_objects}
use Rattle.vk_resources.proofs.Sharing.{all_elsewhere, shared_done, shared_rooms, shared_allots}
use Rattle.vk_resources.proofs.resources.Resources.make_image.Goals as goal

pub make_resource-requires-clause-some : goal.make_resource-requires-clause-some
make_resource-requires-clause-some c =
    let good : bad_image c.in-Ok.shape ≡ false = ap bad_image c.in-Ok.ensures.1 ∙ image_good (entry.Image c.args.id c.args.info.now) c.args.id c.args.info.now refl c.requires.ready.0 c.requires.ready.2 in
    let own : c.requirements-need.result.size ≡ image_size c.in-Ok.shape c.in-Ok.shape.tiling = ap (λ (n : Need). n.size) c.requirements-need.ensures.need in
    omega (arith, own, image_some c.texels_inside.ensures c.in-Ok.shape good)

pub make_resource-requires-clause-request : goal.make_resource-requires-clause-request
make_resource-requires-clause-request c =
    let good : bad_image c.in-Ok.shape ≡ false = ap bad_image c.in-Ok.ensures.1 ∙ image_good (entry.Image c.args.id c.args.info.now) c.args.id c.args.info.now refl c.requires.ready.0 c.requires.ready.2 in
    subst (λ (n : Need). IsRequest n.size n.align) (sym c.requirements-need.ensures.need) (image_request c.in-Ok.shape good)

pub make_resource-requires-clause-shaped : goal.make_resource-requires-clause-shaped
make_resource-requires-clause-shaped c = λ object.
    let good : bad_image c.in-Ok.shape ≡ false = ap bad_image c.in-Ok.ensures.1 ∙ image_good (entry.Image c.args.id c.args.info.now) c.args.id c.args.info.now refl c.requires.ready.0 c.requires.ready.2 in
    let own : c.requirements-need.result.size ≡ image_size c.in-Ok.shape c.in-Ok.shape.tiling = ap (λ (n : Need). n.size) c.requirements-need.ensures.need in
    image_shaped c.texels_inside.ensures c.in-Ok.shape good (record { size = c.requirements-need.result.size; object = object; offset = 0 }) own

pub bind-requires-clause-shaped : goal.bind-requires-clause-shaped
bind-requires-clause-shaped c = λ object.
    let good : bad_image c.in-Ok.shape ≡ false = ap bad_image c.in-Ok.ensures.1 ∙ image_good (entry.Image c.args.id c.args.info.now) c.args.id c.args.info.now refl c.requires.ready.0 c.requires.ready.2 in
    let own : c.requirements-need.result.size ≡ image_size c.in-Ok.shape c.in-Ok.shape.tiling = ap (λ (n : Need). n.size) c.requirements-need.ensures.need in
    image_shaped c.texels_inside.ensures c.in-Ok.shape good (record { size = c.requirements-need.result.size; object = object; offset = c.in-Memory.offset }) own

pub make_shared-requires-clause-shaped : goal.make_shared-requires-clause-shaped
make_shared-requires-clause-shaped c = λ object offset.
    let good : bad_image c.in-Ok.shape ≡ false = ap bad_image c.in-Ok.ensures.1 ∙ image_good (entry.Image c.args.id c.args.info.now) c.args.id c.args.info.now refl c.requires.ready.0 c.requires.ready.2 in
    let own : c.requirements-need.result.size ≡ image_size c.in-Ok.shape c.in-Ok.shape.tiling = ap (λ (n : Need). n.size) c.requirements-need.ensures.need in
    image_shaped c.texels_inside.ensures c.in-Ok.shape good (record { size = c.requirements-need.result.size; object = object; offset = offset }) own

pub make_shared-requires-in-PoolUpper-clause-shaped : goal.make_shared-requires-in-PoolUpper-clause-shaped
make_shared-requires-in-PoolUpper-clause-shaped c = λ object offset.
    let good : bad_image c.in-Ok.shape ≡ false = ap bad_image c.in-Ok.ensures.1 ∙ image_good (entry.Image c.args.id c.args.info.now) c.args.id c.args.info.now refl c.requires.ready.0 c.requires.ready.2 in
    let own : c.requirements-need.result.size ≡ image_size c.in-Ok.shape c.in-Ok.shape.tiling = ap (λ (n : Need). n.size) c.requirements-need.ensures.need in
    image_shaped c.texels_inside.ensures c.in-Ok.shape good (record { size = c.requirements-need.result.size; object = object; offset = offset }) own

pub bind-requires-clause-ready : goal.bind-requires-clause-ready
bind-requires-clause-ready c = λ consistent.
    let same = c.in-Ok.ensures.1 in
    let size : c.requirements-need.result.size ≡ image_size c.args.info.now c.args.info.now.tiling = ap (λ (n : Need). n.size) c.requirements-need.ensures.need ∙ ap (λ (m : ImageInfo). image_size m m.tiling) same in
    let r = c.requires.ready in
    subst (λ (n : ℕ). BindReady c.args.self.now c.in-Memory.memory c.in-Memory.offset n) (sym size) (may_bind c.args.self.now c.args.self.now (entry.Image c.args.id c.args.info.now) (entry.Image c.args.id c.args.info.now) refl c.args.id (of_image c.args.info.now) (image_size c.args.info.now c.args.info.now.tiling) (Some c.args.info.now) (creates_image c.args.id c.args.info.now) (λ past fit. image_fits (entry.Image c.args.id c.args.info.now) c.args.id c.args.info.now (some_of c.texels_inside.ensures (entry.Image c.args.id c.args.info.now) c.args.id c.args.info.now refl past fit) refl past fit) consistent c.in-Memory.memory c.in-Memory.offset c.in-Memory.is r.0 r.1.live r.2)

pub make_shared-requires-clause-elsewhere : goal.make_shared-requires-clause-elsewhere
make_shared-requires-clause-elsewhere c =
    let r = c.requires.ready in
    all_elsewhere r.0 c.args.self.now c.args.id r.1.live (image_fits (entry.Image c.args.id c.args.info.now) c.args.id c.args.info.now (some_of c.texels_inside.ensures (entry.Image c.args.id c.args.info.now) c.args.id c.args.info.now refl r.0 r.2) refl r.0 r.2).unused

pub make_shared-requires-in-PoolUpper-clause-elsewhere : goal.make_shared-requires-in-PoolUpper-clause-elsewhere
make_shared-requires-in-PoolUpper-clause-elsewhere c =
    let r = c.requires.ready in
    all_elsewhere r.0 c.args.self.now c.args.id r.1.live (image_fits (entry.Image c.args.id c.args.info.now) c.args.id c.args.info.now (some_of c.texels_inside.ensures (entry.Image c.args.id c.args.info.now) c.args.id c.args.info.now refl r.0 r.2) refl r.0 r.2).unused

pub returns-in-Dedicated-clause-done : goal.returns-in-Dedicated-clause-done
returns-in-Dedicated-clause-done c =
    let same = c.in-Ok.ensures.1 in
    let size : c.requirements-need.result.size ≡ image_size c.args.info.now c.args.info.now.tiling = ap (λ (n : Need). n.size) c.requirements-need.ensures.need ∙ ap (λ (m : ImageInfo). image_size m m.tiling) same in
    IfOk-weaker c.make_resource.result _ _ (λ a made. λ e past m fit. own_done c.args.self.now c.make_resource.new.self (entry.Image c.args.id c.args.info.now) (entry.Image c.args.id c.args.info.now) refl c.args.id (of_image c.args.info.now) (image_size c.args.info.now c.args.info.now.tiling) (Some c.args.info.now) (creates_image c.args.id c.args.info.now) (λ past fit. image_fits (entry.Image c.args.id c.args.info.now) c.args.id c.args.info.now (some_of c.texels_inside.ensures (entry.Image c.args.id c.args.info.now) c.args.id c.args.info.now refl past fit) refl past fit) c.make_resource.ensures.consistent c.in-Dedicated.memory_type c.in-Dedicated.is a (made_as a c.args.self.now c.make_resource.new.self c.args.id c.in-Dedicated.memory_type c.requirements-need.result.size c.in-Ok.shape c.args.info.now size same made) e past m fit) c.make_resource.ensures.made

pub returns-in_ok-bind-in-Memory-clause-done : goal.returns-in_ok-bind-in-Memory-clause-done
returns-in_ok-bind-in-Memory-clause-done c = λ e past m fit.
    let same = c.in-Ok.ensures.1 in
    let size : c.requirements-need.result.size ≡ image_size c.args.info.now c.args.info.now.tiling = ap (λ (n : Need). n.size) c.requirements-need.ensures.need ∙ ap (λ (m : ImageInfo). image_size m m.tiling) same in
    bind_done c.args.self.now c.bind.new.self (entry.Image c.args.id c.args.info.now) (entry.Image c.args.id c.args.info.now) refl c.args.id (of_image c.args.info.now) (image_size c.args.info.now c.args.info.now.tiling) (Some c.args.info.now) (creates_image c.args.id c.args.info.now) (λ past fit. image_fits (entry.Image c.args.id c.args.info.now) c.args.id c.args.info.now (some_of c.texels_inside.ensures (entry.Image c.args.id c.args.info.now) c.args.id c.args.info.now refl past fit) refl past fit) c.bind.ensures.consistent c.in-Memory.memory c.in-Memory.offset c.in-Memory.is (binds_as c.args.self.now c.bind.new.self c.args.id c.in-Memory.memory c.in-Memory.offset c.requirements-need.result.size c.in-Ok.shape c.args.info.now size same c.in_ok-bind-in-Memory.ensures.bound) e past m fit

pub returns-in-Pool-clause-done : goal.returns-in-Pool-clause-done
returns-in-Pool-clause-done c =
    let same = c.in-Ok.ensures.1 in
    let size : c.requirements-need.result.size ≡ image_size c.args.info.now c.args.info.now.tiling = ap (λ (n : Need). n.size) c.requirements-need.ensures.need ∙ ap (λ (m : ImageInfo). image_size m m.tiling) same in
    let align : c.requirements-need.result.align ≡ (of_image c.args.info.now).align = ap (λ (n : Need). n.align) c.requirements-need.ensures.need ∙ ap (λ (m : ImageInfo). (of_image m).align) same in
    let asked : Asked = record { size = c.requirements-need.result.size; align = c.requirements-need.result.align; kind = c.args.info.now.tiling } in
    IfOk-weaker c.make_shared.result _ _ (λ a made. λ e past m fit. shared_done c.args.self.now c.make_shared.new.self (entry.Image c.args.id c.args.info.now) c.args.id (of_image c.args.info.now) (image_size c.args.info.now c.args.info.now.tiling) (Some c.args.info.now) (creates_image c.args.id c.args.info.now) c.in-Pool.pool false c.in-Pool.is asked (sym size, sym align, refl) c.make_shared.ensures.consistent a (shared_as a c.args.self.now c.make_shared.new.self c.args.id c.in-Pool.pool c.requirements-need.result.size (image_size c.args.info.now c.args.info.now.tiling) asked false c.in-Ok.shape c.args.info.now size same made) (omega (arith, size)) e past m (image_fits (entry.Image c.args.id c.args.info.now) c.args.id c.args.info.now (some_of c.texels_inside.ensures (entry.Image c.args.id c.args.info.now) c.args.id c.args.info.now refl past fit) refl past fit).unused) c.make_shared.ensures.made

pub returns-in-Pool-clause-rooms : goal.returns-in-Pool-clause-rooms
returns-in-Pool-clause-rooms c =
    let same = c.in-Ok.ensures.1 in
    let size : c.requirements-need.result.size ≡ image_size c.args.info.now c.args.info.now.tiling = ap (λ (n : Need). n.size) c.requirements-need.ensures.need ∙ ap (λ (m : ImageInfo). image_size m m.tiling) same in
    let align : c.requirements-need.result.align ≡ (of_image c.args.info.now).align = ap (λ (n : Need). n.align) c.requirements-need.ensures.need ∙ ap (λ (m : ImageInfo). (of_image m).align) same in
    let asked : Asked = record { size = c.requirements-need.result.size; align = c.requirements-need.result.align; kind = c.args.info.now.tiling } in
    IfOk-weaker c.make_shared.result _ _ (λ a made. λ past fit. shared_rooms c.args.self.now c.make_shared.new.self (entry.Image c.args.id c.args.info.now) c.args.id (of_image c.args.info.now) (image_size c.args.info.now c.args.info.now.tiling) (Some c.args.info.now) (creates_image c.args.id c.args.info.now) c.in-Pool.pool false c.in-Pool.is asked (sym size, sym align, refl) a (shared_as a c.args.self.now c.make_shared.new.self c.args.id c.in-Pool.pool c.requirements-need.result.size (image_size c.args.info.now c.args.info.now.tiling) asked false c.in-Ok.shape c.args.info.now size same made)) c.make_shared.ensures.made

pub returns-in-Pool-clause-allots : goal.returns-in-Pool-clause-allots
returns-in-Pool-clause-allots c =
    let same = c.in-Ok.ensures.1 in
    let size : c.requirements-need.result.size ≡ image_size c.args.info.now c.args.info.now.tiling = ap (λ (n : Need). n.size) c.requirements-need.ensures.need ∙ ap (λ (m : ImageInfo). image_size m m.tiling) same in
    let align : c.requirements-need.result.align ≡ (of_image c.args.info.now).align = ap (λ (n : Need). n.align) c.requirements-need.ensures.need ∙ ap (λ (m : ImageInfo). (of_image m).align) same in
    let asked : Asked = record { size = c.requirements-need.result.size; align = c.requirements-need.result.align; kind = c.args.info.now.tiling } in
    IfOk-weaker c.make_shared.result _ _ (λ a made. λ past m fit. shared_allots c.args.self.now c.make_shared.new.self (entry.Image c.args.id c.args.info.now) c.args.id (of_image c.args.info.now) (image_size c.args.info.now c.args.info.now.tiling) (Some c.args.info.now) (creates_image c.args.id c.args.info.now) c.in-Pool.pool false c.in-Pool.is asked (sym size, sym align, refl) a (shared_as a c.args.self.now c.make_shared.new.self c.args.id c.in-Pool.pool c.requirements-need.result.size (image_size c.args.info.now c.args.info.now.tiling) asked false c.in-Ok.shape c.args.info.now size same made)) c.make_shared.ensures.made

pub returns-in-PoolUpper-clause-done : goal.returns-in-PoolUpper-clause-done
returns-in-PoolUpper-clause-done c =
    let same = c.in-Ok.ensures.1 in
    let size : c.requirements-need.result.size ≡ image_size c.args.info.now c.args.info.now.tiling = ap (λ (n : Need). n.size) c.requirements-need.ensures.need ∙ ap (λ (m : ImageInfo). image_size m m.tiling) same in
    let align : c.requirements-need.result.align ≡ (of_image c.args.info.now).align = ap (λ (n : Need). n.align) c.requirements-need.ensures.need ∙ ap (λ (m : ImageInfo). (of_image m).align) same in
    let asked : Asked = record { size = c.requirements-need.result.size; align = c.requirements-need.result.align; kind = c.args.info.now.tiling } in
    IfOk-weaker c.make_shared-in-PoolUpper.result _ _ (λ a made. λ e past m fit. shared_done c.args.self.now c.make_shared-in-PoolUpper.new.self (entry.Image c.args.id c.args.info.now) c.args.id (of_image c.args.info.now) (image_size c.args.info.now c.args.info.now.tiling) (Some c.args.info.now) (creates_image c.args.id c.args.info.now) c.in-PoolUpper.pool true c.in-PoolUpper.is asked (sym size, sym align, refl) c.make_shared-in-PoolUpper.ensures.consistent a (shared_as a c.args.self.now c.make_shared-in-PoolUpper.new.self c.args.id c.in-PoolUpper.pool c.requirements-need.result.size (image_size c.args.info.now c.args.info.now.tiling) asked true c.in-Ok.shape c.args.info.now size same made) (omega (arith, size)) e past m (image_fits (entry.Image c.args.id c.args.info.now) c.args.id c.args.info.now (some_of c.texels_inside.ensures (entry.Image c.args.id c.args.info.now) c.args.id c.args.info.now refl past fit) refl past fit).unused) c.make_shared-in-PoolUpper.ensures.made

pub returns-in-PoolUpper-clause-rooms : goal.returns-in-PoolUpper-clause-rooms
returns-in-PoolUpper-clause-rooms c =
    let same = c.in-Ok.ensures.1 in
    let size : c.requirements-need.result.size ≡ image_size c.args.info.now c.args.info.now.tiling = ap (λ (n : Need). n.size) c.requirements-need.ensures.need ∙ ap (λ (m : ImageInfo). image_size m m.tiling) same in
    let align : c.requirements-need.result.align ≡ (of_image c.args.info.now).align = ap (λ (n : Need). n.align) c.requirements-need.ensures.need ∙ ap (λ (m : ImageInfo). (of_image m).align) same in
    let asked : Asked = record { size = c.requirements-need.result.size; align = c.requirements-need.result.align; kind = c.args.info.now.tiling } in
    IfOk-weaker c.make_shared-in-PoolUpper.result _ _ (λ a made. λ past fit. shared_rooms c.args.self.now c.make_shared-in-PoolUpper.new.self (entry.Image c.args.id c.args.info.now) c.args.id (of_image c.args.info.now) (image_size c.args.info.now c.args.info.now.tiling) (Some c.args.info.now) (creates_image c.args.id c.args.info.now) c.in-PoolUpper.pool true c.in-PoolUpper.is asked (sym size, sym align, refl) a (shared_as a c.args.self.now c.make_shared-in-PoolUpper.new.self c.args.id c.in-PoolUpper.pool c.requirements-need.result.size (image_size c.args.info.now c.args.info.now.tiling) asked true c.in-Ok.shape c.args.info.now size same made)) c.make_shared-in-PoolUpper.ensures.made

pub returns-in-PoolUpper-clause-allots : goal.returns-in-PoolUpper-clause-allots
returns-in-PoolUpper-clause-allots c =
    let same = c.in-Ok.ensures.1 in
    let size : c.requirements-need.result.size ≡ image_size c.args.info.now c.args.info.now.tiling = ap (λ (n : Need). n.size) c.requirements-need.ensures.need ∙ ap (λ (m : ImageInfo). image_size m m.tiling) same in
    let align : c.requirements-need.result.align ≡ (of_image c.args.info.now).align = ap (λ (n : Need). n.align) c.requirements-need.ensures.need ∙ ap (λ (m : ImageInfo). (of_image m).align) same in
    let asked : Asked = record { size = c.requirements-need.result.size; align = c.requirements-need.result.align; kind = c.args.info.now.tiling } in
    IfOk-weaker c.make_shared-in-PoolUpper.result _ _ (λ a made. λ past m fit. shared_allots c.args.self.now c.make_shared-in-PoolUpper.new.self (entry.Image c.args.id c.args.info.now) c.args.id (of_image c.args.info.now) (image_size c.args.info.now c.args.info.now.tiling) (Some c.args.info.now) (creates_image c.args.id c.args.info.now) c.in-PoolUpper.pool true c.in-PoolUpper.is asked (sym size, sym align, refl) a (shared_as a c.args.self.now c.make_shared-in-PoolUpper.new.self c.args.id c.in-PoolUpper.pool c.requirements-need.result.size (image_size c.args.info.now c.args.info.now.tiling) asked true c.in-Ok.shape c.args.info.now size same made)) c.make_shared-in-PoolUpper.ensures.made

pub returns-in-Dedicated-clause-keeps : goal.returns-in-Dedicated-clause-keeps
returns-in-Dedicated-clause-keeps c = IfOk-weaker c.make_resource.result _ _ (λ a made. resource_keeps a c.args.self.now c.make_resource.new.self c.args.id c.in-Dedicated.memory_type _ _ _ made) c.make_resource.ensures.made

pub returns-in_ok-bind-in-Memory-clause-keeps : goal.returns-in_ok-bind-in-Memory-clause-keeps
returns-in_ok-bind-in-Memory-clause-keeps c = same_objects c.args.self.now c.bind.new.self c.in_ok-bind-in-Memory.ensures.bound.0

pub returns-in-Pool-clause-keeps : goal.returns-in-Pool-clause-keeps
returns-in-Pool-clause-keeps c = IfOk-weaker c.make_shared.result _ _ (λ a made. shared_keeps a c.args.self.now c.make_shared.new.self c.args.id c.in-Pool.pool _ _ _ _ made) c.make_shared.ensures.made

pub returns-in-PoolUpper-clause-keeps : goal.returns-in-PoolUpper-clause-keeps
returns-in-PoolUpper-clause-keeps c = IfOk-weaker c.make_shared-in-PoolUpper.result _ _ (λ a made. shared_keeps a c.args.self.now c.make_shared-in-PoolUpper.new.self c.args.id c.in-PoolUpper.pool _ _ _ _ made) c.make_shared-in-PoolUpper.ensures.made

pub returns-in-Dedicated-clause-passing : goal.returns-in-Dedicated-clause-passing
returns-in-Dedicated-clause-passing c = IfOk-weaker c.make_resource.result _ _ (λ a made. resource_passing a c.args.self.now c.make_resource.new.self c.args.id c.in-Dedicated.memory_type _ _ _ made) c.make_resource.ensures.made

pub returns-in_ok-bind-in-Memory-clause-passing : goal.returns-in_ok-bind-in-Memory-clause-passing
returns-in_ok-bind-in-Memory-clause-passing c = same_passing c.args.self.now c.bind.new.self c.in_ok-bind-in-Memory.ensures.bound.0 c.in_ok-bind-in-Memory.ensures.bound.1

pub returns-in-Pool-clause-passing : goal.returns-in-Pool-clause-passing
returns-in-Pool-clause-passing c = IfOk-weaker c.make_shared.result _ _ (λ a made. put_passing a c.args.self.now c.make_shared.new.self c.args.id c.in-Pool.pool _ _ _ _ made) c.make_shared.ensures.made

pub returns-in-PoolUpper-clause-passing : goal.returns-in-PoolUpper-clause-passing
returns-in-PoolUpper-clause-passing c = IfOk-weaker c.make_shared-in-PoolUpper.result _ _ (λ a made. put_passing a c.args.self.now c.make_shared-in-PoolUpper.new.self c.args.id c.in-PoolUpper.pool _ _ _ _ made) c.make_shared-in-PoolUpper.ensures.made
