use Rattle.std.proofs.Common.{◌≡◌, sym, ◌∙◌, refl, []}
use Rattle.vk_model.specs.declared.entry.Entry.TheVariants as entry
use Rattle.vk_model.specs.Memory.Addresses.{need_of}
use Rattle.vk_model.specs.Trace.Objects.{of_buffer}
use Rattle.vk_model.specs.Trace.Point.{Point, Host}
use Rattle.vk_buffer.specs.Requirements.{first_asked}
use Rattle.vk_history.proofs.Living.Counting.{on_both}
use Rattle.vk_history.proofs.Living.Bound.{answered, bound_by}
use Rattle.vk_history.proofs.bound.BoundMemories.bind_buffer.Goals as goal

pub returns-in-Ok : goal.returns-in-Ok
returns-in-Ok c =
    let b = c.args.info.now in
    let p : Point = record { entry = 0; batch = 0; place = 0; queue = 0; action = Host (entry.Buffer 0 b) } in
    let need_is : c.in-Ok.need ≡ need_of (of_buffer b) = answered (first_asked [] p) (need_of (of_buffer b)) c.in-Ok.need (sym c.in-Ok.is ∙ c.requirements.ensures.answer b refl refl [] p (0, refl)) in
    on_both c.bind.result c.bind.ensures.here c.bind.ensures.others (λ here others. bound_by c.args.self.now c.bind.new.self (of_buffer b) c.in-Some.memory c.in-Some.offset c.in-Ok.need _ (sym c.bound_at.ensures ∙ c.in-Some.is) need_is refl here others)
