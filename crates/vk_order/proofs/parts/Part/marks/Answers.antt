use Rattle.std.proofs.Common.{◌&&◌, not, Bool, refl, ap, sym, ◌∙◌}
use Rattle.vk_model.specs.Basics.{has_some}
use Rattle.vk_model.specs.World.Ownership.{dependency_of, is_acquire}
use Rattle.vk_model.specs.Sync.Seen.{Write, command_mask, covers}
use Rattle.vk_order.specs.Bytes.{byte_of}
use Rattle.vk_order.proofs.PartLemmas.{part_marks}
use Rattle.vk_order.proofs.parts.Part.marks.Goals as goal

pub returns-then-follows : goal.returns-then-follows
returns-then-follows c = λ ns ls w m cached numbers part hw on at.
    sym (ap (λ (t : Bool). t && c.makes_available.result) c.if-follows.true)
    ∙ part_marks ns numbers ls w m c.args.self.now part c.args.write.line c.args.write.place hw on at cached (byte_of c.args.byte) c.follows.result c.makes_available.result c.follows.ensures c.makes_available.ensures

pub returns-else-follows : goal.returns-else-follows
returns-else-follows c = λ ns ls w m cached numbers part hw on at.
    let x = c.args.self.now in
    let a : Bool = not (is_acquire x.queue x.element) && has_some (dependency_of x.element).source_accesses.0 (command_mask Write) && covers x.element (byte_of c.args.byte) in
    c.if-follows.false ∙ sym (ap (λ (t : Bool). t && a) c.if-follows.false)
    ∙ part_marks ns numbers ls w m x part c.args.write.line c.args.write.place hw on at cached (byte_of c.args.byte) c.follows.result a c.follows.ensures refl
