use Rattle.std.proofs.Common.{◌&&◌, ℕ, not, Bool, refl, ap, sym, ◌∙◌}
use Rattle.vk_model.specs.Basics.{has_some}
use Rattle.vk_model.specs.World.Ownership.{dependency_of, is_release}
use Rattle.vk_model.specs.Sync.Seen.{covers, command_mask}
use Rattle.vk_order.specs.Bytes.{byte_of}
use Rattle.vk_order.specs.Wide.{access_of}
use Rattle.vk_order.proofs.ServeLemmas.{new_command}
use Rattle.vk_order.proofs.new_node.NewNode.is_open.Goals as goal

pub returns-then-ends_in_transfer : goal.returns-then-ends_in_transfer
returns-then-ends_in_transfer c = λ ns ls n q cached new_node part any.
    let x = c.args.part.now in
    let v = c.makes_visible.result in
    sym (ap (λ (t : Bool). t && v) c.if-ends_in_transfer.true)
    ∙ new_command c.args.self.now ns ls n q x cached (access_of c.args.access) (byte_of c.args.byte) new_node part any c.if-self.false c.ends_in_transfer.result v c.ends_in_transfer.ensures
    (c.makes_visible.ensures ∙ ap (λ (m : ℕ). not (is_release x.queue x.element) && has_some (dependency_of x.element).destination_accesses.0 m && covers x.element (byte_of c.args.byte)) c.of_commands.ensures)

pub returns-else-ends_in_transfer : goal.returns-else-ends_in_transfer
returns-else-ends_in_transfer c = λ ns ls n q cached new_node part any.
    let x = c.args.part.now in
    let v : Bool = not (is_release x.queue x.element) && has_some (dependency_of x.element).destination_accesses.0 (command_mask (access_of c.args.access)) && covers x.element (byte_of c.args.byte) in
    c.if-ends_in_transfer.false ∙ sym (ap (λ (t : Bool). t && v) c.if-ends_in_transfer.false)
    ∙ new_command c.args.self.now ns ls n q x cached (access_of c.args.access) (byte_of c.args.byte) new_node part any c.if-self.false c.ends_in_transfer.result v c.ends_in_transfer.ensures refl
