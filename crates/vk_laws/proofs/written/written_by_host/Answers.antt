use Rattle.std.proofs.Common.{◌∙◌, ◌&&◌, ap, sym, length}
use Rattle.vk_laws.proofs.Forms.Written.{range_written, not_empty}
use Rattle.vk_laws.proofs.written.written_by_host.Goals as goal

pub returns-in-Write : goal.returns-in-Write
returns-in-Write c = λ f.
    let a = c.in-Write in
    rw a.is (c.only_if.ensures f ∙ ap (λ b. b && f a.buffer) (not_empty c.is_empty.result (length a.bytes) c.is_empty.ensures) ∙ sym (range_written f a.buffer a.offset (length a.bytes)))
