use Rattle.std.proofs.Common.{◌∙◌, ◌&&◌, ap, sym, nat_lt, List, length}
use Rattle.std.specs.Prelude.{is_some}
use Rattle.vk_model.specs.declared.command.BufferImageCopy.{BufferImageCopy}
use Rattle.vk_model.specs.declared.command.ImageCopy.{ImageCopy}
use Rattle.vk_model.specs.declared.command.SubresourceRange.{SubresourceRange}
use Rattle.vk_model.specs.Trace.Objects.{image}
use Rattle.vk_model.specs.World.ByteWrites.{fill_size}
use Rattle.vk_history.specs.PointViews.{past}
use Rattle.vk_laws.specs.Written.{some_bytes, some_subresource, some_texel, some_copied}
use Rattle.vk_laws.proofs.Forms.Written.{fill_written, update_written, copy_written, clear_written, copy_in_written, copy_out_written, copy_image_written, not_empty}
use Rattle.vk_rules.proofs.written.written.Goals as goal

pub returns-in-Fill : goal.returns-in-Fill
returns-in-Fill c = λ f.
    let a = c.in-Fill in
    let bytes = c.filled.ensures ∙ ap (λ s. fill_size s a.offset a.size) c.size.ensures in
    rw a.is (c.only_if.ensures f ∙ ap (λ n. nat_lt 0 n && f a.buffer) bytes ∙ sym (fill_written f (past c.args.history.now) a.buffer a.offset a.size a.word))

pub returns-in-Update : goal.returns-in-Update
returns-in-Update c = λ f.
    let a = c.in-Update in
    rw a.is (c.only_if-in-Update.ensures f ∙ ap (λ b. b && f a.buffer) (not_empty c.is_empty.result (length a.bytes) c.is_empty.ensures) ∙ sym (update_written f (past c.args.history.now) a.buffer a.offset a.bytes))

pub returns-in-Copy : goal.returns-in-Copy
returns-in-Copy c = λ f.
    let a = c.in-Copy in
    let some = c.has_bytes.ensures ∙ ap some_bytes c.as_slice.ensures in
    rw a.is (c.only_if-in-Copy.ensures f ∙ ap (λ b. b && f a.destination) some ∙ sym (copy_written f (past c.args.history.now) a.source a.destination a.regions))

pub returns-in-Clear : goal.returns-in-Clear
returns-in-Clear c = λ f.
    let a = c.in-Clear in
    let all = past c.args.history.now in
    let some = c.clears_some.ensures ∙ ap (λ (rs : List SubresourceRange). is_some (image all a.image) && some_subresource rs) c.as_slice-in-Clear.ensures in
    rw a.is (c.only_if-in-Clear.ensures f ∙ ap (λ b. b && f a.image) some ∙ sym (clear_written f all a.image a.layout a.color a.ranges))

pub returns-in-CopyIn : goal.returns-in-CopyIn
returns-in-CopyIn c = λ f.
    let a = c.in-CopyIn in
    let all = past c.args.history.now in
    let some = c.copies_some.ensures ∙ ap (λ (gs : List BufferImageCopy). is_some (image all a.image) && some_texel gs) c.as_slice-in-CopyIn.ensures in
    rw a.is (c.only_if-in-CopyIn.ensures f ∙ ap (λ b. b && f a.image) some ∙ sym (copy_in_written f all a.buffer a.image a.regions))

pub returns-in-CopyOut : goal.returns-in-CopyOut
returns-in-CopyOut c = λ f.
    let a = c.in-CopyOut in
    let all = past c.args.history.now in
    let some = c.copies_some-in-CopyOut.ensures ∙ ap (λ (gs : List BufferImageCopy). is_some (image all a.image) && some_texel gs) c.as_slice-in-CopyOut.ensures in
    rw a.is (c.only_if-in-CopyOut.ensures f ∙ ap (λ b. b && f a.buffer) some ∙ sym (copy_out_written f all a.image a.buffer a.regions))

pub returns-in-CopyImage : goal.returns-in-CopyImage
returns-in-CopyImage c = λ f.
    let a = c.in-CopyImage in
    let all = past c.args.history.now in
    let some = c.copies_image.ensures ∙ ap (λ (gs : List ImageCopy). is_some (image all a.destination) && some_copied gs) c.as_slice-in-CopyImage.ensures in
    rw a.is (c.only_if-in-CopyImage.ensures f ∙ ap (λ b. b && f a.destination) some ∙ sym (copy_image_written f all a.source a.destination a.regions))
