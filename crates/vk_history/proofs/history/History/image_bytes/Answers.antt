use Rattle.std.proofs.Common.{sym, ◌∙◌}
use Rattle.vk_model.specs.Trace.Objects.{image}
use Rattle.vk_history.specs.PointViews.{past}
use Rattle.vk_history.proofs.Kept.ImageCopies.{image_bytes_of, kept_image, levels_of}
use Rattle.vk_history.proofs.history.History.image_bytes.Goals as goal

pub returns : goal.returns
returns c =
    let now = rw c.self.view_is at c.self.invariant in
    let all = past c.args.self.now in
    let is = c.in-Some.ensures ∙ kept_image c.self.inside.tables.contents all now.1.contents c.args.id in
    image_bytes_of all c.args.id c.args.levels c.in-Some.bytes (sym is) (levels_of (image all c.args.id) c.in-Some.bytes.now c.args.levels c.requires is)
