use Rattle.std.proofs.Common.{ℕ, List, ◌∷◌, ◌∙◌, refl, ap, sym, subst}
use Rattle.vk_model.specs.declared.command.BufferCopy.{BufferCopy}
use Rattle.vk_model.specs.declared.command.Cmd.TheVariants as cmd
use Rattle.vk_model.specs.Trace.Point.{Action}
use Rattle.vk_model.specs.Sync.Node.{nodes}
use Rattle.vk_model.specs.Sync.Edge.{is_element}
use Rattle.vk_order.proofs.PlaceLemmas.{apart_from}
use Rattle.vk_order.specs.declared.frontier.Frontier.{Frontier}
use Rattle.vk_order.specs.declared.new_node.NewNode.{NewNode}
use Rattle.vk_order.specs.Frontiers.{IsFrontier, IsNewNode}
use Rattle.vk_model.specs.Trace.PointViews.{point_of}
use Rattle.vk_touches.specs.declared.touches.Spot.{Spot}
use Rattle.vk_ids.specs.Ids.{value_of}
use Rattle.vk_touches.specs.Touched.{next_spot, next_node, act_next, touched}
use Rattle.vk_history.specs.Contents.{AreCopiedNumbers, BecomesIn, IsRead, IsSet, IsFlushed, IsWrittenBy, IsClearedBy}
use Rattle.vk_model.specs.World.Effect.{world}
use Rattle.vk_history.proofs.Kept.PassSteps.{passed_step}
use Rattle.vk_touches.proofs.PartChanges.{on_three}
use Rattle.vk_history.proofs.Kept.ContentSteps.{buffer_made, image_made}
use Rattle.vk_history.proofs.Kept.CopySteps.{copied_step, buffers_copied}
use Rattle.vk_history.proofs.Kept.ImageRules.{made_good}
use Rattle.vk_history.proofs.Kept.ImageSteps.{cleared_step}
use Rattle.vk_history.proofs.Kept.ImageCopies.{kept_image, copied_in, copied_out, copied_image}
use Rattle.vk_history.proofs.Kept.NextPoint.{clean_within}
use Rattle.vk_history.proofs.Kept.CacheSteps.{flush_change, invalidation_change}
use Rattle.vk_history.proofs.Kept.AccessSteps.{quiet_step, read_step, set_step, written_step}
use Rattle.vk_history.proofs.contents.Contents.note.Goals as goal

pub returns-in-Nothing : goal.returns-in-Nothing
returns-in-Nothing c = λ past clean spot_is objects frontier are. quiet_step past (point_of c.args.point.now) clean c.in-Nothing.ensures c.args.self.now are

pub returns-in-Made : goal.returns-in-Made
returns-in-Made c = on_three c.make.result c.make.ensures.here c.make.ensures.present c.make.ensures.others (λ here present others past clean spot_is objects frontier are.
    buffer_made past (point_of c.args.point.now) clean c.in-Made.buffer c.in-Made.info.now c.in-Made.ensures c.args.self.now c.make.new.self c.is_cached.result (c.is_cached.ensures (point_of c.args.point.now ∷ past) objects) here present others are)

pub returns-in-HostRead : goal.returns-in-HostRead
returns-in-HostRead c = on_three c.read.result c.read.ensures.here c.read.ensures.others c.read.ensures.here (λ here others more past clean spot_is objects frontier are.
    let p = point_of c.args.point.now in
    let old = value_of c.args.self.now.resources c.in-HostRead.buffer in
    let new = value_of c.read.new.self.resources c.in-HostRead.buffer in
    read_step past p clean c.in-HostRead.buffer c.in-HostRead.offset c.in-HostRead.size c.in-HostRead.ensures c.args.self.now c.read.new.self
    (subst (λ (s : Spot). BecomesIn (λ u v. IsRead u v c.in-HostRead.offset c.in-HostRead.size s) old new) spot_is here) others are)

pub returns-in-HostWritten : goal.returns-in-HostWritten
returns-in-HostWritten c = on_three c.set.result c.set.ensures.here c.set.ensures.others c.set.ensures.here (λ here others more past clean spot_is objects frontier are.
    let p = point_of c.args.point.now in
    let old = value_of c.args.self.now.resources c.in-HostWritten.buffer in
    let new = value_of c.set.new.self.resources c.in-HostWritten.buffer in
    let fits = c.in-HostWritten.ensures in
    set_step past p clean c.in-HostWritten.buffer c.in-HostWritten.offset fits.0 fits.1 c.args.self.now c.set.new.self
    (subst (λ (n : ℕ). BecomesIn (λ u v. IsSet u v c.in-HostWritten.offset n (next_spot past p)) old new) fits.2
    (subst (λ (s : Spot). BecomesIn (λ u v. IsSet u v c.in-HostWritten.offset c.in-HostWritten.size s) old new) spot_is here)) others are)

pub returns-in-Written : goal.returns-in-Written
returns-in-Written c = on_three c.write.result c.write.ensures.here c.write.ensures.others c.write.ensures.here (λ here others more past clean spot_is objects frontier are.
    let p = point_of c.args.point.now in
    let old = value_of c.args.self.now.resources c.in-Written.buffer in
    let new = value_of c.write.new.self.resources c.in-Written.buffer in
    written_step past p clean c.in-Written.buffer c.in-Written.offset c.in-Written.size c.in-Written.ensures c.args.self.now c.write.new.self
    (subst (λ (s : Spot). BecomesIn (IsWrittenBy c.in-Written.offset c.in-Written.size p.queue s) old new) spot_is here) others are)

pub returns-in-Flushed : goal.returns-in-Flushed
returns-in-Flushed c = on_three c.flush.result c.flush.ensures.here c.flush.ensures.others c.flush.ensures.here (λ here others more past clean spot_is objects frontier are.
    let p = point_of c.args.point.now in
    let old = value_of c.args.self.now.resources c.in-Flushed.buffer in
    let new = value_of c.flush.new.self.resources c.in-Flushed.buffer in
    flush_change past p clean c.in-Flushed.buffer c.in-Flushed.offset c.in-Flushed.size c.in-Flushed.ensures c.args.self.now c.flush.new.self
    (subst (λ (s : Spot). BecomesIn (λ u v. IsFlushed u v c.in-Flushed.offset c.in-Flushed.size s) old new) spot_is here) others are)

pub returns-in_ok-new_node-in-Invalidated : goal.returns-in_ok-new_node-in-Invalidated
returns-in_ok-new_node-in-Invalidated c = on_three c.invalidate.result c.invalidate.ensures.here c.invalidate.ensures.others c.invalidate.ensures.here (λ here others more past clean spot_is objects frontier are.
    let p = point_of c.args.point.now in
    let is = c.in-Invalidated.ensures in
    let new_node = c.in_ok-new_node-in-Invalidated.ensures.new_node (nodes past) (next_node past p (act_next p.action)) frontier (ap (next_node past p) (sym c.act_of.ensures))
    (apart_from (nodes past) (next_node past p (act_next p.action)) (ap (λ (d : Action). is_element (act_next d)) is)) in
    let x = c.reading-by.result in
    invalidation_change past p clean c.in-Invalidated.buffer c.in-Invalidated.offset c.in-Invalidated.size is x c.reading-by.ensures.bytes c.reading-by.ensures.access
    (subst (λ (f : Frontier). IsFrontier f (nodes past)) (sym c.reading-by.ensures.frontier) frontier)
    (subst (λ (s : NewNode). IsNewNode (nodes past) (next_node past p (act_next p.action)) s) (sym c.reading-by.ensures.new_node) new_node)
    c.args.self.now c.invalidate.new.self here others are)

pub returns-in-Passed : goal.returns-in-Passed
returns-in-Passed c = on_three c.pass_all.result c.pass_all.ensures c.pass_all.ensures c.pass_all.ensures (λ passes more again past clean spot_is objects frontier are.
    let p = point_of c.args.point.now in
    passed_step past p clean c.in-Passed.elements.now c.in-Passed.ensures c.args.self.now c.pass_all.new.self
    (λ there old. passes past (world past) (touched past) p refl frontier there old) are)

pub returns-in-ImageMade : goal.returns-in-ImageMade
returns-in-ImageMade c = on_three c.make_image.result c.make_image.ensures.here c.make_image.ensures.present c.make_image.ensures.others (λ here present others past clean spot_is objects frontier are.
    let p = point_of c.args.point.now in
    let good = made_good past p clean c.in-ImageMade.image c.in-ImageMade.info.now c.in-ImageMade.ensures in
    image_made past p clean c.in-ImageMade.image c.in-ImageMade.info.now c.in-ImageMade.ensures c.args.self.now c.make_image.new.self c.is_cached-in-ImageMade.result (c.is_cached-in-ImageMade.ensures (p ∷ past) objects) (here good) (present good) others are)

pub returns-in-Cleared : goal.returns-in-Cleared
returns-in-Cleared c = on_three c.clear.result c.clear.ensures.here c.clear.ensures.others c.clear.ensures.here (λ here others more past clean spot_is objects frontier are.
    let p = point_of c.args.point.now in
    let old = value_of c.args.self.now.resources c.in-Cleared.image in
    let new = value_of c.clear.new.self.resources c.in-Cleared.image in
    let fits = c.in-Cleared.ensures in
    cleared_step past p clean c.in-Cleared.image fits.0 fits.1 c.in-Cleared.ranges.now fits.2 c.args.self.now c.clear.new.self
    (subst (λ (s : Spot). BecomesIn (IsClearedBy c.in-Cleared.ranges.now p.queue s) old new) spot_is here) others are)

pub returns-in-Copied : goal.returns-in-Copied
returns-in-Copied c = on_three c.copy.result c.copy.ensures c.copy.ensures c.copy.ensures (λ copied more again past clean spot_is objects frontier are.
    let p = point_of c.args.point.now in
    let s = c.in-Copied.source in
    let d = c.in-Copied.destination in
    let gs = c.in-Copied.regions.now in
    copied_step past p clean (cmd.Copy s d gs) s d gs c.in-Copied.ensures (buffers_copied past p (clean_within past p clean) s d gs c.in-Copied.ensures) c.args.spot spot_is c.args.self.now c.copy.new.self copied are)

pub returns-in_ok-copies-in-CopiedIn : goal.returns-in_ok-copies-in-CopiedIn
returns-in_ok-copies-in-CopiedIn c = on_three c.copy-in-CopiedIn.result c.copy-in-CopiedIn.ensures c.copy-in-CopiedIn.ensures c.copy-in-CopiedIn.ensures (λ copied more again past clean spot_is objects frontier are.
    let p = point_of c.args.point.now in
    let b = c.in-CopiedIn.buffer in
    let i = c.in-CopiedIn.image in
    let regions = c.in-CopiedIn.regions.now in
    let gs = c.in_ok-copies-in-CopiedIn.copies.items in
    let fits = c.in-CopiedIn.ensures in
    copied_step past p clean (cmd.CopyIn b i fits.0 regions) b i gs fits.1 (copied_in past p (clean_within past p clean) b i fits.0 regions fits.1 gs (λ m of. c.in_ok-copies-in-CopiedIn.ensures m (kept_image c.args.self.now past are i ∙ of))) c.args.spot spot_is c.args.self.now c.copy-in-CopiedIn.new.self
    (subst (λ (xs : List BufferCopy). AreCopiedNumbers c.args.self.now c.copy-in-CopiedIn.new.self b i xs p.queue c.args.spot) c.as_slice.ensures.value copied) are)

pub returns-in_ok-copies-in-CopiedOut : goal.returns-in_ok-copies-in-CopiedOut
returns-in_ok-copies-in-CopiedOut c = on_three c.copy-in-CopiedOut.result c.copy-in-CopiedOut.ensures c.copy-in-CopiedOut.ensures c.copy-in-CopiedOut.ensures (λ copied more again past clean spot_is objects frontier are.
    let p = point_of c.args.point.now in
    let b = c.in-CopiedOut.buffer in
    let i = c.in-CopiedOut.image in
    let regions = c.in-CopiedOut.regions.now in
    let gs = c.in_ok-copies-in-CopiedOut.copies.items in
    let fits = c.in-CopiedOut.ensures in
    copied_step past p clean (cmd.CopyOut i fits.0 b regions) i b gs fits.1 (copied_out past p (clean_within past p clean) i fits.0 b regions fits.1 gs (λ m of. c.in_ok-copies-in-CopiedOut.ensures m (kept_image c.args.self.now past are i ∙ of))) c.args.spot spot_is c.args.self.now c.copy-in-CopiedOut.new.self
    (subst (λ (xs : List BufferCopy). AreCopiedNumbers c.args.self.now c.copy-in-CopiedOut.new.self i b xs p.queue c.args.spot) c.as_slice-in-CopiedOut.ensures.value copied) are)

pub returns-in_ok-copies-in-CopiedImage : goal.returns-in_ok-copies-in-CopiedImage
returns-in_ok-copies-in-CopiedImage c = on_three c.copy-in-CopiedImage.result c.copy-in-CopiedImage.ensures c.copy-in-CopiedImage.ensures c.copy-in-CopiedImage.ensures (λ copied more again past clean spot_is objects frontier are.
    let p = point_of c.args.point.now in
    let s = c.in-CopiedImage.source in
    let d = c.in-CopiedImage.destination in
    let regions = c.in-CopiedImage.regions.now in
    let gs = c.in_ok-copies-in-CopiedImage.copies.items in
    let fits = c.in-CopiedImage.ensures in
    copied_step past p clean (cmd.CopyImage s fits.0 d fits.1 regions) s d gs fits.2 (copied_image past p (clean_within past p clean) s fits.0 d fits.1 regions fits.2 gs (λ m n of to. c.in_ok-copies-in-CopiedImage.ensures m n (kept_image c.args.self.now past are s ∙ of) (kept_image c.args.self.now past are d ∙ to))) c.args.spot spot_is c.args.self.now c.copy-in-CopiedImage.new.self
    (subst (λ (xs : List BufferCopy). AreCopiedNumbers c.args.self.now c.copy-in-CopiedImage.new.self s d xs p.queue c.args.spot) c.as_slice-in-CopiedImage.ensures.value copied) are)
