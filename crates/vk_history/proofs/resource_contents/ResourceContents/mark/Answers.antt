use Rattle.std.proofs.Common.{rules, ◌≡◌, ◌∙◌, ◌&&◌, Bool, true, false, ap, sym, subst}
use Rattle.vk_history.specs.Inner.Passing.{IsMarked}
use Rattle.vk_history.proofs.Kept.ImageRanges.{marked_none}
use Rattle.vk_model.specs.World.Effect.{in_range}
use Rattle.vk_image_bytes.specs.Numbers.{byte_of}
use Rattle.vk_image_bytes.specs.Ranges.{has_number}
use Rattle.vk_history.proofs.resource_contents.ResourceContents.mark.Goals as goal

pub returns : goal.returns
returns c =
    let yes : c.args.moves ≡ true = search rules in
    record {
      hits = has_number c.ranges-ranges.result;
      reached = λ m is i k lt. (c.ranges-ranges.ensures.ranges m is).bytes i k lt ∙ sym (ap (λ (u : Bool). u && in_range i c.args.range.now (byte_of m i k)) yes);
      changed = search rules;
    }

pub returns-then-not-moves : goal.returns-then-not-moves
returns-then-not-moves c =
    let no : c.args.moves ≡ false = search rules in
    subst (λ (u : Bool). IsMarked u c.args.range.now c.args.spot c.args.self.now c.args.self.now) (sym no) (marked_none c.args.range.now c.args.spot c.args.self.now)
