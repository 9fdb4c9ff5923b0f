use Rattle.std.proofs.Common.{◌≡◌, ◌∙◌, ℕ, Option, Some, None, ap, inr, refl, subst, sym}
use Rattle.vk_model.specs.World.Ownership.{named_by}
use Rattle.vk_model.specs.Trace.PointViews.{point_of}
use Rattle.vk_history.specs.declared.element_parts.ElementPart.{ElementPart}
use Rattle.vk_history.specs.Contents.{AreContentsOf}
use Rattle.vk_history.specs.Known.{IsKnownAt}
use Rattle.vk_history.specs.PointViews.{past}
use Rattle.vk_validate.specs.Inner.Transitions.{node_alone}
use Rattle.vk_validate.proofs.Judging.OwnBytes.{kept_numbers}
use Rattle.vk_validate.proofs.rules.hazards.barriers.finds_missed.Goals as goal

pub has_missed-requires-clause-numbers : goal.has_missed-requires-clause-numbers
has_missed-requires-clause-numbers c =
    let earlier = past c.args.history.now in
    let moved = c.in-Some.moved in
    let are = c.in-Some.ensures.covered in
    kept_numbers earlier moved.image moved.contents.now (subst (λ (r : ℕ). AreContentsOf moved.contents.now earlier r) (sym are.named) are.kept) c.bytes.result c.bytes.ensures

pub returns-in-Some-2 : goal.returns-in-Some-2
returns-in-Some-2 c =
    let earlier = past c.args.history.now in
    let n = node_alone earlier (point_of c.args.point.now) c.args.element.now in
    let known = c.in-Some-2.field-0 in
    inr (
      c.in-Some.moved,
      c.in-Some.ensures,
      λ apart.
          let at = subst (λ (o : Option ElementPart). IsKnownAt earlier n o) c.in-Some-2.is (c.in_ok-frontier.ensures n refl apart) in (
            record { frontier = known.frontier; part = record { ref_ptr = c.args.history.ref_ptr; now = known.part }; bytes = c.bytes.result },
            record { frontier = at.0; part = at.1; bytes = c.bytes.ensures },
            c.has_missed.ensures,
          ),
    )

pub returns-in-None : goal.returns-in-None
returns-in-None c =
    let earlier = past c.args.history.now in
    let n = node_alone earlier (point_of c.args.point.now) c.args.element.now in
    let are = c.in-Some.ensures in
    inr (
      c.in-Some.moved,
      are,
      λ apart.
          let none : named_by c.args.element.now ≡ None = subst (λ (o : Option ElementPart). IsKnownAt earlier n o) c.in-None.is (c.in_ok-frontier.ensures n refl apart) in
          absurd (let bad : Some are.on.image ≡ None = sym (ap named_by are.is) ∙ none in cc),
    )
