-- Ranges of which some subresource is in another layout than one.
use Rattle.std.proofs.Common.{◌≡◌, ℕ, ◌+◌, ◌<◌, true, not, ◌&&◌, Some, sym, subst, ◌∙◌}
use Rattle.std.specs.Prelude.{◌==◌}
use Rattle.std.proofs.lemmas.Bool.{and_parts}
use Rattle.vk_model.specs.declared.command.Element.{Element}
use Rattle.vk_model.specs.declared.command.Element.TheVariants as element
use Rattle.vk_model.specs.declared.command.SubresourceRange.{SubresourceRange}
use Rattle.vk_model.specs.Trace.Point.{Past, Point, Action, Host, Wait, Run, Signal}
use Rattle.vk_model.specs.World.Bytes.{World}
use Rattle.vk_model.specs.World.Effect.{world}
use Rattle.vk_model.specs.World.Ownership.{is_acquire, is_transition}
use Rattle.vk_model.specs.Rules.Layouts.{has_other_layout, bad_old_layout}
use Rattle.vk_model.proofs.Lists.Items.{some_same}
use Rattle.vk_model.proofs.Lists.Truths.{clash}
use Rattle.vk_layouts.proofs.Others.{none_other}
use Rattle.vk_rules.specs.declared.layouts.NamedPart.{NamedPart}
use Rattle.vk_rules.specs.declared.layouts.WrongLayout.TheVariants as wrong
use Rattle.vk_rules.specs.declared.transitions.Transition.{Transition}
use Rattle.vk_rules.specs.Layouts.{transition_in, IsWrongLayout, IsOldTransition}
use Rattle.vk_findings.specs.Inner.LayoutSteps.{layout_in, ShowLayouts}

-- by points that show the layouts, not each one is in it
pub not_each : (kept past : Past) (i : ℕ) (r : SubresourceRange) (l : ℕ) → ShowLayouts kept past → has_other_layout (world past) i r l ≡ true
    → ((k m : ℕ) → k < r.levels → m < r.layers → layout_in i (r.first_level + k) (r.first_layer + m) kept ≡ l) → ⊥
not_each kept past i r l shows other each = clash other (none_other (world past) i r l (λ k m lk lm. sym (shows.layouts i (r.first_level + k) (r.first_layer + m)) ∙ each k m lk lm))

-- a part that isn't in the layout in which it is named
pub part_has_other : (past : Past) (a : Action) (n : NamedPart) → IsWrongLayout past a (wrong.Other n) → has_other_layout (world past) n.image n.range n.layout ≡ true
part_has_other past (Host x) n so = absurd so
part_has_other past (Wait s) n so = absurd so
part_has_other past (Run c) n so = so.1
part_has_other past (Signal s) n so = absurd so

-- a transition whose old layout isn't current
old_has_other : (w : World) (q : ℕ) (e : Element) (t : Transition) → transition_in t.element e ≡ Some t → bad_old_layout w q e ≡ true → has_other_layout w t.image t.range t.old_layout ≡ true
old_has_other w q (element.Memory d) t is bad = absurd cc
old_has_other w q (element.Buffer e) t is bad = absurd cc
old_has_other w q (element.Image e) t is bad =
    let other = (and_parts (is_transition e && not (is_acquire q (element.Image e)) && not (e.old_layout == 0)) (has_other_layout w e.image e.range e.old_layout) bad).1 in
    subst (λ (x : Transition). has_other_layout w x.image x.range x.old_layout ≡ true) (some_same _ t is) other

pub transition_has_other : (past : Past) (p : Point) (t : Transition) → IsOldTransition past p t → has_other_layout (world past) t.image t.range t.old_layout ≡ true
transition_has_other past p t so = old_has_other (world past) p.queue so.2.element t so.2.transition so.2.wrong
