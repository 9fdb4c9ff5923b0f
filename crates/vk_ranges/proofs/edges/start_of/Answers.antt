use Rattle.std.proofs.Common.{sym, ap, ◌∙◌}
use Rattle.vk_ranges.specs.Runs.{after}
use Rattle.vk_ranges.proofs.Beginning.{never_none, never_last, begins_at_start, begins_within, begins_at_end}
use Rattle.vk_ranges.proofs.edges.start_of.Goals as goal

pub unreachable-requires : goal.unreachable-requires
unreachable-requires g c =
    never_none c.args.low c.args.runs.now c.requires
    (ap (λ n. after n c.args.runs.now) (sym c.saturating_sub.ensures) ∙ sym c.runs_after-rest.ensures ∙ c.in_default.ensures.steps.0)

pub returns-then-low-eq0 : goal.returns-then-low-eq0
returns-then-low-eq0 g c =
    begins_at_start c.args.low c.args.runs.now c.requires c.in-Some.end c.in-Some.value.now c.next.new.self
    (ap (λ n. after n c.args.runs.now) (sym c.saturating_sub.ensures) ∙ sym c.runs_after-rest.ensures ∙ c.in-Some.ensures.steps) c.if-low-eq0.true

pub returns-then-end-low : goal.returns-then-end-low
returns-then-end-low g c =
    begins_within c.args.low c.args.runs.now c.requires c.in-Some.end c.in-Some.value.now c.next.new.self
    (ap (λ n. after n c.args.runs.now) (sym c.saturating_sub.ensures) ∙ sym c.runs_after-rest.ensures ∙ c.in-Some.ensures.steps) c.if-low-eq0.false c.if-end-low.true

pub unreachable-requires-in_default-next : goal.unreachable-requires-in_default-next
unreachable-requires-in_default-next g c =
    never_last c.args.low c.args.runs.now c.requires c.in-Some.end c.in-Some.value.now c.next.new.self
    (ap (λ n. after n c.args.runs.now) (sym c.saturating_sub.ensures) ∙ sym c.runs_after-rest.ensures ∙ c.in-Some.ensures.steps) c.if-low-eq0.false c.if-end-low.false c.in_default-next.ensures.steps.0

pub returns : goal.returns
returns g c =
    begins_at_end c.args.low c.args.runs.now c.requires c.in-Some.end c.in-Some.value.now c.next.new.self
    (ap (λ n. after n c.args.runs.now) (sym c.saturating_sub.ensures) ∙ sym c.runs_after-rest.ensures ∙ c.in-Some.ensures.steps) (c.in-Some-next.end, c.in-Some-next.value.now) c.next-2.new.self
    c.if-low-eq0.false c.if-end-low.false c.in-Some-next.ensures.steps
