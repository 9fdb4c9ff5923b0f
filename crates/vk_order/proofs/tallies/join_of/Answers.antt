use Rattle.std.proofs.Common.{◌+◌, false, subst, sym, ◌∙◌, rules, get_or}
use Rattle.std.proofs.lemmas.Option.{slice_get-get_or}
use Rattle.vk_model.proofs.Lists.Truths.{no}
use Rattle.vk_order.specs.declared.fronts.Front.{Front}
use Rattle.vk_order.specs.declared.tallies.LineTally.{LineTally}
use Rattle.vk_order.specs.NodeViews.{act_of}
use Rattle.vk_order.specs.Lines.{class_of, same_line}
use Rattle.vk_order.specs.Inner.Leads.{line_leads}
use Rattle.vk_order.specs.Inner.Fronts.{IsFront}
use Rattle.vk_order.specs.Inner.Tallies.{lines_of}
use Rattle.vk_order.proofs.FrontLemmas.{front_same, front_taken}
use Rattle.vk_order.proofs.TallyLemmas.{of_first, none_past, front_on, front_past, front_all}
use Rattle.vk_order.proofs.tallies.join_of.Goals.{then-leads+in_ok-take_in, else-leads}
use Rattle.vk_order.proofs.tallies.join_of.Goals as goal

pub loop-tally-preserved : goal.loop-tally-preserved
loop-tally-preserved c =
    let ts = c.args.tallies.now in
    let i = c.loop-tally.tally-index in
    let d : LineTally = c.tally-item.result in
    let t : LineTally = get_or ts i d in
    let passes = line_leads c.args.row.now.point.queue (act_of c.args.row.now.act) in
    elim c.if-leads.branch [
      | then-leads+in_ok-take_in w ↦ record {
        none = λ first. no (sym w.is_first-is ∙ first);
        some = λ later ns tallied.
            let own : IsFront ns (lines_of ts) (λ k. same_line t.line (class_of k)) d.front =
            subst (λ (x : LineTally). IsFront ns (lines_of ts) (λ k. same_line t.line (class_of k)) x.front) (sym c.tally-item.is) (tallied.each i t (slice_get-get_or ts i d c.loop-tally-test.true)).front in
            let taken = front_taken ns (lines_of ts) (of_first passes ts i) (λ k. same_line t.line (class_of k)) w.take_in.new.self c.loop-tally.is_first c.loop-tally.invariant.none
            (λ e. w.in_ok-take_in.ensures.first e ns (lines_of ts) (λ k. same_line t.line (class_of k)) own)
            (λ e. w.in_ok-take_in.ensures.both e ns (lines_of ts) (of_first passes ts i) (λ k. same_line t.line (class_of k)) (c.loop-tally.invariant.some e ns tallied) own) in
            subst (λ (x : Front). IsFront ns (lines_of ts) (of_first passes ts (i + 1)) x) (sym w.front-is) (front_on ns ts passes i d w.take_in.new.self c.loop-tally-test.true (search rules) taken);
      }
      | else-leads w ↦ record {
        none = λ first k. none_past ts passes i d k c.loop-tally-test.true (search rules) (c.loop-tally.invariant.none (sym w.is_first-is ∙ first) k);
        some = λ later ns tallied. subst (λ (x : Front). IsFront ns (lines_of ts) (of_first passes ts (i + 1)) x) (sym w.front-is)
            (front_past ns ts passes i d c.loop-tally.front c.loop-tally-test.true (search rules) (c.loop-tally.invariant.some (sym w.is_first-is ∙ later) ns tallied));
      }
    ]

pub returns-then-is_first : goal.returns-then-is_first
returns-then-is_first c = λ ns tallied.
    let ts = c.args.tallies.now in
    let passes = line_leads c.args.row.now.point.queue (act_of c.args.row.now.act) in
    front_all ns ts passes c.loop-tally.tally-index c.empty.new.self tallied c.loop-tally-test.false
    (front_same ns (lines_of ts) (λ k. false) (of_first passes ts c.loop-tally.tally-index) c.empty.new.self (λ k there. sym (c.loop-tally.invariant.none c.if-is_first.true k)) (c.empty.ensures ns (lines_of ts)))

pub returns-else-is_first : goal.returns-else-is_first
returns-else-is_first c = λ ns tallied.
    front_all ns c.args.tallies.now (line_leads c.args.row.now.point.queue (act_of c.args.row.now.act)) c.loop-tally.tally-index c.loop-tally.front tallied c.loop-tally-test.false (c.loop-tally.invariant.some c.if-is_first.false ns tallied)
