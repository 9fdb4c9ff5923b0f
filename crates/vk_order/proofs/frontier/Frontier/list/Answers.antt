use Rattle.std.proofs.Common.{◌≡◌, Some, IsTrue, ⊎_elim, refl, sym, ap, ◌∙◌, subst, length, arith}
use Rattle.std.specs.Prelude.{slice_get, is_some}
use Rattle.std.proofs.lemmas.Bool.{cases_lt}
use Rattle.std.proofs.lemmas.Option.{slice_get_within, slice_get_read}
use Rattle.vk_order.specs.declared.acts.Row.{Row}
use Rattle.vk_order.specs.declared.lines.Line.{Line}
use Rattle.vk_order.specs.NodeViews.{act_of}
use Rattle.vk_order.specs.Lines.{class_on}
use Rattle.vk_order.specs.Inner.Places.{index_in}
use Rattle.vk_order.specs.Inner.Tallies.{lines_of}
use Rattle.vk_order.proofs.ListLemmas.{longer_same, longer_both}
use Rattle.vk_order.proofs.frontier.Frontier.list.Goals as goal

abbrev row_line : Row → Line
row_line r = class_on r.point.queue (act_of r.act)

same_line_of : (r s : Row) → Some r ≡ Some s → row_line r ≡ row_line s
same_line_of r s e = let same : r ≡ s = cc in ap row_line same

pub loop-row-init : goal.loop-row-init
loop-row-init c = record { listed = λ i r lt e. absurd (omega (arith, lt)); kept = λ ns is. is; longer = longer_same (lines_of c.args.self.now.tallies.items) (lines_of c.args.self.now.tallies.items) refl }

pub loop-row-preserved : goal.loop-row-preserved
loop-row-preserved c =
    let rows = c.args.rows.now in
    let k = c.loop-row.row-index in
    let row = c.row-item.result in
    let at : slice_get rows k ≡ Some row = slice_get_read rows (length rows) k row refl c.loop-row-test.true c.row-item.is in
    let now = lines_of c.list_line.new.self.tallies.items in
    let here : IsTrue (is_some (index_in now (row_line row))) = subst (λ (l : Line). IsTrue (is_some (index_in now l))) c.of.ensures (ap is_some c.in_ok-list_line.ensures.listed) in
    record {
      listed = λ i r lt e. ⊎_elim
          (λ low. c.in_ok-list_line.ensures.others (row_line r) (c.loop-row.invariant.listed i r low e))
          (λ high. let same : k ≡ i = omega arith in subst (λ (l : Line). IsTrue (is_some (index_in now l))) (same_line_of row r (sym at ∙ ap (slice_get rows) same ∙ e)) here)
          (cases_lt i k);
      kept = λ ns is. c.in_ok-list_line.ensures.kept ns (c.loop-row.invariant.kept ns is);
      longer = longer_both (lines_of c.args.self.now.tallies.items) (lines_of c.loop-row.self.tallies.items) now c.loop-row.invariant.longer c.in_ok-list_line.ensures.longer;
    }

pub returns-clause-listed : goal.returns-clause-listed
returns-clause-listed c = λ i r e. c.loop-row.invariant.listed i r (let lt = slice_get_within c.args.rows.now i r e in let le = c.loop-row-test.false in omega arith) e

pub returns-clause-kept : goal.returns-clause-kept
returns-clause-kept c = c.loop-row.invariant.kept

pub returns-clause-longer : goal.returns-clause-longer
returns-clause-longer c = c.loop-row.invariant.longer
