use Rattle.std.proofs.Common.{List, ⊎_elim, subst, sym}
use Rattle.vk_order.specs.declared.lines.Line.{Line}
use Rattle.vk_order.specs.Inner.Names.{IsNames}
use Rattle.vk_order.specs.Inner.Tallies.{lines_of}
use Rattle.vk_order.specs.Inner.Kept.{IsLonger}
use Rattle.vk_order.proofs.ListLemmas.{longer_push, longer_same}
use Rattle.vk_order.proofs.PartLemmas.{parts_longer}
use Rattle.vk_order.proofs.TallyLemmas.{names_listed}
use Rattle.vk_order.proofs.frontier.Frontier.list_line.Goals as goal

pub returns-clause-kept : goal.returns-clause-kept
returns-clause-kept c = λ ns is. record {
  numbers = is.numbers;
  total = is.total;
  tallied = c.in_ok-at.ensures.kept ns is.tallied;
  names = ⊎_elim
      (λ e. subst (λ (ls : List Line). IsNames ns ls c.args.self.now.names) (sym e) is.names)
      (λ e. subst (λ (ls : List Line). IsNames ns ls c.args.self.now.names) (sym e) (names_listed ns (lines_of c.args.self.now.tallies.items) c.args.line c.args.self.now.names is.names))
      c.in_ok-at.ensures.grown;
  parts = parts_longer ns (lines_of c.args.self.now.tallies.items) (lines_of c.list_line.new.tallies.items) c.args.self.now.parts longer is.parts;
}
  where
    longer : IsLonger (lines_of c.args.self.now.tallies.items) (lines_of c.list_line.new.tallies.items)
    longer = ⊎_elim
        (λ e. longer_same (lines_of c.args.self.now.tallies.items) (lines_of c.list_line.new.tallies.items) e)
        (λ e. subst (λ (ls : List Line). IsLonger (lines_of c.args.self.now.tallies.items) ls) (sym e) (longer_push (lines_of c.args.self.now.tallies.items) c.args.line))
        c.in_ok-at.ensures.grown

pub returns-clause-longer : goal.returns-clause-longer
returns-clause-longer c =
    let old = lines_of c.args.self.now.tallies.items in
    let new = lines_of c.list_line.new.tallies.items in
    ⊎_elim
    (λ e. longer_same old new e)
    (λ e. subst (λ (ls : List Line). IsLonger old ls) (sym e) (longer_push old c.args.line))
    c.in_ok-at.ensures.grown
