use Rattle.std.proofs.Common.{◌≡◌, ◌∙◌, List, None, Some, length, refl, ap, sym, subst, rules, arith}
use Rattle.vk_order.specs.declared.tallies.LineTally.{LineTally}
use Rattle.vk_order.specs.Inner.Places.{index_in}
use Rattle.vk_order.specs.Inner.Tallies.{lines_of, IsTallied}
use Rattle.vk_order.proofs.TallyLemmas.{listing, now_there}
use Rattle.vk_order.proofs.tallies.list_line.Goals as goal

pub returns-clause-listed : goal.returns-clause-listed
returns-clause-listed c =
    let ts = c.args.tallies.now.items in
    let t : LineTally = record { line = c.args.line; count = 0; front = c.new.result } in
    let none : index_in (lines_of ts) c.args.line ≡ None = search rules in
    let long : length ts ≡ c.len-at.result = (let e = c.len-at.ensures in first_of (omega arith, search rules)) in
    subst (λ (l : List LineTally). index_in (lines_of l) c.args.line ≡ Some c.len-at.result) (sym c.in_ok-push.ensures.items) (now_there ts t none ∙ ap Some long)

pub returns-clause-kept : goal.returns-clause-kept
returns-clause-kept c = λ ns tallied.
    let ts = c.args.tallies.now.items in
    let t : LineTally = record { line = c.args.line; count = 0; front = c.new.result } in
    let none : index_in (lines_of ts) c.args.line ≡ None = search rules in
    subst (λ (l : List LineTally). IsTallied ns l) (sym c.in_ok-push.ensures.items) (listing ns ts t none (c.new.ensures ns (lines_of ts)) refl tallied)
