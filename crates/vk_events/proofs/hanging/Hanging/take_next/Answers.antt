use Rattle.std.proofs.Common.{◌∷◌, arith, ap}
use Rattle.std.proofs.lemmas.List.Sorted.{length_permutation}
use Rattle.std.proofs.lemmas.Option.{IfSome_then}
use Rattle.vk_events.specs.Inner.Hooks.{Hung}
use Rattle.vk_events.proofs.HookLemmas.{IfNone_then}
use Rattle.vk_events.proofs.SettledLemmas.{least_is_next, all_taken}
use Rattle.vk_events.proofs.hanging.Hanging.take_next.Goals as goal

pub returns-clause-some : goal.returns-clause-some
returns-clause-some c = IfSome_then c.pop_within.result c.pop_within.ensures.pairs (λ i f counts low high taken is.
    least_is_next c.args.self.now.hooks c.args.self.now.lacking.items c.args.self.now.met counts low high taken is f.0 i c.pop_within.new.self f.2 c.pop_within.ensures.room f.3)

pub returns-clause-none : goal.returns-clause-none
returns-clause-none c = IfNone_then c.pop_within.result c.pop_within.ensures.none (λ f. (
  ap (λ (h : Hung). record c.args.self.now { met = h }) f.0,
  λ counts low high taken is j here none. all_taken c.args.self.now.hooks c.args.self.now.lacking.items c.args.self.now.met counts low high taken is
      (λ x there. let over = f.1 x there in let l = c.len-all.ensures in let size = is.size in omega (arith, over, l, size)) j here none,
))

pub returns-clause-fewer : goal.returns-clause-fewer
returns-clause-fewer c = IfSome_then c.pop_within.result c.pop_within.ensures.pairs (λ i f. let size = length_permutation c.args.self.now.met.pairs ((f.0, i) ∷ c.pop_within.new.self.pairs) f.2 in omega (arith, size))
