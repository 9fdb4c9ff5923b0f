use Rattle.std.proofs.Common.{◌≡◌, ◌-◌, ◌/◌, List, length, Some, ap, sym, ◌∙◌, arith}
use Rattle.std.proofs.Math.ListN.{length-set}
use Rattle.vk_map_cache.specs.declared.mark.Mark.{Mark}
use Rattle.vk_map_cache.specs.Inner.Marks.{mark_at}
use Rattle.vk_map_cache.proofs.HoldingLemmas.{absent_behind, length-with_absent}
use Rattle.vk_map_cache.proofs.MarkLemmas.{alike_anew}
use Rattle.vk_map_cache.proofs.marks.Marks.note.Goals as goal

pub invariant_of-self : goal.invariant_of-self
invariant_of-self c =
    let i = c.self.inside in
    let was = c.self.invariant in
    let size = ap (λ (l : List Mark). length l) (sym c.self.view_is) ∙ length-with_absent i.marks.items i.size was.within in
    record {
      within = was.within;
      room = was.room;
      chunks = omega (arith, was.chunks, length-set i.alike.items (c.args.low / 4096) (Some c.args.run.mark));
      alike = alike_anew i.size i.marks.items i.alike.items (c.args.low / 4096) (Some c.args.run.mark) (omega (arith, was.chunks, c.requires.order, c.requires.room, size))
          (λ k m lt other is. was.alike k m lt is)
          (λ k m lt at is.
          sym (absent_behind i.marks.items (i.size - length i.marks.items) k) ∙ ap (λ (l : List Mark). mark_at l k) c.self.view_is
          ∙ c.requires.alike k (omega (arith, at)) (omega (arith, at, lt, c.min.ensures)) ∙ the_mark is);
    }
  where
    the_mark : {m n : Mark} → Some m ≡ Some n → m ≡ n
    the_mark is = cc
