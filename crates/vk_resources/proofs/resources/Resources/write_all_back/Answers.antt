use Rattle.std.proofs.Common.{◌≡◌, ◌<◌, ◌∷◌, [], ℕ, List, length, take, ap, arith, sym, subst, ◌∙◌}
use Rattle.std.specs.Prelude.{get_or}
use Rattle.std.proofs.Math.Seq.{take-length}
use Rattle.std.proofs.lemmas.Option.{get_or_from_slice_get}
use Rattle.vk_resources.specs.PassSteps.{WritesBack}
use Rattle.vk_resources.proofs.WritingBack.{written_more}
use Rattle.vk_resources.proofs.resources.Resources.write_all_back.Goals as goal

pub loop-index-preserved : goal.loop-index-preserved
loop-index-preserved c =
    let ids = c.args.passes.now.moving in
    let lt : c.loop-index.index < length ids = omega (arith, c.loop-index-test.true, c.moves-index-end.ensures) in
    let is : c.nth_id.result ≡ get_or ids c.loop-index.index 0 = sym (get_or_from_slice_get ids c.loop-index.index c.nth_id.result 0 c.nth_id.ensures) in
    written_more ids c.loop-index.index c.args.self.now c.loop-index.self c.write_back.new.self lt c.loop-index.invariant c.write_back.ensures.keeps (subst (λ (i : ℕ). WritesBack (i ∷ []) c.loop-index.self c.write_back.new.self) is c.write_back.ensures.written) c.write_back.ensures.rest

pub returns-clause-written : goal.returns-clause-written
returns-clause-written c =
    subst (λ (l : List ℕ). WritesBack l c.args.self.now c.loop-index.self) (ap (λ (k : ℕ). take k c.args.passes.now.moving) (let e : c.loop-index.index ≡ length c.args.passes.now.moving = omega (arith, c.loop-index.auto.index-end, c.loop-index-test.false, c.moves-index-end.ensures) in e) ∙ take-length c.args.passes.now.moving) c.loop-index.invariant.written
