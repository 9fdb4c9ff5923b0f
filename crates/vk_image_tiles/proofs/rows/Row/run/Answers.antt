use Rattle.std.proofs.Common.{◌≡◌, ◌<◌, subst, arith}
use Rattle.vk_model.specs.declared.resource.Kind.{Kind}
use Rattle.vk_model.specs.declared.resource.Kind.TheVariants as kind
use Rattle.vk_image_tiles.specs.Rows.{TexelRow}
use Rattle.vk_image_tiles.proofs.RunLemmas.{linear_run, pair_run, single_run, run_as}
use Rattle.vk_image_tiles.proofs.rows.Row.run.Goals as goal
use Rattle.vk_image_tiles.proofs.rows.Row.run.Goals.{in-Linear, in-Optimal, in-Optimal-2, in-Optimal-2-2}

some_bytes : (c : goal.After-address) → 0 < c.args.self.now.texel
some_bytes c = subst (λ (r : TexelRow). 0 < r.texel) c.self.view_is c.self.invariant.1

tiling_is : (c : goal.After-address) (k : Kind) → c.self.inside.tiling ≡ k → c.args.self.now.tiling ≡ k
tiling_is c k is = subst (λ (r : TexelRow). r.tiling ≡ k) c.self.view_is is

pub returns : goal.returns
returns c =
    let row = c.args.self.now in
    let x = c.args.x in
    let end = c.args.end in
    let some = some_bytes c in
    elim c.match-self.branch [
      | in-Linear w ↦ run_as row kind.Linear x end _ _ _ (tiling_is c kind.Linear w.in-Linear.is) c.address.ensures w.texels-is (linear_run row.first row.texel x end c.requires)
      | in-Optimal w ↦ run_as row kind.Optimal x end _ _ _ (tiling_is c kind.Optimal w.in-Optimal.is) c.address.ensures w.texels-is (pair_run row.first row.texel x end some w.if-x-eq0.true w.if-end-x-gt1.true)
      | in-Optimal-2 w ↦ run_as row kind.Optimal x end _ _ _ (tiling_is c kind.Optimal w.in-Optimal.is) c.address.ensures w.texels-is (single_run row.first row.texel x end some c.requires (λ more. absurd (omega (arith, more, w.if-end-x-gt1.false))))
      | in-Optimal-2-2 w ↦ run_as row kind.Optimal x end _ _ _ (tiling_is c kind.Optimal w.in-Optimal.is) c.address.ensures w.texels-is (single_run row.first row.texel x end some c.requires (λ more. w.if-x-eq0.false))
    ]
