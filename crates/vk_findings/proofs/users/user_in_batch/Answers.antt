use Rattle.std.proofs.Common.{◌≡◌, true, length, Some, refl, ap, sym, ◌∙◌, subst, slice_get, below_more}
use Rattle.std.proofs.lemmas.Option.{slice_get_read}
use Rattle.vk_model.specs.declared.command.Cmd.{Cmd}
use Rattle.vk_model.specs.Trace.Point.{Run}
use Rattle.vk_model.specs.Sync.Complete.{names}
use Rattle.vk_findings.specs.declared.named.Spot.{Spot}
use Rattle.vk_findings.proofs.users.user_in_batch.Goals as goal

pub returns-in-Some-clause-naming : goal.returns-in-Some-clause-naming
returns-in-Some-clause-naming c =
    let cs = c.args.commands.now in
    let at = c.in-Some.ensures.spot in
    let command = c.index-commands-place.result in
    record {
      entry = ap (λ (s : Spot). s.entry) at;
      batch = ap (λ (s : Spot). s.batch) at;
      command = command;
      listed = ap (λ (s : Spot). slice_get cs s.place) at ∙ slice_get_read cs (length cs) c.loop-place.place command refl c.loop-place-test.true c.index-commands-place.is;
      naming = c.in-Some.ensures.naming;
    }

pub loop-place-preserved : goal.loop-place-preserved
loop-place-preserved c =
    let cs = c.args.commands.now in
    let command = c.index-commands-place.result in
    let here = slice_get_read cs (length cs) c.loop-place.place command refl c.loop-place-test.true c.index-commands-place.is in
    below_more _ _ c.loop-place.invariant (λ d at naming.
    let both : Some d ≡ Some command = sym at ∙ here in
    let same : d ≡ command = cc in
    c.in_default.ensures.done (subst (λ (x : Cmd). names c.args.resource (Run x) ≡ true) same naming))
