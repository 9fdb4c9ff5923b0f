-- PASS_STATE: defragmentations and passes that an entry doesn't fit.
use Rattle.std.specs.Prelude.{◌≡◌, ℕ, false, IsTrue, MatchOption, is_some}
use Rattle.vk_model.specs.Trace.Point.{Past, Action}
use Rattle.vk_model.specs.Rules.Passes.{in_pass, some_pass, pool_of_defrag}
use Rattle.vk_rules.specs.declared.passes.PassMisfit.{PassMisfit}
use Rattle.vk_rules.specs.declared.passes.PassMisfit.TheVariants as misfit
use Rattle.vk_rules.specs.Sizes.{OnHost}
use Rattle.vk_rules.specs.Passes.{IsPassMisfit}
use Rattle.vk_findings.specs.declared.pass_states.NoPass.{NoPass}
use Rattle.vk_findings.specs.declared.pass_states.PassState.{PassState}
use Rattle.vk_findings.specs.declared.pass_states.PassState.TheVariants as state
use Rattle.vk_findings.specs.Defrags.{IsOpenDefrag, IsOpenPass, IsMoving}

-- No pass of a defragmentation is open; one of another is, or none at all (VMA, "Defragmentation").
pub record IsClosed (past : Past) (d : ℕ) (n : NoPass) : Type 0 where
  pub defrag : n.defrag ≡ d
  pub closed : in_pass past d ≡ false
  pub other : MatchOption n.other (some_pass past ≡ false) (λ o. IsTrue (is_some (pool_of_defrag past o.defrag)) × IsOpenPass past o)

-- What there is that isn't fitted: a defragmentation of the pool that hasn't ended, a pass that is open, or that none is of the defragmentation (VMA, "Defragmentation").
abbrev pub IsStateOf : Past → PassMisfit → PassState → Type 0
IsStateOf past (misfit.Defrag p) (state.Defrag o) = (o.pool ≡ p) × IsOpenDefrag past o
IsStateOf past misfit.AnyPass (state.Pass o) = IsTrue (is_some (pool_of_defrag past o.defrag)) × IsOpenPass past o
IsStateOf past (misfit.Pass d) (state.Pass o) = (o.defrag ≡ d) × IsOpenPass past o
IsStateOf past (misfit.NoPass d) (state.NoPass n) = IsClosed past d n
IsStateOf past (misfit.Moving r) (state.Moving m) = (m.resource ≡ r.resource) × IsMoving past m
IsStateOf past _ s = ⊥

-- What is reported of an action that breaks PASS_STATE: what its entry doesn't fit, and what there is.
pub record IsPassState (past : Past) (a : Action) (s : PassState) : Type 0 where
  pub misfit : PassMisfit
  pub unfit : OnHost a (λ x. IsPassMisfit past x misfit)
  pub state : IsStateOf past misfit s
