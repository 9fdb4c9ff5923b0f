use Rattle.std.proofs.Common.{◌≡◌, ℕ, Option, false, refl, ap, sym, subst}
use Rattle.vk_model.specs.declared.command.Dependency.{Dependency}
use Rattle.vk_order.specs.declared.fronts.Front.{Front}
use Rattle.vk_order.specs.declared.act.Act.{Act}
use Rattle.vk_order.specs.declared.act.Act.TheVariants as act
use Rattle.vk_order.specs.NodeViews.{act_of}
use Rattle.vk_order.specs.Inner.Fronts.{IsNamed}
use Rattle.vk_order.specs.Inner.Keyed.{front_at}
use Rattle.vk_order.specs.Inner.Names.{is_set_of}
use Rattle.vk_order.proofs.NameLemmas.{sets_step, sets_same}
use Rattle.vk_order.proofs.names.add_set.Goals as goal
use denote.Ref.{Bor}

no_set : (a : Act) → ((x y : ℕ) (z : Bor Dependency) → a ≡ act.Set x y z → ⊥) → (i u : ℕ) → is_set_of i u (act_of a) ≡ false
no_set (act.Hosts x) none i u = refl
no_set (act.Waits x) none i u = refl
no_set (act.Signals x) none i u = refl
no_set (act.Runs x) none i u = refl
no_set (act.Barrier x) none i u = refl
no_set (act.Set v k d) none i u = absurd (none v k d refl)
no_set (act.Await v k d) none i u = refl

pub returns-in_default : goal.returns-in_default
returns-in_default c = λ ns ls n next each. sets_same ns ls n c.args.row.now c.args.own.now next (no_set c.args.row.now.act c.in_default.not-Set) (front_at c.args.sets.now) each

pub returns : goal.returns
returns c = λ ns ls n next each.
    sets_step ns ls n c.args.row.now c.args.own.now next c.in-Set.event c.in-Set.k _ (ap act_of c.in-Set.is) (front_at c.args.sets.now) (front_at c.set.new.self) c.in_ok-front.front
    c.in_ok-set.ensures.here c.in_ok-set.ensures.others
    (λ test passes whole named. c.in_ok-front.ensures ns ls test n next.numbers passes whole (subst (λ (o : Option Front). IsNamed ns ls test o) (sym c.get.ensures) named) next.front)
    each
