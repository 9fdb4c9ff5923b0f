use Rattle.std.proofs.Common.{◌≡◌, ap, sym, subst, true}
use Rattle.vk_backing.specs.Allotted.{Allotted}
use Rattle.vk_backing.specs.Backed.{Backed}
use Rattle.vk_backing.specs.PassAllots.{PassAllots}
use Rattle.vk_backing.specs.PassSteps.{Opens}
use Rattle.vk_backing.specs.Passing.{ArePassing}
use Rattle.vk_backing.proofs.Opening.{opens_agree}
use Rattle.vk_resources.specs.Allocating.{allotted}
use Rattle.vk_resources.proofs.RestThrough.{rest_from}
use Rattle.vk_resources.proofs.WritingBack.{reserved_stands, written_clean}
use Rattle.vk_resources.proofs.resources.Resources.begin_pass.Goals as goal

pub returns-clause-clean : goal.returns-clause-clean
returns-clause-clean c = written_clean c.reserve_places.new.passes.moving c.reserve_places.new.self c.write_all_back.new.self c.write_all_back.ensures.resources c.write_all_back.ensures.shapes c.write_all_back.ensures.written

pub returns-clause-stands : goal.returns-clause-stands
returns-clause-stands c = λ past m. c.write_all_back.ensures.stands past (reserved_stands c.args.self.now c.reserve_places.new.self c.in_ok-reserve_places.ensures.reserves past m)

pub returns-clause-opens : goal.returns-clause-opens
returns-clause-opens c =
    let p = c.args.passes.now in let q = c.reserve_places.new.passes in let s = c.args.self.now in
    let same : c.write_all_back.new.self.backed ≡ c.reserve_places.new.self.backed = ap (λ (a : Allotted). a.backed) c.write_all_back.ensures.allotted in
    subst (λ (b : Backed). Opens p q s.backed b c.args.defrag) (sym same) c.in_ok-reserve_places.ensures.opens

pub returns-clause-passing : goal.returns-clause-passing
returns-clause-passing c =
    let same : c.write_all_back.new.self.backed ≡ c.reserve_places.new.self.backed = ap (λ (a : Allotted). a.backed) c.write_all_back.ensures.allotted in
    subst (λ (b : Backed). ArePassing c.reserve_places.new.passes b) (sym same) c.in_ok-reserve_places.ensures.passing

pub returns-clause-agree : goal.returns-clause-agree
returns-clause-agree c = opens_agree c.args.passes.now c.reserve_places.new.passes c.args.self.now.backed c.write_all_back.new.self.backed c.args.defrag (returns-clause-opens c) c.write_all_back.new.self.memory

pub returns-clause-allots : goal.returns-clause-allots
returns-clause-allots c =
    subst (λ (a : Allotted). PassAllots (allotted c.args.self.now) c.args.passes.now a c.reserve_places.new.passes c.args.defrag) (sym c.write_all_back.ensures.allotted) c.in_ok-reserve_places.ensures.allots

pub returns-clause-rest : goal.returns-clause-rest
returns-clause-rest c =
    let r = c.in_ok-reserve_places.ensures.reserves in rest_from c.args.self.now c.reserve_places.new.self c.write_all_back.new.self (λ b. true) r.memory r.resources r.shapes c.write_all_back.ensures.rest
