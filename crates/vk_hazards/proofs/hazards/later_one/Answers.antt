use Rattle.std.proofs.Common.{Option, subst, arith}
use Rattle.vk_hazards.specs.declared.hazards.HazardFact.{HazardFact}
use Rattle.vk_hazards.specs.Latest.{IsBest, IsLatest}
use Rattle.vk_hazards.proofs.HazardLemmas.{keep, take_other, after_none}
use Rattle.vk_hazards.proofs.hazards.later_one.Goals as goal

pub returns-in_default : goal.returns-in_default
returns-in_default c = λ past h low high y best there is le last.
    after_none past h low high y there is le c.args.second (subst (λ (o : Option HazardFact). IsBest past h low high o) c.in_default.is best) last

pub returns-in_default-second : goal.returns-in_default-second
returns-in_default-second c = λ past h low high y best there is le last.
    keep past h low high y there is le c.in-Some.fact (subst (λ (o : Option HazardFact). IsBest past h low high o) c.in-Some.is best)
    (λ x cx lt. subst (λ (o : Option HazardFact). IsLatest past h y o) c.in_default-second.is last x cx)

pub returns-then-other-fact : goal.returns-then-other-fact
returns-then-other-fact c = λ past h low high y best there is le last.
    let other = subst (λ (o : Option HazardFact). IsLatest past h y o) c.in-Some-second.is last in
    keep past h low high y there is le c.in-Some.fact (subst (λ (o : Option HazardFact). IsBest past h low high o) c.in-Some.is best)
    (λ x cx lt. other.latest x cx (omega (arith, c.if-other-fact.true)))

pub returns-else-other-fact : goal.returns-else-other-fact
returns-else-other-fact c = λ past h low high y best there is le last.
    let first = subst (λ (o : Option HazardFact). IsBest past h low high o) c.in-Some.is best in
    take_other past h low high y there is le c.in-Some-second.other (subst (λ (o : Option HazardFact). IsLatest past h y o) c.in-Some-second.is last)
    (λ x z cx cz lo hi lt. first.latest x z cx cz lo hi (omega (arith, c.if-other-fact.false)))
