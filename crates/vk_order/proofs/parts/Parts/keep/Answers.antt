use Rattle.std.proofs.Common.{◌≡◌, ℕ, Option, Some, None, subst, rules}
use Rattle.vk_order.specs.declared.parts.Part.{Part}
use Rattle.vk_order.specs.Inner.Parts.{IsNewPart}
use Rattle.vk_order.proofs.PartLemmas.{parts_same, parts_more}
use Rattle.vk_order.proofs.parts.Parts.keep.Goals as goal

pub returns-in_default : goal.returns-in_default
returns-in_default c = λ ns ls n numbers are is.
    let none : c.args.part ≡ None = search rules in
    parts_same ns n ls c.args.self.now numbers (subst (λ (o : Option (ℕ × Part)). IsNewPart ns ls n o) none is) are

pub returns : goal.returns
returns c = λ ns ls n numbers are is.
    let some : c.args.part ≡ Some (c.in-Some.id, c.in-Some.part) = search rules in
    let new = subst (λ (o : Option (ℕ × Part)). IsNewPart ns ls n o) some is in
    parts_more ns n ls c.args.self.now c.add.new.self c.in-Some.id c.in-Some.part numbers new.0 new.1 c.in_ok-add.ensures.here c.in_ok-add.ensures.others are
