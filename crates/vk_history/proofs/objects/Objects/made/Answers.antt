use Rattle.std.proofs.Common.{◌∙◌, sym, ap}
use Rattle.std.specs.Option.{option_map}
use Rattle.vk_history.specs.Made.{Numbered}
use Rattle.vk_history.specs.Tabled.{creator_view}
use Rattle.vk_history.proofs.Making.JudgedIds.{made_is}
use Rattle.vk_history.proofs.objects.Objects.made.Goals as goal

pub returns-in-Some : goal.returns-in-Some
returns-in-Some c = λ past are. ap (option_map (λ (m : Numbered). m.entry)) (ap (option_map creator_view) (sym c.in-Some.is) ∙ c.creator.ensures past are) ∙ sym (made_is past c.args.id)

pub returns-in-None : goal.returns-in-None
returns-in-None c = λ past are. ap (option_map (λ (m : Numbered). m.entry)) (ap (option_map creator_view) (sym c.in-None.is) ∙ c.creator.ensures past are) ∙ sym (made_is past c.args.id)
