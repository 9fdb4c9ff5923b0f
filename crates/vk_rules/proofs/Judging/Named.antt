-- What points name, and what is live where their ids are judged.
use Rattle.std.proofs.Common.{◌≡◌, ℕ, List, [], ◌∷◌, ◌++◌, map, Bool, ◌||◌, refl, ap, ◌∙◌}
use Rattle.std.specs.List.{list_any, flat_map}
use Rattle.std.proofs.lemmas.List.Folds.{list_any-append}
use Rattle.vk_model.specs.declared.command.Element.{Element}
use Rattle.vk_model.specs.declared.entry.Entry.{Entry}
use Rattle.vk_model.specs.Rules.Ids.{asked_by_element}
use Rattle.vk_model.proofs.Lists.Members.{any_map}

-- what is asked of each of some ids, and of each of some lists
module _ (dead : ℕ × (Entry → Bool) → Bool) where
  pub each_dead : {A : Type 0} (id_of : A → ℕ) (kind : Entry → Bool) (xs : List A) → list_any dead (map (λ x. (id_of x, kind)) xs) ≡ list_any (λ x. dead (id_of x, kind)) xs
  each_dead id_of kind xs = any_map dead (λ x. (id_of x, kind)) xs

  pub all_dead : (kind : Entry → Bool) (kept lost : List ℕ) → list_any dead (map (λ r. (r, kind)) (kept ++ lost)) ≡ (list_any (λ r. dead (r, kind)) kept || list_any (λ r. dead (r, kind)) lost)
  all_dead kind kept lost = any_map dead (λ r. (r, kind)) (kept ++ lost) ∙ list_any-append (λ r. dead (r, kind)) kept lost

  pub elements_dead : (es : List Element) → list_any dead (flat_map asked_by_element es) ≡ list_any (λ e. list_any dead (asked_by_element e)) es
  elements_dead [] = refl
  elements_dead (e ∷ es) = list_any-append dead (asked_by_element e) (flat_map asked_by_element es) ∙ ap (λ b. list_any dead (asked_by_element e) || b) (elements_dead es)
