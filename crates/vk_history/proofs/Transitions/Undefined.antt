-- Ranges of images whose subresources are all UNDEFINED.
use Rattle.std.proofs.Common.{◌≡◌, ◌+◌, ◌<◌, ℕ, true, not, ap, sym, ◌∙◌, arith}
use Rattle.std.proofs.lemmas.Bool.{not-true}
use Rattle.std.proofs.lemmas.Bool.Decides.{nat_tests}
use Rattle.vk_model.specs.declared.command.SubresourceRange.{SubresourceRange}
use Rattle.vk_model.specs.World.Bytes.{World}
use Rattle.vk_model.specs.Rules.Layouts.{has_other_layout}
use Rattle.vk_model.proofs.Lists.Truths.{bool_same}
use Rattle.vk_layouts.proofs.Others.{none_other, no_other}
use Rattle.vk_history.specs.Layouts.{is_in_undefined}

-- a range with subresources is in the layout that each of them has
in_its_layout : (r : SubresourceRange) (l : ℕ) → (0 < r.levels → 0 < r.layers → l ≡ 0) → is_in_undefined r l ≡ true
in_its_layout r l is = grind (arith, nat_tests)

undefined_is : (r : SubresourceRange) (l k m : ℕ) → is_in_undefined r l ≡ true → k < r.levels → m < r.layers → l ≡ 0
undefined_is r l k m is lk lm = grind (arith, nat_tests)

pub undefined_in : (w : World) (i : ℕ) (r : SubresourceRange) (l : ℕ) → ((k m : ℕ) → w.layout i k m ≡ 0) → is_in_undefined r l ≡ not (has_other_layout w i r l)
undefined_in w i r l none =
    bool_same (is_in_undefined r l) (not (has_other_layout w i r l))
    (λ yes. ap not (none_other w i r l (λ k m lk lm. none (r.first_level + k) (r.first_layer + m) ∙ sym (undefined_is r l k m yes lk lm))))
    (λ no. in_its_layout r l (λ lk lm. sym (no_other w i r l (not-true (has_other_layout w i r l) no) 0 0 lk lm) ∙ none (r.first_level + 0) (r.first_layer + 0)))
