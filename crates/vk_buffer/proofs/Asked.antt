-- Which rule a point that makes a buffer breaks first, of those on what it asks.
use Rattle.std.proofs.Common.{◌≡◌, ◌<◌, ◌≤◌, ◌⊎◌, inl, inr, List, [], ◌∷◌, Bool, true, false, ◌==◌, Some, None, refl, ◌∙◌, arith}
use Rattle.std.specs.Prelude.{nat_lt}
use Rattle.std.proofs.Math.Bool.{or-false}
use Rattle.std.proofs.lemmas.Bool.{eq-eqb, ne_eqb, lt-ltb, le-ltb, or_left, or_right, or_from}
use Rattle.vk_model.specs.declared.resource.BufferInfo.{BufferInfo}
use Rattle.vk_model.specs.declared.rule.Rule.{Rule}
use Rattle.vk_model.specs.declared.rule.Rule.TheVariants as rule
use Rattle.vk_model.specs.Basics.{round_up}
use Rattle.vk_model.specs.Rules.Sizes.{is_outside}
use Rattle.vk_model.specs.Rules.Table.{breaks}
use Rattle.vk_model.specs.Trace.Point.{Past, Point}
use Rattle.vk_buffer.proofs.Firsts.{first_yes, first_no}
use Rattle.vk_buffer.specs.Requirements.{Makes, first_asked}

module _ (past : Past) (p : Point) (b : BufferInfo) (makes : Makes p b) where
  size_is : breaks rule.Size past p ≡ (b.size == 0)
  unfolding breaks
  size_is = rw makes.1 (or-false (b.size == 0))

  usage_is : breaks rule.Usage past p ≡ is_outside 3 b.usage.0
  unfolding breaks
  usage_is = rw makes.1 (or-false (is_outside 3 b.usage.0))

  memory_is : breaks rule.MemorySize past p ≡ nat_lt 67108864 (round_up b.size 16)
  unfolding breaks
  memory_is = rw makes.1 refl

  abbrev broken : Rule → Bool
  broken r = breaks r past p

  abbrev later : List Rule
  later = rule.MemorySize ∷ []

  pub asks_nothing : b.size ≡ 0 → first_asked past p ≡ Some rule.Size
  asks_nothing none = first_yes broken rule.Size (rule.Usage ∷ later) (size_is ∙ eq-eqb b.size 0 none)

  pub asks_usage : (b.size ≡ 0 → ⊥) → (b.usage.0 ≡ 0) ⊎ (3 < b.usage.0) → first_asked past p ≡ Some rule.Usage
  asks_usage some bad =
      let e : breaks rule.Size past p ≡ false = size_is ∙ ne_eqb b.size 0 some in
      let outside : is_outside 3 b.usage.0 ≡ true = elim bad [ inl none ↦ or_left _ _ (eq-eqb b.usage.0 0 none) | inr many ↦ or_right (b.usage.0 == 0) _ (lt-ltb 3 b.usage.0 many) ] in
      first_no broken rule.Size (rule.Usage ∷ later) e ∙ first_yes broken rule.Usage later (usage_is ∙ outside)

  within : (b.usage.0 ≡ 0 → ⊥) → b.usage.0 ≤ 3 → breaks rule.Usage past p ≡ false
  within used known = usage_is ∙ or_from (b.usage.0 == 0) (nat_lt 3 b.usage.0) (ne_eqb b.usage.0 0 used) (le-ltb 3 b.usage.0 known)

  pub asks_much : (b.size ≡ 0 → ⊥) → (b.usage.0 ≡ 0 → ⊥) → b.usage.0 ≤ 3 → 67108864 < b.size → first_asked past p ≡ Some rule.MemorySize
  asks_much some used known many =
      let e : breaks rule.Size past p ≡ false = size_is ∙ ne_eqb b.size 0 some in
      let more : 67108864 < round_up b.size 16 = omega arith in
      let f : breaks rule.MemorySize past p ≡ true = memory_is ∙ lt-ltb 67108864 (round_up b.size 16) more in
      first_no broken rule.Size (rule.Usage ∷ later) e ∙ first_no broken rule.Usage later (within used known) ∙ first_yes broken rule.MemorySize [] f

  pub asks_well : (b.size ≡ 0 → ⊥) → (b.usage.0 ≡ 0 → ⊥) → b.usage.0 ≤ 3 → b.size ≤ 67108864 → first_asked past p ≡ None
  asks_well some used known few =
      let e : breaks rule.Size past p ≡ false = size_is ∙ ne_eqb b.size 0 some in
      let less : round_up b.size 16 ≤ 67108864 = omega arith in
      let f : breaks rule.MemorySize past p ≡ false = memory_is ∙ le-ltb 67108864 (round_up b.size 16) less in
      first_no broken rule.Size (rule.Usage ∷ later) e ∙ first_no broken rule.Usage later (within used known) ∙ first_no broken rule.MemorySize [] f
