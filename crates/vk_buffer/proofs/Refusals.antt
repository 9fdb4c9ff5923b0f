-- What is so of a binding that no rule refuses.
use Rattle.std.proofs.Common.{◌≡◌, ℕ, ◌+◌, ◌≤◌, Bool, true, false, Some, None, cond, refl}
use Rattle.std.proofs.lemmas.Bool.{ltb-false}
use Rattle.vk_model.specs.declared.resource.Kind.{Kind}
use Rattle.vk_model.specs.declared.resource.Need.{Need}
use Rattle.vk_model.specs.declared.rule.Rule.{Rule}
use Rattle.vk_model.specs.declared.rule.Rule.TheVariants as rule
use Rattle.vk_buffer.specs.BoundMemory.{BoundMemory, refusal, is_wrong_type, ends_past, is_misplaced, is_aliased}

-- the second and the last of four tests of which none passes
none_of_four : (a b c d : Bool) (p q r s : Rule) → cond a (Some p) (cond b (Some q) (cond c (Some r) (cond d (Some s) None))) ≡ None → (b ≡ false) × (d ≡ false)
none_of_four true b c d p q r s e = absurd cc
none_of_four false true c d p q r s e = absurd cc
none_of_four false false true d p q r s e = absurd cc
none_of_four false false false true p q r s e = absurd cc
none_of_four false false false false p q r s e = (refl, refl)

pub allowed : (s : BoundMemory) (o : ℕ) (need : Need) (k : Kind) → refusal s o need k ≡ None → (o + need.size ≤ s.size) × (is_aliased s o need.size k ≡ false)
allowed s o need k e =
    let parts = none_of_four (is_wrong_type s need) (ends_past s o need) (is_misplaced s o need) (is_aliased s o need.size k) rule.MemoryType rule.BindRange rule.BindAlign rule.Aliased e in
    (ltb-false s.size (o + need.size) parts.0, parts.1)
