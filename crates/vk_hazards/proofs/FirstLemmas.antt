-- The first node that passes a test.
use Rattle.std.proofs.Common.{◌≡◌, ⊎_elim, ℕ, ◌+◌, ◌<◌, ◌≤◌, length, Bool, true, false, IsTrue, Option, Some, None, is_some, subst, arith}
use Rattle.std.specs.Prelude.{Contains}
use Rattle.std.proofs.lemmas.Bool.{cases_lt}
use Rattle.vk_model.specs.Trace.Point.{Past}
use Rattle.vk_model.specs.Sync.Node.{Node, nodes}
use Rattle.vk_model.proofs.Sync.Numbers.{number_below, numbered}
use Rattle.vk_hazards.specs.declared.hazards.Placed.{Placed}
use Rattle.vk_hazards.specs.Hazards.{node_at}
use Rattle.vk_hazards.specs.Links.{HasNone, HasSome, IsFirst}

-- none of the nodes below a number passes
abbrev pub NoneBelow : Past → (Node → Bool) → ℕ → Type 0
NoneBelow past test k = (n : Node) → Contains (nodes past) n → n.number < k → test n ≡ false

module _ (past : Past) (test : Node → Bool) where
  pub below_next : (k : ℕ) → NoneBelow past test k → ((n : Node) → Contains (nodes past) n → n.number ≡ k → test n ≡ false) → NoneBelow past test (k + 1)
  below_next k below here n cn lt = ⊎_elim (λ (low : n.number < k). below n cn low) (λ (high : k ≤ n.number). here n cn (omega arith)) (cases_lt n.number k)

  pub first_found : (p : Placed) (k : ℕ) → NoneBelow past test k → Contains (nodes past) (node_at p) → p.number ≡ k → IsTrue (test (node_at p)) → IsFirst past test (Some p)
  first_found p k below there is h = record { there = there; passes = h; first = λ m cm lt. below m cm (let low : m.number < p.number = lt in omega arith) }

  pub none_found : (k : ℕ) → NoneBelow past test k → length (nodes past) ≤ k → IsFirst past test None
  none_found k below le = λ n cn. below n cn (let lt = number_below (nodes past) (numbered past) n cn in omega arith)

  -- what is reported, by whether something is
  pub reported_none : (o : Option Placed) → IsFirst past test o → o ≡ None → HasNone past test
  reported_none o first is = subst (λ (p : Option Placed). IsFirst past test p) is first

  pub reported_some : (o : Option Placed) → IsFirst past test o → is_some o ≡ true → HasSome past test
  reported_some (Some p) first is = (node_at p, first.there, first.passes)
  reported_some None first is = absurd cc
