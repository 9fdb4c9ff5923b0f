use Rattle.std.proofs.Common.{◌≡◌, [], ℕ, List, Some, None, Bool, Option, subst, sym, ◌∙◌, arith, rules}
use Rattle.std.specs.Prelude.{slice_get, Contains}
use Rattle.std.proofs.lemmas.Option.{slice_get_within}
use Rattle.vk_model.specs.Sync.Node.{Node}
use Rattle.vk_model.specs.Sync.Before.{before}
use Rattle.vk_order.specs.declared.acts.Row.{Row}
use Rattle.vk_order.specs.NodeViews.{node_of, nodes_after}
use Rattle.vk_order.specs.Inner.Availability.{IsUntil}
use Rattle.vk_order.proofs.NamedLemmas.{node_there}
use Rattle.vk_order.proofs.reads.Reader.is_in_time.Goals as goal

abbrev At : List Row → ℕ → (Node → Bool) → Type 0
At rows u test = (y : Row) × (slice_get rows u ≡ Some y) × ((n : Node) → Contains (nodes_after [] rows) n → test n ≡ before (nodes_after [] rows) n (node_of u y))

until_at : (rows : List Row) (o : Option ℕ) (u : ℕ) (test : Node → Bool) → o ≡ Some u → IsUntil rows o test → At rows u test
until_at rows o u test e h = subst (λ (o : Option ℕ). IsUntil rows o test) e h

until_none : (rows : List Row) (o : Option ℕ) (test : Node → Bool) → o ≡ None → IsUntil rows o test → IsUntil rows None test
until_none rows o test e h = subst (λ (o : Option ℕ). IsUntil rows o test) e h

pub returns-in_default : goal.returns-in_default
returns-in_default c = λ in_time r until kept at.
    sym (until_none c.args.rows.now c.args.self.now.until in_time (search rules) until (node_of c.args.number r) (node_there c.args.rows.now c.args.number r at))

pub returns-then-until-rows : goal.returns-then-until-rows
returns-then-until-rows c = λ in_time r until kept at.
    let known = until_at c.args.rows.now c.args.self.now.until c.in-Some.until in_time (search rules) until in
    c.is_before.ensures r known.0 at known.1 kept ∙ sym (known.2 (node_of c.args.number r) (node_there c.args.rows.now c.args.number r at))

pub returns-else-until-rows : goal.returns-else-until-rows
returns-else-until-rows c = λ in_time r until kept at.
    let known = until_at c.args.rows.now c.args.self.now.until c.in-Some.until in_time (search rules) until in
    let lt = slice_get_within c.args.rows.now c.in-Some.until known.0 known.1 in
    let le = c.if-until-rows.false in
    absurd (omega arith)
