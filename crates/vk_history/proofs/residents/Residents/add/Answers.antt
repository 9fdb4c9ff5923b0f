use Rattle.std.proofs.Common.{◌≡◌, ◌∷◌, [], ℕ}
use Rattle.std.proofs.lemmas.List.Elements.{Contains-append_left, Contains-append_right}
use Rattle.vk_ids.specs.Ids.{value_of}
use Rattle.vk_model.proofs.Lists.Members.{contains-head, none_in}
use Rattle.vk_history.proofs.Living.Residents.{entered, stays}
use Rattle.vk_history.proofs.residents.Residents.add.Goals as goal

pub returns-in_ok-push-in-Some-clause-kept : goal.returns-in_ok-push-in-Some-clause-kept
returns-in_ok-push-in-Some-clause-kept c =
    let next = c.push.new.self in
    let before = c.in-Some.resources.now.items in
    stays (λ v. v.items) (value_of (c.get_mut.follows.lender next)) (value_of c.args.self.now.by_pool) c.args.pool next (rw c.in-Some.is at (c.get_mut.follows.holds next))
    (λ r has. rw c.in_ok-push-in-Some.ensures.items (Contains-append_left before (c.args.id ∷ []) r (rw (← c.in-Some.ensures.value) at has)))

pub returns-in_ok-push-in-Some-clause-here : goal.returns-in_ok-push-in-Some-clause-here
returns-in_ok-push-in-Some-clause-here c =
    let next = c.push.new.self in
    let before = c.in-Some.resources.now.items in
    entered (λ v. v.items) (value_of (c.get_mut.follows.lender next)) (value_of c.args.self.now.by_pool) c.args.pool next (rw c.in-Some.is at (c.get_mut.follows.holds next)) c.args.id
    (rw c.in_ok-push-in-Some.ensures.items (Contains-append_right before (c.args.id ∷ []) c.args.id (contains-head c.args.id [])))

pub returns-in_ok-put-in-None-clause-kept : goal.returns-in_ok-put-in-None-clause-kept
returns-in_ok-put-in-None-clause-kept c =
    let left = c.get_mut.follows.lender-at-none in
    let same : (i : ℕ) → value_of left i ≡ value_of c.args.self.now.by_pool i = c.get_mut.follows.holds-at-none in
    λ q r has. stays (λ v. v.items) (value_of c.put.new.self) (value_of left) c.args.pool c.push-in-None.new.self c.in_ok-put-in-None.ensures.after
    (λ t had. absurd (none_in t (rw (same c.args.pool, ← c.in-None.ensures.value) at had))) q r (rw (← same q) at has)
