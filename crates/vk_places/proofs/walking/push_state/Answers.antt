use Rattle.std.proofs.Common.{ℕ, ◌+◌, List, sym, subst}
use Rattle.std.specs.Prelude.{All}
use Rattle.std.proofs.lemmas.List.Elements.{All-push}
use Rattle.vk_backing.specs.Passing.{Passing}
use Rattle.vk_resources.specs.Held.{Held}
use Rattle.vk_places.specs.declared.states.State.{State}
use Rattle.vk_places.specs.States.{IsStateOf}
use Rattle.vk_places.specs.Walks.{IsAfter, IsStateAfter}
use Rattle.vk_places.proofs.walking.push_state.Goals as goal

pub returns-in_ok-push : goal.returns-in_ok-push
returns-in_ok-push c = λ sizes t after all.
    let state = c.in_ok-state.state in
    subst (λ (l : List State). All (IsStateAfter sizes t) l) (sym c.in_ok-push.ensures.items)
    (All-push (IsStateAfter sizes t) c.args.states.now.items state all (record {
      device = c.args.device.now;
      after = subst (λ (n : ℕ). IsAfter sizes t (n + 1) c.args.device.now) (sym c.in_ok-state.ensures.0) after;
      state = subst (λ (p : Passing). IsStateOf c.args.device.now.resources p state) c.passes.ensures (subst (λ (r : Held). IsStateOf r c.passes.result.now state) c.resources.ensures c.in_ok-state.ensures.1);
    }))
