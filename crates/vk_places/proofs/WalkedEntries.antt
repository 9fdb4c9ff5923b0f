-- The entries of a trace, one after another, with states after some.
use Rattle.std.proofs.Common.{◌≡◌, ◌+◌, ◌++◌, ℕ, List, [], ◌∷◌, subst, sym}
use Rattle.std.specs.Prelude.{All}
use Rattle.std.proofs.lemmas.List.Elements.{All-nil, All-push}
use Rattle.vk_model.specs.declared.entry.Entry.{Entry}
use Rattle.vk_model.specs.Memory.HeapSizes.{HeapSizes}
use Rattle.vk_model.specs.World.Meaning.{Reads}
use Rattle.vk_resources.specs.Held.{Held}
use Rattle.vk_backing.specs.Passing.{Passing}
use Rattle.vk_device.specs.declared.device.Device.{Device}
use Rattle.vk_device.proofs.TracePicks.{parts_in}
use Rattle.vk_device.proofs.WholeTraces.{Replays}
use Rattle.vk_places.specs.declared.states.State.{State}
use Rattle.vk_places.specs.States.{IsStateOf}
use Rattle.vk_places.specs.Walks.{IsAfter, IsStateAfter}

module _ (answer : List ℕ → ℕ → ℕ) (next : List ℕ → ℕ → List ℕ) (config : HeapSizes) (t : List Entry) (held0 : List ℕ) where
  -- what holds after i entries
  pub record Walks (i : ℕ) (states : List State) (d : Device) (held : List ℕ) : Type 0 where
    pub reported : Reads
    pub replays : Replays answer next config t held0 i reported d held
    pub are : All (IsStateAfter config t) states

  pub is_after : (i : ℕ) (reported : Reads) (d : Device) (held : List ℕ) → Replays answer next config t held0 i reported d held → IsAfter config t i d
  is_after i reported d held r = record {
    steps = r.steps;
    stage = r.stage;
    led = r.led;
    at = r.picks.at;
    allocated = r.allots.allocated;
    held = r.allots.has;
    parts = parts_in (r.counts ++ []);
    reached = r.allots.reached [];
  }

  pub walks_start : (d : Device) (held : List ℕ) (states : List State) → states ≡ [] → Replays answer next config t held0 0 [] d held → Walks 0 states d held
  walks_start d held states none r = record { reported = []; replays = r; are = subst (λ (l : List State). All (IsStateAfter config t) l) (sym none) (All-nil (IsStateAfter config t)) }

  pub is_state : (i : ℕ) (reported : Reads) (d : Device) (held : List ℕ) (r : Held) (p : Passing) (s : State) → Replays answer next config t held0 (i + 1) reported d held → r ≡ d.resources → p ≡ d.passes → s.entry ≡ i → IsStateOf r p s → IsStateAfter config t s
  is_state i reported d held r p s replays resources passes entry state = record {
    device = d;
    after = subst (λ (n : ℕ). IsAfter config t (n + 1) d) (sym entry) (is_after (i + 1) reported d held replays);
    state = subst (λ (q : Passing). IsStateOf d.resources q s) passes (subst (λ (h : Held). IsStateOf h p s) resources state);
  }
