-- What is left to be taken is among the nodes. Other crates cite it.
use Rattle.std.proofs.Common.{inl, inr, ℕ, ◌+◌, ◌<◌, List, [], ◌∷◌, length, reverse, Bool, true, false, not, ◌&&◌, subst}
use Rattle.std.specs.Prelude.{Contains, if◌then◌else◌}
use Rattle.std.proofs.lemmas.List.Sorted.{IsPermutation-reverse, IsPermutation-sym, Contains-permutation}
use Rattle.vk_model.specs.Sync.Node.{Node}
use Rattle.vk_model.specs.Run.CachedRuns.{is_synchronization}
use Rattle.vk_model.proofs.Lists.Members.{filtered, contains-cons, contains-head, contains-tail}
use Rattle.vk_model.proofs.Sync.Numbers.{number_below}
use Rattle.vk_events.specs.declared.events.Events.{Events}
use Rattle.vk_events.specs.Happens.{synchronizations}
use Rattle.vk_events.specs.IsEvents.{left_of, IsEvents}

left_in : (f : Node → Bool) (taken : ℕ → Bool) (k : ℕ) (ss : List Node) (n : Node) → Contains (left_of f taken k ss) n → Contains ss n
left_in f taken k [] n c = c
left_in f taken k (m ∷ ss) n c = go (f m && not (taken k)) c (left_in f taken (k + 1) ss n)
  where
    go : (b : Bool) → Contains (if b then m ∷ left_of f taken (k + 1) ss else left_of f taken (k + 1) ss) n → (Contains (left_of f taken (k + 1) ss) n → Contains ss n) → Contains (m ∷ ss) n
    go false c rest = contains-tail m ss n (rest c)
    go true c rest = elim (contains-cons m (left_of f taken (k + 1) ss) n c) [
      | inl same ↦ subst (λ (x : Node). Contains (m ∷ ss) x) same (contains-head m ss)
      | inr later ↦ contains-tail m ss n (rest later)
    ]

-- the next that is left has a number below theirs
pub left_below : (ev : Events) (ns : List Node) (finished : Node → Bool) (n : Node) (rest : List Node) → IsEvents ev ns finished (n ∷ rest) → n.number < length ns
left_below ev ns finished n rest is =
    let among = left_in _ is.taken 0 (synchronizations ns) n (subst (λ (xs : List Node). Contains xs n) is.left_are (contains-head n rest)) in
    let f = filtered (λ (m : Node). is_synchronization m.act) (reverse ns) n among in
    number_below ns is.numbers n (Contains-permutation (reverse ns) ns n (IsPermutation-sym ns (reverse ns) (IsPermutation-reverse ns)) f.0)
