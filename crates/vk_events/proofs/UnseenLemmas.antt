-- What happens from one stage to another, as nodes come and more is finished. Other crates cite it.
use Rattle.std.proofs.Common.{◌≡◌, ◌||◌, IsTrue, List, [], ◌∷◌, ◌++◌, reverse, length, Bool, true, false, not, ◌&&◌, refl, ap, sym, ◌∙◌}
use Rattle.std.specs.Prelude.{Contains, if◌then◌else◌}
use Rattle.std.specs.List.{filter}
use Rattle.std.proofs.lemmas.Bool.{lt-ltb}
use Rattle.std.proofs.lemmas.List.Elements.{filter-append}
use Rattle.std.proofs.lemmas.List.Sorted.{IsPermutation-reverse, IsPermutation-sym, Contains-permutation}
use Rattle.vk_model.specs.Trace.Point.{Past}
use Rattle.vk_model.specs.Sync.Node.{Node, nodes}
use Rattle.vk_model.specs.Sync.Before.{before, IsNumbered}
use Rattle.vk_model.specs.Run.Runs.{Stage, Name, is_free, is_done, same_name, node_pieces}
use Rattle.vk_model.specs.Run.CachedRuns.{is_synchronization, node_happened, happening}
use Rattle.vk_model.proofs.Lists.Members.{contains-head, contains-tail, each_of, all_passes}
use Rattle.vk_model.proofs.Sync.Numbers.{number_below, numbered}
use Rattle.vk_events.specs.declared.events.Events.{Events}
use Rattle.vk_events.specs.Happens.{synchronizations, is_finished, is_free_of, unseen, freed_by}
use Rattle.vk_events.specs.IsEvents.{IsEvents}
use Rattle.vk_events.proofs.FreeLemmas.{free_stays, all_same}
use Rattle.vk_events.proofs.LeftLemmas.{reversed, left_same}

-- a list chosen by two tests that agree
pub filter_same : (f g : Node → Bool) (xs : List Node) → ((n : Node) → Contains xs n → f n ≡ g n) → filter f xs ≡ filter g xs
filter_same f g [] same = refl
filter_same f g (x ∷ xs) same =
    ap (λ (b : Bool). if b then x ∷ filter f xs else filter f xs) (same x (contains-head x xs))
    ∙ ap (λ (rest : List Node). if g x then x ∷ rest else rest) (filter_same f g xs (λ n c. same n (contains-tail x xs n c)))

in_reverse : (ns : List Node) (n : Node) → Contains (reverse ns) n → Contains ns n
in_reverse ns n c = Contains-permutation (reverse ns) ns n (IsPermutation-sym ns (reverse ns) (IsPermutation-reverse ns)) c

-- by tests that agree on the nodes
pub unseen_same : (ns : List Node) (was now a b : Node → Bool) → ((n : Node) → Contains ns n → is_free_of ns was n ≡ is_free_of ns now n) → ((n : Node) → Contains ns n → a n ≡ b n) → unseen ns was a ≡ unseen ns now b
unseen_same ns was now a b free same = filter_same _ _ (reverse ns) (λ n c.
    ap (λ (t : Bool). is_synchronization n.act && t && not (a n)) (free n (in_reverse ns n c))
    ∙ ap (λ (t : Bool). is_synchronization n.act && is_free_of ns now n && not t) (same n (in_reverse ns n c)))

-- a node that comes, which wasn't seen
pub unseen_more : (n : Node) (ns : List Node) → IsNumbered (n ∷ ns) → (was now seen : Node → Bool) → ((m : Node) → Contains ns m → now m ≡ was m) → seen n ≡ false
    → unseen (n ∷ ns) now seen ≡ unseen ns was seen ++ freed_by n ns now
unseen_more n ns numbers was now seen same new =
    ap (λ (ms : List Node). filter (λ m. is_synchronization m.act && is_free_of (n ∷ ns) now m && not (seen m)) ms) (reversed n ns)
    ∙ filter-append (λ m. is_synchronization m.act && is_free_of (n ∷ ns) now m && not (seen m)) (reverse ns) (n ∷ [])
    ∙ ap (λ (ms : List Node). ms ++ (if is_synchronization n.act && is_free_of (n ∷ ns) now n && not (seen n) then n ∷ [] else []))
    (filter_same _ _ (reverse ns) (λ m c. ap (λ (t : Bool). is_synchronization m.act && t && not (seen m)) (free_stays n ns numbers m (in_reverse ns m c) was now same)))
    ∙ ap (λ (t : Bool). unseen ns was seen ++ (if is_synchronization n.act && is_free_of (n ∷ ns) now n && not t then n ∷ [] else [])) new
    ∙ ap (λ (t : Bool). unseen ns was seen ++ (if t then n ∷ [] else [])) (and_true (is_synchronization n.act && is_free_of (n ∷ ns) now n))
  where
    and_true : (b : Bool) → (b && true) ≡ b
    and_true true = refl
    and_true false = refl

pub happening_is_unseen : (s e : Stage) → happening s e ≡ unseen (nodes e.front.past) (is_finished e.front.past e.done) (node_happened s)
happening_is_unseen s e = filter_same _ _ (reverse (nodes e.front.past)) (λ n c.
    ap (λ (t : Bool). is_synchronization n.act && (t && is_free e.front.past e.done n) && not (node_happened s n))
    (lt-ltb n.number (length (nodes e.front.past)) (number_below (nodes e.front.past) (numbered e.front.past) n (in_reverse (nodes e.front.past) n c))))

-- what is done stays done
pub finished_more : (past : Past) (done : List Name) (x : Name) (m : Node) → IsTrue (is_finished past done m) → IsTrue (is_finished past (x ∷ done) m)
finished_more past done x m all = each_of (is_done (x ∷ done)) (node_pieces past m m.act) (λ y c. go y (same_name y x) (all_passes (is_done done) (node_pieces past m m.act) y all c))
  where
    go : (y : Name) (b : Bool) → IsTrue (is_done done y) → IsTrue (b || is_done done y)
    go y true h = refl
    go y false h = h

-- what happens when a piece has run
pub happening_by_piece : (s : Stage) (x : Name) → happening s (record s { done = x ∷ s.done })
    ≡ unseen (nodes s.front.past) (is_finished s.front.past (x ∷ s.done)) (is_free_of (nodes s.front.past) (is_finished s.front.past s.done))
happening_by_piece s x =
    happening_is_unseen s (record s { done = x ∷ s.done })
    ∙ unseen_same (nodes s.front.past) (is_finished s.front.past (x ∷ s.done)) (is_finished s.front.past (x ∷ s.done)) (node_happened s) (is_free_of (nodes s.front.past) (is_finished s.front.past s.done)) (λ n c. refl)
    (λ n c. ap (λ (t : Bool). t && is_free s.front.past s.done n) (lt-ltb n.number (length (nodes s.front.past)) (number_below (nodes s.front.past) (numbered s.front.past) n c)))

-- from a stage to itself
filter_none : (f : Node → Bool) (xs : List Node) → ((n : Node) → Contains xs n → f n ≡ false) → filter f xs ≡ []
filter_none f [] none = refl
filter_none f (x ∷ xs) none =
    ap (λ (b : Bool). if b then x ∷ filter f xs else filter f xs) (none x (contains-head x xs))
    ∙ filter_none f xs (λ n c. none n (contains-tail x xs n c))

pub nothing_is_unseen : (s : Stage) → unseen (nodes s.front.past) (is_finished s.front.past s.done) (node_happened s) ≡ []
nothing_is_unseen s = filter_none _ (reverse (nodes s.front.past)) (λ n c.
    ap (λ (t : Bool). is_synchronization n.act && is_free s.front.past s.done n && not (t && is_free s.front.past s.done n))
    (lt-ltb n.number (length (nodes s.front.past)) (number_below (nodes s.front.past) (numbered s.front.past) n (in_reverse (nodes s.front.past) n c)))
    ∙ never (is_synchronization n.act) (is_free s.front.past s.done n))
  where
    never : (a b : Bool) → (a && b && not b) ≡ false
    never true true = refl
    never true false = refl
    never false true = refl
    never false false = refl

-- nothing, where all was seen
pub all_seen : (ns : List Node) (finished seen : Node → Bool) → ((n : Node) → Contains ns n → seen n ≡ true) → unseen ns finished seen ≡ []
all_seen ns finished seen all = filter_none _ (reverse ns) (λ n c.
    ap (λ (t : Bool). is_synchronization n.act && is_free_of ns finished n && not t) (all n (in_reverse ns n c))
    ∙ never (is_synchronization n.act) (is_free_of ns finished n))
  where
    never : (a b : Bool) → (a && b && false) ≡ false
    never true true = refl
    never true false = refl
    never false b = refl

-- by a test of what is finished that agrees on the nodes
free_alike : (ns : List Node) (was now : Node → Bool) → ((m : Node) → Contains ns m → now m ≡ was m) → (n : Node) → is_free_of ns was n ≡ is_free_of ns now n
free_alike ns was now same n = all_same (λ m. not (before ns m n) || was m) (λ m. not (before ns m n) || now m) ns (λ m c. ap (λ (t : Bool). not (before ns m n) || t) (sym (same m c)))

pub unseen_alike : (ns : List Node) (was now seen : Node → Bool) → ((m : Node) → Contains ns m → now m ≡ was m) → unseen ns was seen ≡ unseen ns now seen
unseen_alike ns was now seen same = unseen_same ns was now seen seen (λ n c. free_alike ns was now same n) (λ n c. refl)

-- what is known stays known, where what is finished is told by a test that agrees
pub known_alike : (ev : Events) (ns : List Node) (was now : Node → Bool) (left : List Node) → ((m : Node) → Contains ns m → now m ≡ was m) → IsEvents ev ns was left → IsEvents ev ns now left
known_alike ev ns was now left same is = record {
  numbers = is.numbers;
  total = is.total;
  four = is.four;
  started = is.started;
  counts = is.counts;
  fronts = is.fronts;
  taken = is.taken;
  hanging = is.hanging;
  all = is.all;
  are_fronts = record {
    first = λ m q on c line lt. same m c ∙ is.are_fronts.first m q on c line lt;
    next = λ m q on c line at. same m c ∙ is.are_fronts.next m q on c line at;
    there = is.are_fronts.there;
    commands = λ m c e. is.are_fronts.commands m c (sym (same m c) ∙ e);
  };
  left_are = is.left_are ∙ left_same (is_free_of ns was) (is_free_of ns now) is.taken 0 (synchronizations ns)
      (λ i n at. free_alike ns was now same n);
}
