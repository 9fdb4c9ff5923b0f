-- The clears and copies among nodes, as points come.
use Rattle.std.proofs.Common.{◌≡◌, inl, inr, ℕ, zero, suc, ◌+◌, ◌<◌, ◌≤◌, List, [], ◌∷◌, ◌++◌, reverse, length, take, Bool, true, false, ◌&&◌, eqb, IsTrue, refl, ap, sym, ◌∙◌, subst, arith, Some}
use Rattle.std.proofs.lemmas.Bool.{eqb-true, eqb-false, lt-leb, le-leb}
use Rattle.std.proofs.lemmas.Grind.{common_steps}
use Rattle.std.proofs.lemmas.List.{append-nil}
use Rattle.std.proofs.lemmas.List.Elements.{filter-append}
use Rattle.std.proofs.lemmas.List.Sums.{sum_by-append}
use Rattle.std.proofs.lemmas.Option.{slice_get_within}
use Rattle.std.specs.Prelude.{Contains, slice_get, count_by, ◌==◌, if◌then◌else◌}
use Rattle.std.specs.List.{filter}
use Rattle.vk_model.specs.Sync.Node.{Node, Act, Hosts, Waits, Signals, Runs, Depends, SetOf}
use Rattle.vk_model.specs.Sync.Edge.{is_command}
use Rattle.vk_model.specs.Sync.Before.{IsNumbered}
use Rattle.vk_model.proofs.Sync.Numbers.{number_below}
use Rattle.vk_model.proofs.Lists.Members.{none_in, contains-cons, contains-head, contains-tail}
use Rattle.vk_order.specs.declared.lines.Line.{Line}
use Rattle.vk_order.specs.declared.lines.Line.TheVariants.{Commands as OfCommands}
use Rattle.vk_order.specs.Lines.{place, on_line}
use Rattle.vk_order.proofs.PlaceLemmas.{place-top}
use Rattle.vk_offers.specs.IsOffers.{commands_in}
use Rattle.vk_model.proofs.Lists.Items.{get_before, push_new, push_cases}

pub reversed : (n : Node) (ns : List Node) → reverse (n ∷ ns) ≡ reverse ns ++ n ∷ []
reversed n ns = grind (arith, common_steps)

one_left : (n : Node) (t : Bool) → is_command n.act ≡ t → filter (λ m. is_command m.act) (n ∷ []) ≡ (if t then n ∷ [] else [])
one_left n true e = rw e refl
one_left n false e = rw e refl

node_more : (n : Node) (ns : List Node) (t : Bool) → is_command n.act ≡ t → commands_in (n ∷ ns) ≡ commands_in ns ++ (if t then n ∷ [] else [])
node_more n ns t e =
    ap (λ (ms : List Node). filter (λ m. is_command m.act) ms) (reversed n ns) ∙ filter-append (λ m. is_command m.act) (reverse ns) (n ∷ []) ∙ ap (λ (ms : List Node). commands_in ns ++ ms) (one_left n t e)

-- a node that is none, and one that is
pub other_node : (n : Node) (ns : List Node) → is_command n.act ≡ false → commands_in (n ∷ ns) ≡ commands_in ns
other_node n ns e = node_more n ns false e ∙ append-nil (commands_in ns)

pub command_node : (n : Node) (ns : List Node) → is_command n.act ≡ true → commands_in (n ∷ ns) ≡ commands_in ns ++ n ∷ []
command_node n ns e = node_more n ns true e

-- ---- a list with one item more

take_before : {X : Type 0} (xs ys : List X) (j : ℕ) → j ≤ length xs → take j (xs ++ ys) ≡ take j xs
take_before xs ys zero le = refl
take_before [] ys (suc j) le = absurd (omega arith)
take_before (x ∷ xs) ys (suc j) le = ap (λ (zs : List _). x ∷ zs) (take_before xs ys j (omega arith))

take_whole : {X : Type 0} (xs ys : List X) → take (length xs) (xs ++ ys) ≡ xs
take_whole [] ys = refl
take_whole (x ∷ xs) ys = ap (λ (zs : List _). x ∷ zs) (take_whole xs ys)

-- ---- members

pub command_at : (ns : List Node) (j : ℕ) (n : Node) → slice_get (commands_in ns) j ≡ Some n → Contains ns n × IsTrue (is_command n.act)
command_at [] j n e = absurd cc
command_at (m ∷ ns) j n e = go (is_command m.act) refl (command_at ns j n)
  where
    go : (t : Bool) → is_command m.act ≡ t → (slice_get (commands_in ns) j ≡ Some n → Contains ns n × IsTrue (is_command n.act)) → Contains (m ∷ ns) n × IsTrue (is_command n.act)
    go false is rest = let h = rest (subst (λ (ms : List Node). slice_get ms j ≡ Some n) (other_node m ns is) e) in (contains-tail m ns n h.0, h.1)
    go true is rest = elim (push_cases (commands_in ns) m n j (subst (λ (ms : List Node). slice_get ms j ≡ Some n) (command_node m ns is) e)) [
      | inl old ↦ (let h = rest old in (contains-tail m ns n h.0, h.1))
      | inr new ↦ (subst (λ (k : Node). Contains (m ∷ ns) k) new.1 (contains-head m ns), subst (λ (k : Node). IsTrue (is_command k.act)) new.1 is)
    ]

-- each command has its place
pub has_place : (ns : List Node) (n : Node) → Contains ns n → IsTrue (is_command n.act) → (j : ℕ) × (slice_get (commands_in ns) j ≡ Some n)
has_place [] n c is = absurd (none_in n c)
has_place (m ∷ ns) n c is = elim (contains-cons m ns n c) [
  | inl same ↦ (length (commands_in ns), rw (command_node m ns (subst (λ (k : Node). is_command k.act ≡ true) (sym same) is)) (push_new (commands_in ns) m ∙ ap (λ (k : Node). Some k) same))
  | inr old ↦ (let h = has_place ns n old is in (h.0, go h.0 h.1 (is_command m.act) refl))
]
  where
    go : (j : ℕ) → slice_get (commands_in ns) j ≡ Some n → (t : Bool) → is_command m.act ≡ t → slice_get (commands_in (m ∷ ns)) j ≡ Some n
    go j e false isnt = rw (other_node m ns isnt) e
    go j e true is = rw (command_node m ns is) (get_before (commands_in ns) (m ∷ []) j (slice_get_within (commands_in ns) j n e) ∙ e)

-- ---- how many there are on a queue

-- whether a node is on a queue
abbrev pub on_queue : ℕ → Node → Bool
on_queue q n = n.point.queue == q

swapped : (a b : ℕ) → eqb a b ≡ eqb b a
swapped a b = go (eqb a b) (eqb b a) refl refl
  where
    go : (s t : Bool) → eqb a b ≡ s → eqb b a ≡ t → s ≡ t
    go true true e f = refl
    go false false e f = refl
    go true false e f = absurd (eqb-false b a f (sym (eqb-true a b e)))
    go false true e f = absurd (eqb-false a b e (sym (eqb-true b a f)))

pub of_line : (q : ℕ) (n : Node) → on_line (OfCommands q) n ≡ (is_command n.act && on_queue q n)
of_line q n = go n.act
  where
    go : (a : Act) → on_line (OfCommands q) (record n { act = a }) ≡ (is_command a && on_queue q n)
    go (Hosts x) = refl
    go (Waits s) = refl
    go (Signals s) = refl
    go (Runs c) = swapped q n.point.queue
    go (Depends (SetOf v k) e) = refl
    go (Depends r e) = refl

counted_more : (q : ℕ) (os : List Node) (n : Node) (t : Bool) → on_queue q n ≡ t → count_by (on_queue q) (os ++ n ∷ []) ≡ count_by (on_queue q) os + (if t then 1 else 0)
counted_more q os n t e =
    let whole : count_by (on_queue q) (os ++ n ∷ []) ≡ count_by (on_queue q) os + count_by (on_queue q) (n ∷ []) = sum_by-append (λ m. if on_queue q m then 1 else 0) os (n ∷ []) in
    let one : count_by (on_queue q) (n ∷ []) ≡ (if t then 1 else 0) = last t e in
    omega arith
  where
    last : (t : Bool) → on_queue q n ≡ t → count_by (on_queue q) (n ∷ []) ≡ (if t then 1 else 0)
    last true is = rw is refl
    last false is = rw is refl

-- the count at a number is kept where a node is added that hasn't a lower one
pub place_kept : (n : Node) (ns : List Node) (l : Line) (k : ℕ) → k ≤ n.number → place (n ∷ ns) l k ≡ place ns l k
place_kept n ns l k le = rw (lt-leb (suc n.number) k (omega arith)) refl

pub place_next : (n : Node) (ns : List Node) (l : Line) (k : ℕ) (t : Bool) → n.number < k → on_line l n ≡ t → place (n ∷ ns) l k ≡ place ns l k + (if t then 1 else 0)
place_next n ns l k true lt e = rw (le-leb (suc n.number) k (omega arith), e) refl
place_next n ns l k false lt e = rw (le-leb (suc n.number) k (omega arith), e) (omega arith)

-- all of them
pub all_on : (ns : List Node) → IsNumbered ns → (q : ℕ) → place ns (OfCommands q) (length ns) ≡ count_by (on_queue q) (commands_in ns)
all_on [] numbers q = refl
all_on (n ∷ ns) numbers q = go (is_command n.act) (on_queue q n) refl refl (all_on ns numbers.1 q)
  where
    number : n.number ≡ length ns
    number = numbers.0

    go : (t u : Bool) → is_command n.act ≡ t → on_queue q n ≡ u → place ns (OfCommands q) (length ns) ≡ count_by (on_queue q) (commands_in ns)
        → place (n ∷ ns) (OfCommands q) (suc (length ns)) ≡ count_by (on_queue q) (commands_in (n ∷ ns))
    go false u e f rest =
        let more = place_next n ns (OfCommands q) (suc (length ns)) false (omega (arith, number)) (of_line q n ∙ ap (λ (t : Bool). t && on_queue q n) e) in
        let beyond = place-top ns numbers.1 (OfCommands q) (suc (length ns)) (omega arith) in
        let same : count_by (on_queue q) (commands_in (n ∷ ns)) ≡ count_by (on_queue q) (commands_in ns) = ap (λ (os : List Node). count_by (on_queue q) os) (other_node n ns e) in
        omega arith
    go true u e f rest =
        let more = place_next n ns (OfCommands q) (suc (length ns)) u (omega (arith, number)) (of_line q n ∙ ap (λ (t : Bool). t && on_queue q n) e ∙ f) in
        let beyond = place-top ns numbers.1 (OfCommands q) (suc (length ns)) (omega arith) in
        let same : count_by (on_queue q) (commands_in (n ∷ ns)) ≡ count_by (on_queue q) (commands_in ns ++ n ∷ []) = ap (λ (os : List Node). count_by (on_queue q) os) (command_node n ns e) in
        let counted = counted_more q (commands_in ns) n u f in
        omega arith

-- those before one of them
pub before_on : (ns : List Node) → IsNumbered ns → (q j : ℕ) (n : Node) → slice_get (commands_in ns) j ≡ Some n → place ns (OfCommands q) n.number ≡ count_by (on_queue q) (take j (commands_in ns))
before_on [] numbers q j n e = absurd cc
before_on (m ∷ ns) numbers q j n e = go (is_command m.act) refl (before_on ns numbers.1 q j n)
  where
    number : m.number ≡ length ns
    number = numbers.0

    go : (t : Bool) → is_command m.act ≡ t → (slice_get (commands_in ns) j ≡ Some n → place ns (OfCommands q) n.number ≡ count_by (on_queue q) (take j (commands_in ns)))
        → place (m ∷ ns) (OfCommands q) n.number ≡ count_by (on_queue q) (take j (commands_in (m ∷ ns)))
    go false is rest =
        let there = subst (λ (ms : List Node). slice_get ms j ≡ Some n) (other_node m ns is) e in
        let low = number_below ns numbers.1 n (command_at ns j n there).0 in
        place_kept m ns (OfCommands q) n.number (omega (arith, number)) ∙ rest there ∙ ap (λ (os : List Node). count_by (on_queue q) (take j os)) (sym (other_node m ns is))
    go true is rest = elim (push_cases (commands_in ns) m n j (subst (λ (ms : List Node). slice_get ms j ≡ Some n) (command_node m ns is) e)) [
      | inl old ↦ (let low = number_below ns numbers.1 n (command_at ns j n old).0 in let lt = slice_get_within (commands_in ns) j n old in
          place_kept m ns (OfCommands q) n.number (omega (arith, number)) ∙ rest old ∙ ap (λ (os : List Node). count_by (on_queue q) os) (sym (take_before (commands_in ns) (m ∷ []) j (omega arith)))
          ∙ ap (λ (os : List Node). count_by (on_queue q) (take j os)) (sym (command_node m ns is)))
      | inr new ↦ (let own : m.number ≡ n.number = ap (λ (k : Node). k.number) new.1 in
          place_kept m ns (OfCommands q) n.number (omega arith) ∙ ap (λ (k : ℕ). place ns (OfCommands q) k) (sym own ∙ number) ∙ all_on ns numbers.1 q
          ∙ ap (λ (os : List Node). count_by (on_queue q) os) (sym (take_whole (commands_in ns) (m ∷ [])))
          ∙ ap (λ (k : ℕ). count_by (on_queue q) (take k (commands_in ns ++ m ∷ []))) (sym new.0)
          ∙ ap (λ (os : List Node). count_by (on_queue q) (take j os)) (sym (command_node m ns is)))
    ]
