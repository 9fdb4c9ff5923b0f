-- How many pieces are left: no more than those of all nodes, and one fewer when one has run; and what is ready, by names. Other crates cite it.
use Rattle.std.proofs.Common.{◌≡◌, inl, inr, ℕ, zero, suc, ◌<◌, ◌≤◌, List, [], ◌∷◌, map, length, Bool, true, false, not, ◌||◌, eq-eqb, refl, ap, sym, ◌∙◌, subst, arith, Some}
use Rattle.std.proofs.lemmas.Option.{slice_get_within}
use Rattle.std.specs.Prelude.{Contains, slice_get, if◌then◌else◌}
use Rattle.std.specs.List.{filter, sum_by}
use Rattle.std.proofs.lemmas.List.{length-map}
use Rattle.std.proofs.lemmas.List.FromFn.{length-range_with_len}
use Rattle.std.proofs.lemmas.List.Sums.{sum_by-cons, sum_by_push, length-filter, count_by-le-length}
use Rattle.vk_model.specs.Basics.{below}
use Rattle.vk_model.specs.Trace.Point.{Past}
use Rattle.vk_model.specs.Sync.Node.{Node, Act, Hosts, Waits, Signals, Runs, Depends, nodes}
use Rattle.vk_model.specs.Sync.Edge.{is_command}
use Rattle.vk_model.specs.Run.Pieces.{pieces}
use Rattle.vk_model.specs.Run.Runs.{Name, same_name, is_done, node_pieces, offered}
use Rattle.vk_model.proofs.Lists.Members.{none_in, contains-cons, filtered}
use Rattle.vk_sync.specs.declared.board.Command.{Command}
use Rattle.vk_sync.specs.declared.ready.Piece.{Piece}
use Rattle.vk_sync.specs.Ready.{ready}
use Rattle.vk_offers.specs.IsOffers.{commands_in, piece_count, number_of, name_of, IsStarted, AreStarted}
use Rattle.vk_offers.proofs.Commands.{other_node, command_node}
use Rattle.vk_offers.proofs.Offering.{same_offers}
use Rattle.vk_offers.proofs.Steps.{ready_has}
use Rattle.vk_model.proofs.Lists.Items.{item_at}

-- ---- sums

-- a sum over some nodes is within that over all
commands_within : (f : Node → ℕ) (ns : List Node) → sum_by f (commands_in ns) ≤ sum_by f ns
commands_within f [] = omega arith
commands_within f (n ∷ ns) = go (is_command n.act) refl (commands_within f ns)
  where
    go : (t : Bool) → is_command n.act ≡ t → sum_by f (commands_in ns) ≤ sum_by f ns → sum_by f (commands_in (n ∷ ns)) ≤ sum_by f (n ∷ ns)
    go true e rest =
        let more = ap (λ (ms : List Node). sum_by f ms) (command_node n ns e) ∙ sum_by_push f (commands_in ns) n in
        let all = sum_by-cons f n ns in
        omega (arith, more, all, rest)
    go false e rest =
        let same = ap (λ (ms : List Node). sum_by f ms) (other_node n ns e) in
        let all = sum_by-cons f n ns in
        omega (arith, same, all, rest)

-- where each item of a list has no more than that at its place in another
sums_within : {X Y : Type 0} (f : X → ℕ) (g : Y → ℕ) (xs : List X) (ys : List Y) → length xs ≡ length ys
    → ((j : ℕ) (x : X) (y : Y) → slice_get xs j ≡ Some x → slice_get ys j ≡ Some y → f x ≤ g y) → sum_by f xs ≤ sum_by g ys
sums_within f g [] [] size each = omega arith
sums_within f g [] (y ∷ ys) size each = omega arith
sums_within f g (x ∷ xs) [] size each = absurd (omega (arith, size))
sums_within f g (x ∷ xs) (y ∷ ys) size each =
    let rest = sums_within f g xs ys (omega (arith, size)) (λ j a b at_a at_b. each (suc j) a b at_a at_b) in
    let one = each zero x y refl refl in
    let a = sum_by-cons f x xs in
    let b = sum_by-cons g y ys in
    omega (arith, rest, one, a, b)

-- ---- the pieces of a node

node_count : (past : Past) (n : Node) (a : Act) → length (node_pieces past n a) ≡ piece_count past a
node_count past n (Runs c) = length-map (below (length (pieces past c))) (λ k. (n.number, k)) ∙ length-range_with_len 0 (length (pieces past c))
node_count past n (Hosts x) = refl
node_count past n (Waits s) = refl
node_count past n (Signals s) = refl
node_count past n (Depends r e) = refl

-- a command has no more pieces left than its node has
left_within : (past : Past) (done : List Name) (n : Node) (c : Command) → IsStarted past done n c → length c.left ≤ length (node_pieces past n n.act)
left_within past done n c is =
    let left : length c.left ≡ length (filter (λ k. not (is_done done (n.number, k))) (below (piece_count past n.act))) = ap (λ (ks : List ℕ). length ks) is.left in
    let chosen = length-filter (λ k. not (is_done done (n.number, k))) (below (piece_count past n.act)) in
    let fewer = count_by-le-length (λ k. not (is_done done (n.number, k))) (below (piece_count past n.act)) in
    let all = length-range_with_len 0 (piece_count past n.act) in
    let own = node_count past n n.act in
    omega (arith, left, chosen, fewer, all, own)

-- the pieces that are left of all commands are no more than those of all nodes
pub pieces_left : (past : Past) (done : List Name) (cs : List Command) → AreStarted past done (commands_in (nodes past)) cs
    → sum_by (λ c. length c.left) cs ≤ sum_by (λ n. length (node_pieces past n n.act)) (nodes past)
pieces_left past done cs started =
    let each = sums_within (λ c. length c.left) (λ n. length (node_pieces past n n.act)) cs (commands_in (nodes past)) started.lengths
    (λ j c n at_c at_n. left_within past done n c (started.each j n c at_n at_c)) in
    let all = commands_within (λ n. length (node_pieces past n n.act)) (nodes past) in
    omega (arith, each, all)

-- ---- a piece that has run is left no more

-- where one item has less than that at its place
sums_less : {X Y : Type 0} (f : X → ℕ) (g : Y → ℕ) (xs : List X) (ys : List Y) → length xs ≡ length ys
    → ((j : ℕ) (x : X) (y : Y) → slice_get xs j ≡ Some x → slice_get ys j ≡ Some y → f x ≤ g y)
    → (i : ℕ) (a : X) (b : Y) → slice_get xs i ≡ Some a → slice_get ys i ≡ Some b → f a < g b → sum_by f xs < sum_by g ys
sums_less f g [] ys size each i a b at_a at_b less = absurd cc
sums_less f g (x ∷ xs) [] size each i a b at_a at_b less = absurd cc
sums_less {X} {Y} f g (x ∷ xs) (y ∷ ys) size each zero a b at_a at_b less =
    let rest = sums_within f g xs ys (omega (arith, size)) (λ j v w at_v at_w. each (suc j) v w at_v at_w) in
    let this : x ≡ a = cc in
    let that : y ≡ b = cc in
    let one : f x < g y = subst (λ (v : X). f v < g y) (sym this) (subst (λ (w : Y). f a < g w) (sym that) less) in
    let c = sum_by-cons f x xs in
    let d = sum_by-cons g y ys in
    omega (arith, rest, one, c, d)
sums_less f g (x ∷ xs) (y ∷ ys) size each (suc i) a b at_a at_b less =
    let rest = sums_less f g xs ys (omega (arith, size)) (λ j v w at_v at_w. each (suc j) v w at_v at_w) i a b at_a at_b less in
    let one = each zero x y refl refl in
    let c = sum_by-cons f x xs in
    let d = sum_by-cons g y ys in
    omega (arith, rest, one, c, d)

-- fewer numbers pass a test that is harder
fewer_kept : (p q : ℕ → Bool) → ((k : ℕ) → p k ≡ true → q k ≡ true) → (ks : List ℕ) → length (filter p ks) ≤ length (filter q ks)
fewer_kept p q more [] = omega arith
fewer_kept p q more (k ∷ ks) = go (p k) (q k) refl refl (fewer_kept p q more ks)
  where
    go : (a b : Bool) → p k ≡ a → q k ≡ b → length (filter p ks) ≤ length (filter q ks) → length (if a then k ∷ filter p ks else filter p ks) ≤ length (if b then k ∷ filter q ks else filter q ks)
    go true true e f rest = omega arith
    go true false e f rest = let g = more k e in absurd cc
    go false true e f rest = omega arith
    go false false e f rest = rest

pub one_fewer_kept : (p q : ℕ → Bool) → ((k : ℕ) → p k ≡ true → q k ≡ true) → (ks : List ℕ) (x : ℕ) → Contains ks x → p x ≡ false → q x ≡ true → length (filter p ks) < length (filter q ks)
one_fewer_kept p q more [] x c fails passes = absurd (none_in x c)
one_fewer_kept p q more (k ∷ ks) x c fails passes = elim (contains-cons k ks x c) [
  | inl same ↦ first same
  | inr later ↦ go (p k) (q k) refl refl (one_fewer_kept p q more ks x later fails passes)
]
  where
    first : k ≡ x → length (filter p (k ∷ ks)) < length (filter q (k ∷ ks))
    first same =
        let no : p k ≡ false = ap p same ∙ fails in
        let yes : q k ≡ true = ap q same ∙ passes in
        let rest = fewer_kept p q more ks in
        rw (no, yes) (omega (arith, rest))

    go : (a b : Bool) → p k ≡ a → q k ≡ b → length (filter p ks) < length (filter q ks) → length (if a then k ∷ filter p ks else filter p ks) < length (if b then k ∷ filter q ks else filter q ks)
    go true true e f rest = omega arith
    go true false e f rest = let g = more k e in absurd cc
    go false true e f rest = omega arith
    go false false e f rest = rest

module _ (past : Past) (done : List Name) (piece : Piece) where
  abbrev ran : List Name
  ran = name_of past piece ∷ done

  still : (number k : ℕ) → not (is_done ran (number, k)) ≡ true → not (is_done done (number, k)) ≡ true
  still number k = go (same_name (number, k) (name_of past piece)) (is_done done (number, k))
    where
      go : (a b : Bool) → not (a || b) ≡ true → not b ≡ true
      go true b e = absurd cc
      go false b e = e

  no_more : (number : ℕ) → number ≡ (name_of past piece).0 → not (is_done ran (number, piece.index)) ≡ false
  no_more number same = rw (eq-eqb number (name_of past piece).0 same, eq-eqb piece.index piece.index refl) refl

  -- when a ready piece has run fewer pieces are left
  pub one_less : (cs : List Command) → AreStarted past done (commands_in (nodes past)) cs → Contains (ready cs) piece → (later : List Command) → AreStarted past ran (commands_in (nodes past)) later
      → sum_by (λ c. length c.left) later < sum_by (λ c. length c.left) cs
  one_less cs started at later after =
      let has = ready_has cs piece at in
      let low = slice_get_within cs piece.command has.0 has.1 in
      let size = started.lengths in
      let sizes = after.lengths in
      let n = item_at (commands_in (nodes past)) piece.command (omega (arith, low, size)) in
      let new = item_at later piece.command (omega (arith, low, size, sizes)) in
      let old_left = (started.each piece.command n.0 has.0 n.1 has.1).left in
      let new_left = (after.each piece.command n.0 new.0 n.1 new.1).left in
      let number : n.0.number ≡ (name_of past piece).0 = sym (ap number_of n.1) in
      let all = below (piece_count past n.0.act) in
      let was = filtered (λ k. not (is_done done (n.0.number, k))) all piece.index (subst (λ (ks : List ℕ). Contains ks piece.index) old_left has.2) in
      let fewer = one_fewer_kept (λ k. not (is_done ran (n.0.number, k))) (λ k. not (is_done done (n.0.number, k))) (still n.0.number) all piece.index was.0 (no_more n.0.number number) was.1 in
      let now = ap (λ (ks : List ℕ). length ks) new_left in
      let before = ap (λ (ks : List ℕ). length ks) old_left in
      let less : length new.0.left < length has.0.left = omega (arith, fewer, now, before) in
      sums_less (λ c. length c.left) (λ c. length c.left) later cs (omega (arith, size, sizes)) each piece.command new.0 has.0 new.1 has.1 less
    where
      each : (j : ℕ) (d c : Command) → slice_get later j ≡ Some d → slice_get cs j ≡ Some c → length d.left ≤ length c.left
      each j d c at_d at_c =
          let low = slice_get_within cs j c at_c in
          let size = started.lengths in
          let n = item_at (commands_in (nodes past)) j (omega (arith, low, size)) in
          let old_left = (started.each j n.0 c n.1 at_c).left in
          let new_left = (after.each j n.0 d n.1 at_d).left in
          let fewer = fewer_kept (λ k. not (is_done ran (n.0.number, k))) (λ k. not (is_done done (n.0.number, k))) (still n.0.number) (below (piece_count past n.0.act)) in
          let now = ap (λ (ks : List ℕ). length ks) new_left in
          let before = ap (λ (ks : List ℕ). length ks) old_left in
          omega (arith, fewer, now, before)

-- ---- what is ready

-- by names it is what is offered
pub ready_offered : (past : Past) (done : List Name) (cs : List Command) → AreStarted past done (commands_in (nodes past)) cs → map (name_of past) (ready cs) ≡ offered past done
ready_offered past done cs started = same_offers past done cs started
