-- What is ready of the commands that were started is what is offered.
use Rattle.std.proofs.Common.{◌≡◌, ℕ, zero, suc, ◌+◌, ◌<◌, List, [], ◌∷◌, ◌++◌, map, reverse, length, take, Bool, true, false, not, ◌&&◌, ◌||◌, eqb, IsTrue, refl, ap, sym, ◌∙◌, subst, arith, Some}
use Rattle.std.proofs.lemmas.Bool.{eqb-true}
use Rattle.std.proofs.lemmas.Simd.{map-map}
use Rattle.std.proofs.lemmas.List.Sums.{sum_by-cons}
use Rattle.std.proofs.lemmas.List.Folds.{list_all-append}
use Rattle.std.specs.Prelude.{Contains, slice_get, slice_index, count_by, ◌==◌, nat_lt, if◌then◌else◌}
use Rattle.std.specs.List.{filter, flat_map, list_all, enumerate_from}
use Rattle.vk_model.specs.Basics.{below}
use Rattle.vk_model.specs.Trace.Point.{Past}
use Rattle.vk_model.specs.Sync.Node.{Node, Act, Hosts, Waits, Signals, Runs, Depends, nodes}
use Rattle.vk_model.specs.Sync.Edge.{is_command}
use Rattle.vk_model.specs.Sync.Before.{before}
use Rattle.vk_model.specs.Run.Runs.{Name, is_done, node_pieces, is_free, offered}
use Rattle.vk_model.proofs.Sync.Numbers.{numbered}
use Rattle.vk_order.specs.declared.lines.Line.TheVariants.{Commands as OfCommands}
use Rattle.vk_order.specs.Lines.{line_of, place}
use Rattle.vk_sync.specs.declared.board.Command.{Command}
use Rattle.vk_sync.specs.Ready.{count_on, is_among, is_met, pieces_of, ready}
use Rattle.vk_offers.specs.IsOffers.{commands_in, piece_count, number_of, name_of, AreStarted}
use Rattle.vk_offers.proofs.Commands.{on_queue, command_at, before_on, other_node, command_node}
use Rattle.vk_model.proofs.Lists.Items.{map_flat}
use Rattle.std.proofs.Math.Bool.{or-true}

-- ---- lists

-- a test of all of a list, where another list's items pass theirs alike
all_alike : {X Y : Type 0} (f : X → Bool) (g : ℕ × Y → Bool) (k : ℕ) (xs : List X) (ys : List Y) → length ys ≡ length xs
    → ((j : ℕ) (x : X) (y : Y) → slice_get xs j ≡ Some x → slice_get ys j ≡ Some y → f x ≡ g (k + j, y)) → list_all f xs ≡ list_all g (enumerate_from k ys)
all_alike f g k [] [] same alike = refl
all_alike f g k [] (y ∷ ys) same alike = absurd (omega arith)
all_alike f g k (x ∷ xs) [] same alike = absurd (omega arith)
all_alike {X} {Y} f g k (x ∷ xs) (y ∷ ys) same alike =
    let first : f x ≡ g (k, y) = alike 0 x y refl refl ∙ ap (λ (i : ℕ). g (i, y)) (omega arith) in
    let others : list_all f xs ≡ list_all g (enumerate_from (k + 1) ys) = all_alike f g (k + 1) xs ys (omega arith) (λ j x' y' at_x at_y. alike (suc j) x' y' at_x at_y ∙ ap (λ (i : ℕ). g (i, y')) (omega arith)) in
    rw (first, others) refl

-- so it is of lists joined
flat_alike : {X Y A : Type 0} (f : X → List A) (g : ℕ × Y → List A) (k : ℕ) (xs : List X) (ys : List Y) → length ys ≡ length xs
    → ((j : ℕ) (x : X) (y : Y) → slice_get xs j ≡ Some x → slice_get ys j ≡ Some y → f x ≡ g (k + j, y)) → flat_map f xs ≡ flat_map g (enumerate_from k ys)
flat_alike f g k [] [] same alike = refl
flat_alike f g k [] (y ∷ ys) same alike = absurd (omega arith)
flat_alike f g k (x ∷ xs) [] same alike = absurd (omega arith)
flat_alike {X} {Y} {A} f g k (x ∷ xs) (y ∷ ys) same alike =
    let first : f x ≡ g (k, y) = alike 0 x y refl refl ∙ ap (λ (i : ℕ). g (i, y)) (omega arith) in
    let others : flat_map f xs ≡ flat_map g (enumerate_from (k + 1) ys) = flat_alike f g (k + 1) xs ys (omega arith) (λ j x' y' at_x at_y. alike (suc j) x' y' at_x at_y ∙ ap (λ (i : ℕ). g (i, y')) (omega arith)) in
    ap (λ (zs : List A). zs ++ flat_map f xs) first ∙ ap (λ (zs : List A). g (k, y) ++ zs) others

-- counts alike
count_alike : {X Y : Type 0} (f : X → Bool) (g : Y → Bool) (j : ℕ) (xs : List X) (ys : List Y) → length ys ≡ length xs
    → ((i : ℕ) (x : X) (y : Y) → slice_get xs i ≡ Some x → slice_get ys i ≡ Some y → f x ≡ g y) → count_by f (take j xs) ≡ count_by g (take j ys)
count_alike f g zero xs ys same alike = refl
count_alike f g (suc j) [] [] same alike = refl
count_alike f g (suc j) [] (y ∷ ys) same alike = absurd (omega arith)
count_alike f g (suc j) (x ∷ xs) [] same alike = absurd (omega arith)
count_alike {X} {Y} f g (suc j) (x ∷ xs) (y ∷ ys) same alike =
    sum_by-cons (λ z. if f z then 1 else 0) x (take j xs) ∙ ap (λ (t : Bool). (if t then 1 else 0) + count_by f (take j xs)) (alike 0 x y refl refl)
    ∙ ap (λ (n : ℕ). (if g y then 1 else 0) + n) (count_alike f g j xs ys (omega arith) (λ i x' y' at_x at_y. alike (suc i) x' y' at_x at_y)) ∙ sym (sum_by-cons (λ z. if g z then 1 else 0) y (take j ys))

-- what isn't among a list's chosen items adds nothing
flat_chosen : {X A : Type 0} (p : X → Bool) (f : X → List A) (xs : List X) → ((x : X) → p x ≡ false → f x ≡ []) → flat_map f xs ≡ flat_map f (filter p xs)
flat_chosen p f [] none = refl
flat_chosen {X} {A} p f (x ∷ xs) none = go (p x) refl (flat_chosen p f xs none)
  where
    go : (t : Bool) → p x ≡ t → flat_map f xs ≡ flat_map f (filter p xs) → f x ++ flat_map f xs ≡ flat_map f (if t then x ∷ filter p xs else filter p xs)
    go true e rest = ap (λ (zs : List A). f x ++ zs) rest
    go false e rest = ap (λ (zs : List A). zs ++ flat_map f xs) (none x e) ∙ rest

chosen_mapped : {X Y : Type 0} (p : Y → Bool) (h : X → Y) (xs : List X) → filter p (map h xs) ≡ map h (filter (λ x. p (h x)) xs)
chosen_mapped p h [] = refl
chosen_mapped {X} {Y} p h (x ∷ xs) = go (p (h x)) (chosen_mapped p h xs)
  where
    go : (t : Bool) → filter p (map h xs) ≡ map h (filter (λ y. p (h y)) xs) → (if t then h x ∷ filter p (map h xs) else filter p (map h xs)) ≡ map h (if t then x ∷ filter (λ y. p (h y)) xs else filter (λ y. p (h y)) xs)
    go true rest = ap (λ (ys : List Y). h x ∷ ys) rest
    go false rest = rest

-- all pass exactly where none is left that doesn't
none_left : {X : Type 0} (f : X → Bool) (xs : List X) → list_all f xs ≡ (length (filter (λ x. not (f x)) xs) == 0)
none_left f [] = refl
none_left {X} f (x ∷ xs) = go (f x) (none_left f xs)
  where
    go : (t : Bool) → list_all f xs ≡ (length (filter (λ y. not (f y)) xs) == 0) → (t && list_all f xs) ≡ (length (if not t then x ∷ filter (λ y. not (f y)) xs else filter (λ y. not (f y)) xs) == 0)
    go true rest = rest
    go false rest = sym (some_left (length (filter (λ y. not (f y)) xs)) _ refl)
      where
        some_left : (n : ℕ) (t : Bool) → eqb (suc n) 0 ≡ t → t ≡ false
        some_left n true e = let none = eqb-true (suc n) 0 e in absurd (omega arith)
        some_left n false e = refl

all_mapped : {X Y : Type 0} (p : Y → Bool) (h : X → Y) (xs : List X) → list_all p (map h xs) ≡ list_all (λ x. p (h x)) xs
all_mapped p h [] = refl
all_mapped p h (x ∷ xs) = ap (λ (t : Bool). p (h x) && t) (all_mapped p h xs)

and_swapped : (a b : Bool) → (a && b) ≡ (b && (a && true))
and_swapped true true = refl
and_swapped true false = refl
and_swapped false true = refl
and_swapped false false = refl

-- a test that all but commands pass
all_commands : (f : Node → Bool) (ns : List Node) → ((n : Node) → is_command n.act ≡ false → f n ≡ true) → list_all f ns ≡ list_all f (commands_in ns)
all_commands f [] others = refl
all_commands f (n ∷ ns) others = go (is_command n.act) refl (all_commands f ns others)
  where
    go : (t : Bool) → is_command n.act ≡ t → list_all f ns ≡ list_all f (commands_in ns) → (f n && list_all f ns) ≡ list_all f (commands_in (n ∷ ns))
    go false e rest = rw (others n e, other_node n ns e) rest
    go true e rest = rw (command_node n ns e, rest) (and_swapped (f n) (list_all f (commands_in ns)) ∙ sym (list_all-append f (commands_in ns) (n ∷ [])))

-- ---- a command's pieces

pub no_pieces : (past : Past) (n : Node) (a : Act) → is_command a ≡ false → node_pieces past n a ≡ []
no_pieces past n (Hosts x) e = refl
no_pieces past n (Waits s) e = refl
no_pieces past n (Signals s) e = refl
no_pieces past n (Runs c) e = absurd cc
no_pieces past n (Depends r m) e = refl

pub named_pieces : (past : Past) (n : Node) (a : Act) → node_pieces past n a ≡ map (λ k. (n.number, k)) (below (piece_count past a))
named_pieces past n (Hosts x) = refl
named_pieces past n (Waits s) = refl
named_pieces past n (Signals s) = refl
named_pieces past n (Runs c) = refl
named_pieces past n (Depends r m) = refl

pub command_line : (n : Node) → IsTrue (is_command n.act) → line_of n ≡ Some (OfCommands n.point.queue)
command_line n is = go n.act is
  where
    go : (a : Act) → IsTrue (is_command a) → line_of (record n { act = a }) ≡ Some (OfCommands n.point.queue)
    go (Hosts x) is = absurd cc
    go (Waits s) is = absurd cc
    go (Signals s) is = absurd cc
    go (Runs c) is = refl
    go (Depends r e) is = absurd cc

module _ (past : Past) (done : List Name) (cs : List Command) (started : AreStarted past done (commands_in (nodes past)) cs) where
  -- how many commands of a queue come before one
  pub same_count : (q j : ℕ) → count_on q (take j cs) ≡ count_by (on_queue q) (take j (commands_in (nodes past)))
  same_count q j = count_alike (λ c. c.queue == q) (on_queue q) j cs (commands_in (nodes past)) (sym started.lengths) (λ i c n at_c at_n. ap (λ (k : ℕ). k == q) (started.each i n c at_n at_c).queue)

  -- a command whose pieces have run has none left
  pub same_left : (j : ℕ) (m : Node) (c : Command) → slice_get (commands_in (nodes past)) j ≡ Some m → slice_get cs j ≡ Some c → list_all (is_done done) (node_pieces past m m.act) ≡ (length c.left == 0)
  same_left j m c at_m at_c =
      ap (λ (xs : List Name). list_all (is_done done) xs) (named_pieces past m m.act) ∙ all_mapped (is_done done) (λ k. (m.number, k)) (below (piece_count past m.act))
      ∙ none_left (λ k. is_done done (m.number, k)) (below (piece_count past m.act)) ∙ ap (λ (ks : List ℕ). length ks == 0) (sym (started.each j m c at_m at_c).left)

  -- where a test of the nodes is by counts of the commands of each queue, the pieces of those that pass it have run exactly where the counts are met
  pub met : (test : Node → Bool) (counts : List ℕ)
      → ((m : Node) (q : ℕ) → q < 4 → Contains (nodes past) m → line_of m ≡ Some (OfCommands q) → test m ≡ nat_lt (place (nodes past) (OfCommands q) m.number) (slice_index counts q))
      → list_all (λ m. not (test m) || list_all (is_done done) (node_pieces past m m.act)) (nodes past) ≡ is_met counts cs
  met test counts first =
      all_commands (λ m. not (test m) || list_all (is_done done) (node_pieces past m m.act)) (nodes past)
      (λ n e. ap (λ (xs : List Name). not (test n) || list_all (is_done done) xs) (no_pieces past n n.act e) ∙ or-true (not (test n)))
      ∙ all_alike (λ m. not (test m) || list_all (is_done done) (node_pieces past m m.act)) (λ x. not (is_among counts cs x.0 x.1) || length x.1.left == 0) 0 (commands_in (nodes past)) cs started.lengths each
    where
      each : (j : ℕ) (m : Node) (c : Command) → slice_get (commands_in (nodes past)) j ≡ Some m → slice_get cs j ≡ Some c
          → (not (test m) || list_all (is_done done) (node_pieces past m m.act)) ≡ (not (is_among counts cs (0 + j) c) || length c.left == 0)
      each j m c at_m at_c =
          let is = started.each j m c at_m at_c in
          let here = command_at (nodes past) j m at_m in
          let q = m.point.queue in
          let low : q < 4 = subst (λ (k : ℕ). k < 4) is.queue is.on_queue in
          let placed : place (nodes past) (OfCommands q) m.number ≡ count_on q (take j cs) = before_on (nodes past) (numbered past) q j m at_m ∙ sym (same_count q j) in
          let same : test m ≡ is_among counts cs j c =
          first m q low here.0 (command_line m here.1) ∙ ap (λ (k : ℕ). nat_lt k (slice_index counts q)) placed
          ∙ ap (λ (k : ℕ). nat_lt (count_on k (take j cs)) (slice_index counts k)) (sym is.queue) in
          ap (λ (t : Bool). not t || list_all (is_done done) (node_pieces past m m.act)) same ∙ ap (λ (t : Bool). not (is_among counts cs j c) || t) (same_left j m c at_m at_c)
          ∙ ap (λ (i : ℕ). not (is_among counts cs i c) || length c.left == 0) (omega arith)

  -- what is ready, by names
  pub same_offers : map (name_of past) (ready cs) ≡ offered past done
  same_offers =
      map_flat (name_of past) (pieces_of cs) (enumerate_from 0 cs)
      ∙ sym (flat_alike offers (λ x. map (name_of past) (pieces_of cs x)) 0 (commands_in (nodes past)) cs started.lengths each)
      ∙ sym (flat_chosen (λ n. is_command n.act) offers (reverse (nodes past)) (λ n e. none n (is_free past done n) e))
    where
      offers : Node → List Name
      offers n = if is_free past done n then filter (λ x. not (is_done done x)) (node_pieces past n n.act) else []

      none : (n : Node) (t : Bool) → is_command n.act ≡ false → (if t then filter (λ x. not (is_done done x)) (node_pieces past n n.act) else []) ≡ []
      none n true e = ap (λ (xs : List Name). filter (λ x. not (is_done done x)) xs) (no_pieces past n n.act e)
      none n false e = refl

      each : (j : ℕ) (n : Node) (c : Command) → slice_get (commands_in (nodes past)) j ≡ Some n → slice_get cs j ≡ Some c → offers n ≡ map (name_of past) (pieces_of cs (0 + j, c))
      each j n c at_n at_c =
          let is = started.each j n c at_n at_c in
          let free : is_free past done n ≡ is_met c.before cs = met (λ m. before (nodes past) m n) c.before is.counts.first in
          ap (λ (t : Bool). if t then filter (λ x. not (is_done done x)) (node_pieces past n n.act) else []) free ∙ go (is_met c.before cs) is.left
        where
          left_names : c.left ≡ filter (λ k. not (is_done done (n.number, k))) (below (piece_count past n.act))
              → filter (λ x. not (is_done done x)) (node_pieces past n n.act) ≡ map (name_of past) (map (λ k. record { command = 0 + j; index = k }) c.left)
          left_names left =
              ap (λ (xs : List Name). filter (λ x. not (is_done done x)) xs) (named_pieces past n n.act)
              ∙ chosen_mapped (λ x. not (is_done done x)) (λ k. (n.number, k)) (below (piece_count past n.act))
              ∙ ap (λ (ks : List ℕ). map (λ k. (n.number, k)) ks) (sym left)
              ∙ ap (λ (v : ℕ). map (λ k. (v, k)) c.left) (sym (ap number_of (ap (λ (i : ℕ). slice_get (commands_in (nodes past)) i) (omega arith) ∙ at_n)))
              ∙ sym (map-map (name_of past) (λ k. record { command = 0 + j; index = k }) c.left)

          go : (t : Bool) → c.left ≡ filter (λ k. not (is_done done (n.number, k))) (below (piece_count past n.act))
              → (if t then filter (λ x. not (is_done done x)) (node_pieces past n n.act) else []) ≡ map (name_of past) (if t then map (λ k. record { command = 0 + j; index = k }) c.left else [])
          go true left = left_names left
          go false left = refl
