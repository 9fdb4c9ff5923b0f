-- A piece that is offered: it is one of a command that is free, and hasn't run.
use Rattle.std.proofs.Common.{◌≡◌, ⊎_elim, ◌<◌, List, [], ◌∷◌, length, Bool, true, false, cond, not, IsTrue, Option, Some, None, refl, ap, sym, ◌∙◌, subst, arith, reverse, slice_get, get_or, ℕ, ◌≤◌, ◌+◌, ◌||◌}
use Rattle.std.specs.Prelude.{Contains, ◌==◌, option_and_then, if◌then◌else◌}
use Rattle.std.specs.List.{find, filter, list_all}
use Rattle.std.proofs.lemmas.Bool.{eqb-true, eq-eqb}
use Rattle.std.proofs.lemmas.List.Sorted.{Contains-permutation, IsPermutation-reverse, IsPermutation-sym}
use Rattle.std.proofs.lemmas.Option.{slice_get-get_or}
use Rattle.vk_model.specs.declared.command.Cmd.{Cmd}
use Rattle.vk_model.specs.Basics.{below}
use Rattle.vk_model.specs.World.ByteWrites.{ByteWrite}
use Rattle.vk_model.specs.Trace.Point.{Past}
use Rattle.vk_model.specs.Sync.Node.{Node, Act, Hosts, Waits, Signals, Runs, Depends, nodes}
use Rattle.vk_model.specs.Sync.Before.{before}
use Rattle.vk_model.specs.Laws.{BeforeLeadsOn}
use Rattle.vk_model.specs.Run.Pieces.{pieces}
use Rattle.vk_model.specs.Run.Runs.{Name, same_name, is_done, node_pieces, is_free, offered}
use Rattle.vk_model.specs.Run.CachedRuns.{numbered, piece_of, named_piece}
use Rattle.vk_laws.specs.DefinedRuns.{IsPiece, HaveRun}
use Rattle.vk_model.proofs.Lists.Members.{map_has, numbers_have, filter_has, flat_has, member_passes, each_of, none_in, contains-cons, some_member, found, flat_from, filtered, mapped_from, range_from}
use Rattle.vk_model.proofs.Lists.Truths.{clash}
use Rattle.vk_model.proofs.Sync.Numbers.{unique, numbered as nodes_numbered}
use Rattle.vk_laws.proofs.Running.StageTasks.{names_same, name_itself}

module _ (past : Past) (done : List Name) where
  pub record Offered (x : Name) : Type 0 where
    pub node : Node
    pub command : Cmd
    pub present : Contains (nodes past) node
    pub act : node.act ≡ Runs command
    pub number : node.number ≡ x.0
    pub index : x.1 < length (pieces past command)
    pub free : IsTrue (is_free past done node)
    pub fresh : IsTrue (not (is_done done x))

  pub offered_of : (x : Name) → IsTrue (is_done (offered past done) x) → Offered x
  offered_of x h =
      let y = some_member (same_name x) (offered past done) h in
      let n = flat_from (λ n. if is_free past done n then filter (λ x. not (is_done done x)) (node_pieces past n n.act) else []) (reverse (nodes past)) y.0 y.1 in
      by_free n.0 (Contains-permutation (reverse (nodes past)) (nodes past) n.0 (IsPermutation-sym (nodes past) (reverse (nodes past)) (IsPermutation-reverse (nodes past))) n.1)
      y.0 (names_same x y.0 y.2) (is_free past done n.0) refl n.2
    where
      by_kind : (n : Node) → Contains (nodes past) n → (y : Name) → x ≡ y → IsTrue (is_free past done n) → IsTrue (not (is_done done y)) → (a : Act) → n.act ≡ a → Contains (node_pieces past n a) y → Offered x
      by_kind n cn y same free fresh (Runs c) act h =
          let k = mapped_from (λ k. (n.number, k)) (below (length (pieces past c))) y h in
          let whole : (n.number, k.0) ≡ x = k.2 ∙ sym same in
          let is_part : k.0 ≡ x.1 = ap (λ (z : Name). z.1) whole in
          let within = (range_from 0 (length (pieces past c)) k.0 k.1).1 in
          record {
            node = n;
            command = c;
            present = cn;
            act = act;
            number = ap (λ (z : Name). z.0) whole;
            index = omega (arith, is_part, within);
            free = free;
            fresh = subst (λ (z : Name). IsTrue (not (is_done done z))) (sym same) fresh;
          }
      by_kind n cn y same free fresh (Hosts z) act h = absurd (none_in y h)
      by_kind n cn y same free fresh (Waits z) act h = absurd (none_in y h)
      by_kind n cn y same free fresh (Signals z) act h = absurd (none_in y h)
      by_kind n cn y same free fresh (Depends r d) act h = absurd (none_in y h)

      by_free : (n : Node) → Contains (nodes past) n → (y : Name) → x ≡ y → (b : Bool) → is_free past done n ≡ b
          → Contains (if b then filter (λ x. not (is_done done x)) (node_pieces past n n.act) else []) y → Offered x
      by_free n cn y same false e h = absurd (none_in y h)
      by_free n cn y same true e h = let f = filtered (λ x. not (is_done done x)) (node_pieces past n n.act) y h in by_kind n cn y same e f.1 n.act refl f.0

  -- ---- what is offered

  pub is_offered : (n : Node) (c : Cmd) (j : ℕ) → Contains (nodes past) n → n.act ≡ Runs c → j < length (pieces past c) → IsTrue (is_free past done n) → is_done done (n.number, j) ≡ false → IsTrue (is_done (offered past done) (n.number, j))
  is_offered n c j cn act lt free fresh =
      let each : Node → List Name = λ n. if is_free past done n then filter (λ x. not (is_done done x)) (node_pieces past n n.act) else [] in
      let among : Contains (node_pieces past n (Runs c)) (n.number, 0 + j) = map_has (λ j. (n.number, j)) (below (length (pieces past c))) (0 + j) (numbers_have 0 (length (pieces past c)) j lt) in
      let its : Contains (node_pieces past n n.act) (n.number, j) =
      subst (λ (a : Act). Contains (node_pieces past n a) (n.number, j)) (sym act) (subst (λ (k : ℕ). Contains (node_pieces past n (Runs c)) (n.number, k)) (let same : 0 + j ≡ j = omega arith in same) among) in
      let kept = filter_has (λ x. not (is_done done x)) (node_pieces past n n.act) (n.number, j) its (ap not fresh) in
      let here : Contains (each n) (n.number, j) = subst (λ (b : Bool). Contains (if b then filter (λ x. not (is_done done x)) (node_pieces past n n.act) else []) (n.number, j)) (sym free) kept in
      member_passes (same_name (n.number, j)) (offered past done) (n.number, j)
      (flat_has each (reverse (nodes past)) n (n.number, j) (Contains-permutation (nodes past) (reverse (nodes past)) n (IsPermutation-reverse (nodes past)) cn) here)
      (name_itself (n.number, j))

  -- where the pieces of the nodes before it have run, a node is free
  pub node_ran : (P : Past) (k : ℕ) → HaveRun past done k → (m : Node) → Contains (nodes past) m → m.number < k → ((c : Cmd) → m.act ≡ Runs c → length (pieces P c) ≡ length (pieces past c)) → IsTrue (list_all (is_done done) (node_pieces P m m.act))
  node_ran P k ran m cm lt count = go m.act refl
    where
      go : (a : Act) → m.act ≡ a → IsTrue (list_all (is_done done) (node_pieces P m a))
      go (Runs c) act = each_of (is_done done) (node_pieces P m (Runs c)) (λ y h.
          let j = mapped_from (λ j. (m.number, j)) (below (length (pieces P c))) y h in
          let within = (range_from 0 (length (pieces P c)) j.0 j.1).1 in
          let same = count c act in
          subst (λ (z : Name). IsTrue (is_done done z)) j.2 (ran m c j.0 cm lt act (omega (arith, within, same))))
      go (Hosts x) act = refl
      go (Waits x) act = refl
      go (Signals x) act = refl
      go (Depends r d) act = refl

  pub free_next : BeforeLeadsOn → (k : ℕ) → HaveRun past done k → (n : Node) → n.number ≤ k → IsTrue (is_free past done n)
  free_next leads k ran n le = each_of (λ m. not (before (nodes past) m n) || list_all (is_done done) (node_pieces past m m.act)) (nodes past) (λ m cm. go m cm (before (nodes past) m n) refl)
    where
      go : (m : Node) → Contains (nodes past) m → (b : Bool) → before (nodes past) m n ≡ b → IsTrue (not b || list_all (is_done done) (node_pieces past m m.act))
      go m cm false e = refl
      go m cm true e = let lt = leads (nodes past) m n e in node_ran past k ran m cm (omega (arith, lt, le)) (λ c act. refl)

-- ---- its node and its writes, by its name

-- where a member passes a test, one is found
found_one : {X : Type 0} (f : X → Bool) (xs : List X) (x : X) → Contains xs x → IsTrue (f x) → (y : X) × (find f xs ≡ Some y)
found_one f [] x c h = absurd (none_in x c)
found_one {X} f (z ∷ zs) x c h = go (f z) refl (found_one f zs x)
  where
    go : (b : Bool) → f z ≡ b → (Contains zs x → IsTrue (f x) → (y : X) × (find f zs ≡ Some y)) → (y : X) × (cond b (Some z) (find f zs) ≡ Some y)
    go true e rest = (z, refl)
    go false e rest = ⊎_elim (λ same. absurd (clash {b = f x} h (ap f (sym same) ∙ e))) (λ later. rest later h) (contains-cons z zs x c)

pub is_piece : (past : Past) (done : List Name) (x : Name) → IsTrue (is_done (offered past done) x) → IsPiece past x
is_piece past done x h = record { node = o.node; command = o.command; present = present; act = o.act; content = content }
  where
    o : Offered past done x
    o = offered_of past done x h

    present : numbered past x.0 ≡ Some o.node
    present =
        let k = found_one (λ m. m.number == x.0) (nodes past) o.node o.present (eq-eqb o.node.number x.0 o.number) in
        let f = found (λ m. m.number == x.0) (nodes past) k.0 k.1 in
        k.1 ∙ ap Some (unique (nodes past) (nodes_numbered past) k.0 o.node f.0 o.present (eqb-true k.0.number x.0 f.1 ∙ sym o.number))

    writes : List ByteWrite
    writes = get_or (pieces past o.command) x.1 []

    there : slice_get (pieces past o.command) x.1 ≡ Some writes
    there = slice_get-get_or (pieces past o.command) x.1 [] o.index

    content : slice_get (pieces past o.command) x.1 ≡ Some (named_piece past x)
    content =
        let named : named_piece past x ≡ writes =
        ap (λ (n : Option Node). elim (option_and_then (λ n. piece_of past n.act x.1) n) [ None ↦ [] | Some ms ↦ ms ]) present
        ∙ ap (λ (a : Act). elim (piece_of past a x.1) [ None ↦ [] | Some ms ↦ ms ]) o.act
        ∙ ap (λ (ms : Option (List ByteWrite)). elim ms [ None ↦ [] | Some ms ↦ ms ]) there in
        there ∙ ap (λ (ms : List ByteWrite). Some ms) (sym named)
