-- The commands that were started, when a piece has run.
use Rattle.std.proofs.Common.{◌≡◌, inl, inr, ℕ, zero, suc, ◌<◌, List, [], ◌∷◌, length, Bool, true, false, not, eqb, eq-eqb, refl, ap, sym, ◌∙◌, subst, arith, length-set, Some}
use Rattle.std.proofs.lemmas.Bool.{eqb-true, eqb-false}
use Rattle.std.proofs.lemmas.Option.{slice_get_within}
use Rattle.std.specs.Prelude.{slice_get, slice_set, ◌==◌}
use Rattle.std.specs.List.{filter}
use Rattle.vk_model.specs.Basics.{below}
use Rattle.vk_model.specs.Trace.Point.{Past}
use Rattle.vk_model.specs.Sync.Node.{Node, nodes}
use Rattle.vk_model.specs.Sync.Edge.{is_command}
use Rattle.vk_model.specs.Sync.Before.{IsNumbered}
use Rattle.vk_model.specs.Run.Runs.{Name, is_done}
use Rattle.vk_model.proofs.Sync.Numbers.{number_below, numbered}
use Rattle.vk_sync.specs.declared.board.Command.{Command}
use Rattle.vk_sync.specs.declared.ready.Piece.{Piece}
use Rattle.vk_sync.specs.Ready.{without, after_piece}
use Rattle.vk_offers.specs.IsOffers.{commands_in, name_of, piece_count, IsStarted, AreStarted}
use Rattle.vk_offers.proofs.Commands.{command_at, other_node, command_node}
use Rattle.vk_model.proofs.Lists.Items.{push_cases, item_at}

-- commands of one number have one place
pub one_place : (ns : List Node) → IsNumbered ns → (i j : ℕ) (a b : Node) → slice_get (commands_in ns) i ≡ Some a → slice_get (commands_in ns) j ≡ Some b → a.number ≡ b.number → i ≡ j
one_place [] numbers i j a b at_a at_b same = absurd cc
one_place (n ∷ ns) numbers i j a b at_a at_b same = go (is_command n.act) refl (one_place ns numbers.1 i j a b)
  where
    number : n.number ≡ length ns
    number = numbers.0

    go : (t : Bool) → is_command n.act ≡ t → (slice_get (commands_in ns) i ≡ Some a → slice_get (commands_in ns) j ≡ Some b → a.number ≡ b.number → i ≡ j) → i ≡ j
    go false e rest = rest (subst (λ (ms : List Node). slice_get ms i ≡ Some a) (other_node n ns e) at_a) (subst (λ (ms : List Node). slice_get ms j ≡ Some b) (other_node n ns e) at_b) same
    go true e rest = elim (push_cases (commands_in ns) n a i (subst (λ (ms : List Node). slice_get ms i ≡ Some a) (command_node n ns e) at_a)) [
      | inl old ↦ elim (push_cases (commands_in ns) n b j (subst (λ (ms : List Node). slice_get ms j ≡ Some b) (command_node n ns e) at_b)) [
        | inl old' ↦ rest old old' same
        | inr new' ↦ (let low = number_below ns numbers.1 a (command_at ns i a old).0 in let own : n.number ≡ b.number = ap (λ (m : Node). m.number) new'.1 in absurd (omega (arith, low, own, number, same)))
      ]
      | inr new ↦ elim (push_cases (commands_in ns) n b j (subst (λ (ms : List Node). slice_get ms j ≡ Some b) (command_node n ns e) at_b)) [
        | inl old' ↦ (let low = number_below ns numbers.1 b (command_at ns j b old').0 in let own : n.number ≡ a.number = ap (λ (m : Node). m.number) new.1 in absurd (omega (arith, low, own, number, same)))
        | inr new' ↦ new.0 ∙ sym new'.0
      ]
    ]

-- ---- what is left then

-- of another command
other_left : (n index number : ℕ) (done : List Name) (ks : List ℕ) → eqb n number ≡ false → filter (λ k. not (is_done done (n, k))) ks ≡ filter (λ k. not (is_done ((number, index) ∷ done) (n, k))) ks
other_left n index number done [] ne = refl
other_left n index number done (k ∷ ks) ne = rw (ne, other_left n index number done ks ne) refl

-- of its own
own_left : (n index : ℕ) (done : List Name) (ks : List ℕ) → filter (λ k. not (k == index)) (filter (λ k. not (is_done done (n, k))) ks) ≡ filter (λ k. not (is_done ((n, index) ∷ done) (n, k))) ks
own_left n index done [] = refl
own_left n index done (k ∷ ks) = go (is_done done (n, k)) (eqb k index) refl refl (eq-eqb n n refl) (own_left n index done ks)
  where
    go : (s t : Bool) → is_done done (n, k) ≡ s → eqb k index ≡ t → eqb n n ≡ true
        → filter (λ j. not (j == index)) (filter (λ j. not (is_done done (n, j))) ks) ≡ filter (λ j. not (is_done ((n, index) ∷ done) (n, j))) ks
        → filter (λ j. not (j == index)) (filter (λ j. not (is_done done (n, j))) (k ∷ ks)) ≡ filter (λ j. not (is_done ((n, index) ∷ done) (n, j))) (k ∷ ks)
    go true true e f own rest = rw (own, f, e) rest
    go true false e f own rest = rw (own, f, e) rest
    go false true e f own rest = rw (own, f, e) (rw f rest)
    go false false e f own rest = rw (own, f, e) (rw f (ap (λ (js : List ℕ). k ∷ js) rest))

-- ---- a list in which one item was put

set_at : {X : Type 0} (xs : List X) (i : ℕ) (x : X) → i < length xs → slice_get (slice_set xs i x) i ≡ Some x
set_at [] i x lt = absurd (omega arith)
set_at (y ∷ xs) zero x lt = refl
set_at (y ∷ xs) (suc i) x lt = set_at xs i x (omega arith)

set_other : {X : Type 0} (xs : List X) (i j : ℕ) (x : X) → (i ≡ j → ⊥) → slice_get (slice_set xs i x) j ≡ slice_get xs j
set_other [] i j x ne = refl
set_other (y ∷ xs) zero zero x ne = absurd (ne refl)
set_other (y ∷ xs) zero (suc j) x ne = refl
set_other (y ∷ xs) (suc i) zero x ne = refl
set_other (y ∷ xs) (suc i) (suc j) x ne = set_other xs i j x (λ e. ne (ap suc e))

module _ (past : Past) (done : List Name) (cs : List Command) (started : AreStarted past done (commands_in (nodes past)) cs) (piece : Piece) where
  -- by the command and its node
  finished_at : (n : Node) (c : Command) → slice_get (commands_in (nodes past)) piece.command ≡ Some n → slice_get cs piece.command ≡ Some c
      → AreStarted past ((n.number, piece.index) ∷ done) (commands_in (nodes past)) (slice_set cs piece.command (without piece.index c))
  finished_at n c at_n at_c = record { lengths = length-set cs piece.command (without piece.index c) ∙ started.lengths; each = each }
    where
      each : (j : ℕ) (m : Node) (d : Command) → slice_get (commands_in (nodes past)) j ≡ Some m → slice_get (slice_set cs piece.command (without piece.index c)) j ≡ Some d → IsStarted past ((n.number, piece.index) ∷ done) m d
      each j m d at_m at_d = go (eqb piece.command j) refl
        where
          own : IsStarted past ((n.number, piece.index) ∷ done) n (without piece.index c)
          own =
              let is = started.each piece.command n c at_n at_c in
              record { queue = is.queue; on_queue = is.on_queue; counts = is.counts; left = ap (λ (ks : List ℕ). filter (λ k. not (k == piece.index)) ks) is.left ∙ own_left n.number piece.index done (below (piece_count past n.act)) }

          go : (t : Bool) → eqb piece.command j ≡ t → IsStarted past ((n.number, piece.index) ∷ done) m d
          go true e =
              let same = eqb-true piece.command j e in
              let node : Some n ≡ Some m = sym at_n ∙ ap (λ (k : ℕ). slice_get (commands_in (nodes past)) k) same ∙ at_m in
              let changed : Some (without piece.index c) ≡ Some d =
              sym (set_at cs piece.command (without piece.index c) (slice_get_within cs piece.command c at_c)) ∙ ap (λ (k : ℕ). slice_get (slice_set cs piece.command (without piece.index c)) k) same ∙ at_d in
              let this : n ≡ m = cc in
              let that : without piece.index c ≡ d = cc in
              subst (λ (k : Node). IsStarted past ((n.number, piece.index) ∷ done) k d) this (subst (λ (x : Command). IsStarted past ((n.number, piece.index) ∷ done) n x) that own)
          go false e =
              let other = eqb-false piece.command j e in
              let is = started.each j m d at_m (sym (set_other cs piece.command j (without piece.index c) other) ∙ at_d) in
              record { queue = is.queue; on_queue = is.on_queue; counts = is.counts; left = is.left ∙ other_left m.number piece.index n.number done (below (piece_count past m.act)) (apart (eqb m.number n.number) refl other) }
            where
              apart : (t : Bool) → eqb m.number n.number ≡ t → (piece.command ≡ j → ⊥) → eqb m.number n.number ≡ false
              apart true e other = absurd (other (one_place (nodes past) (numbered past) piece.command j n m at_n at_m (sym (eqb-true m.number n.number e))))
              apart false e other = e

  pub piece_finished : piece.command < length cs → AreStarted past (name_of past piece ∷ done) (commands_in (nodes past)) (after_piece piece cs)
  piece_finished here =
      let size = started.lengths in
      let c = item_at cs piece.command here in
      let n = item_at (commands_in (nodes past)) piece.command (omega (arith, here, size)) in
      rw (after_piece, name_of, c.1, n.1) (finished_at n.0 c.0 n.1 c.1)
