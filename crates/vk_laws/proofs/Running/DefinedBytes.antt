-- What the law of the machine says of the runs of the definitions.
use Rattle.std.proofs.Common.{◌≡◌, ⊎_elim, ℕ, List, [], ◌∷◌, Bool, true, false, cond, not, IsTrue, Option, Some, None, refl, ap, sym, ◌∙◌, subst}
use Rattle.std.specs.List.{filter}
use Rattle.vk_model.specs.Basics.{holds}
use Rattle.vk_model.specs.World.Bytes.{Byte}
use Rattle.vk_model.specs.World.ByteWrites.{Value, From}
use Rattle.vk_model.specs.Trace.Point.{Past}
use Rattle.vk_model.specs.Sync.Node.{Node, Act, Hosts, Waits, Signals, Runs, Depends}
use Rattle.vk_model.specs.Laws.{PiecesAreByteWrites}
use Rattle.std.specs.Prelude.{nat_lt, ◌==◌}
use Rattle.std.proofs.lemmas.Bool.{and_right}
use Rattle.vk_laws.specs.Discards.{forgets, or_unknown, with_discards}
use Rattle.vk_laws.specs.Machine.{Task, Put, Puts, Unknown, TraceAccesses, Writes, Reads, Conflict, newest, latest}
use Rattle.vk_laws.specs.Trace.{accesses}
use Rattle.vk_laws.specs.Tasks.{task_write, task_count, node_at, by_act, accesses_of}
use Rattle.vk_laws.specs.DefinedRuns.{is_event, stored, bytes_after}
use Rattle.vk_laws.proofs.Accesses.TaskAccesses.{Accessor, writer, reader}

-- where some tasks write nothing, the last write is the same without them
module _ (tr : TraceAccesses) (quiet : Task → Bool) (silent : (u : Task) (c : Byte) → quiet u ≡ true → tr.write_of u c ≡ None) where
  pub latest_without : (c : Byte) (done : List Task) → latest tr c done ≡ latest tr c (filter (λ u. not (quiet u)) done)
  latest_without c [] = refl
  latest_without c (u ∷ done) = go (quiet u) refl (latest_without c done)
    where
      go : (b : Bool) → quiet u ≡ b → latest tr c done ≡ latest tr c (filter (λ u. not (quiet u)) done)
          → newest (tr.write_of u c) u (latest tr c done) ≡ latest tr c (cond (not b) (u ∷ filter (λ u. not (quiet u)) done) (filter (λ u. not (quiet u)) done))
      go true e rest = ap (λ (o : Option Put). newest o u (latest tr c done)) (silent u c e) ∙ rest
      go false e rest = ap (newest (tr.write_of u c) u) rest

module _ (all : Past) where
  abbrev tr : TraceAccesses
  tr = accesses_of all

  abbrev without_events : List Task → List Task
  without_events done = filter (λ u. not (is_event all u)) done

  -- an event writes nothing
  silent : (u : Task) (c : Byte) → is_event all u ≡ true → tr.write_of u c ≡ None
  silent u c e = go (node_at all u.node) e
    where
      by_kind : (a : Act) → not (accesses a) ≡ true → task_write all a u.index c ≡ None
      by_kind (Runs x) e = absurd cc
      by_kind (Hosts x) e = absurd cc
      by_kind (Waits s) e = refl
      by_kind (Signals s) e = refl
      by_kind (Depends r d) e = refl

      go : (o : Option Node) → holds o (λ n. not (accesses n.act)) ≡ true → by_act None (λ a. task_write all a u.index c) o ≡ None
      go None e = refl
      go (Some n) e = by_kind n.act e

  stored_same : (o : Option Put) (one other : Byte → ℕ) → ((d : Byte) → one d ≡ other d) → (c : Byte) → stored o one c ≡ stored o other c
  stored_same None one other same c = same c
  stored_same (Some (Puts (Value v))) one other same c = refl
  stored_same (Some (Puts (From d))) one other same c = same d
  stored_same (Some Unknown) one other same c = refl

  pub bytes_same : (first : Byte → ℕ) (done : List Task) (c : Byte) → bytes_after tr first done c ≡ bytes_after tr first (without_events done) c
  bytes_same first [] c = refl
  bytes_same first (u ∷ done) c = go (is_event all u) refl (λ d. bytes_same first done d)
    where
      go : (b : Bool) → is_event all u ≡ b → ((d : Byte) → bytes_after tr first done d ≡ bytes_after tr first (without_events done) d)
          → stored (tr.write_of u c) (bytes_after tr first done) c ≡ bytes_after tr first (cond (not b) (u ∷ without_events done) (without_events done)) c
      go true e rest = ap (λ (o : Option Put). stored o (bytes_after tr first done) c) (silent u c e) ∙ rest c
      go false e rest = stored_same (tr.write_of u c) (bytes_after tr first done) (bytes_after tr first (without_events done)) rest c

  pub latest_same : (c : Byte) (done : List Task) → latest tr c done ≡ latest tr c (without_events done)
  latest_same = latest_without tr (is_event all) silent

  -- nor does one forget a byte
  pub silent_too : (u : Task) (c : Byte) → is_event all u ≡ true → (with_discards all).write_of u c ≡ None
  silent_too u c e =
      ap (λ (b : Bool). or_unknown b (tr.write_of u c)) (and_right (u.index == 0) (by_act false (λ a. forgets all u.node a c) (node_at all u.node)) (go (node_at all u.node) e)) ∙ silent u c e
    where
      by_kind : (a : Act) → not (accesses a) ≡ true → forgets all u.node a c ≡ false
      by_kind (Runs x) e = absurd cc
      by_kind (Hosts x) e = absurd cc
      by_kind (Waits s) e = refl
      by_kind (Signals s) e = refl
      by_kind (Depends r d) e = refl

      go : (o : Option Node) → holds o (λ n. not (accesses n.act)) ≡ true → by_act false (λ a. forgets all u.node a c) o ≡ false
      go None e = refl
      go (Some n) e = by_kind n.act e

  pub latest_too : (c : Byte) (done : List Task) → latest (with_discards all) c done ≡ latest (with_discards all) c (without_events done)
  latest_too = latest_without (with_discards all) (is_event all) silent_too

  -- a task that accesses a byte is there, and no event
  module _ (and_from : PiecesAreByteWrites) where
    abbrev Real : Task → Type 0
    Real u = IsTrue (tr.has u) × (is_event all u ≡ false)

    real_of : {P : Node → Type 0} (u : Task) → Accessor and_from all u P → Real u
    real_of u a = (
      subst (λ (o : Option Node). IsTrue (by_act false (λ a. nat_lt u.index (task_count all a)) o)) (sym a.at) a.there,
      ap (λ (o : Option Node). holds o (λ n. not (accesses n.act))) a.at ∙ ap not a.is_access,
    )

    pub writer_real : (u : Task) (c : Byte) → Writes tr u c → Real u
    writer_real u c w = real_of u (writer and_from all u c w)

    reader_real : (u : Task) (c : Byte) → Reads tr u c → Real u
    reader_real u c r = real_of u (reader and_from all u c r)

    pub first_real : (u v : Task) (c : Byte) → Conflict tr u v c → Real u
    first_real u v c meet = ⊎_elim (λ h. writer_real u c h.0) (λ rest. ⊎_elim (λ h. reader_real u c h.0) (λ h. writer_real u c h.0) rest) meet

    pub second_real : (u v : Task) (c : Byte) → Conflict tr u v c → Real v
    second_real u v c meet = ⊎_elim (λ h. reader_real v c h.1) (λ rest. ⊎_elim (λ h. writer_real v c h.1) (λ h. writer_real v c h.1) rest) meet
