-- A piece that runs on a device.
use Rattle.std.proofs.Common.{◌≡◌, arith, length, get_or, false, inl, inr, ℕ, suc, List, [], ◌∷◌, ◌++◌, map, ◌==◌, eq-eqb, refl, ap, sym, ◌∙◌, subst, IsTrue, Option, Some, None}
use Rattle.std.proofs.lemmas.Bool.{eqb-true, not-true}
use Rattle.std.proofs.lemmas.List.{length-map}
use Rattle.std.proofs.lemmas.Option.{slice_get_within, slice_get-get_or}
use Rattle.std.specs.Prelude.{Contains, slice_get}
use Rattle.std.specs.List.{enumerate_from}
use Rattle.vk_model.specs.declared.command.Cmd.{Cmd}
use Rattle.vk_model.specs.declared.command.Cmd.TheVariants as cmd
use Rattle.vk_model.specs.declared.entry.Entry.{Entry}
use Rattle.vk_model.specs.Trace.Point.{Past, Action, Host, Wait, Run, Signal}
use Rattle.vk_model.specs.Sync.Node.{Node, Act, Runs, Depends, acts, nodes}
use Rattle.vk_model.proofs.Lists.Members.{none_in, contains-cons, map_has, mapped_from, member_passes, found}
use Rattle.vk_order.proofs.ElementPlaces.{with_member}
use Rattle.vk_resources.specs.Fits.{FitsCommand, NamesLive}
use Rattle.vk_model.specs.World.Bytes.{Byte}
use Rattle.vk_model.specs.World.ByteWrites.{ByteWrite, Source, Value, From}
use Rattle.vk_model.specs.Laws.{PiecesAreByteWrites}
use Rattle.vk_laws.proofs.Running.OfferedPieces.{offered_of}
use Rattle.vk_offers.proofs.Steps.{piece_low, piece_of}
use Rattle.vk_model.specs.Trace.Order.{order}
use Rattle.vk_model.specs.Rules.Table.{first_fault}
use Rattle.vk_model.specs.Run.Pieces.{pieces}
use Rattle.vk_model.specs.Run.Runs.{Name, same_name, is_done, offered, parts_left, Step, Stage, RunPiece}
use Rattle.vk_model.specs.Run.CachedRuns.{write_to, named_piece}
use Rattle.vk_model.proofs.Sync.Numbers.{numbered, unique}
use Rattle.vk_laws.specs.DefinedRuns.{OfferedArePieces, RunOf}
use Rattle.vk_laws.specs.Lifetimes.{CommandsNameLive}
use Rattle.vk_resources.specs.Done.{PieceReady}
use Rattle.vk_laws.specs.TraceBytes.{value_before}
use Rattle.vk_laws.specs.DirectRuns.{DirectRunsAreWritten, PiecesGoOn, memory_after_piece, byte_after, value_in}
use Rattle.vk_queues.specs.declared.waiting.Waiting.{Waiting}
use Rattle.vk_queues.specs.IsWaiting.{IsWaiting}
use Rattle.vk_sync.specs.declared.ready.Piece.{Piece}
use Rattle.vk_sync.specs.Ready.{ready}
use Rattle.vk_offers.specs.declared.offers.Offers.{Offers}
use Rattle.vk_offers.specs.IsOffers.{IsOffers, IsPieceOf, name_of, number_of, commands_in}
use Rattle.vk_offers.proofs.Offering.{same_offers}
use Rattle.vk_offers.proofs.Commands.{command_at}
use Rattle.vk_transfer.specs.Ran.{given, stored, HaveRun}
use Rattle.vk_resources.specs.Held.{Held, byte_at, IsThere}
use Rattle.vk_resources.specs.Matches.{Stands}
use Rattle.vk_device.specs.declared.device.Device.{Device}
use Rattle.vk_device.specs.Becomes.{Becomes}
use Rattle.vk_device.specs.Led.{Led, AreWorks}
use Rattle.vk_device.specs.Inner.Fits.{FitsAction, AllFit}
use Rattle.vk_backing.specs.Passing.{CopiesAgree}
use Rattle.vk_device.proofs.KeptPasses.{piece_passes, was_there, host_same}
use Rattle.vk_device.proofs.Staying.{later_fits}
use Rattle.vk_device.proofs.Sources.{sources_there}
use Rattle.vk_model.proofs.Lists.Items.{get_mapped, item_at}

-- ---- the command of a node

one : (d c : Cmd) → Contains (Runs d ∷ []) (Runs c) → d ≡ c
one d c at = elim (contains-cons (Runs d) [] (Runs c) at) [ inl same ↦ cc | inr none ↦ absurd (none_in (Runs c) none) ]

-- an action that has a command's act runs it
runs_it : (a : Action) (c : Cmd) → Contains (acts a) (Runs c) → (d : Cmd) × (a ≡ Run d) × Contains (acts (Run d)) (Runs c)
runs_it (Host x) c at = elim (contains-cons _ [] (Runs c) at) [ inl same ↦ absurd cc | inr none ↦ absurd (none_in (Runs c) none) ]
runs_it (Wait s) c at = elim (contains-cons _ [] (Runs c) at) [ inl same ↦ absurd cc | inr none ↦ absurd (none_in (Runs c) none) ]
runs_it (Signal s) c at = elim (contains-cons _ [] (Runs c) at) [ inl same ↦ absurd cc | inr none ↦ absurd (none_in (Runs c) none) ]
runs_it (Run d) c at = (d, refl, at)

no_runs : {X : Type 0} (f : X → Act) (xs : List X) (c : Cmd) → ((x : X) → f x ≡ Runs c → ⊥) → Contains (map f xs) (Runs c) → ⊥
no_runs f xs c never at = let from = mapped_from f xs (Runs c) at in never from.0 from.2

-- a command's own act is the one that runs it
own_act : (d c : Cmd) → Contains (acts (Run d)) (Runs c) → d ≡ c
own_act (cmd.Barrier es) c at = absurd (no_runs (Depends _) es c (λ x e. absurd cc) at)
own_act (cmd.Set v ms) c at = absurd (no_runs _ (enumerate_from 0 ms) c (λ x e. absurd cc) at)
own_act (cmd.Await v ms) c at = absurd (no_runs _ (enumerate_from 0 ms) c (λ x e. absurd cc) at)
own_act (cmd.Fill b o n w) c at = one (cmd.Fill b o n w) c at
own_act (cmd.Update b o bytes) c at = one (cmd.Update b o bytes) c at
own_act (cmd.Copy b d gs) c at = one (cmd.Copy b d gs) c at
own_act (cmd.Clear i l color rs) c at = one (cmd.Clear i l color rs) c at
own_act (cmd.CopyIn b i l gs) c at = one (cmd.CopyIn b i l gs) c at
own_act (cmd.CopyOut i l b gs) c at = one (cmd.CopyOut i l b gs) c at
own_act (cmd.CopyImage b l d m gs) c at = one (cmd.CopyImage b l d m gs) c at

pub node_fits : (past : Past) → AllFit past → (n : Node) (c : Cmd) → Contains (nodes past) n → n.act ≡ Runs c → FitsCommand past c
node_fits [] fit n c at act = absurd (none_in n at)
node_fits (p ∷ past) fit n c at act = elim (with_member p (acts p.action) (nodes past) n at) [
  | inl old ↦ later_fits past p c fit.0 (node_fits past fit.1 n c old act)
  | inr new ↦ later_fits past p c fit.0 (here (runs_it p.action c (subst (λ (a : Act). Contains (acts p.action) a) act new.1)))
]
  where
    here : (d : Cmd) × (p.action ≡ Run d) × Contains (acts (Run d)) (Runs c) → FitsCommand past c
    here found = subst (λ (d : Cmd). FitsCommand past d) (own_act found.0 c found.2) (subst (λ (a : Action). FitsAction past a) found.1 fit.0)

-- ---- the piece

module _ (past : Past) (done : List Name) (o : Offers) (is : IsOffers o past done) (piece : Piece) (at : Contains (ready o.ready) piece) where
  pub is_offered : IsTrue (is_done (offered past done) (name_of past piece))
  is_offered =
      let named : Contains (map (name_of past) (ready o.ready)) (name_of past piece) = map_has (name_of past) (ready o.ready) piece at in
      let there : Contains (offered past done) (name_of past piece) = subst (λ (xs : List Name). Contains xs (name_of past piece)) (same_offers past done o.ready is.started) named in
      member_passes (same_name (name_of past piece)) (offered past done) (name_of past piece) there
      (rw (eq-eqb (name_of past piece).0 (name_of past piece).0 refl, eq-eqb piece.index piece.index refl) refl)

  -- its byte writes are those of its name
  pub named_content : OfferedArePieces → (c : Cmd) → IsPieceOf past piece c → slice_get (pieces past c) piece.index ≡ Some (named_piece past (name_of past piece))
  named_content law c of =
      let this = (law past done (name_of past piece) is_offered).0 in
      let number : (name_of past piece).0 ≡ of.node.number = ap number_of of.here in
      let hit = found (λ (n : Node). n.number == (name_of past piece).0) (nodes past) this.node this.present in
      let same_number : this.node.number ≡ of.node.number = eqb-true this.node.number (name_of past piece).0 hit.1 ∙ number in
      let inside = (command_at (nodes past) piece.command of.node of.here).0 in
      let same : this.node ≡ of.node = unique (nodes past) (numbered past) this.node of.node hit.0 inside same_number in
      let act : Runs this.command ≡ Runs c = sym this.act ∙ ap (λ (n : Node). n.act) same ∙ of.runs in
      let command : this.command ≡ c = cc in
      subst (λ (d : Cmd). slice_get (pieces past d) piece.index ≡ Some (named_piece past (name_of past piece))) command this.content

  -- it is of a command that was made ready
  pub work_of : (works : List Cmd) → AreWorks works past → (c : Cmd) × (slice_get works piece.command ≡ Some c) × IsPieceOf past piece c
  work_of works are =
      let all : map Runs works ≡ map (λ d. Runs d.now) o.commands.items = are ∙ sym is.acts in
      let long : length works ≡ length o.commands.items = sym (length-map works Runs) ∙ ap (λ (l : List Act). length l) all ∙ length-map o.commands.items (λ d. Runs d.now) in
      let low = piece_low o past done is piece at in
      let c = item_at works piece.command (omega (arith, low, long)) in
      (c.0, c.1, piece_of o past done is piece at c.0 (sym (ap (λ (l : List Act). slice_get l piece.command) all) ∙ get_mapped Runs works piece.command c.0 c.1))

  -- which is found among them by the piece's command
  pub work_here : (works : List Cmd) → AreWorks works past → (y : Cmd) → y ≡ get_or works piece.command y → slice_get works piece.command ≡ Some y
  work_here works are y found =
      let work = work_of works are in
      slice_get-get_or works piece.command y (slice_get_within works piece.command work.0 work.1) ∙ ap (λ (c : Cmd). Some c) (sym found)

  -- and hasn't run
  pub unrun : (n : Node) → slice_get (commands_in (nodes past)) piece.command ≡ Some n → is_done done (n.number, piece.index) ≡ false
  unrun n here =
      let left = (offered_of past done (name_of past piece) is_offered).fresh in
      let number : (name_of past piece).0 ≡ n.number = ap number_of here in
      subst (λ (k : ℕ). is_done done (k, piece.index) ≡ false) number (not-true (is_done done (name_of past piece)) left)

-- what is stored is so by other bytes that are the same where they are copied from
stored_same : (old bytes : Byte → ℕ) (o : Option ByteWrite) (c : Byte) → (o ≡ None → old c ≡ bytes c) → ((m : ByteWrite) (e : Byte) → o ≡ Some m → m.source ≡ From e → old e ≡ bytes e) → stored o old c ≡ byte_after bytes o c
stored_same old bytes None c kept copied = kept refl
stored_same old bytes (Some m) c kept copied = go m.source refl
  where
    go : (x : Source) → m.source ≡ x → given x old ≡ value_in bytes x
    go (Value v) is = refl
    go (From e) is = copied m e refl is

module _ (t : List Entry) (steps : List Step) (s : Stage) (d : Device) (led : Led t steps s d) (piece : Piece) (at : Contains (ready d.offers.ready) piece)
    (sources : (c : Byte) (w : ByteWrite) (e : Byte) → write_to c (named_piece s.front.past (name_of s.front.past piece)) ≡ Some w → w.source ≡ From e → IsThere d.resources e) where
  abbrev ms : List ByteWrite
  ms = named_piece s.front.past (name_of s.front.past piece)

  -- what it makes of the bytes of resources
  pub piece_becomes : (new : Held) → HaveRun ms (byte_at d.resources) (byte_at new) → new.resources ≡ d.resources.resources → new.cache ≡ d.resources.cache → Becomes d.resources new (memory_after_piece ms)
  piece_becomes new ran resources cache m has c was is = record {
    held = (has c was).held ∙ sym (host_same d.resources new resources cache c);
    region = sym (ran c ∙ stored_same (byte_at d.resources) m.region (write_to c ms) c (λ none. sym (has c was).region) (λ w e is from. sym (has e (sources c w e is from)).region));
  }

  -- the device when it has run
  pub has_run : PiecesGoOn → (new : Device) → HaveRun ms (byte_at d.resources) (byte_at new.resources) → Stands s.front.past new.resources → new.resources.resources ≡ d.resources.resources → new.resources.shapes ≡ d.resources.shapes → new.resources.cache ≡ d.resources.cache → new.resources.backed ≡ d.resources.backed → CopiesAgree d.passes new.resources.backed new.resources.memory → new.passes ≡ d.passes → new.works ≡ d.works
      → new.waiting ≡ d.waiting → new.count ≡ d.count → IsOffers new.offers s.front.past (name_of s.front.past piece ∷ s.done)
      → Led t (steps ++ RunPiece (name_of s.front.past piece) ∷ []) (record s { done = name_of s.front.past piece ∷ s.done }) new
  has_run go_on new ran matches resources shapes cache backed agree passes works waiting count offers = record {
    memory = memory_after_piece ms led.memory;
    run = go_on t steps s led.memory (name_of s.front.past piece) led.run (is_offered s.front.past s.done d.offers led.offers piece at);
    holds = λ c there. piece_becomes new.resources ran resources cache led.memory led.holds c (was_there d.resources new.resources resources shapes c there) there;
    matches = matches;
    works = rw works led.works;
    waits = subst (λ (w : Waiting). IsWaiting w new.count s.front) (sym waiting) (subst (λ (k : ℕ). IsWaiting d.waiting k s.front) (sym count) led.waits);
    counts = count ∙ led.counts;
    offers = offers;
    passes = rw passes (piece_passes (parts_left s) s.front.past d.passes d.resources new.resources backed resources shapes cache agree led.passes);
  }

  -- the bytes that it has written
  pub has_written : DirectRunsAreWritten → first_fault t ≡ None → (bytes : Byte → ℕ) → HaveRun ms (byte_at d.resources) bytes → (c : Byte) (w : ByteWrite) (v : ℕ) → write_to c ms ≡ Some w
      → value_before (order t) (suc (name_of s.front.past piece).0) c ≡ Some v → bytes c ≡ v
  has_written law faultless bytes ran c w v write means =
      let after = law t steps s led.memory (name_of s.front.past piece) c w v faultless led.run (is_offered s.front.past s.done d.offers led.offers piece at) write means in
      ran c ∙ stored_same (byte_at d.resources) led.memory.region (write_to c ms) c (λ none. let both : None ≡ Some w = sym none ∙ write in absurd cc) (λ w e is from. sym (led.holds e (sources c w e is from)).region) ∙ after

-- what is so of the command of a piece that may run
pub record IsRunnable (past : Past) (d : Device) (piece : Piece) (y : Cmd) : Type 0 where
  pub ready : PieceReady d.resources y piece.index
  pub fit : FitsCommand past y
  pub content : slice_get (pieces past y) piece.index ≡ Some (named_piece past (name_of past piece))
  pub sources : (c : Byte) (w : ByteWrite) (e : Byte) → write_to c (named_piece past (name_of past piece)) ≡ Some w → w.source ≡ From e → IsThere d.resources e

-- ---- the command of a piece that may run

module _ (t : List Entry) (steps : List Step) (s : Stage) (d : Device) (led : Led t steps s d) (piece : Piece) (at : Contains (ready d.offers.ready) piece) (y : Cmd) (here : slice_get d.works.items piece.command ≡ Some y) where
  piece_is_of : IsPieceOf s.front.past piece y
  piece_is_of =
      let w = work_of s.front.past s.done d.offers led.offers piece at d.works.items led.works in
      let both : Some w.0 ≡ Some y = sym w.1 ∙ here in
      let same : w.0 ≡ y = cc in
      subst (λ (c : Cmd). IsPieceOf s.front.past piece c) same w.2

  module _ (run : RunOf t steps s) (faultless : first_fault t ≡ None) (names : CommandsNameLive) (fits : AllFit s.front.past) where
    present : Contains (nodes s.front.past) piece_is_of.node
    present = (command_at (nodes s.front.past) piece.command piece_is_of.node piece_is_of.here).0

    its_fit : FitsCommand s.front.past y
    its_fit = node_fits s.front.past fits piece_is_of.node y present piece_is_of.runs

    its_alive : NamesLive s.front.past y
    its_alive i kind asked =
        names t steps s piece_is_of.node y piece.index i kind run faultless present piece_is_of.runs piece_is_of.among
        (unrun s.front.past s.done d.offers led.offers piece at piece_is_of.node piece_is_of.here) asked

    piece_ready : PieceReady d.resources y piece.index
    piece_ready = record { past = s.front.past; matches = led.matches; fits = its_fit; alive = its_alive; below = piece_is_of.among }

    its_content : OfferedArePieces → slice_get (pieces s.front.past y) piece.index ≡ Some (named_piece s.front.past (name_of s.front.past piece))
    its_content law = named_content s.front.past s.done d.offers led.offers piece at law y piece_is_of

    its_sources : OfferedArePieces → PiecesAreByteWrites → (c : Byte) (w : ByteWrite) (e : Byte) → write_to c (named_piece s.front.past (name_of s.front.past piece)) ≡ Some w → w.source ≡ From e → IsThere d.resources e
    its_sources law together = sources_there s.front.past d.resources led.matches.live together y piece.index (named_piece s.front.past (name_of s.front.past piece)) its_fit its_alive (its_content law)

    by_laws : OfferedArePieces → PiecesAreByteWrites → IsRunnable s.front.past d piece y
    by_laws law together = record { ready = piece_ready; fit = its_fit; content = its_content law; sources = its_sources law together }

-- the command that a device has made ready for a piece that may run
pub runnable : (t : List Entry) (steps : List Step) (s : Stage) (d : Device) (led : Led t steps s d) (piece : Piece) (at : Contains (ready d.offers.ready) piece) (y : Cmd) → y ≡ get_or d.works.items piece.command y
    → RunOf t steps s → first_fault t ≡ None → CommandsNameLive → AllFit s.front.past → OfferedArePieces → PiecesAreByteWrites → IsRunnable s.front.past d piece y
runnable t steps s d led piece at y found run faultless names fits law together =
    by_laws t steps s d led piece at y (work_here s.front.past s.done d.offers led.offers piece at d.works.items led.works y found) run faultless names fits law together
