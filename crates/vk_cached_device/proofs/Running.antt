-- A piece runs on a device whose queues have caches.
use Rattle.std.proofs.Common.{◌≡◌, ◌⊎◌, inl, inr, ℕ, ◌<◌, ◌≤◌, ◌==◌, List, [], ◌∷◌, ◌++◌, map, length, Bool, true, false, eq-eqb, IsTrue, refl, ap, sym, ◌∙◌, subst, arith, Option, Some, None}
use Rattle.std.proofs.lemmas.Bool.{ne_eqb}
use Rattle.std.proofs.lemmas.Option.{slice_get-map, slice_get_within}
use Rattle.std.specs.Prelude.{Contains, IsSome, slice_get, option_map, if◌then◌else◌}
use Rattle.std.proofs.lemmas.List.{length-map}
use Rattle.std.specs.List.{find}
use Rattle.vk_model.specs.declared.entry.Entry.{Entry}
use Rattle.vk_model.specs.Trace.Point.{Past}
use Rattle.vk_model.specs.Sync.Node.{Node, nodes}
use Rattle.vk_model.specs.Sync.Before.{IsNumbered}
use Rattle.vk_model.specs.Run.Runs.{Name, Step, Stage, RunPiece, offered, is_done}
use Rattle.vk_model.specs.Run.CachedRuns.{named_piece, numbered, happening}
use Rattle.vk_model.specs.World.Bytes.{Byte, resource_at}
use Rattle.vk_model.proofs.Lists.Items.{item_at}
use Rattle.vk_model.proofs.Lists.Members.{none_in, contains-cons}
use Rattle.vk_model.proofs.Sync.Numbers.{number_below}
use Rattle.vk_model.proofs.Sync.Numbers as numbers
use Rattle.vk_laws.specs.DirectRuns.{HostMemory, memory_after_piece, cells_of}
use Rattle.vk_cache_laws.specs.LateRuns.{Late, late_after_piece, PiecesGoOnLate}
use Rattle.vk_sync.specs.declared.board.Command.{Command}
use Rattle.vk_sync.specs.declared.ready.Piece.{Piece}
use Rattle.vk_sync.specs.Ready.{ready}
use Rattle.vk_offers.specs.declared.happenings.Happenings.{Happenings}
use Rattle.vk_offers.specs.IsOffers.{commands_in, name_of, number_of, IsOffers}
use Rattle.vk_offers.specs.IsHappenings.{IsHappenings}
use Rattle.vk_offers.proofs.Agreeing.{node_of_piece}
use Rattle.vk_offers.proofs.Commands.{command_at}
use Rattle.vk_offers.proofs.Steps.{ready_has}
use Rattle.vk_lag.specs.declared.late.Writer.{Writer}
use Rattle.vk_lag.specs.Lags.{Lags, resource_in}
use Rattle.vk_resources.specs.declared.stretches.Written.{Written}
use Rattle.vk_resources.specs.declared.resources.Placed.{Placed}
use Rattle.vk_resources.specs.Held.{Held, placed, placed_in, shape_in, IsThere, HasCell, place_in, byte_at}
use Rattle.vk_resources.specs.Stretches.{HasWrites, place_at}
use Rattle.vk_model.specs.declared.resource.ImageInfo.{ImageInfo}
use Rattle.vk_availability.specs.AreLate.{AreLate, HasValues, IsOfNode, BecomesBehind}
use Rattle.vk_device.specs.declared.device.Device.{Device}
use Rattle.vk_device.specs.Becomes.{HasBytes}
use Rattle.vk_device.specs.Led.{Led, IsSoundTrace}
use Rattle.vk_device.proofs.KeptPasses.{was_there}
use Rattle.vk_device.proofs.Running.{is_offered}
use Rattle.vk_cached_device.specs.declared.device.CachedDevice.{CachedDevice}
use Rattle.vk_cached_device.specs.LedLate.{LedLate, AreWriters, writer_of, IsNodeOf, ran_piece, late_when_ran}
use Rattle.vk_cached_device.specs.Inner.{RunsPlain, Settles}

-- ---- the node of a number

found_at : (ns : List Node) → IsNumbered ns → (n : Node) → Contains ns n → find (λ m. m.number == n.number) ns ≡ Some n
found_at [] numbered n at = absurd (none_in n at)
found_at (m ∷ ns) numbered n at = go (contains-cons m ns n at) (found_at ns numbered.1 n)
  where
    go : (m ≡ n) ⊎ Contains ns n → (Contains ns n → find (λ m. m.number == n.number) ns ≡ Some n) → find (λ m. m.number == n.number) (m ∷ ns) ≡ Some n
    go (inl same) rest = rw (eq-eqb m.number n.number (ap (λ (k : Node). k.number) same)) (ap Some same)
    go (inr later) rest =
        let low = number_below ns numbered.1 n later in
        let own = numbered.0 in
        rw (ne_eqb m.number n.number (λ e. absurd (omega (arith, low, own, e)))) (rest later)

pub found_node : (past : Past) (n : Node) → Contains (nodes past) n → numbered past n.number ≡ Some n
found_node past n at = found_at (nodes past) (numbers.numbered past) n at

pub numbered_at : (past : Past) (piece : Piece) (n : Node) → slice_get (commands_in (nodes past)) piece.command ≡ Some n → numbered past (name_of past piece).0 ≡ Some n
numbered_at past piece n here = ap (λ (k : ℕ). numbered past k) (ap number_of here) ∙ found_node past n (command_at (nodes past) piece.command n here).0

-- ---- where resources stay

pub same_place : (old new : Held) → new.resources ≡ old.resources → new.shapes ≡ old.shapes → (c : Byte) → place_at new c ≡ place_at old c
same_place old new resources shapes c =
    ap (λ (bs : List (ℕ × Placed)). place_in (shape_in new.shapes (resource_at c)) (placed_in bs (resource_at c)) c) resources
    ∙ ap (λ (l : List (ℕ × ImageInfo)). place_in (shape_in l (resource_at c)) (placed_in old.resources (resource_at c)) c) shapes

pub late_stays : (old new : Held) → new.resources ≡ old.resources → new.shapes ≡ old.shapes → (lags : Lags) (late : Late) → AreLate old lags late → AreLate new lags late
late_stays old new resources shapes lags late are c k place = are c k (sym (same_place old new resources shapes c) ∙ place)

-- ---- a piece

module _ (t : List Entry) (steps : List Step) (s : Stage) (memory : HostMemory) (late : Late) (old : CachedDevice) (led : LedLate t steps s memory late old) (sound : IsSoundTrace t) (piece : Piece) (at : Contains (ready old.device.offers.ready) piece) where
  abbrev past : Past
  past = s.front.past

  started : IsOffers old.device.offers past s.done
  started = led.led.offers

  pub its : (n : Node) × (slice_get (commands_in (nodes past)) piece.command ≡ Some n)
  its = node_of_piece past s.done old.device.offers.ready started.started piece at

  abbrev n : Node
  n = its.0

  pub numbered_so : numbered past (name_of past piece).0 ≡ Some n
  numbered_so = numbered_at past piece n its.1

  four : n.point.queue < 4
  four =
      let has = ready_has old.device.offers.ready piece at in
      let is = started.started.each piece.command n has.0 its.1 has.1 in
      let low = is.on_queue in
      let same = is.queue in
      omega arith

  -- the command that wrote is known
  pub writer_is : (w : Writer) → slice_get old.writers.items piece.command ≡ Some w → IsOfNode w n
  writer_is w here =
      let both : Some w ≡ Some (writer_of n) = sym here ∙ ap (λ (ws : List Writer). slice_get ws piece.command) led.writers ∙ slice_get-map writer_of (commands_in (nodes past)) piece.command ∙ ap (λ (o : Option Node). option_map writer_of o) its.1 in
      let same : w ≡ writer_of n = cc in
      record { queue = ap (λ (w : Writer). w.queue) same; node = ap (λ (w : Writer). w.node) same }

  -- and there is one
  pub writer_low : piece.command < length old.writers.items
  writer_low =
      let low = slice_get_within (commands_in (nodes past)) piece.command n its.1 in
      let long = ap (λ (ws : List Writer). length ws) led.writers ∙ length-map (commands_in (nodes past)) writer_of in
      omega (arith, low, long)

  values : HasValues old.device.resources memory
  values c k place = (led.holds c (some_there c k place)).region
    where
      some_there : (c : Byte) (k : ℕ) → place_at old.device.resources c ≡ Some k → IsThere old.device.resources c
      some_there c k place = subst (λ (o : Option ℕ). IsSome o) (sym place) refl

  module _ (laws : PiecesGoOnLate) (device : Device) (lags : Lags) (happenings : Happenings) (new : CachedDevice) (written : Written) (w : Writer) (plain : RunsPlain old.device device piece) (works : device.failed ≡ old.device.failed)
      (writes : HasWrites old.device.resources (named_piece past (name_of past piece)) written) (here : slice_get old.writers.items piece.command ≡ Some w)
      (behind : BecomesBehind old.device.resources old.lags lags written w) (room : (id : ℕ) → length (resource_in lags id) ≡ length (resource_in old.lags id))
      (finished : (s : Stage) → IsHappenings old.happenings s.front.past s.done [] → IsHappenings happenings s.front.past (name_of s.front.past piece ∷ s.done) (happening s (record s { done = name_of s.front.past piece ∷ s.done })))
      (settled : Settles (record old { device = device; lags = lags; happenings = happenings }) new) where
    mid : CachedDevice
    mid = record old { device = device; lags = lags; happenings = happenings }

    happened : IsHappenings happenings past (name_of past piece ∷ s.done) (happening s (ran_piece s piece))
    happened = finished s led.happenings

    -- memory is behind by what was written
    written_late : AreLate device.resources lags (late_after_piece n (named_piece past (name_of past piece)) memory late)
    written_late = late_stays old.device.resources device.resources plain.placed plain.shapes lags _ (behind (named_piece past (name_of past piece)) memory late n writes values (writer_is w here) led.lags)

    pub has_run : LedLate t (steps ++ RunPiece (name_of past piece) ∷ []) (ran_piece s piece) (memory_after_piece (named_piece past (name_of past piece)) memory) (late_when_ran s piece n memory late) new
    has_run = subst (λ (d : CachedDevice). LedLate t (steps ++ RunPiece (name_of past piece) ∷ []) (ran_piece s piece) (memory_after_piece (named_piece past (name_of past piece)) memory) (late_when_ran s piece n memory late) d) (sym settled.same) record {
      led = plain.ran t steps s led.led sound;
      works = works ∙ led.works;
      run = laws t steps s memory late (name_of past piece) n sound.faultless led.run (is_offered past s.done old.device.offers started piece at) numbered_so four;
      holds = λ c there. plain.becomes t steps s led.led sound memory led.holds c (was_there old.device.resources device.resources plain.placed plain.shapes c there) there;
      lags = subst (λ (d : CachedDevice). AreLate d.device.resources new.lags (late_when_ran s piece n memory late)) settled.same (settled.late past (name_of past piece ∷ s.done) (happening s (ran_piece s piece)) _ happened led.few written_late);
      room = λ id p is.
          let had = led.room id p (ap (λ (bs : List (ℕ × Placed)). placed_in bs id) (sym plain.placed) ∙ is) in
          let first = room id in
          let second = settled.room id in
          omega (arith, had, first, second);
      waits = led.waits;
      counts = led.counts;
      happenings = settled.taken past (name_of past piece ∷ s.done) (happening s (ran_piece s piece)) happened led.few;
      few = led.few;
      writers = led.writers;
    }
