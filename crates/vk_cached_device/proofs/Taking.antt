-- A step is picked and taken before an entry, where queues have caches.
use Rattle.std.proofs.Common.{◌≡◌, ℕ, zero, suc, pred, ◌+◌, ◌-◌, ◌<◌, ◌≤◌, List, [], ◌∷◌, ◌++◌, length, Bool, refl, ap, sym, ◌∙◌, subst, arith, append_assoc, IsTrue, Option, Some, None}
use Rattle.std.specs.Prelude.{Contains, slice_get}
use Rattle.vk_model.specs.declared.command.Cmd.{Cmd}
use Rattle.vk_model.specs.declared.entry.Entry.{Entry}
use Rattle.vk_model.specs.Run.Runs.{Name, Step, Stage, RunPiece, CopyPart, offered, may_go}
use Rattle.vk_model.specs.Run.Picks.{Take, Picked, stepped, options, pick_of, held_after, held_after_step, before_entry}
use Rattle.vk_model.specs.Run.CachedRuns.{named_piece, numbered}
use Rattle.vk_model.specs.Sync.Node.{Act, Runs, Node}
use Rattle.vk_model.specs.World.Ownership.{uses}
use Rattle.vk_laws.specs.DirectRuns.{HostMemory, memory_after_piece, DirectRunsAreRuns}
use Rattle.vk_laws.specs.PickedRuns.{OptionsAreThere}
use Rattle.vk_cache_laws.specs.LateRuns.{Late}
use Rattle.vk_sync.specs.declared.ready.Piece.{Piece}
use Rattle.vk_sync.specs.Ready.{ready}
use Rattle.vk_offers.specs.IsOffers.{name_of, IsPieceOf}
use Rattle.vk_offers.specs.declared.offers.Offers.{Offers}
use Rattle.vk_backing.specs.Passing.{parts_left}
use Rattle.vk_device.specs.declared.device.Device.{Device}
use Rattle.vk_device.specs.Asking.{option_count}
use Rattle.vk_device.proofs.Picking.{Turn, shape, left_on, fewer_piece, fewer_part, size, piece_at, part_at, entry_at, piece_taken, piece_shape, part_taken, part_shape, entry_whole}
use Rattle.vk_cached_device.specs.declared.device.CachedDevice.{CachedDevice}
use Rattle.vk_cached_device.specs.LedLate.{LedLate, IsBeforeLate, IsNodeOf, HasRunLate, HasCopiedLate, late_when_ran}
use Rattle.vk_cached_device.specs.Touching.{TouchesNamed, late_picked, late_ran, late_stepped, late_picks, late_before_entry, used_by}
use Rattle.vk_cached_device.specs.Inner.{RunsPlain, CopiesPlain}
use Rattle.vk_cached_device.proofs.LatePicking.{late_step, late_entry}
use Rattle.vk_cached_device.proofs.Running.{numbered_at}
use Rattle.vk_cached_device.proofs.Turning.{TurnLate, LedShape, plain_before, now}

module _ (answer : List ℕ → ℕ → ℕ) (next : List ℕ → ℕ → List ℕ) {t : List Entry} {steps : List Step} {s : Stage} {memory : HostMemory} {late : Late} {xs : List Entry} {d0 : CachedDevice} {first : List ℕ} {x : Entry} (is : IsBeforeLate t steps s memory late x xs d0) {d : CachedDevice} {held : List ℕ} (turn : TurnLate answer next t steps s memory late d0 first x d held)
    (pieces parts : ℕ) (counted : pieces ≡ length (offered s.front.past turn.turn.done)) (parts_are : parts ≡ length (parts_left d.device.passes)) (goes : Bool) (may : goes ≡ may_go (record s { done = turn.turn.done; copied = turn.turn.copied }) x) (picked : ℕ) (held' : List ℕ)
    (pick_is : picked ≡ pick_of answer next held (option_count (pieces + parts) goes)) (held_is : held' ≡ held_after answer next held (option_count (pieces + parts) goes)) where
  abbrev here : Stage
  here = record s { done = turn.turn.done; copied = turn.turn.copied }

  -- a step is picked: what caches do from here on, and what they have done
  step_rest : (step : Step) (e : Stage) → (stage_is : stepped step here ≡ e) → slice_get (options answer next here x) (pick_of answer next held (option_count (pieces + parts) goes)) ≡ Some (Take step) → (held'' : List ℕ) → held'' ≡ held_after_step answer next step held' → (values : HostMemory × Late) → late_stepped answer next here step held' turn.by.values ≡ values
      → late_before_entry answer next s first x (memory, late) ≡ late_picks answer next (pred turn.by.fuel) e held'' x values
  step_rest step e stage_is at held'' asked values values_are = go turn.by.fuel turn.by.enough turn.by.rest
    where
      go : (fuel : ℕ) → left_on d.device < fuel → late_before_entry answer next s first x (memory, late) ≡ late_picks answer next fuel here held x turn.by.values → late_before_entry answer next s first x (memory, late) ≡ late_picks answer next (pred fuel) e held'' x values
      go zero lt rest = absurd (omega (arith, lt))
      go (suc fuel) lt rest =
          rest ∙ late_step answer next fuel here held x turn.by.values step (option_count (pieces + parts) goes) (size answer next t steps s xs d0.device first x (plain_before is) d.device held turn.turn pieces parts counted parts_are goes may picked held' pick_is held_is) at
          ∙ ap (λ (h : List ℕ). late_picks answer next fuel (stepped step here) (held_after_step answer next step h) x (late_stepped answer next here step h turn.by.values)) (sym held_is)
          ∙ ap (λ (h : List ℕ). late_picks answer next fuel (stepped step here) h x (late_stepped answer next here step held' turn.by.values)) (sym asked)
          ∙ ap (λ (l : HostMemory × Late). late_picks answer next fuel (stepped step here) held'' x l) values_are
          ∙ ap (λ (q : Stage). late_picks answer next fuel q held'' x values) stage_is

  -- a piece runs, and then the caches of the queues do what is picked
  pub piece_taken_late : (piece : Piece) → slice_get (offered s.front.past turn.turn.done) picked ≡ Some (name_of s.front.past piece) → Contains (ready d.device.offers.ready) piece → (mid new : CachedDevice) → HasRunLate d mid piece → RunsPlain d.device mid.device piece
      → d.device.resources.resources ≡ d0.device.resources.resources → d.device.resources.shapes ≡ d0.device.resources.shapes → (c : Cmd) → IsPieceOf s.front.past piece c → TouchesNamed answer next held' c mid new → new ≡ record mid { lags = new.lags } → (held'' : List ℕ) → held'' ≡ next (next (next (next held' 4) 4) 4) 4
      → TurnLate answer next t steps s memory late d0 first x new held''
  piece_taken_late piece named among' mid new ran plain places images c command touched same held'' asked =
      subst (λ (e : CachedDevice). TurnLate answer next t steps s memory late d0 first x e held'') (sym same)
      (record {
        turn = piece_taken answer next t steps s xs d0.device first x (plain_before is) d.device held turn.turn pieces parts counted parts_are goes may picked held' pick_is held_is piece named among' mid.device plain.ran places images plain.becomes held'' asked;
        by = subst (λ (l : List Step × List Name × List ℕ). LedShape answer next t steps s memory late first x (record mid { lags = new.lags }) held'' l)
            (sym (piece_shape answer next t steps s xs d0.device first x (plain_before is) d.device held turn.turn pieces parts counted parts_are goes may picked held' pick_is held_is piece named among' mid.device plain.ran places images plain.becomes held'' asked)) (go (ran t (steps ++ turn.turn.so_far) here turn.by.values.0 turn.by.values.1 turn.by.led is.sound));
      })
    where
      fewer : left_on mid.device < left_on d.device
      fewer = fewer_piece answer next t steps s xs d0.device first x (plain_before is) d.device held turn.turn piece among' mid.device plain.ran

      go : (n : Node) × IsNodeOf here piece n × LedLate t ((steps ++ turn.turn.so_far) ++ RunPiece (name_of s.front.past piece) ∷ []) (record s { done = name_of s.front.past piece ∷ turn.turn.done; copied = turn.turn.copied }) (memory_after_piece (named_piece s.front.past (name_of s.front.past piece)) turn.by.values.0) (late_when_ran here piece n turn.by.values.0 turn.by.values.1) mid
          → LedShape answer next t steps s memory late first x (record mid { lags = new.lags }) held'' (turn.turn.so_far ++ RunPiece (name_of s.front.past piece) ∷ [], name_of s.front.past piece ∷ turn.turn.done, turn.turn.copied)
      go node =
          let m = memory_after_piece (named_piece s.front.past (name_of s.front.past piece)) turn.by.values.0 in
          let behind = late_when_ran here piece node.0 turn.by.values.0 turn.by.values.1 in
          let e = record s { done = name_of s.front.past piece ∷ turn.turn.done; copied = turn.turn.copied } in
          let one : command.node ≡ node.0 = (let both : Some command.node ≡ Some node.0 = sym command.here ∙ node.1 in cc) in
          let uses_are : used_by node.0.act ≡ uses c = ap (λ (n : Node). used_by n.act) (sym one) ∙ ap used_by command.runs in
          record {
            values = (m, late_picked answer next 4 0 (uses c) held' behind);
            fuel = pred turn.by.fuel;
            enough = (let lt = turn.by.enough in let less = fewer in omega (arith, lt, less));
            rest = step_rest (RunPiece (name_of s.front.past piece)) e refl (piece_at answer next t steps s xs d0.device first x (plain_before is) d.device held turn.turn pieces parts counted parts_are goes may picked held' pick_is held_is piece named) held'' asked (m, late_picked answer next 4 0 (uses c) held' behind)
                (ap (λ (o : Option Node). late_ran answer next here (name_of s.front.past piece) held' o turn.by.values) (numbered_at s.front.past piece node.0 node.1) ∙ ap (λ (rs : List ℕ). (m, late_picked answer next 4 0 rs held' behind)) uses_are);
            led = subst (λ (q : CachedDevice). LedLate t (steps ++ (turn.turn.so_far ++ RunPiece (name_of s.front.past piece) ∷ [])) e m (late_picked answer next 4 0 (uses c) held' behind) q) same
                (touched t (steps ++ (turn.turn.so_far ++ RunPiece (name_of s.front.past piece) ∷ [])) e m behind (subst (λ (l : List Step). LedLate t l e m behind mid) (append_assoc steps turn.turn.so_far (RunPiece (name_of s.front.past piece) ∷ [])) node.2));
          }

  -- a part is copied
  pub part_taken_late : (j part : ℕ) → picked ≡ pieces + j → slice_get (parts_left d.device.passes) j ≡ Some part → Contains (parts_left d.device.passes) part → (new : CachedDevice) → HasCopiedLate d new part → CopiesPlain d.device new.device part
      → d.device.resources.resources ≡ d0.device.resources.resources → d.device.resources.shapes ≡ d0.device.resources.shapes → TurnLate answer next t steps s memory late d0 first x new held'
  part_taken_late j part is_at there among' new copied plain places images = record {
    turn = part_taken answer next t steps s xs d0.device first x (plain_before is) d.device held turn.turn pieces parts counted parts_are goes may picked held' pick_is held_is j part is_at there among' new.device plain.copied plain.offers places images plain.cells;
    by = subst (λ (l : List Step × List Name × List ℕ). LedShape answer next t steps s memory late first x new held' l)
        (sym (part_shape answer next t steps s xs d0.device first x (plain_before is) d.device held turn.turn pieces parts counted parts_are goes may picked held' pick_is held_is j part is_at there among' new.device plain.copied plain.offers places images plain.cells))
        (record {
          values = turn.by.values;
          fuel = pred turn.by.fuel;
          enough = (let lt = turn.by.enough in let less = fewer_part answer next t steps s xs d0.device first x (plain_before is) d.device held turn.turn part among' new.device plain.copied plain.offers in omega (arith, lt, less));
          rest = step_rest (CopyPart part) (record s { done = turn.turn.done; copied = part ∷ turn.turn.copied }) refl (part_at answer next t steps s xs d0.device first x (plain_before is) d.device held turn.turn pieces parts counted parts_are goes may picked held' pick_is held_is j part is_at there) held' refl turn.by.values refl;
          led = subst (λ (l : List Step). LedLate t l (record s { done = turn.turn.done; copied = part ∷ turn.turn.copied }) turn.by.values.0 turn.by.values.1 new) (append_assoc steps turn.turn.so_far (CopyPart part ∷ [])) (copied t (steps ++ turn.turn.so_far) here turn.by.values.0 turn.by.values.1 turn.by.led is.sound);
        });
  }

  -- the entry is picked
  pub picked_late : DirectRunsAreRuns → OptionsAreThere → pieces + parts ≤ picked
      → let p = before_entry answer next s first x in let l = late_before_entry answer next s first x (memory, late) in LedLate t (steps ++ p.steps) p.stage l.0 l.1 d × (held' ≡ p.held) × IsTrue (may_go p.stage x)
  picked_late runs there past_all =
      let whole = entry_whole answer next t steps s xs d0.device first x (plain_before is) d.device held turn.turn pieces parts counted parts_are goes may picked held' pick_is held_is runs there past_all in (
        subst (λ (p : Picked). LedLate t (steps ++ p.steps) p.stage (late_before_entry answer next s first x (memory, late)).0 (late_before_entry answer next s first x (memory, late)).1 d) (sym whole.0)
            (subst (λ (l : HostMemory × Late). LedLate t (steps ++ turn.turn.so_far) here l.0 l.1 d) (sym (all turn.by.fuel turn.by.enough turn.by.rest)) turn.by.led),
        whole.1,
        whole.2,
      )
    where
      all : (fuel : ℕ) → left_on d.device < fuel → late_before_entry answer next s first x (memory, late) ≡ late_picks answer next fuel here held x turn.by.values → late_before_entry answer next s first x (memory, late) ≡ turn.by.values
      all zero lt rest = absurd (omega (arith, lt))
      all (suc fuel) lt rest = rest ∙ late_entry answer next fuel here held x turn.by.values (option_count (pieces + parts) goes) (size answer next t steps s xs d0.device first x (plain_before is) d.device held turn.turn pieces parts counted parts_are goes may picked held' pick_is held_is) (entry_at answer next t steps s xs d0.device first x (plain_before is) d.device held turn.turn pieces parts counted parts_are goes may picked held' pick_is held_is runs there past_all).1
