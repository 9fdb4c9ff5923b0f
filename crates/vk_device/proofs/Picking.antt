-- What a scheduler picks before an entry, turn by turn.
use Rattle.std.proofs.Common.{◌≡◌, ℕ, zero, suc, pred, ◌+◌, ◌<◌, ◌≤◌, ◌%◌, List, [], ◌∷◌, ◌++◌, map, length, Bool, true, false, not, ◌||◌, eq-eqb, ◌==◌, IsTrue, refl, ap, sym, ◌∙◌, subst, arith, append-nil, append_assoc, length-append, nat_le, Option, Some, None}
use Rattle.std.proofs.lemmas.List.{length-map}
use Rattle.std.proofs.lemmas.List.FromFn.{length-range_with_len}
use Rattle.std.proofs.lemmas.List.Sums.{length-filter, count_by-le-length}
use Rattle.std.proofs.lemmas.Option.{slice_get-map}
use Rattle.std.specs.Prelude.{Contains, slice_get, option_map, if◌then◌else◌}
use Rattle.std.specs.List.{sum_by}
use Rattle.vk_model.specs.declared.entry.Entry.{Entry}
use Rattle.vk_model.specs.Basics.{below, among}
use Rattle.vk_model.proofs.Lists.Members.{filtered}
use Rattle.vk_model.specs.Run.Runs.{Name, Step, Stage, RunPiece, CopyPart, offered, parts_left, may_go}
use Rattle.vk_model.specs.Run.Picks.{Choice, Take, Go, Picked, stepped, options, pick_of, held_after, held_after_step, picks, before_entry, most_picks}
use Rattle.vk_sync.specs.declared.board.Command.{Command}
use Rattle.vk_sync.specs.declared.ready.Piece.{Piece}
use Rattle.vk_sync.specs.Ready.{ready}
use Rattle.vk_offers.specs.IsOffers.{name_of, host_node}
use Rattle.vk_offers.specs.declared.offers.Offers.{Offers}
use Rattle.vk_offers.proofs.PiecesLeft.{pieces_left, one_less, one_fewer_kept, ready_offered}
use Rattle.vk_laws.specs.DirectRuns.{DirectRunsAreRuns}
use Rattle.vk_laws.specs.PickedRuns.{OptionsAreThere}
use Rattle.vk_device.specs.declared.device.Device.{Device}
use Rattle.vk_backing.specs.Passing as backing
use Rattle.vk_device.specs.Led.{Led, IsBefore, MayRun, HasRun, MayCopy, HasCopied, RunBecomes}
use Rattle.vk_device.specs.Becomes.{Becomes, memory_after}
use Rattle.vk_device.specs.Asking.{Waited, MayAsk, Goes, option_count}
use Rattle.vk_device.specs.Inner.Ready.{Picks, PicksBecome}
use Rattle.vk_device.proofs.Becoming.{becomes_same, cells_become, steps_become}
use Rattle.vk_resources.specs.PassSteps.{KeepsCells}

-- ---- lists

get_left : {X : Type 0} (xs ys : List X) (j : ℕ) (x : X) → slice_get xs j ≡ Some x → slice_get (xs ++ ys) j ≡ Some x
get_left [] ys j x e = absurd cc
get_left (z ∷ xs) ys zero x e = e
get_left (z ∷ xs) ys (suc j) x e = get_left xs ys j x e

get_right : {X : Type 0} (xs ys : List X) (j place : ℕ) (x : X) → place ≡ length xs + j → slice_get ys j ≡ Some x → slice_get (xs ++ ys) place ≡ Some x
get_right [] ys j place x is e = let same : j ≡ place = omega (arith, is) in subst (λ (k : ℕ). slice_get ys k ≡ Some x) same e
get_right (z ∷ xs) ys j zero x is e = absurd (omega (arith, is))
get_right (z ∷ xs) ys j (suc k) x is e = get_right xs ys j k x (omega (arith, is)) e

get_seam : {X : Type 0} (xs : List X) (x : X) (j : ℕ) → j ≡ length xs → slice_get (xs ++ x ∷ []) j ≡ Some x
get_seam [] x zero e = refl
get_seam [] x (suc j) e = absurd (omega (arith, e))
get_seam (z ∷ xs) x zero e = absurd (omega (arith, e))
get_seam (z ∷ xs) x (suc j) e = get_seam xs x j (omega (arith, e))

-- ---- the options of a turn

module _ (answer : List ℕ → ℕ → ℕ) (next : List ℕ → ℕ → List ℕ) where
  module _ (s : Stage) (x : Entry) where
    abbrev pieces_of : List Choice
    pieces_of = map (λ n. Take (RunPiece n)) (offered s.front.past s.done)

    abbrev parts_of : List Choice
    parts_of = map (λ k. Take (CopyPart k)) (parts_left s)

    abbrev entry_of : Bool → List Choice
    entry_of goes = if goes then Go ∷ [] else []

    -- how many steps there are to take before the entry
    abbrev pub steps_at : ℕ
    steps_at = length (offered s.front.past s.done) + length (parts_left s)

    options_are : options answer next s x ≡ (pieces_of ++ parts_of) ++ entry_of (may_go s x)
    options_are = refl

    steps_length : length (pieces_of ++ parts_of) ≡ steps_at
    steps_length =
        let all = length-append pieces_of parts_of in
        let pieces = length-map (offered s.front.past s.done) (λ n. Take (RunPiece n)) in
        let parts = length-map (parts_left s) (λ k. Take (CopyPart k)) in
        omega (arith, all, pieces, parts)

    pub turn_length : length (options answer next s x) ≡ option_count steps_at (may_go s x)
    turn_length = ap (λ (cs : List Choice). length cs) options_are ∙ length-append (pieces_of ++ parts_of) (entry_of (may_go s x)) ∙ go (may_go s x)
      where
        go : (b : Bool) → length (pieces_of ++ parts_of) + length (entry_of b) ≡ option_count steps_at b
        go true = let same = steps_length in omega (arith, same)
        go false = let same = steps_length in omega (arith, same)

    turn_piece : (place : ℕ) (name : Name) → slice_get (offered s.front.past s.done) place ≡ Some name → slice_get (options answer next s x) place ≡ Some (Take (RunPiece name))
    turn_piece place name at =
        ap (λ (cs : List Choice). slice_get cs place) options_are
        ∙ get_left (pieces_of ++ parts_of) (entry_of (may_go s x)) place (Take (RunPiece name))
        (get_left pieces_of parts_of place (Take (RunPiece name)) (slice_get-map (λ n. Take (RunPiece n)) (offered s.front.past s.done) place ∙ ap (λ (o : Option Name). option_map (λ n. Take (RunPiece n)) o) at))

    turn_part : (place j part : ℕ) → place ≡ length (offered s.front.past s.done) + j → slice_get (parts_left s) j ≡ Some part → slice_get (options answer next s x) place ≡ Some (Take (CopyPart part))
    turn_part place j part is at =
        ap (λ (cs : List Choice). slice_get cs place) options_are
        ∙ get_left (pieces_of ++ parts_of) (entry_of (may_go s x)) place (Take (CopyPart part))
        (get_right pieces_of parts_of j place (Take (CopyPart part)) (is ∙ ap (λ (n : ℕ). n + j) (sym (length-map (offered s.front.past s.done) (λ n. Take (RunPiece n)))))
        (slice_get-map (λ k. Take (CopyPart k)) (parts_left s) j ∙ ap (λ (o : Option ℕ). option_map (λ k. Take (CopyPart k)) o) at))

    pub turn_go : may_go s x ≡ true → (place : ℕ) → place ≡ steps_at → slice_get (options answer next s x) place ≡ Some Go
    turn_go may place at =
        ap (λ (cs : List Choice). slice_get cs place) (options_are ∙ ap (λ (b : Bool). (pieces_of ++ parts_of) ++ entry_of b) may)
        ∙ get_seam (pieces_of ++ parts_of) Go place (at ∙ sym steps_length)

  -- ---- what is picked

  abbrev pub onward : List Step → Picked → Picked
  onward steps p = record p { steps = steps ++ p.steps }

  abbrev after_choice : ℕ → Stage → List ℕ → Entry → Option Choice → Picked
  after_choice fuel s held x o = elim o [
    | None ↦ record { steps = []; stage = s; held = held }
    | Some c ↦ elim c [
      | Go ↦ record { steps = []; stage = s; held = held_after answer next held (length (options answer next s x)) }
      | Take step ↦ (let more = picks answer next fuel (stepped step s) (held_after_step answer next step (held_after answer next held (length (options answer next s x)))) x in record more { steps = step ∷ more.steps })
    ]
  ]

  picks_are : (fuel : ℕ) (s : Stage) (held : List ℕ) (x : Entry) → picks answer next (suc fuel) s held x ≡ after_choice fuel s held x (slice_get (options answer next s x) (pick_of answer next held (length (options answer next s x))))
  picks_are fuel s held x = refl

  picks_step : (fuel : ℕ) (s : Stage) (held : List ℕ) (x : Entry) (step : Step) (n : ℕ) → n ≡ length (options answer next s x) → slice_get (options answer next s x) (pick_of answer next held n) ≡ Some (Take step)
      → picks answer next (suc fuel) s held x ≡ onward (step ∷ []) (picks answer next fuel (stepped step s) (held_after_step answer next step (held_after answer next held n)) x)
  picks_step fuel s held x step n size at =
      picks_are fuel s held x ∙ ap (λ (o : Option Choice). after_choice fuel s held x o) (ap (λ (m : ℕ). slice_get (options answer next s x) (pick_of answer next held m)) (sym size) ∙ at)
      ∙ ap (λ (m : ℕ). onward (step ∷ []) (picks answer next fuel (stepped step s) (held_after_step answer next step (held_after answer next held m)) x)) (sym size)

  pub picks_entry : (fuel : ℕ) (s : Stage) (held : List ℕ) (x : Entry) (n : ℕ) → n ≡ length (options answer next s x) → slice_get (options answer next s x) (pick_of answer next held n) ≡ Some Go
      → picks answer next (suc fuel) s held x ≡ record { steps = []; stage = s; held = held_after answer next held n }
  picks_entry fuel s held x n size at =
      picks_are fuel s held x ∙ ap (λ (o : Option Choice). after_choice fuel s held x o) (ap (λ (m : ℕ). slice_get (options answer next s x) (pick_of answer next held m)) (sym size) ∙ at)
      ∙ ap (λ (m : ℕ). record { steps = []; stage = s; held = held_after answer next held m }) (sym size)

  pick_below : (held : List ℕ) (n : ℕ) → 0 < n → pick_of answer next held n < n
  pick_below held n some = go (nat_le 2 n)
    where
      go : (b : Bool) → (if b then answer held n % n else 0) < n
      go true = omega arith
      go false = some

-- ---- turns

-- how many pieces are left of all commands
abbrev pub left_in : List Command → ℕ
left_in cs = sum_by (λ c. length c.left) cs

-- a pass has no more parts left than it has
few_parts : (s : Stage) → length (parts_left s) ≤ s.parts
few_parts s =
    let kept = length-filter (λ k. not (among k s.copied)) (below s.parts) in
    let fewer = count_by-le-length (λ k. not (among k s.copied)) (below s.parts) in
    let all = length-range_with_len 0 s.parts in
    omega (arith, kept, fewer, all)

-- how many steps are left to a device before an entry
abbrev pub left_on : Device → ℕ
left_on d = left_in d.offers.ready + length (backing.parts_left d.passes)

module _ (answer : List ℕ → ℕ → ℕ) (next : List ℕ → ℕ → List ℕ) where
  -- before a turn: what was picked so far has led here, and with what is picked from here on it is all that is picked
  pub record Turn (t : List Entry) (steps : List Step) (s : Stage) (d0 : Device) (first : List ℕ) (x : Entry) (d : Device) (held : List ℕ) : Type 0 where
    pub so_far : List Step
    pub done : List Name
    pub copied : List ℕ
    pub fuel : ℕ
    pub led : Led t (steps ++ so_far) (record s { done = done; copied = copied }) d
    pub enough : left_on d < fuel
    pub whole : before_entry answer next s first x ≡ onward answer next so_far (picks answer next fuel (record s { done = done; copied = copied }) held x)
    pub bytes : (moved : List ℕ) → Becomes d0.resources d.resources (memory_after s.front.past moved x so_far)

  -- the steps so far, with the pieces that have run and the parts that were copied
  abbrev pub shape : {t : List Entry} {steps : List Step} {s : Stage} {d0 : Device} {first : List ℕ} {x : Entry} {d : Device} {held : List ℕ} → Turn t steps s d0 first x d held → List Step × List Name × List ℕ
  shape turn = (turn.so_far, turn.done, turn.copied)

  -- whatever run has led to the device before
  abbrev pub Turns : Device → List ℕ → Entry → Device → List ℕ → Type 0
  Turns d0 first x d held = (t : List Entry) (steps : List Step) (s : Stage) (xs : List Entry) → IsBefore t steps s x xs d0 → Turn t steps s d0 first x d held

  -- there is fuel for all steps that are left
  pub first_enough : (d : Device) (x : Entry) (t : List Entry) (steps : List Step) (s : Stage) (xs : List Entry) → IsBefore t steps s x xs d → left_on d < most_picks answer next s
  first_enough d x t steps s xs is =
      let few = pieces_left s.front.past s.done d.offers.ready is.led.offers.started in
      let parts = ap (λ (l : List ℕ). length l) is.led.passes.left in
      let most = few_parts s in
      omega (arith, few, parts, most)

  pub first_turn : (d : Device) (held : List ℕ) (x : Entry) → Turns d held x d held
  first_turn d held x t steps s xs is = record {
    so_far = [];
    done = s.done;
    copied = s.copied;
    fuel = most_picks answer next s;
    led = subst (λ (l : List Step). Led t l s d) (sym (append-nil steps)) is.led;
    enough = first_enough d x t steps s xs is;
    whole = refl;
    bytes = λ moved. becomes_same d.resources;
  }

  pub first_shape : (d : Device) (held : List ℕ) (x : Entry) (t : List Entry) (steps : List Step) (s : Stage) (xs : List Entry) (is : IsBefore t steps s x xs d) → shape (first_turn d held x t steps s xs is) ≡ ([], s.done, s.copied)
  unfolding first_turn
  first_shape d held x t steps s xs is = refl

  module _ (t : List Entry) (steps : List Step) (s : Stage) (xs : List Entry) (d0 : Device) (first : List ℕ) (x : Entry) (is : IsBefore t steps s x xs d0) (d : Device) (held : List ℕ) (turn : Turn t steps s d0 first x d held) where
    abbrev now : Stage
    now = record s { done = turn.done; copied = turn.copied }

    -- ---- what a turn asks

    pub may_ask : (commands : Option (List ℕ)) → Waited d0 x commands → MayAsk d commands
    may_ask None waited = tt
    may_ask (Some counts) waited = (s.front.past, turn.done, host_node s.front.past s.count x, turn.led.offers, refl, (waited t steps s xs is).0)

    pub may_run : (piece : Piece) → Contains (ready d.offers.ready) piece → MayRun d piece
    may_run piece at = record { t = t; steps = steps ++ turn.so_far; s = now; led = turn.led; sound = is.sound; among = at }

    pub may_copy : (part : ℕ) → Contains (backing.parts_left d.passes) part → MayCopy d part
    may_copy part at = record { t = t; steps = steps ++ turn.so_far; s = now; led = turn.led; among = at }

    pub ready_count : length (ready d.offers.ready) ≡ length (offered s.front.past turn.done)
    ready_count = sym (length-map (ready d.offers.ready) (name_of s.front.past)) ∙ ap (λ (ns : List Name). length ns) (ready_offered s.front.past turn.done d.offers.ready turn.led.offers.started)

    -- ---- what it is answered

    pub goes_is : (commands : Option (List ℕ)) → Waited d0 x commands → (goes : Bool) → Goes d commands goes → goes ≡ may_go now x
    goes_is None waited goes at = at ∙ sym (waited now)
    goes_is (Some counts) waited goes at =
        let here = waited t steps s xs is in
        at s.front.past turn.done (host_node s.front.past s.count x) turn.led.offers refl here.0 ∙ sym (here.1 turn.done)

    -- ---- a step is taken

    pub led_on : (piece : Piece) (d' : Device) → HasRun d d' piece → Led t ((steps ++ turn.so_far) ++ RunPiece (name_of s.front.past piece) ∷ []) (record s { done = name_of s.front.past piece ∷ turn.done; copied = turn.copied }) d'
    led_on piece d' ran = ran t (steps ++ turn.so_far) now turn.led is.sound

    pub fewer_piece : (piece : Piece) → Contains (ready d.offers.ready) piece → (d' : Device) → HasRun d d' piece → left_on d' < left_on d
    fewer_piece piece at d' ran =
        let led' = led_on piece d' ran in
        let less = one_less s.front.past turn.done piece d.offers.ready turn.led.offers.started at d'.offers.ready led'.offers.started in
        let same = ap (λ (l : List ℕ). length l) (sym turn.led.passes.left ∙ led'.passes.left) in
        omega (arith, less, same)

    pub fewer_part : (part : ℕ) → Contains (backing.parts_left d.passes) part → (d' : Device) → HasCopied d d' part → d'.offers ≡ d.offers → left_on d' < left_on d
    fewer_part part at d' copies same =
        let led' = copies t (steps ++ turn.so_far) now turn.led in
        let here = filtered (λ k. not (among k turn.copied)) (below s.parts) part (subst (λ (l : List ℕ). Contains l part) (sym turn.led.passes.left) at) in
        let less = one_fewer_kept (λ k. not (among k (part ∷ turn.copied))) (λ k. not (among k turn.copied)) still (below s.parts) part here.0 (ap (λ (b : Bool). not (b || among part turn.copied)) (eq-eqb part part refl)) here.1 in
        let before = ap (λ (l : List ℕ). length l) turn.led.passes.left in
        let after = ap (λ (l : List ℕ). length l) led'.passes.left in
        let pieces = ap (λ (o : Offers). left_in o.ready) same in
        omega (arith, less, before, after, pieces)
      where
        still : (k : ℕ) → not (among k (part ∷ turn.copied)) ≡ true → not (among k turn.copied) ≡ true
        still k = go (k == part)
          where
            go : (b : Bool) → not (b || among k turn.copied) ≡ true → not (among k turn.copied) ≡ true
            go true e = absurd cc
            go false e = e

    -- ---- what is picked

    module _ (pieces parts : ℕ) (counted : pieces ≡ length (offered s.front.past turn.done)) (parts_are : parts ≡ length (backing.parts_left d.passes)) (goes : Bool) (may : goes ≡ may_go now x) (picked : ℕ) (held' : List ℕ)
        (pick_is : picked ≡ pick_of answer next held (option_count (pieces + parts) goes)) (held_is : held' ≡ held_after answer next held (option_count (pieces + parts) goes)) where
      steps_are : pieces + parts ≡ steps_at answer next now x
      steps_are = let m = parts_are ∙ ap (λ (l : List ℕ). length l) (sym turn.led.passes.left) in omega (arith, counted, m)

      pub size : option_count (pieces + parts) goes ≡ length (options answer next now x)
      size = ap (λ (n : ℕ). option_count n goes) steps_are ∙ ap (λ (b : Bool). option_count (steps_at answer next now x) b) may ∙ sym (turn_length answer next now x)

      -- the option that is picked: a piece, a part, or the entry where all steps are before it
      pub piece_at : (piece : Piece) → slice_get (offered s.front.past turn.done) picked ≡ Some (name_of s.front.past piece) → slice_get (options answer next now x) (pick_of answer next held (option_count (pieces + parts) goes)) ≡ Some (Take (RunPiece (name_of s.front.past piece)))
      piece_at piece named = turn_piece answer next now x (pick_of answer next held (option_count (pieces + parts) goes)) (name_of s.front.past piece) (ap (λ (k : ℕ). slice_get (offered s.front.past turn.done) k) (sym pick_is) ∙ named)

      pub part_at : (j part : ℕ) → picked ≡ pieces + j → slice_get (backing.parts_left d.passes) j ≡ Some part → slice_get (options answer next now x) (pick_of answer next held (option_count (pieces + parts) goes)) ≡ Some (Take (CopyPart part))
      part_at j part is_at here = turn_part answer next now x (pick_of answer next held (option_count (pieces + parts) goes)) j part (sym pick_is ∙ is_at ∙ ap (λ (n : ℕ). n + j) counted) (ap (λ (l : List ℕ). slice_get l j) turn.led.passes.left ∙ here)

      pub entry_at : DirectRunsAreRuns → OptionsAreThere → pieces + parts ≤ picked → (goes ≡ true) × (slice_get (options answer next now x) (pick_of answer next held (option_count (pieces + parts) goes)) ≡ Some Go)
      entry_at runs there past_all = (chosen.0, turn_go answer next now x (sym may ∙ chosen.0) _ (sym pick_is ∙ chosen.1 ∙ steps_are))
        where
          some : 0 < option_count (pieces + parts) goes
          some = let n = there answer next t (steps ++ turn.so_far) now x xs (runs t (steps ++ turn.so_far) now _ turn.led.run) is.sound.faultless is.next in rw size n

          chosen : (goes ≡ true) × (picked ≡ pieces + parts)
          chosen = go goes (rw pick_is (pick_below answer next held (option_count (pieces + parts) goes) some))
            where
              go : (b : Bool) → picked < option_count (pieces + parts) b → (b ≡ true) × (picked ≡ pieces + parts)
              go true lt = (refl, omega (arith, lt, past_all))
              go false lt = absurd (omega (arith, lt, past_all))

      -- then that is all that is picked before it
      pub entry_whole : DirectRunsAreRuns → OptionsAreThere → pieces + parts ≤ picked
          → (before_entry answer next s first x ≡ record { steps = turn.so_far; stage = record s { done = turn.done; copied = turn.copied }; held = held' }) × (held' ≡ (before_entry answer next s first x).held) × IsTrue (may_go (before_entry answer next s first x).stage x)
      entry_whole runs there past_all = (whole, ap (λ (p : Picked). p.held) (sym whole), subst (λ (p : Picked). IsTrue (may_go p.stage x)) (sym whole) (sym may ∙ chosen.0))
        where
          chosen : (goes ≡ true) × (slice_get (options answer next now x) (pick_of answer next held (option_count (pieces + parts) goes)) ≡ Some Go)
          chosen = entry_at runs there past_all

          last : (fuel : ℕ) → left_on d < fuel → picks answer next fuel now held x ≡ record { steps = []; stage = now; held = held_after answer next held (option_count (pieces + parts) goes) }
          last zero lt = absurd (omega (arith, lt))
          last (suc fuel) lt = picks_entry answer next fuel now held x (option_count (pieces + parts) goes) size chosen.1

          whole : before_entry answer next s first x ≡ record { steps = turn.so_far; stage = now; held = held' }
          whole = turn.whole ∙ ap (λ (p : Picked). onward answer next turn.so_far p) (last turn.fuel turn.enough) ∙ ap (λ (l : List Step). record { steps = l; stage = now; held = held_after answer next held (option_count (pieces + parts) goes) }) (append-nil turn.so_far) ∙ ap (λ (h : List ℕ). record { steps = turn.so_far; stage = now; held = h }) (sym held_is)

      -- the entry is picked
      pub entry_picked : DirectRunsAreRuns → OptionsAreThere → pieces + parts ≤ picked → Picks answer next t steps s first x d held' × PicksBecome answer next s first x d0 d
      entry_picked runs there past_all =
          let all = entry_whole runs there past_all in
          ((subst (λ (p : Picked). Led t (steps ++ p.steps) p.stage d) (sym all.0) turn.led, all.1, all.2), λ moved. subst (λ (p : Picked). Becomes d0.resources d.resources (memory_after s.front.past moved x p.steps)) (sym all.0) (turn.bytes moved))

      -- a step is picked, and taken
      module _ (step : Step) (done : List Name) (copied : List ℕ) (stage_is : stepped step now ≡ record s { done = done; copied = copied }) (d' : Device) (led' : Led t ((steps ++ turn.so_far) ++ step ∷ []) (record s { done = done; copied = copied }) d') (fewer : left_on d' < left_on d)
          (at : slice_get (options answer next now x) (pick_of answer next held (option_count (pieces + parts) goes)) ≡ Some (Take step)) (places : d.resources.resources ≡ d0.resources.resources) (images : d.resources.shapes ≡ d0.resources.shapes)
          (one : (moved : List ℕ) → Becomes d.resources d'.resources (memory_after s.front.past moved x (step ∷ [])))
          (held'' : List ℕ) (asked : held'' ≡ held_after_step answer next step held') where
        pub taken : Turn t steps s d0 first x d' held''
        taken = record {
          so_far = turn.so_far ++ step ∷ [];
          done = done;
          copied = copied;
          fuel = pred turn.fuel;
          led = subst (λ (l : List Step). Led t l (record s { done = done; copied = copied }) d') (append_assoc steps turn.so_far (step ∷ [])) led';
          enough = (let lt = turn.enough in omega (arith, lt, fewer));
          whole = go turn.fuel turn.enough turn.whole;
          bytes = λ moved. steps_become s.front.past moved x d0.resources d.resources d'.resources turn.so_far (step ∷ []) places images (turn.bytes moved) (one moved);
        }
          where
            go : (fuel : ℕ) → left_on d < fuel → before_entry answer next s first x ≡ onward answer next turn.so_far (picks answer next fuel now held x) → before_entry answer next s first x ≡ onward answer next (turn.so_far ++ step ∷ []) (picks answer next (pred fuel) (record s { done = done; copied = copied }) held'' x)
            go zero lt whole = absurd (omega (arith, lt))
            go (suc fuel) lt whole =
                whole ∙ ap (λ (p : Picked). onward answer next turn.so_far p) (picks_step answer next fuel now held x step (option_count (pieces + parts) goes) size at)
                ∙ ap (λ (q : Stage). onward answer next turn.so_far (onward answer next (step ∷ []) (picks answer next fuel q (held_after_step answer next step (held_after answer next held (option_count (pieces + parts) goes))) x))) stage_is
                ∙ ap (λ (h : List ℕ). onward answer next turn.so_far (onward answer next (step ∷ []) (picks answer next fuel (record s { done = done; copied = copied }) h x))) (ap (λ (h : List ℕ). held_after_step answer next step h) (sym held_is) ∙ sym asked)
                ∙ ap (λ (l : List Step). record (picks answer next fuel (record s { done = done; copied = copied }) held'' x) { steps = l }) (sym (append_assoc turn.so_far (step ∷ []) (picks answer next fuel (record s { done = done; copied = copied }) held'' x).steps))

      -- a piece runs
      pub piece_taken : (piece : Piece) → slice_get (offered s.front.past turn.done) picked ≡ Some (name_of s.front.past piece) → Contains (ready d.offers.ready) piece → (d' : Device) → HasRun d d' piece → d.resources.resources ≡ d0.resources.resources → d.resources.shapes ≡ d0.resources.shapes → RunBecomes d d' piece → (held'' : List ℕ) → held'' ≡ next (next (next (next held' 4) 4) 4) 4 → Turn t steps s d0 first x d' held''
      piece_taken piece named among' d' ran places images becomes held'' asked =
          taken (RunPiece (name_of s.front.past piece)) (name_of s.front.past piece ∷ turn.done) turn.copied refl d' (led_on piece d' ran) (fewer_piece piece among' d' ran)
          (piece_at piece named)
          places images (λ moved. becomes t (steps ++ turn.so_far) now turn.led is.sound) held'' asked

      pub piece_shape : (piece : Piece) (named : slice_get (offered s.front.past turn.done) picked ≡ Some (name_of s.front.past piece)) (among' : Contains (ready d.offers.ready) piece) (d' : Device) (ran : HasRun d d' piece) (places : d.resources.resources ≡ d0.resources.resources) (images : d.resources.shapes ≡ d0.resources.shapes) (becomes : RunBecomes d d' piece) (held'' : List ℕ) (asked : held'' ≡ next (next (next (next held' 4) 4) 4) 4) → shape (piece_taken piece named among' d' ran places images becomes held'' asked) ≡ (turn.so_far ++ RunPiece (name_of s.front.past piece) ∷ [], name_of s.front.past piece ∷ turn.done, turn.copied)
      unfolding piece_taken taken
      piece_shape piece named among' d' ran places images becomes held'' asked = refl

      -- a part is copied
      pub part_taken : (j part : ℕ) → picked ≡ pieces + j → slice_get (backing.parts_left d.passes) j ≡ Some part → Contains (backing.parts_left d.passes) part → (d' : Device) → HasCopied d d' part → d'.offers ≡ d.offers → d.resources.resources ≡ d0.resources.resources → d.resources.shapes ≡ d0.resources.shapes → KeepsCells d.resources d'.resources → Turn t steps s d0 first x d' held'
      part_taken j part is_at here among' d' copies same places images cells =
          taken (CopyPart part) turn.done (part ∷ turn.copied) refl d' (copies t (steps ++ turn.so_far) now turn.led) (fewer_part part among' d' copies same)
          (part_at j part is_at here)
          places images (λ moved. cells_become d.resources d'.resources cells) held' refl

      pub part_shape : (j part : ℕ) (is_at : picked ≡ pieces + j) (here : slice_get (backing.parts_left d.passes) j ≡ Some part) (among' : Contains (backing.parts_left d.passes) part) (d' : Device) (copies : HasCopied d d' part) (same : d'.offers ≡ d.offers) (places : d.resources.resources ≡ d0.resources.resources) (images : d.resources.shapes ≡ d0.resources.shapes) (cells : KeepsCells d.resources d'.resources)
          → shape (part_taken j part is_at here among' d' copies same places images cells) ≡ (turn.so_far ++ CopyPart part ∷ [], turn.done, part ∷ turn.copied)
      unfolding part_taken taken
      part_shape j part is_at here among' d' copies same places images cells = refl
