-- The pieces that are ready are those that are counted.
use Rattle.std.proofs.Common.{◌≡◌, ◌<◌, ◌≤◌, ◌+◌, ℕ, List, [], length, refl, ap, ◌∙◌, sym, subst, inl, inr, arith, get_or, Bool, true, false, Some, cond, ◌==◌, not, ◌||◌}
use Rattle.std.specs.Prelude.{take, slice_get, nat_lt, sum, map, Contains}
use Rattle.std.specs.List.{flat_map, enumerate_from}
use Rattle.std.proofs.lemmas.List.{length-map, take-map}
use Rattle.std.proofs.lemmas.List.Sums.{sum-map}
use Rattle.std.proofs.lemmas.List.Concat.{length-flat_map}
use Rattle.std.proofs.lemmas.List.FromFn.{length-enumerate_from}
use Rattle.std.proofs.lemmas.Option.{slice_get_within, get_or_from_slice_get}
use Rattle.std.proofs.lemmas.Bool.{cases_lt, lt-ltb, le-ltb, or_left, or_right, not_from_false, eq-eqb, eqb-true, false_from_ne_true, or_cases, not-true, both_ways, ltb-true}
use Rattle.vk_sync.specs.declared.board.Command.{Command}
use Rattle.vk_sync.specs.declared.ready.Piece.{Piece}
use Rattle.vk_sync.specs.Inner.Fronts.{HasCommand, IsWithin, AreFronts}
use Rattle.vk_sync.specs.Ready.{count_on, is_among, is_met, pieces_of, ready, AreFinished}
use Rattle.vk_sync.proofs.FrontLemmas.{command_of, in_order, place_within, read_command}
use Rattle.vk_sync.proofs.LeftLemmas.{get_of}
use Rattle.vk_sync.proofs.ChangeLemmas.{get_flat, flat_at, get_mapped, mapped_get, numbers_given, all_pass, pass_at, is_nothing, get_enumerated, enumerated_get}

module _ (cs : List Command) (lines : List (List ℕ)) (done free counts : List ℕ) (fronts : AreFronts cs lines done free counts) where
  -- Where no more is waited for than is done, all of it has run.
  pub met_from : (before : List ℕ) → IsWithin before done → is_met before cs ≡ true
  met_from before within = all_pass (λ (x : ℕ × Command). not (is_among before cs x.0 x.1) || length x.1.left == 0) (enumerate_from 0 cs) (λ i x is.
      let at = get_enumerated 0 cs i x is in
      let c = x.1 in
      let q = c.queue in
      let r = count_on q (take x.0 cs) in
      let number : i ≡ x.0 = let n = at.0 in omega arith in
      let s : HasCommand cs q r i c = record { is = at.1; on = refl; rank = ap (λ (n : ℕ). count_on q (take n cs)) number } in
      elim (cases_lt r (get_or before q 0)) [
        | inl lt ↦
            let none = fronts.loose.finished q r i c s (omega (arith, lt, within q (fronts.loose.sound.queues i c at.1))) in
            or_right (not (is_among before cs x.0 c)) (length c.left == 0) (eq-eqb (length c.left) 0 (ap length none))
        | inr le ↦ or_left (not (is_among before cs x.0 c)) (length c.left == 0) (not_from_false (is_among before cs x.0 c) (le-ltb r (get_or before q 0) le))
      ])

  -- Where all that is waited for has run, it is done.
  pub met_to : (before : List ℕ) → ((q : ℕ) → q < 4 → get_or before q 0 ≤ count_on q cs) → is_met before cs ≡ true → IsWithin before done
  met_to before known met q lt = elim (cases_lt (get_or done q 0) (get_or before q 0)) [
    | inr le ↦ le
    | inl less ↦
        let found = command_of cs q (get_or done q 0) (omega (arith, less, known q lt)) in
        let j = found.0 in
        let c = found.1 in
        let s = found.2 in
        let number : 0 + j ≡ j = omega arith in
        let test = pass_at (λ (x : ℕ × Command). not (is_among before cs x.0 x.1) || length x.1.left == 0) (enumerate_from 0 cs) j (0 + j, c) met (enumerated_get 0 cs j c s.is) in
        let rank : count_on c.queue (take (0 + j) cs) ≡ get_or done q 0 = ap (λ (n : ℕ). count_on c.queue (take n cs)) number ∙ ap (λ (k : ℕ). count_on k (take j cs)) s.on ∙ s.rank in
        let among : is_among before cs (0 + j) c ≡ true = lt-ltb (count_on c.queue (take (0 + j) cs)) (get_or before c.queue 0) (omega (arith, less, rank, ap (λ (k : ℕ). get_or before k 0) s.on)) in
        elim (or_cases (not (is_among before cs (0 + j) c)) (length c.left == 0) test) [
          | inl stays_out ↦ let out = not-true (is_among before cs (0 + j) c) stays_out in absurd (both_ways (is_among before cs (0 + j) c) out among)
          | inr ran ↦ absurd (fronts.done_are q lt j c s (is_nothing c.left (eqb-true (length c.left) 0 ran)))
        ]
  ]

  -- What is done is finished, and no more.
  pub fronts_finished : AreFinished cs done
  fronts_finished = record {
    there = fronts.loose.done_within;
    first = λ j c is lt. fronts.loose.finished c.queue (count_on c.queue (take j cs)) j c (record { is = is; on = refl; rank = refl }) lt;
    next = λ j c is at. fronts.done_are c.queue (fronts.loose.sound.queues j c is) j c (record { is = is; on = refl; rank = at });
  }

  -- A command waits for nothing more where its queue counts it as free.
  pub free_is_met : (q r j : ℕ) (c : Command) → HasCommand cs q r j c → is_met c.before cs ≡ nat_lt r (get_or free q 0)
  free_is_met q r j c s =
      let loose = fronts.loose in
      let q_lt : q < 4 = omega (arith, loose.sound.queues j c s.is, s.on) in
      elim (cases_lt r (get_or free q 0)) [
        | inl lt ↦ met_from c.before (loose.freed q r j c s lt) ∙ sym (lt-ltb r (get_or free q 0) lt)
        | inr le ↦
            let no : is_met c.before cs ≡ false = false_from_ne_true (is_met c.before cs) (λ met.
            let within = met_to c.before (loose.sound.known j c s.is) met in
            let found = command_of cs q (get_or free q 0) (omega (arith, le, place_within cs q r j c s)) in
            let earlier = in_order cs q (get_or free q 0) r found.0 j found.1 c found.2 s le in
            fronts.free_are q q_lt found.0 found.1 found.2 (λ k k_lt. omega (arith, within k k_lt, loose.sound.rising found.0 j found.1 c found.2.is s.is earlier (found.2.on ∙ sym s.on) k k_lt))) in
            no ∙ sym (le-ltb r (get_or free q 0) le)
      ]

  -- As many pieces of a command are counted as are ready.
  count_of : (i : ℕ) (x : ℕ × Command) → slice_get (enumerate_from 0 cs) i ≡ Some x → get_or counts i 0 ≡ length (pieces_of cs x)
  count_of i x is =
      let at = get_enumerated 0 cs i x is in
      let c = x.1 in
      let r = count_on c.queue (take i cs) in
      let s : HasCommand cs c.queue r i c = record { is = at.1; on = refl; rank = refl } in
      let all : length (map (λ k. record { command = x.0; index = k }) c.left) ≡ length c.left = length-map c.left (λ k. record { command = x.0; index = k }) in
      fronts.loose.counts_are c.queue r i c s ∙ ap (λ (b : Bool). cond b (length c.left) 0) (sym (free_is_met c.queue r i c s)) ∙ by_test (is_met c.before cs) (map (λ k. record { command = x.0; index = k }) c.left) (length c.left) all
    where
      by_test : (b : Bool) (ps : List Piece) (n : ℕ) → length ps ≡ n → cond b n 0 ≡ length (cond b ps [])
      by_test true ps n e = sym e
      by_test false ps n e = refl

  -- The counts are those of the ready pieces.
  counts_given : counts ≡ map (λ (x : ℕ × Command). length (pieces_of cs x)) (enumerate_from 0 cs)
  counts_given = numbers_given (λ (x : ℕ × Command). length (pieces_of cs x)) counts (enumerate_from 0 cs) (fronts.loose.counts_len ∙ sym (length-enumerate_from 0 cs)) count_of

  -- The counts of the first commands are those of their ready pieces.
  pub count_upto : (n : ℕ) → sum (take n counts) ≡ length (flat_map (pieces_of cs) (take n (enumerate_from 0 cs)))
  count_upto n =
      let f = λ (x : ℕ × Command). length (pieces_of cs x) in
      let es = enumerate_from 0 cs in
      ap (λ (ns : List ℕ). sum (take n ns)) counts_given ∙ ap sum (take-map f n es) ∙ sum-map f (take n es) ∙ sym (length-flat_map (pieces_of cs) (take n es))

  -- As many pieces are counted as are ready.
  pub count_all : sum counts ≡ length (ready cs)
  count_all =
      let f = λ (x : ℕ × Command). length (pieces_of cs x) in
      let es = enumerate_from 0 cs in
      ap sum counts_given ∙ sum-map f es ∙ sym (length-flat_map (pieces_of cs) es)

  -- A ready piece, by the count of the commands before its own.
  pub piece_at : (place j rest index : ℕ) (c : Command) → sum (take j counts) + rest ≡ place → rest < get_or counts j 0 → slice_get cs j ≡ Some c → slice_get c.left rest ≡ Some index → slice_get (ready cs) place ≡ Some (record { command = j; index = index })
  piece_at place j rest index c is within at piece =
      let r = count_on c.queue (take j cs) in
      let s : HasCommand cs c.queue r j c = record { is = at; on = refl; rank = refl } in
      let met : is_met c.before cs ≡ true = free_is_met c.queue r j c s ∙ some (nat_lt r (get_or free c.queue 0)) (get_or counts j 0) (length c.left) (fronts.loose.counts_are c.queue r j c s) within in
      let number : 0 + j ≡ j = omega arith in
      let here : slice_get (enumerate_from 0 cs) j ≡ Some (j, c) = enumerated_get 0 cs j c at ∙ ap (λ (n : ℕ). Some (n, c)) number in
      let g = λ (k : ℕ). let p : Piece = record { command = j; index = k } in p in
      let those : slice_get (pieces_of cs (j, c)) rest ≡ Some (g index) = ap (λ (b : Bool). slice_get (cond b (map g c.left) []) rest) met ∙ get_mapped g c.left rest index piece in
      let where_is : length (flat_map (pieces_of cs) (take j (enumerate_from 0 cs))) + rest ≡ place = omega (arith, count_upto j, is) in
      ap (slice_get (ready cs)) (sym where_is) ∙ flat_at (pieces_of cs) (enumerate_from 0 cs) j rest (j, c) (g index) here those
    where
      some : (b : Bool) (n m : ℕ) → n ≡ cond b m 0 → rest < n → b ≡ true
      some true n m e lt = refl
      some false n m e lt = absurd (omega arith)

  -- What is known of a ready piece.
  pub record IsReady (piece : Piece) (c : Command) : Type 0 where
    pub has_command : HasCommand cs c.queue (count_on c.queue (take piece.command cs)) piece.command c
    pub free_is : count_on c.queue (take piece.command cs) < get_or free c.queue 0
    pub has : Contains c.left piece.index

  -- A ready piece is left of a command that waits for nothing more.
  pub ready_piece : (piece : Piece) → Contains (ready cs) piece → (c : Command) × IsReady piece c
  ready_piece piece has =
      let place = get_of (ready cs) piece has in
      let found = get_flat (pieces_of cs) (enumerate_from 0 cs) place.0 piece place.1 in
      let at = get_enumerated 0 cs found.0 found.1 found.3 in
      let c = found.1.1 in
      let g = λ (k : ℕ). let p : Piece = record { command = found.1.0; index = k } in p in
      let split = by_test (is_met c.before cs) (map g c.left) found.2 found.4 in
      let left = mapped_get g c.left found.2 piece split.1 in
      let index : left.0 ≡ piece.index = ap (λ (p : Piece). p.index) left.2 in
      let command : found.1.0 ≡ piece.command = ap (λ (p : Piece). p.command) left.2 in
      let number : found.0 ≡ piece.command = let n = at.0 in omega arith in
      let is : slice_get cs piece.command ≡ Some c = ap (slice_get cs) (sym number) ∙ at.1 in
      let in_left : slice_get c.left found.2 ≡ Some piece.index = left.1 ∙ ap (λ (k : ℕ). Some k) index in
      let r = count_on c.queue (take piece.command cs) in
      let s : HasCommand cs c.queue r piece.command c = record { is = is; on = refl; rank = refl } in (
        c,
        record {
          has_command = s;
          free_is = ltb-true r (get_or free c.queue 0) (sym (free_is_met c.queue r piece.command c s) ∙ split.0);
          has = (found.2, slice_get_within c.left found.2 piece.index in_left, get_or_from_slice_get c.left found.2 piece.index piece.index in_left);
        },
      )
    where
      by_test : (b : Bool) (ps : List Piece) (j : ℕ) → slice_get (cond b ps []) j ≡ Some piece → (b ≡ true) × (slice_get ps j ≡ Some piece)
      by_test true ps j e = (refl, e)
      by_test false ps j e = cc

  -- The command that is read at the number of a ready piece is the one that the piece is of.
  pub read_ready : (piece : Piece) → Contains (ready cs) piece → (now : Command) → now ≡ get_or cs piece.command now → IsReady piece now
  read_ready piece has now is =
      let found = ready_piece piece has in
      let read = read_command cs _ _ piece.command found.0 now found.1.has_command is in
      subst (λ (c : Command). IsReady piece c) read found.1
