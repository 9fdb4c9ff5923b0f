-- What a piece that has run makes of the queues.
use Rattle.std.proofs.Common.{◌≡◌, ◌≢◌, ◌<◌, ◌≤◌, ◌+◌, ℕ, List, length, refl, ap, ◌∙◌, sym, subst, inl, inr, arith, get_or, set, ◌⊎◌, true, Option, Some, None, ◌==◌}
use Rattle.std.specs.Prelude.{take, slice_get, nat_lt, filter, not}
use Rattle.std.specs.List.{sum_by}
use Rattle.std.proofs.lemmas.List.{get_or-set_same, get_or-set_other, length-set}
use Rattle.std.proofs.lemmas.List.Sums.{sum_by-set, length-filter, count_by-le-length}
use Rattle.std.proofs.lemmas.Option.{slice_get_within, get_or_from_slice_get}
use Rattle.std.proofs.lemmas.Bool.{cases_lt, lt-ltb}
use Rattle.vk_sync.specs.declared.board.Command.{Command}
use Rattle.vk_sync.specs.Inner.Places.{one_if}
use Rattle.vk_sync.specs.Inner.Fronts.{HasCommand, IsSound, IsLoose, IsWithin, IsDone, AreFronts}
use Rattle.vk_sync.specs.declared.ready.Piece.{Piece}
use Rattle.vk_sync.specs.Ready.{count_on, after_piece, with_change, without}
use Rattle.vk_sync.proofs.SumLemmas.{sum_past, sum_within}
use Rattle.vk_sync.proofs.FrontLemmas.{on}
use Rattle.vk_sync.proofs.ChangeLemmas.{get_changed, places_same}

module _ (cs : List Command) (p k i : ℕ) (c : Command) (left : List ℕ) (at_i : HasCommand cs p k i c) where
  -- The command, with other pieces left.
  abbrev after : Command
  after = record c { left = left }

  -- The commands, with that one.
  abbrev later : List Command
  later = set cs i after

  -- A part of the commands has as many of a queue.
  count_same : (q n : ℕ) → count_on q (take n later) ≡ count_on q (take n cs)
  count_same q n =
      let f = λ (x : Command). one_if (on q x) in
      let lt : i < length cs = slice_get_within cs i c at_i.is in
      let at : get_or cs i c ≡ c = get_or_from_slice_get cs i c c at_i.is in
      let same : f after ≡ f (get_or cs i c) = ap f (sym at) in
      elim (cases_lt i n) [
        | inl h ↦ omega (arith, sum_within f cs n i after c h lt, same)
        | inr h ↦ sum_past f cs n i after h
      ]

  -- All of them have as many of a queue.
  count_same_all : (q : ℕ) → count_on q later ≡ count_on q cs
  count_same_all q =
      let f = λ (x : Command). one_if (on q x) in
      let lt : i < length cs = slice_get_within cs i c at_i.is in
      let at : get_or cs i c ≡ c = get_or_from_slice_get cs i c c at_i.is in
      let same : f after ≡ f (get_or cs i c) = ap f (sym at) in
      omega (arith, sum_by-set f cs i after c lt, same)

  -- The command that was changed.
  record IsAfter (q r j : ℕ) (d : Command) : Type 0 where
    pub number : j ≡ i
    pub is : d ≡ after
    pub queue : q ≡ p
    pub place : r ≡ k

  -- A command is the one that was changed, or is as it was.
  stays : (q r j : ℕ) (d : Command) → HasCommand later q r j d → ((j ≢ i) × HasCommand cs q r j d) ⊎ (IsAfter q r j d)
  stays q r j d s = elim (get_changed cs i after j d s.is) [
    | inr h ↦ inl (h.0, record { is = h.1; on = s.on; rank = sym (count_same q j) ∙ s.rank })
    | inl h ↦
        let queue : q ≡ p = sym s.on ∙ ap (λ (x : Command). x.queue) h.1 ∙ at_i.on in
        inr (record {
          number = h.0;
          is = h.1;
          queue = queue;
          place = sym s.rank ∙ count_same q j ∙ ap (λ (x : ℕ). count_on q (take x cs)) h.0 ∙ ap (λ (x : ℕ). count_on x (take i cs)) queue ∙ at_i.rank;
        })
  ]

  -- What a command was before the change.
  was : (j : ℕ) (d : Command) → slice_get later j ≡ Some d → (e : Command) × (slice_get cs j ≡ Some e) × (d.queue ≡ e.queue) × (d.before ≡ e.before)
  was j d is = elim (get_changed cs i after j d is) [
    | inr h ↦ (d, h.1, refl, refl)
    | inl h ↦ (c, ap (slice_get cs) h.0 ∙ at_i.is, ap (λ (x : Command). x.queue) h.1, ap (λ (x : Command). x.before) h.1)
  ]

  -- What callers owe stays so.
  sound_after : IsSound cs → IsSound later
  sound_after sound = record {
    queues = λ j d is. let e = was j d is in omega (arith, sound.queues j e.0 e.1, e.2);
    known = λ j d is q lt. let e = was j d is in omega (arith, sound.known j e.0 e.1 q lt, ap (λ (b : List ℕ). get_or b q 0) e.3, count_same_all q);
    rising = λ m j d x is_d is_x le same q lt.
        let e = was m d is_d in
        let f = was j x is_x in
        omega (arith, sound.rising m j e.0 f.0 e.1 f.1 le (sym e.2 ∙ same ∙ f.2) q lt, ap (λ (b : List ℕ). get_or b q 0) e.3, ap (λ (b : List ℕ). get_or b q 0) f.3);
  }

  module _ (lines : List (List ℕ)) (done free counts : List ℕ) where
    -- The queues when a piece of a command has run.
    pub ran : IsLoose cs lines done free counts → (n : ℕ) → k < get_or free p 0 → length left + 1 ≡ length c.left → n + 1 ≡ get_or counts i 0 → IsLoose later lines done free (set counts i n)
    ran loose n is_free one_less one_less' =
        let all = loose.counts_len in
        let lt : i < length cs = slice_get_within cs i c at_i.is in
        let at : get_or cs i c ≡ c = get_or_from_slice_get cs i c c at_i.is in
        record {
          sound = sound_after loose.sound;
          small = omega (arith, loose.small, sum_by-set (λ (x : Command). length x.left) cs i after c lt, ap (λ (x : Command). length x.left) at);
          lines_len = loose.lines_len;
          done_len = loose.done_len;
          free_len = loose.free_len;
          counts_len = length-set counts i n ∙ loose.counts_len ∙ sym (length-set cs i after);
          lines_are = λ q q_lt. loose.lines_are q q_lt ∙ sym (places_same (on q) 0 cs i after c at_i.is refl);
          done_within = λ q q_lt. omega (arith, loose.done_within q q_lt, count_same_all q);
          free_within = λ q q_lt. omega (arith, loose.free_within q q_lt, count_same_all q);
          finished = λ q r j d s below. elim (stays q r j d s) [
            | inl h ↦ loose.finished q r j d h.1 below
            | inr same ↦
                let done_then : k < get_or done p 0 = omega (arith, below, same.place, ap (λ (x : ℕ). get_or done x 0) same.queue) in
                absurd (omega (arith, ap length (loose.finished p k i c at_i done_then)))
          ];
          freed = λ q r j d s below. elim (stays q r j d s) [
            | inl h ↦ loose.freed q r j d h.1 below
            | inr same ↦ subst (λ (x : Command). IsWithin x.before done) (sym same.is) (loose.freed p k i c at_i is_free)
          ];
          counts_are = λ q r j d s. elim (stays q r j d s) [
            | inl h ↦ get_or-set_other counts i j n 0 h.0 ∙ loose.counts_are q r j d h.1
            | inr same ↦
                let here : get_or (set counts i n) j 0 ≡ n = ap (λ (x : ℕ). get_or (set counts i n) x 0) same.number ∙ get_or-set_same counts i n 0 (omega arith) in
                let yes : nat_lt r (get_or free q 0) ≡ true = lt-ltb r (get_or free q 0) (omega (arith, is_free, same.place, ap (λ (x : ℕ). get_or free x 0) same.queue)) in
                let first : nat_lt k (get_or free p 0) ≡ true = lt-ltb k (get_or free p 0) is_free in
                let counted : get_or counts i 0 ≡ length c.left = rw first at (loose.counts_are p k i c at_i) in
                let pieces = ap (λ (x : Command). length x.left) same.is in
                rw yes (omega (arith, here, counted, pieces))
          ];
        }

    -- The other queues have moved past all commands that are finished.
    pub ran_done : ((q : ℕ) → q < 4 → IsDone cs done q) → (q : ℕ) → q < 4 → q ≢ p → IsDone later done q
    ran_done done_are q lt ne j d s = elim (stays q (get_or done q 0) j d s) [
      | inl h ↦ done_are q lt j d h.1
      | inr same ↦ absurd (ne same.queue)
    ]

    -- Where more of its pieces are left, no queue can move on.
    pub ran_on : AreFronts cs lines done free counts → (n : ℕ) → k < get_or free p 0 → length left + 1 ≡ length c.left → n + 1 ≡ get_or counts i 0 → 0 < length left → AreFronts later lines done free (set counts i n)
    ran_on fronts n is_free one_less one_less' some = record {
      loose = ran fronts.loose n is_free one_less one_less';
      done_are = λ q lt j d s. elim (stays q (get_or done q 0) j d s) [
        | inl h ↦ fronts.done_are q lt j d h.1
        | inr same ↦ λ none. let pieces = ap (λ (x : Command). x.left) same.is in absurd (omega (arith, some, ap length (sym pieces ∙ none)))
      ];
      free_are = λ q lt j d s. elim (stays q (get_or free q 0) j d s) [
        | inl h ↦ fronts.free_are q lt j d h.1
        | inr same ↦ absurd (omega (arith, is_free, same.place, ap (λ (x : ℕ). get_or free x 0) same.queue))
      ];
    }

-- The pieces of a command that waits for nothing more are counted.
pub counted_of : (cs : List Command) (lines : List (List ℕ)) (done free counts : List ℕ) (p k i : ℕ) (c : Command) → IsLoose cs lines done free counts → HasCommand cs p k i c → k < get_or free p 0 → get_or counts i 0 ≡ length c.left
counted_of cs lines done free counts p k i c loose s lt =
    let yes : nat_lt k (get_or free p 0) ≡ true = lt-ltb k (get_or free p 0) lt in
    rw yes at (loose.counts_are p k i c s)

-- The commands when a piece has run.
pub after_at : (cs : List Command) (piece : Piece) (c : Command) (left : List ℕ) → slice_get cs piece.command ≡ Some c → left ≡ filter (λ k. not (k == piece.index)) c.left → set cs piece.command (record c { left = left }) ≡ after_piece piece cs
after_at cs piece c left is e = ap (λ (ns : List ℕ). set cs piece.command (record c { left = ns })) e ∙ sym (ap (with_change piece cs) is)

-- No more pieces are left when a piece has run.
pub left_falls : (cs : List Command) (piece : Piece) → sum_by (λ (c : Command). length c.left) (after_piece piece cs) ≤ sum_by (λ (c : Command). length c.left) cs
left_falls cs piece = by_case (slice_get cs piece.command) refl
  where
    by_case : (found : Option Command) → slice_get cs piece.command ≡ found → sum_by (λ (c : Command). length c.left) (with_change piece cs found) ≤ sum_by (λ (c : Command). length c.left) cs
    by_case None e = omega arith
    by_case (Some c) e =
        let kept = λ (k : ℕ). not (k == piece.index) in
        let lt : piece.command < length cs = slice_get_within cs piece.command c e in
        let at : get_or cs piece.command c ≡ c = get_or_from_slice_get cs piece.command c c e in
        omega (arith, sum_by-set (λ (x : Command). length x.left) cs piece.command (without piece.index c) c lt, ap (λ (x : Command). length x.left) at, length-filter kept c.left, count_by-le-length kept c.left)
