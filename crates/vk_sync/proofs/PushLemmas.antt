-- What one more command makes of the queues.
use Rattle.std.proofs.Common.{lit<, refl, zero, suc, ◌≡◌, ◌≢◌, ◌<◌, ◌≤◌, ◌+◌, ◌^◌, ℕ, List, [], ◌∷◌, ◌++◌, length, ap, ◌∙◌, sym, subst, inl, inr, arith, get_or, set, ◌⊎◌, Bool, true, false, cond}
use Rattle.std.specs.Prelude.{take, nat_lt}
use Rattle.std.specs.List.{sum_by}
use Rattle.std.proofs.Math.Seq.{take-append_seam}
use Rattle.std.proofs.lemmas.List.{get_or-set_same, get_or-set_other, length-set, length_push, take-append-le, get_or_append_left, get_or_push, append-nil}
use Rattle.std.proofs.lemmas.List.Sums.{sum_by_push}
use Rattle.std.proofs.lemmas.Option.{slice_get_within}
use Rattle.std.proofs.lemmas.Bool.{cases_eq, eq-eqb, ne_eqb, le-ltb}
use Rattle.vk_sync.specs.declared.board.Command.{Command}
use Rattle.vk_sync.specs.Inner.Places.{one_if}
use Rattle.vk_sync.specs.Inner.Fronts.{HasCommand, IsSound, IsLoose, IsWithin, IsDone, AreFronts}
use Rattle.vk_sync.specs.Ready.{count_on, MayCome}
use Rattle.vk_sync.proofs.PlaceLemmas.{places_push}
use Rattle.vk_sync.proofs.FrontLemmas.{on, numbers, place_within, in_order}
use Rattle.vk_sync.proofs.ChangeLemmas.{get_pushed}

module _ (cs : List Command) (c : Command) where
  -- The command that came last.
  record IsLast (q r j : ℕ) (d : Command) : Type 0 where
    pub number : j ≡ length cs
    pub is : d ≡ c
    pub queue : q ≡ c.queue
    pub place : r ≡ count_on q cs

  -- No queue has fewer commands.
  count_grows : (q : ℕ) → count_on q cs ≤ count_on q (cs ++ c ∷ [])
  count_grows q = omega (arith, sum_by_push (λ (x : Command). one_if (on q x)) cs c)

  -- A command is the one that came last, or is where it was.
  stood : (q r j : ℕ) (d : Command) → HasCommand (cs ++ c ∷ []) q r j d → (HasCommand cs q r j d) ⊎ (IsLast q r j d)
  stood q r j d s = elim (get_pushed cs c j d s.is) [
    | inl is ↦
        let lt : j < length cs = slice_get_within cs j d is in
        let cut = ap (count_on q) (take-append-le j cs (c ∷ []) (omega arith)) in
        inl (record { is = is; on = s.on; rank = sym cut ∙ s.rank })
    | inr last ↦
        let cut : take j (cs ++ c ∷ []) ≡ cs = ap (λ (n : ℕ). take n (cs ++ c ∷ [])) last.0 ∙ take-append_seam cs (c ∷ []) in
        inr (record {
          number = last.0;
          is = last.1;
          queue = sym s.on ∙ ap (λ (x : Command). x.queue) last.1;
          place = sym s.rank ∙ ap (count_on q) cut;
        })
  ]

  -- What callers owe stays so.
  sound_pushed : IsSound cs → MayCome cs c.queue c.before → IsSound (cs ++ c ∷ [])
  sound_pushed sound comes = record {
    queues = λ j d is. elim (get_pushed cs c j d is) [
      | inl h ↦ sound.queues j d h
      | inr last ↦ subst (λ (x : Command). x.queue < 4) (sym last.1) comes.on_queue
    ];
    known = λ j d is q lt. elim (get_pushed cs c j d is) [
      | inl h ↦ omega (arith, sound.known j d h q lt, count_grows q)
      | inr last ↦ subst (λ (x : Command). get_or x.before q 0 ≤ count_on q (cs ++ c ∷ [])) (sym last.1) (omega (arith, comes.known q lt, count_grows q))
    ];
    rising = λ i j d e is_d is_e le same q lt. elim (get_pushed cs c j e is_e) [
      | inl h ↦ elim (get_pushed cs c i d is_d) [
        | inl g ↦ sound.rising i j d e g h le same q lt
        | inr first ↦ absurd (omega (arith, first.0, slice_get_within cs j e h))
      ]
      | inr last ↦ elim (get_pushed cs c i d is_d) [
        | inl g ↦ subst (λ (x : Command). get_or d.before q 0 ≤ get_or x.before q 0) (sym last.1) (comes.rising i d g (same ∙ ap (λ (x : Command). x.queue) last.1) q lt)
        | inr first ↦ omega (arith, ap (λ (x : Command). get_or x.before q 0) (first.1 ∙ sym last.1))
      ]
    ];
  }

-- The line of each queue, with the command that came.
line_pushed : (cs : List Command) (c : Command) (lines : List (List ℕ)) (line : List ℕ) → c.queue < length lines → ((q : ℕ) → q < 4 → get_or lines q [] ≡ numbers q cs) → c.queue < 4 → line ≡ get_or lines c.queue [] ++ length cs ∷ [] → (q : ℕ) → q < 4 → get_or (set lines c.queue line) q [] ≡ numbers q (cs ++ c ∷ [])
line_pushed cs c lines line lt are four is q q_lt = elim (cases_eq q c.queue) [
  | inl e ↦
      let here : get_or (set lines c.queue line) q [] ≡ line = ap (λ (k : ℕ). get_or (set lines c.queue line) k []) e ∙ get_or-set_same lines c.queue line [] lt in
      let yes : on q c ≡ true = eq-eqb c.queue q (sym e) in
      let was : get_or lines c.queue [] ≡ numbers q cs = are c.queue four ∙ ap (λ (k : ℕ). numbers k cs) (sym e) in
      let more : numbers q (cs ++ c ∷ []) ≡ numbers q cs ++ (0 + length cs) ∷ [] = places_push (on q) 0 cs c ∙ ap (λ (b : Bool). numbers q cs ++ cond b ((0 + length cs) ∷ []) []) yes in
      let zero_more : 0 + length cs ≡ length cs = omega arith in
      here ∙ is ∙ ap (λ (ns : List ℕ). ns ++ length cs ∷ []) was ∙ sym (more ∙ ap (λ (n : ℕ). numbers q cs ++ n ∷ []) zero_more)
  | inr ne ↦
      let no : on q c ≡ false = ne_eqb c.queue q (λ same. ne (sym same)) in
      let more : numbers q (cs ++ c ∷ []) ≡ numbers q cs ++ [] = places_push (on q) 0 cs c ∙ ap (λ (b : Bool). numbers q cs ++ cond b ((0 + length cs) ∷ []) []) no in
      get_or-set_other lines c.queue q line [] ne ∙ are q q_lt ∙ sym (more ∙ append-nil (numbers q cs))
]

-- The queues when a command has come that isn't open yet.
pub pushed : (cs : List Command) (lines : List (List ℕ)) (done free counts : List ℕ) (c : Command) (line : List ℕ) → AreFronts cs lines done free counts → MayCome cs c.queue c.before → sum_by (λ (x : Command). length x.left) cs + length c.left < 2 ^ 64 → line ≡ get_or lines c.queue [] ++ length cs ∷ [] → IsLoose (cs ++ c ∷ []) (set lines c.queue line) done free (counts ++ 0 ∷ [])
pushed cs lines done free counts c line fronts comes fits is =
    let loose = fronts.loose in
    let four = loose.lines_len in
    let all = loose.counts_len in
    let on_queue = comes.on_queue in
    let lt : c.queue < length lines = omega arith in
    record {
      sound = sound_pushed cs c loose.sound comes;
      small = omega (arith, sum_by_push (λ (x : Command). length x.left) cs c);
      lines_len = length-set lines c.queue line ∙ loose.lines_len;
      done_len = loose.done_len;
      free_len = loose.free_len;
      counts_len = omega (arith, length_push counts 0, length_push cs c);
      lines_are = line_pushed cs c lines line lt loose.lines_are comes.on_queue is;
      done_within = λ q q_lt. omega (arith, loose.done_within q q_lt, count_grows cs c q);
      free_within = λ q q_lt. omega (arith, loose.free_within q q_lt, count_grows cs c q);
      finished = λ q r j d s below. elim (stood cs c q r j d s) [
        | inl h ↦ loose.finished q r j d h below
        | inr last ↦ absurd (omega (arith, last.place, below, last.queue, loose.done_within q (omega (arith, last.queue))))
      ];
      freed = λ q r j d s below. elim (stood cs c q r j d s) [
        | inl h ↦ loose.freed q r j d h below
        | inr last ↦ absurd (omega (arith, last.place, below, last.queue, loose.free_within q (omega (arith, last.queue))))
      ];
      counts_are = λ q r j d s. elim (stood cs c q r j d s) [
        | inl h ↦
            let j_lt = slice_get_within cs j d h.is in
            get_or_append_left counts (0 ∷ []) 0 j (omega arith) ∙ loose.counts_are q r j d h
        | inr last ↦
            let number = last.number in
            let no : nat_lt r (get_or free q 0) ≡ false = le-ltb r (get_or free q 0) (omega (arith, last.place, loose.free_within q (omega (arith, last.queue)))) in
            rw no (get_or_push counts 0 0 j (omega arith))
      ];
    }

-- The queues on which no command has come have moved past all commands that are finished.
pub pushed_done : (cs : List Command) (lines : List (List ℕ)) (done free counts : List ℕ) (c : Command) → AreFronts cs lines done free counts → (q : ℕ) → q < 4 → q ≢ c.queue → IsDone (cs ++ c ∷ []) done q
pushed_done cs lines done free counts c fronts q lt ne j d s = elim (stood cs c q (get_or done q 0) j d s) [
  | inl h ↦ fronts.done_are q lt j d h
  | inr last ↦ absurd (ne last.queue)
]

-- What holds of each of the four queues holds of all.
pub four_queues : (P : ℕ → Type 0) → P 0 → P 1 → P 2 → P 3 → (q : ℕ) → q < 4 → P q
four_queues P a b c d zero lt = a
four_queues P a b c d (suc zero) lt = b
four_queues P a b c d (suc (suc zero)) lt = c
four_queues P a b c d (suc (suc (suc zero))) lt = d
four_queues P a b c d (suc (suc (suc (suc q)))) lt = absurd (omega arith)

-- The first command of a queue may come, where it waits only for commands that are there.
pub comes_first : (cs : List Command) (q : ℕ) (before : List ℕ) → q < 4 → ((p : ℕ) → p < 4 → get_or before p 0 ≤ count_on p cs) → count_on q cs ≡ 0 → MayCome cs q before
comes_first cs q before lt known none = record {
  on_queue = lt;
  known = known;
  rising = λ i d is on p p_lt. absurd (omega (arith, none, place_within cs q (count_on q (take i cs)) i d (record { is = is; on = on; rank = refl })));
}

-- A command may come after the last one of its queue, where it waits for all that that one waits for.
pub comes_after : (cs : List Command) (q r j : ℕ) (before : List ℕ) (c : Command) → IsSound cs → q < 4 → ((p : ℕ) → p < 4 → get_or before p 0 ≤ count_on p cs) → HasCommand cs q r j c → count_on q cs ≡ r + 1 → IsWithin c.before before → MayCome cs q before
comes_after cs q r j before c sound lt known s last within = record {
  on_queue = lt;
  known = known;
  rising = λ i d is on p p_lt.
      let k = count_on q (take i cs) in
      let t : HasCommand cs q k i d = record { is = is; on = on; rank = refl } in
      let earlier = in_order cs q k r i j d c t s (omega (arith, last, place_within cs q k i d t)) in
      omega (arith, within p p_lt, sound.rising i j d c is s.is earlier (on ∙ sym s.on) p p_lt);
}

-- What is within the numbers of commands of the four queues waits only for commands that are there.
pub known_of : (cs : List Command) (before : List ℕ) (a b c d : ℕ) → a ≡ count_on 0 cs → b ≡ count_on 1 cs → c ≡ count_on 2 cs → d ≡ count_on 3 cs → IsWithin before (a ∷ b ∷ c ∷ d ∷ []) → (q : ℕ) → q < 4 → get_or before q 0 ≤ count_on q cs
known_of cs before a b c d is_a is_b is_c is_d within = four_queues (λ q. get_or before q 0 ≤ count_on q cs) (omega (arith, within 0 (lit< tt), is_a)) (omega (arith, within 1 (lit< tt), is_b)) (omega (arith, within 2 (lit< tt), is_c)) (omega (arith, within 3 (lit< tt), is_d))
