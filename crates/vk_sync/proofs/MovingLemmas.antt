-- How the queues move on.
use Rattle.std.proofs.Common.{◌≡◌, ◌≢◌, ◌<◌, ◌≤◌, ◌+◌, ◌^◌, ℕ, suc, List, [], ◌∷◌, length, refl, ap, ◌∙◌, sym, subst, inl, inr, arith, get_or, set, ◌⊎◌, Bool, true, false, Some, cond}
use Rattle.std.specs.Prelude.{take, sum, slice_get, nat_lt}
use Rattle.std.specs.List.{sum_by}
use Rattle.std.proofs.lemmas.List.{get_or-set_same, get_or-set_other, length-set}
use Rattle.std.proofs.lemmas.List.Sums.{sum_by-set, sum_by-cons}
use Rattle.std.proofs.lemmas.Option.{slice_get_within}
use Rattle.std.proofs.lemmas.Bool.{cases_lt, cases_eq, lt-ltb, le-ltb}
use Rattle.vk_sync.specs.declared.board.Command.{Command}
use Rattle.vk_sync.specs.Inner.Fronts.{HasCommand, IsLoose, IsWithin}
use Rattle.vk_sync.specs.Ready.{count_on}
use Rattle.vk_sync.proofs.PlaceLemmas.{length-places}
use Rattle.vk_sync.proofs.FrontLemmas.{on, command_at, same_command, place_within}

module _ (cs : List Command) (lines : List (List ℕ)) (done free counts : List ℕ) (loose : IsLoose cs lines done free counts) where
  -- A queue's line is as long as it has commands.
  pub line_len : (q : ℕ) → q < 4 → length (get_or lines q []) ≡ count_on q cs
  line_len q lt = ap length (loose.lines_are q lt) ∙ length-places (on q) 0 cs

  -- What is at a place of a queue's line is a command of that queue.
  pub line_at : (q r j : ℕ) → q < 4 → slice_get (get_or lines q []) r ≡ Some j → (c : Command) × HasCommand cs q r j c
  line_at q r j lt e = command_at cs q r j (ap (λ (ns : List ℕ). slice_get ns r) (sym (loose.lines_are q lt)) ∙ e)

-- A list at an index that a change has reached.
at_same : (ns : List ℕ) (p q n : ℕ) → p < length ns → q ≡ p → get_or (set ns p n) q 0 ≡ n
at_same ns p q n lt e = ap (λ (i : ℕ). get_or (set ns p n) i 0) e ∙ get_or-set_same ns p n 0 lt

-- One of the numbers for the queues grows by one.
grown : (ns : List ℕ) (p q : ℕ) → p < length ns → get_or ns q 0 ≤ get_or (set ns p (get_or ns p 0 + 1)) q 0
grown ns p q lt = elim (cases_eq q p) [
  | inl e ↦ omega (arith, at_same ns p q (get_or ns p 0 + 1) lt e, ap (λ (i : ℕ). get_or ns i 0) e)
  | inr ne ↦ omega (arith, get_or-set_other ns p q (get_or ns p 0 + 1) 0 ne)
]

-- One of the numbers for the queues grows by one, and stays within a bound.
grown_within : (ns : List ℕ) (p : ℕ) (bound : ℕ → ℕ) → p < length ns → get_or ns p 0 < bound p → ((q : ℕ) → q < 4 → get_or ns q 0 ≤ bound q) → (q : ℕ) → q < 4 → get_or (set ns p (get_or ns p 0 + 1)) q 0 ≤ bound q
grown_within ns p bound lt less was q q_lt = elim (cases_eq q p) [
  | inl e ↦ omega (arith, at_same ns p q (get_or ns p 0 + 1) lt e, ap bound e, less)
  | inr ne ↦ omega (arith, get_or-set_other ns p q (get_or ns p 0 + 1) 0 ne, was q q_lt)
]

-- A command whose place is below a number that grew by one is the one that was reached, or was below the number before.
reached : (cs : List Command) (ns : List ℕ) (p q r i j : ℕ) (c d : Command) → p < length ns → HasCommand cs p (get_or ns p 0) i c → HasCommand cs q r j d → r < get_or (set ns p (get_or ns p 0 + 1)) q 0 → ((i ≡ j) × (c ≡ d)) ⊎ (r < get_or ns q 0)
reached cs ns p q r i j c d lt at_i at_j below = elim (cases_eq q p) [
  | inr ne ↦ inr (omega (arith, get_or-set_other ns p q (get_or ns p 0 + 1) 0 ne))
  | inl e ↦ elim (cases_lt r (get_or ns p 0)) [
    | inl less ↦ inr (omega (arith, less, ap (λ (k : ℕ). get_or ns k 0) e))
    | inr more ↦
        let same : r ≡ get_or ns p 0 = omega (arith, more, at_same ns p q (get_or ns p 0 + 1) lt e) in
        let s : HasCommand cs p (get_or ns p 0) j d = subst (λ (k : ℕ). HasCommand cs p k j d) same (subst (λ (k : ℕ). HasCommand cs k r j d) e at_j) in
        inl (same_command cs p (get_or ns p 0) i j c d at_i s)
  ]
]

-- A queue moves past a command that has no pieces left.
pub passed : (cs : List Command) (lines : List (List ℕ)) (done free counts : List ℕ) (p j : ℕ) (c : Command) → IsLoose cs lines done free counts → p < 4 → HasCommand cs p (get_or done p 0) j c → c.left ≡ [] → IsLoose cs lines (set done p (get_or done p 0 + 1)) free counts
passed cs lines done free counts p j c loose p_lt at_j none =
    let four = loose.done_len in
    let lt : p < length done = omega arith in
    let place = place_within cs p (get_or done p 0) j c at_j in
    record {
      sound = loose.sound;
      small = loose.small;
      lines_len = loose.lines_len;
      done_len = length-set done p (get_or done p 0 + 1) ∙ loose.done_len;
      free_len = loose.free_len;
      counts_len = loose.counts_len;
      lines_are = loose.lines_are;
      done_within = grown_within done p (λ q. count_on q cs) lt place loose.done_within;
      free_within = loose.free_within;
      finished = λ q r i d s below. elim (reached cs done p q r j i c d lt at_j s below) [
        | inl same ↦ subst (λ (x : Command). x.left ≡ []) same.1 none
        | inr less ↦ loose.finished q r i d s less
      ];
      freed = λ q r i d s below k k_lt. let was = loose.freed q r i d s below k k_lt in omega (arith, was, grown done p k lt);
      counts_are = loose.counts_are;
    }

-- A command has one queue and one place on it.
pub one_place : (cs : List Command) (p k j q r i : ℕ) (c d : Command) → HasCommand cs p k j c → HasCommand cs q r i d → i ≡ j → (q ≡ p) × (r ≡ k) × (d ≡ c)
one_place cs p k j q r i c d at_j at_i e =
    let is_c = at_j.is in
    let is_d = at_i.is in
    let same : d ≡ c = cc in
    let on_c = at_j.on in
    let on_d = at_i.on in
    let queue : q ≡ p = sym on_d ∙ ap (λ (x : Command). x.queue) same ∙ on_c in
    let cut : count_on q (take i cs) ≡ count_on p (take j cs) = ap (λ (x : ℕ). count_on q (take x cs)) e ∙ ap (λ (x : ℕ). count_on x (take j cs)) queue in
    (queue, sym at_i.rank ∙ cut ∙ at_j.rank, same)

-- Whether another command's place is below the number for its queue stays, where one grew by one.
unreached : (cs : List Command) (ns : List ℕ) (p q r i j : ℕ) (c d : Command) → p < length ns → HasCommand cs p (get_or ns p 0) j c → HasCommand cs q r i d → i ≢ j → nat_lt r (get_or (set ns p (get_or ns p 0 + 1)) q 0) ≡ nat_lt r (get_or ns q 0)
unreached cs ns p q r i j c d lt at_j at_i ne =
    let now = get_or (set ns p (get_or ns p 0 + 1)) q 0 in
    elim (cases_lt r (get_or ns q 0)) [
      | inl less ↦ lt-ltb r now (omega (arith, less, grown ns p q lt)) ∙ sym (lt-ltb r (get_or ns q 0) less)
      | inr more ↦ elim (cases_lt r now) [
        | inr still ↦ le-ltb r now still ∙ sym (le-ltb r (get_or ns q 0) more)
        | inl below ↦ elim (reached cs ns p q r j i c d lt at_j at_i below) [
          | inl same ↦ absurd (ne (sym same.0))
          | inr less ↦ absurd (omega (arith, less, more))
        ]
      ]
    ]

-- The command that is next on its queue isn't counted.
count_none : (cs : List Command) (lines : List (List ℕ)) (done free counts : List ℕ) (p j : ℕ) (c : Command) → IsLoose cs lines done free counts → HasCommand cs p (get_or free p 0) j c → get_or counts j 0 ≡ 0
count_none cs lines done free counts p j c loose s =
    let e = loose.counts_are p (get_or free p 0) j c s in
    let no : nat_lt (get_or free p 0) (get_or free p 0) ≡ false = le-ltb (get_or free p 0) (get_or free p 0) (omega arith) in
    rw no at e

-- The pieces of a command that waits for nothing more are counted.
pub counted : (cs : List Command) (lines : List (List ℕ)) (done free counts : List ℕ) (p j n : ℕ) (c : Command) → IsLoose cs lines done free counts → p < 4 → HasCommand cs p (get_or free p 0) j c → IsWithin c.before done → n ≡ get_or counts j 0 + length c.left → IsLoose cs lines done (set free p (get_or free p 0 + 1)) (set counts j n)
counted cs lines done free counts p j n c loose p_lt at_j within sum_is =
    let four = loose.free_len in
    let lt : p < length free = omega arith in
    let place = place_within cs p (get_or free p 0) j c at_j in
    let all = loose.counts_len in
    let j_lt : j < length cs = slice_get_within cs j c at_j.is in
    let none = count_none cs lines done free counts p j c loose at_j in
    let free' = set free p (get_or free p 0 + 1) in
    record {
      sound = loose.sound;
      small = loose.small;
      lines_len = loose.lines_len;
      done_len = loose.done_len;
      free_len = length-set free p (get_or free p 0 + 1) ∙ loose.free_len;
      counts_len = length-set counts j n ∙ loose.counts_len;
      lines_are = loose.lines_are;
      done_within = loose.done_within;
      free_within = grown_within free p (λ q. count_on q cs) lt place loose.free_within;
      finished = loose.finished;
      freed = λ q r i d s below. elim (reached cs free p q r j i c d lt at_j s below) [
        | inl same ↦ subst (λ (x : Command). IsWithin x.before done) same.1 within
        | inr less ↦ loose.freed q r i d s less
      ];
      counts_are = λ q r i d s. elim (cases_eq i j) [
        | inl e ↦
            let one = one_place cs p (get_or free p 0) j q r i c d at_j s e in
            let value : get_or (set counts j n) i 0 ≡ length d.left = at_same counts j i n (omega arith) e ∙ sum_is ∙ (let z : get_or counts j 0 + length c.left ≡ length c.left = omega arith in z) ∙ ap (λ (x : Command). length x.left) (sym one.2) in
            let yes : nat_lt r (get_or free' q 0) ≡ true = lt-ltb r (get_or free' q 0) (omega (arith, one.1, at_same free p q (get_or free p 0 + 1) lt one.0)) in
            rw yes value
        | inr ne ↦
            let same = unreached cs free p q r i j c d lt at_j s ne in
            rw same (get_or-set_other counts j i n 0 ne ∙ loose.counts_are q r i d s)
      ];
    }

-- Numbers of which each is at most what an element gives have at most the sum of what all give.
sums_le : {A : Type 0} (f : A → ℕ) (ns : List ℕ) (xs : List A) → length ns ≡ length xs → ((i : ℕ) (x : A) → slice_get xs i ≡ Some x → get_or ns i 0 ≤ f x) → sum ns ≤ sum_by f xs
sums_le f [] xs e le = omega arith
sums_le f (n ∷ ns) [] e le = absurd (omega arith)
sums_le f (n ∷ ns) (x ∷ xs) e le =
    let later = sums_le f ns xs (omega arith) (λ i y is. le (suc i) y is) in
    let here : n ≤ f x = le 0 x refl in
    omega (arith, later, here, sum_by-cons (λ (k : ℕ). k) n ns, sum_by-cons f x xs)

-- No more pieces of a command are counted than are left.
pub count_le : (cs : List Command) (lines : List (List ℕ)) (done free counts : List ℕ) → IsLoose cs lines done free counts → (i : ℕ) (c : Command) → slice_get cs i ≡ Some c → get_or counts i 0 ≤ length c.left
count_le cs lines done free counts loose i c is =
    let s : HasCommand cs c.queue (count_on c.queue (take i cs)) i c = record { is = is; on = refl; rank = refl } in
    let e = loose.counts_are c.queue (count_on c.queue (take i cs)) i c s in
    by_test (nat_lt (count_on c.queue (take i cs)) (get_or free c.queue 0)) (get_or counts i 0) (length c.left) e
  where
    by_test : (b : Bool) (n m : ℕ) → n ≡ cond b m 0 → n ≤ m
    by_test true n m e = omega arith
    by_test false n m e = omega arith

-- No more pieces are counted than are left.
pub counts_small : (cs : List Command) (lines : List (List ℕ)) (done free counts : List ℕ) → IsLoose cs lines done free counts → sum counts ≤ sum_by (λ (c : Command). length c.left) cs
counts_small cs lines done free counts loose = sums_le (λ (c : Command). length c.left) counts cs loose.counts_len (count_le cs lines done free counts loose)

-- There is room to count the pieces of one more command.
pub counts_fit : (cs : List Command) (lines : List (List ℕ)) (done free counts : List ℕ) (p j : ℕ) (c : Command) → IsLoose cs lines done free counts → p < 4 → HasCommand cs p (get_or free p 0) j c → IsWithin c.before done → sum counts + length c.left < 2 ^ 64
counts_fit cs lines done free counts p j c loose p_lt s within =
    let n = get_or counts j 0 + length c.left in
    let more = counted cs lines done free counts p j n c loose p_lt s within refl in
    let all = loose.counts_len in
    let j_lt : j < length cs = slice_get_within cs j c s.is in
    omega (arith, counts_small cs lines done (set free p (get_or free p 0 + 1)) (set counts j n) more, sum_by-set (λ (k : ℕ). k) counts j n 0 (omega arith), loose.small)
