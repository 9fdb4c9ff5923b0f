-- Commands by their queue and their place on it.
use Rattle.std.proofs.Common.{◌≡◌, ◌<◌, ◌≤◌, ◌+◌, ◌-◌, ℕ, List, [], length, ap, ◌∙◌, sym, inl, inr, arith, get_or, Bool, true, Some, ◌==◌}
use Rattle.std.specs.Prelude.{take, slice_get, count_by}
use Rattle.std.proofs.lemmas.Option.{slice_get_within, get_or_from_slice_get, slice_get-get_or}
use Rattle.std.proofs.lemmas.List.Sums.{count_by_more_yes}
use Rattle.std.proofs.lemmas.Bool.{cases_lt, eq-eqb, eqb-true}
use Rattle.vk_sync.specs.declared.board.Command.{Command}
use Rattle.vk_sync.specs.Inner.Places.{places, one_if}
use Rattle.vk_sync.specs.Inner.Fronts.{HasCommand}
use Rattle.vk_sync.specs.Ready.{count_on}
use Rattle.vk_sync.proofs.PlaceLemmas.{length-places, place_of, has_command}
use Rattle.vk_sync.proofs.PlaceLemmas as places_of
use Rattle.vk_sync.proofs.SumLemmas.{sum_grows}

-- Whether a command is on a queue.
abbrev pub on : ℕ → Command → Bool
on q c = c.queue == q

-- Some command.
no_command : Command
no_command = record { queue = 0; before = []; left = [] }

-- The numbers of the commands of a queue.
abbrev pub numbers : ℕ → List Command → List ℕ
numbers q cs = places (on q) 0 cs

module _ (cs : List Command) (q : ℕ) where
  -- A command's number is in its queue's line, at its place.
  pub number_of : (r j : ℕ) (c : Command) → HasCommand cs q r j c → slice_get (numbers q cs) r ≡ Some j
  number_of r j c s =
      let lt : j < length cs = slice_get_within cs j c s.is in
      let at : get_or cs j c ≡ c = get_or_from_slice_get cs j c c s.is in
      let passes : on q (get_or cs j c) ≡ true = ap (on q) at ∙ eq-eqb c.queue q s.on in
      let e : slice_get (numbers q cs) (count_by (on q) (take j cs)) ≡ Some (0 + j) = place_of (on q) 0 j cs c lt passes in
      let shift : 0 + j ≡ j = omega arith in
      ap (slice_get (numbers q cs)) (sym s.rank) ∙ e ∙ ap Some shift

  -- What is at a place of a queue's line is a command of that queue.
  pub command_at : (r j : ℕ) → slice_get (numbers q cs) r ≡ Some j → (c : Command) × HasCommand cs q r j c
  command_at r j e =
      let s : places_of.HasCommand (on q) 0 cs no_command r j = has_command (on q) 0 cs no_command r j e in
      let low : j - 0 ≡ j = omega arith in
      let high = s.within in
      let lt : j < length cs = omega arith in (
        get_or cs j no_command,
        record {
          is = slice_get-get_or cs j no_command lt;
          on = eqb-true (get_or cs j no_command).queue q (rw low at s.passes);
          rank = rw low at s.rank;
        },
      )

  -- A queue's place is that of one command.
  pub same_command : (r i j : ℕ) (c d : Command) → HasCommand cs q r i c → HasCommand cs q r j d → (i ≡ j) × (c ≡ d)
  same_command r i j c d s t =
      let ei = number_of r i c s in
      let ej = number_of r j d t in
      let e : i ≡ j = cc in
      let is_c = s.is in
      let is_d = t.is in
      let f : c ≡ d = cc in
      (e, f)

  -- A command's place is among those of its queue.
  pub place_within : (r j : ℕ) (c : Command) → HasCommand cs q r j c → r < count_on q cs
  place_within r j c s = omega (arith, slice_get_within (numbers q cs) r j (number_of r j c s), length-places (on q) 0 cs)

  -- Each of a queue's places is that of a command.
  pub command_of : (r : ℕ) → r < count_on q cs → (j : ℕ) × (c : Command) × HasCommand cs q r j c
  command_of r lt =
      let in_line : r < length (numbers q cs) = omega (arith, length-places (on q) 0 cs) in
      let found = command_at r (get_or (numbers q cs) r 0) (slice_get-get_or (numbers q cs) r 0 in_line) in
      (get_or (numbers q cs) r 0, found.0, found.1)

  -- Commands of a queue come in the order of their places.
  pub in_order : (r s i j : ℕ) (c d : Command) → HasCommand cs q r i c → HasCommand cs q s j d → r ≤ s → i ≤ j
  in_order r s i j c d at_i at_j le = elim (cases_lt j i) [
    | inr h ↦ h
    | inl h ↦
        let lt : j < length cs = slice_get_within cs j d at_j.is in
        let same : get_or cs j d ≡ d = get_or_from_slice_get cs j d d at_j.is in
        let passes : on q (get_or cs j d) ≡ true = ap (on q) same ∙ eq-eqb d.queue q at_j.on in
        let more : count_on q (take (j + 1) cs) ≡ count_on q (take j cs) + 1 = count_by_more_yes (on q) cs j d lt passes in
        let grows : count_on q (take (j + 1) cs) ≤ count_on q (take i cs) = sum_grows (λ (x : Command). one_if (on q x)) cs (j + 1) i (omega arith) in
        absurd (omega (arith, more, grows, at_i.rank, at_j.rank))
  ]

-- What a read of a command's number gives is the command.
pub read_command : (cs : List Command) (q r j : ℕ) (c d : Command) → HasCommand cs q r j c → d ≡ get_or cs j d → c ≡ d
read_command cs q r j c d s e = sym (e ∙ get_or_from_slice_get cs j c d s.is)

-- No command comes past the last of its queue.
pub none_past : (cs : List Command) (q r j : ℕ) (c : Command) → count_on q cs ≤ r → HasCommand cs q r j c → ⊥
none_past cs q r j c le s = let lt = place_within cs q r j c s in absurd (omega arith)
